-- Points inside code that stands at an address.
use Rattle.std.specs.Prelude.{ℕ, ◌+◌, ◌≤◌, List, [], ◌∷◌, length}
use Rattle.certificate.specs.declared.cert.Fact.{Fact}
use Rattle.certificate.specs.Rows.{Point}
use Rattle.op_cost.specs.Templates.{code_of}
use Rattle.cert_templates.specs.Frames.{Inner, Loop, bytes_of_code, inner_point, loop_at, plain_at}
use Rattle.emit_certs.specs.Timed.{code_in}
use Rattle.emit_certs.specs.declared.frame.Frame.{Frame}
use Rattle.emit_certs.specs.declared.frame.Turning.{Turning}

abbrev pub loop_of : Turning → Loop
loop_of t = record { first = t.first; instructions = t.instructions; turns = t.turns; counter = t.counter }

abbrev pub point_in : Frame → Inner → Point
point_in f q = inner_point f.stretch f.spent f.at (code_of (code_in f.code.now)) q

-- the code is short and ends below 0xFFFF, and not much is spent before it
pub record IsFramed (f : Frame) : Type 0 where
  pub few : length f.code.now ≤ 96
  pub room : f.at + bytes_of_code (code_of (code_in f.code.now)) ≤ 65535
  pub low : f.spent ≤ 1000000000000000

-- the points of a division from this instruction on, with what is known in its turns and behind them
abbrev pub division_by : Frame → ℕ → List Fact → List Fact → List Inner
division_by f n turn end =
    let loop : Loop = record { first = n; instructions = 9; turns = 16; counter = 12 } in
    let code = code_in f.code.now in
    loop_at f.board.now code loop n turn ∷ loop_at f.board.now code loop (n + 5) turn ∷ loop_at f.board.now code loop (n + 7) turn ∷ plain_at f.board.now code (n + 9) end ∷ []
