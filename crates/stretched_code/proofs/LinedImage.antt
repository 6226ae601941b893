-- The image of code that stands line by line agrees and endures, and each of its charges works.
use Rattle.std.proofs.Common.{subst, ◌≡◌, ℕ, ◌+◌, ◌<◌, ◌≤◌, List, [], ◌∷◌, ◌++◌, length, flat_map, sym, arith}
use Rattle.std.specs.Prelude.{All}
use Rattle.board_table.specs.declared.board.Board.{Board}
use Rattle.ti_txt.specs.Image.{Block}
use Rattle.plain_meaning.specs.Behaviour.{Behaviour}
use Rattle.msp430_isa.specs.declared.instr.Instr.{Instr}
use Rattle.msp430_isa.specs.Encoding.{words_of}
use Rattle.msp430_machine.specs.Addresses.{gate, code_start, reset_vector}
use Rattle.msp430_machine.specs.State.{State, input_word}
use Rattle.msp430_machine.specs.First.{IsFirst, HoldsBlocks}
use Rattle.power_core.specs.Agreement.{Agrees}
use Rattle.power_core.specs.Enduring.{Endures}
use Rattle.power_core.specs.Runs.{Event, Trail, Generous, RunOf}
use Rattle.power_core.proofs.Points.{Setting}
use Rattle.power_core.proofs.Stands.{words_front}
use Rattle.resumed_runs.specs.Code.{boot}
use Rattle.resumed_runs.specs.Carries.{Carries}
use Rattle.resumed_runs.specs.Counts.{IsCounted}
use Rattle.resumed_runs.specs.Bytes.{bytes_of}
use Rattle.resumed_runs.proofs.Agreeing.{setting, IsCarried, agree, each_charge_works, endure}
use Rattle.resumed_runs.proofs.Carrying.{Points}
use Rattle.resumed_runs.proofs.Paths.{Stand, stand, stand_back}
use Rattle.resumed_runs.proofs.WordBytes.{words_from_bytes}
use Rattle.laid_code.specs.Flows.{Flow}
use Rattle.laid_code.proofs.Following.{Tracking, Follows as FollowsFlow}
use Rattle.laid_code.proofs.LaidRuns.{At}
use Rattle.stretched_code.proofs.Lined.{Position, Lines, IsHead, LinesStand, lined_layout}
use Rattle.stretched_code.proofs.LinedRuns.{Shown, lined_begins, lined_carries, lined_ties}

-- what boot reads, the words of objects that have any, boot and the code behind it, and the vector
abbrev pub code_blocks : List Block → List Instr → List Block
code_blocks data_blocks code =
    record { start = gate; bytes = bytes_of (1 ∷ 0x8024 ∷ code_start ∷ []) }
    ∷ (data_blocks ++ record { start = code_start; bytes = bytes_of (flat_map words_of (boot ++ code)) } ∷ record { start = reset_vector; bytes = bytes_of (code_start ∷ []) } ∷ [])

holds_back : (s : State) (xs ys : List Block) → HoldsBlocks s (xs ++ ys) → HoldsBlocks s ys
holds_back s [] ys h = h
holds_back s (x ∷ xs) ys h = holds_back s xs ys h.1

module _ (I Q : Type 0) (flow : Flow Q) (words : ℕ → ℕ) (live : Q → ℕ → Type 0) (lines : Lines I Q) (b : Board) (whole : ℕ) (data_blocks : List Block) (code : List Instr)
    (program : Behaviour) (nodes : ℕ) (does : State → Behaviour) (Tracks : List ℕ → State → Tracking Q) (Shows : List ℕ → State → ℕ → State → Type 0) where
  abbrev blocks : List Block
  blocks = code_blocks data_blocks code

  abbrev g : List ℕ → (ℕ → ℕ) → Setting
  g input held = setting b (code_blocks data_blocks code) whole input held

  -- what there is to show wherever the code stands
  pub record StandsIn (s : Setting) : Type 0 where
    pub stand : LinesStand I Q flow words live lines s
    -- the head that is resumed first
    pub first : I
    pub there : lines.is_there first
    pub head : IsHead I Q flow words live lines s first
    pub at : lines.address first ≡ 9

  pub record IsLinedImage : Type 0 where
    -- where the flow begins
    pub begin : Q
    pub room : length (flat_map words_of (boot ++ code)) ≤ 0x3FC0
    pub stands : (input : List ℕ) (held : ℕ → ℕ) → All (λ w. w < 65536) input → Stand held 9 code → StandsIn (g input held)
    pub begins_at : (input : List ℕ) (held : ℕ → ℕ) → (at : StandsIn (g input held)) → lines.spot at.first ≡ begin
    pub small : (input : List ℕ) → All (λ w. w < 65536) input → (taken : ℕ) → input_word input taken < 65536
    -- lowering: from each first state the flow is tracked, begins with what FRAM holds, and does what the program does
    pub follows : (input : List ℕ) (s : State) → All (λ w. w < 65536) input → IsFirst s → HoldsBlocks s (code_blocks data_blocks code) → FollowsFlow Q flow (does s) input words (Tracks input s)
    pub begins : (input : List ℕ) (s : State) → All (λ w. w < 65536) input → IsFirst s → HoldsBlocks s (code_blocks data_blocks code) → Tracks input s 0 begin (λ o i. s.fram (lines.fram o + i)) 0 []
    pub carries : (input : List ℕ) (s : State) → All (λ w. w < 65536) input → IsFirst s → HoldsBlocks s (code_blocks data_blocks code) → Carries program (does s) nodes input
    -- and states show where it is
    pub shows : (input : List ℕ) (s : State) → IsFirst s → HoldsBlocks s (code_blocks data_blocks code) → (operations : ℕ) (u : State) → (low : (taken : ℕ) → input_word input taken < 65536) → (stand : LinesStand I Q flow words live lines (g input s.code))
        → Shown I Q flow words live lines (g input s.code) low stand (does s) (Tracks input s) operations u → Shows input s operations u

  module _ (is : IsLinedImage) where
    abbrev points : List ℕ → State → Points
    points input s = At (Position I) Q flow words (lined_layout I Q flow words live lines) (g input s.code) (does s) (Tracks input s)

    is_carried : (input : List ℕ) (s : State) → All (λ w. w < 65536) input → IsFirst s → HoldsBlocks s (code_blocks data_blocks code) → IsCarried (g input s.code) (does s) (points input s) (Shows input s) s
    is_carried input s small first holds =
        let back = holds_back s data_blocks (record { start = code_start; bytes = bytes_of (flat_map words_of (boot ++ code)) } ∷ record { start = reset_vector; bytes = bytes_of (code_start ∷ []) } ∷ []) holds.1 in
        let text = words_from_bytes s 0 (flat_map words_of (boot ++ code)) back.0 in
        let all = stand s.code 0 (boot ++ code) (let r = is.room in omega (arith, r)) text in
        let each : Stand s.code 9 code = stand_back s.code 0 boot code all in
        let at = is.stands input s.code small each in
        let low = is.small input small in
        let follow = is.follows input s small first holds in
        let ties = lined_ties I Q flow words live lines (g input s.code) low at.stand (does s) (Tracks input s) in
        record {
          tied = record {
            works = λ need wakes operations put u point. is.shows input s first holds operations u low at.stand (ties.works need wakes operations put u point);
            waits = λ left k sp taken operations f put u v opened resume resumed point off same.
                is.shows input s first holds operations v low at.stand (ties.waits left k sp taken operations f put u v opened resume resumed point off same);
          };
          carried = lined_carries I Q flow words live lines (g input s.code) low at.stand (does s) (Tracks input s) follow;
          has_boot = record {
            text = words_front s.code 0 (flat_map words_of boot) (flat_map words_of code) text;
            reset = omega (arith, back.1.0.0, back.1.0.1.0);
          };
          begun = lined_begins I Q flow words live lines (g input s.code) low at.stand (does s) (Tracks input s) follow at.first at.there at.head at.at s
              (omega (arith, holds.0.0, holds.0.1.0)) (omega (arith, holds.0.1.1.0, holds.0.1.1.1.0)) (omega (arith, holds.0.1.1.1.1.0, holds.0.1.1.1.1.1.0))
              (subst (λ q. Tracks input s 0 q (λ o i. s.fram (lines.fram o + i)) 0 []) (sym (is.begins_at input s.code at)) (is.begins input s small first holds));
        }

    pub lined_agrees : whole ≤ b.budget → Agrees program nodes (code_blocks data_blocks code) b
    lined_agrees enough = agree b (code_blocks data_blocks code) whole program nodes does is.carries points Shows is_carried enough

    -- each charge that another refill follows does at least one operation, and states show it
    pub lined_works : whole ≤ b.budget → (input : List ℕ) (events : List Event) (t : Trail) → All (λ w. w < 65536) input → Generous b.budget events
        → (run : RunOf (code_blocks data_blocks code) b input events t) → IsCounted b input (does run.0) (Shows input run.0) run.0 events t
    lined_works enough input events t words generous run = each_charge_works b (code_blocks data_blocks code) whole program nodes does is.carries points Shows is_carried enough input events t words generous run

    pub lined_endures : Endures program nodes (code_blocks data_blocks code) b
    lined_endures = endure b (code_blocks data_blocks code) whole program nodes does is.carries points Shows is_carried
