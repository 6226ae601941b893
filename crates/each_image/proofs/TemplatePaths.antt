-- What a template does, as a path of code that is laid out.
use Rattle.std.proofs.Common.{◌≡◌, ℕ, ◌+◌, List, [], ◌∷◌, ◌++◌, refl, ap, ◌∙◌}
use Rattle.board_table.specs.declared.board.Board.{Board}
use Rattle.msp430_isa.specs.declared.instr.Instr.{Instr}
use Rattle.msp430_isa.specs.Encoding.{words_of, length_of}
use Rattle.msp430_machine.specs.State.{State}
use Rattle.msp430_machine.specs.Cost.{cost}
use Rattle.power_core.proofs.Stands.{WordsAt}
use Rattle.resumed_runs.specs.Code.{size_of}
use Rattle.resumed_runs.proofs.Paths.{Stand, Working, Path, Arrived, Through}
use Rattle.emit_templates.specs.Layer as layer
use Rattle.emit_templates.specs.Layer.{Now, WordsStand, words_of_code, after}

words_stand : (f : ℕ → ℕ) (k : ℕ) (ws : List ℕ) → WordsAt f k ws → WordsStand f k ws
words_stand f k [] h = tt
words_stand f k (w ∷ ws) h = (h.0, words_stand f (k + 1) ws h.1)

pub code_stands : (code : ℕ → ℕ) (k : ℕ) (is : List Instr) → Stand code k is → layer.Stand code k (is ++ [])
code_stands code k [] h = tt
code_stands code k (i ∷ is) h = (words_stand code k (words_of i) h.0, h.1, code_stands code (k + length_of i) is h.2)

pub words_size : (is : List Instr) → words_of_code is ≡ size_of is
words_size [] = refl
words_size (i ∷ is) = ap (λ n. length_of i + n) (words_size is)

pub now_works : (mem : State) (taken k : ℕ) (s : State) → mem.fram 0xC00 ≡ 0 → Now mem taken k s → Working mem.code s
now_works mem taken k s closed now = record { awake = now.awake; closed = ap (λ f. f 0xC00) now.has_fram ∙ closed; has_code = now.has_code }

pub path_of : (b : Board) (input : List ℕ) (mem u : State) (c : ℕ) (s : State) → mem.fram 0xC00 ≡ 0 → layer.Path b input mem u c s → Path b input mem.code u c s
path_of b input mem u c s closed p =
    elim p as (λ n t q. Path b input mem.code u n t) [
      | layer.Arrived ↦ Arrived
      | layer.Through taken k n i t now does put (q → rest) ↦
          Through i (cost b t i) n t (after b input i t) (now_works mem taken k t closed now) (record { does = does; costs = refl; put = put; leaves = refl }) rest
    ]
