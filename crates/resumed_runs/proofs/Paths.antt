-- Paths of a machine that is awake with its gate closed: instructions one behind another, of states alone. A path knows no run, no
-- charge that is left and no program: what a template does is said by it.
use Rattle.std.proofs.Common.{◌≡◌, ℕ, ◌+◌, ◌*◌, ◌≤◌, true, List, [], ◌∷◌, ◌++◌, length, flat_map, Option, None, subst, arith, length-append}
use Rattle.board_table.specs.declared.board.Board.{Board}
use Rattle.msp430_isa.specs.declared.instr.Instr.{Instr}
use Rattle.msp430_isa.specs.Encoding.{length_of, words_of}
use Rattle.msp430_isa.specs.Profile.{in_profile}
use Rattle.msp430_machine.specs.State.{Awake, State}
use Rattle.msp430_machine.specs.Access.{access_fault}
use Rattle.msp430_machine.specs.Cost.{cost}
use Rattle.msp430_machine.specs.Execution.{done, put_by}
use Rattle.msp430_machine.specs.Steps.{Does, next, begun}
use Rattle.resumed_runs.specs.Code.{size_of}
use Rattle.power_core.proofs.Stands.{WordsAt, words_front, words_back, words_length, next_is}

-- ---- Instructions that stand one behind another, below the end of the code

abbrev pub Stand : (ℕ → ℕ) → ℕ → List Instr → Type 0
Stand code k [] = Unit {0}
Stand code k (i ∷ is) = WordsAt code k (words_of i) × (k + length_of i ≤ 0x3FC0) × Stand code (k + length_of i) is

pub words_both : (i : Instr) (is : List Instr) → length (flat_map words_of (i ∷ is)) ≡ length_of i + length (flat_map words_of is)
words_both i is = omega (arith, length-append (words_of i) (flat_map words_of is), words_length i)

pub stand : (code : ℕ → ℕ) (k : ℕ) (is : List Instr) → k + length (flat_map words_of is) ≤ 0x3FC0 → WordsAt code k (flat_map words_of is) → Stand code k is
stand code k [] room words = tt
stand code k (i ∷ is) room words =
    let both = words_both i is in (
      words_front code k (words_of i) (flat_map words_of is) words,
      omega (arith, room, both),
      stand code (k + length_of i) is (omega (arith, room, both))
          (subst (λ m. WordsAt code (k + m) (flat_map words_of is)) (words_length i) (words_back code k (words_of i) (flat_map words_of is) words)),
    )

-- ---- One instruction

-- awake, with the gate closed, and with this code
pub record Working (code : ℕ → ℕ) (s : State) : Type 0 where
  pub awake : s.phase ≡ Awake
  pub closed : s.fram 0xC00 ≡ 0
  pub has_code : s.code ≡ code

-- the instruction is next, costs so much, puts this word or none, and leaves this state
pub record Takes (b : Board) (input : List ℕ) (i : Instr) (c : ℕ) (s : State) (puts : Option ℕ) (u : State) : Type 0 where
  pub does : next s ≡ Does i
  pub costs : cost b s i ≡ c
  pub put : put_by input i (begun c i s) ≡ puts
  pub leaves : done input i (begun c i s) ≡ u

-- an instruction that stands where the machine is
pub takes_at : (b : Board) (input : List ℕ) (code : ℕ → ℕ) (k : ℕ) (i : Instr) (rest : List Instr) (c : ℕ) (s : State) (puts : Option ℕ) (u : State)
    → Stand code k (i ∷ rest) → s.code ≡ code → s.reg 0 ≡ 0x8000 + 2 * k → in_profile i ≡ true → access_fault s i ≡ None
    → cost b s i ≡ c → put_by input i (begun c i s) ≡ puts → done input i (begun c i s) ≡ u → Takes b input i c s puts u
takes_at b input code k i rest c s puts u stands same pc fits allowed costs put leaves = record {
  does = next_is code s k i same pc stands.1 fits stands.0 allowed;
  costs = costs;
  put = put;
  leaves = leaves;
}

-- ---- Several

-- from a state, by instructions that put nothing and cost so much together, to the state u
pub data Path (b : Board) (input : List ℕ) (code : ℕ → ℕ) (u : State) : ℕ → State → Type 0 where
  Arrived : Path b input code u 0 u
  Through : (i : Instr) (c rest : ℕ) (s v : State) → Working code s → Takes b input i c s None v → Path b input code u rest v → Path b input code u (c + rest) s

-- one path behind another
pub path_both : (b : Board) (input : List ℕ) (code : ℕ → ℕ) (u v : State) (c d : ℕ) (s : State) → Path b input code v c s → Path b input code u d v → Path b input code u (c + d) s
path_both b input code u v c d s first second =
    elim first as (λ x y p. Path b input code u (x + d) y) [
      | Arrived ↦ let e : d ≡ 0 + d = omega arith in subst (λ n. Path b input code u n v) e second
      | Through i x rest y z working takes (p → both) ↦
          let e : x + (rest + d) ≡ x + rest + d = omega arith in
          subst (λ n. Path b input code u n y) e (Through i x (rest + d) y z working takes both)
    ]

-- the first ones of them
pub stand_front : (code : ℕ → ℕ) (k : ℕ) (is js : List Instr) → Stand code k (is ++ js) → Stand code k is
stand_front code k [] js h = tt
stand_front code k (i ∷ is) js h = (h.0, h.1, stand_front code (k + length_of i) is js h.2)

-- and the others
pub stand_back : (code : ℕ → ℕ) (k : ℕ) (is js : List Instr) → Stand code k (is ++ js) → Stand code (k + size_of is) js
stand_back code k [] js h = let e : k ≡ k + 0 = omega arith in subst (λ n. Stand code n js) e h
stand_back code k (i ∷ is) js h =
    let e : k + length_of i + size_of is ≡ k + size_of (i ∷ is) = omega arith in
    subst (λ n. Stand code n js) e (stand_back code (k + length_of i) is js h.2)
