-- What instructions lead to, said of states alone; and a word that is carried from one home to another.
use Rattle.std.proofs.Common.{◌≡◌, ℕ, ◌+◌, ◌*◌, ◌%◌, ◌≤◌, List, [], ◌∷◌, Option, None, refl, ap, ◌∙◌, arith}
use Rattle.board_table.specs.declared.board.Board.{Board}
use Rattle.msp430_isa.specs.declared.instr.Src.TheVariants.{Imm}
use Rattle.msp430_isa.specs.declared.instr.Dst.TheVariants.{Reg as ToReg}
use Rattle.msp430_isa.specs.declared.instr.Instr.{Instr}
use Rattle.msp430_machine.specs.State.{Awake, State, set_at}
use Rattle.msp430_machine.specs.Cost.{instruction_cost}
use Rattle.msp430_machine.specs.Steps.{begun}
use Rattle.resumed_runs.specs.Code.{move}
use Rattle.resumed_runs.proofs.Paths.{Stand, Working, Takes, Path, Arrived, takes_at}
use Rattle.laid_code.proofs.Homes.{Home, InSram, InFram, word_of, Changes}
use Rattle.laid_code.proofs.Words.{IsRoom, stored, stored_same, stored_changes, carries, carry_does, carry_puts, carry_allowed, carry_fits}

-- Instructions that lead from a state to one of which this holds. The last may put a word; the cost is this at most.
pub record Leading (b : Board) (input : List ℕ) (code : ℕ → ℕ) (s : State) (puts : Option ℕ) (weight : ℕ) (After : State → Type 0) : Type 0 where
  pub mid : State
  pub after : State
  pub first : ℕ
  pub last : ℕ
  pub instruction : Instr
  pub path : Path b input code mid first s
  pub working : Working code mid
  pub takes : Takes b input instruction last mid puts after
  pub cost : first + last ≤ weight
  pub holds : After after

-- at the word k, with the word i of the home written and all else as before
pub record Wrote (code : ℕ → ℕ) (s0 : State) (k taken : ℕ) (h : Home) (i v : ℕ) (u : State) : Type 0 where
  pub awake : u.phase ≡ Awake
  pub pc : u.reg 0 ≡ 0x8000 + 2 * k
  pub has_code : u.code ≡ code
  pub same_sp : u.reg 1 ≡ s0.reg 1
  pub same_count : u.reg 10 ≡ s0.reg 10
  pub has_taken : u.taken ≡ taken
  pub changes : Changes h i v s0 u

-- PC behind an instruction
pub behind : (k n : ℕ) (s : State) → s.reg 0 ≡ 0x8000 + 2 * k → k + n ≤ 0x3FC0 → (s.reg 0 + 2 * n) % 65536 ≡ 0x8000 + 2 * (k + n)
behind k n s pc room = omega (arith, pc, room)

-- the state behind an instruction that writes this register
abbrev pub set_register : Board → Instr → ℕ → ℕ → State → State
set_register b i r v s = let x = begun (instruction_cost b i) i s in record x { reg = set_at x.reg r v }

-- a jump to an address of the code
abbrev pub goes_to : ℕ → Instr
goes_to a = move (Imm a) (ToReg 0)

-- ---- From home to home

changes_begun : (h : Home) (v c : ℕ) (i : Instr) (s u : State) → Changes h 0 v (begun c i s) u → Changes h 0 v s u
changes_begun (InSram w) v c i s u d = d
changes_begun (InFram w) v c i s u d = d

begun_word : (c : ℕ) (i : Instr) (h : Home) (s : State) → word_of (begun c i s) h 0 ≡ word_of s h 0
begun_word c i (InSram w) s = refl
begun_word c i (InFram w) s = refl

module _ (b : Board) (input : List ℕ) (code : ℕ → ℕ) where
  pub carry_leads : (k : ℕ) (from to : Home) (s : State) → IsRoom from 1 → IsRoom to 1 → Stand code k (carries from to 0 ∷ []) → Working code s → s.reg 0 ≡ 0x8000 + 2 * k
      → Leading b input code s None (instruction_cost b (carries from to 0) + 0) (λ u. Wrote code s (k + 3) s.taken to 0 (word_of s from 0) u)
  carry_leads k from to s room_from room_to stands w pc =
      let i : Instr = carries from to 0 in
      let x : State = begun (instruction_cost b i) i s in
      let u : State = stored to 0 (word_of s from 0) x in
      let same = stored_same to 0 (word_of s from 0) x in
      record {
        mid = s;
        after = u;
        first = 0;
        last = instruction_cost b i;
        instruction = i;
        path = Arrived;
        working = w;
        takes = takes_at b input code k i [] (instruction_cost b i) s None u stands w.has_code pc (carry_fits from to 1 0 room_from room_to (omega arith)) (carry_allowed from to 1 0 room_from room_to (omega arith) s) refl
            (carry_puts from to 1 0 room_from room_to (omega arith) input x) (carry_does from to 1 0 room_from room_to (omega arith) input x ∙ ap (λ v. stored to 0 v x) (begun_word (instruction_cost b i) i from s));
        cost = omega arith;
        holds = record {
          awake = same.phase ∙ w.awake;
          pc = ap (λ r. r 0) same.reg ∙ behind k 3 s pc stands.1;
          has_code = same.code ∙ w.has_code;
          same_sp = ap (λ r. r 1) same.reg;
          same_count = ap (λ r. r 10) same.reg;
          has_taken = same.taken;
          changes = changes_begun to (word_of s from 0) (instruction_cost b i) i s u (stored_changes to 0 (word_of s from 0) x);
        };
      }
