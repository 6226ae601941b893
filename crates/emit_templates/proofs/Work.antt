-- Instructions that work on R11 to R15 alone: they are always allowed, put nothing, cost the same everywhere, and change nothing else but flags.
use Rattle.std.proofs.Common.{◌≡◌, ℕ, ◌≤◌, Bool, true, false, List, None, refl, sym, ap, ◌∙◌, subst, arith}
use Rattle.std.specs.Prelude.{◌==◌, nat_lt, if◌then◌else◌, ◌&&◌}
use Rattle.std.proofs.lemmas.Bool.{and_parts}
use Rattle.std.proofs.lemmas.Bool.Decides.{nat_tests}
use Rattle.board_table.specs.declared.board.Board.{Board}
use Rattle.msp430_isa.specs.declared.instr.Src.{Src}
use Rattle.msp430_isa.specs.declared.instr.Src.TheVariants.{Reg as FromReg, Index as FromIndex, Abs as FromAbs, At, AtPlus, Imm, Short}
use Rattle.msp430_isa.specs.declared.instr.TwoOp.{TwoOp}
use Rattle.msp430_isa.specs.declared.instr.TwoOp.TheVariants.{Mov as MOV, Add as ADD, Addc as ADDC, Subc as SUBC, Sub as SUB, Cmp as CMP, Bit as BIT, Bic as BIC, Bis as BIS, Xor as XOR, And as AND}
use Rattle.msp430_isa.specs.declared.instr.OneOp.TheVariants.{Rra as RRA, Sxt as SXT}
use Rattle.msp430_isa.specs.declared.instr.Instr.{Instr}
use Rattle.msp430_isa.specs.declared.instr.Instr.TheVariants.{One}
use Rattle.msp430_isa.specs.Profile.{in_profile}
use Rattle.msp430_isa.specs.Results.{Flags, two_result, two_flags, writes_destination, one_result, one_flags}
use Rattle.msp430_machine.specs.State.{State, set_at, register, with_status, with_register}
use Rattle.msp430_machine.specs.Operands.{InRegister, source}
use Rattle.msp430_machine.specs.Access.{access_fault, destination_fault}
use Rattle.msp430_machine.specs.Cost.{cost, instruction_cost}
use Rattle.msp430_machine.specs.Execution.{done, put_by, put_by_two, two_values, source_value, destination_value}
use Rattle.op_cost.specs.Templates.{by}

-- a register that templates work with
abbrev pub is_work : ℕ → Bool
is_work r = nat_lt 10 r && nat_lt r 16

-- by a source and a register, or a shift or an extension of a register
pub data Work : Type 0 where
  By : TwoOp → Src → ℕ → Work
  Shift : ℕ → Work
  Extend : ℕ → Work

abbrev pub instr_of : Work → Instr
instr_of (By op src r) = by op src r
instr_of (Shift r) = One RRA false (FromReg r)
instr_of (Extend r) = One SXT false (FromReg r)

abbrev pub is_near : Src → Bool
is_near (FromReg x) = is_work x
is_near (Imm v) = true
is_near (Short v) = true
is_near (FromIndex r x) = false
is_near (FromAbs a) = false
is_near (At r) = false
is_near (AtPlus r) = false

abbrev pub reg_of : Work → ℕ
reg_of (By op src r) = r
reg_of (Shift r) = r
reg_of (Extend r) = r

abbrev pub reads_near : Work → Bool
reads_near (By op src r) = is_near src
reads_near (Shift r) = true
reads_near (Extend r) = true

abbrev pub fits : Work → Bool
fits w = in_profile (instr_of w) && is_work (reg_of w) && reads_near w

-- ---- What holds of all of them

-- only registers and flags differ, and of registers none but R11 to R15
pub record SameBut (s s' : State) : Type 0 where
  pub phase : s'.phase ≡ s.phase
  pub has_code : s'.code ≡ s.code
  pub has_sram : s'.sram ≡ s.sram
  pub has_fram : s'.fram ≡ s.fram
  pub has_taken : s'.taken ≡ s.taken
  pub kept : (r : ℕ) → r ≤ 10 → s'.reg r ≡ s.reg r

work_range : (r : ℕ) → is_work r ≡ true → (11 ≤ r) × (r ≤ 15)
work_range r h = grind (arith, nat_tests)

differs : (x r : ℕ) → x ≤ 10 → 11 ≤ r → (x == r) ≡ false
differs x r low high = grind (arith, nat_tests)

not_this : (r c : ℕ) → 11 ≤ r → c ≤ 10 → (r == c) ≡ false
not_this r c high low = grind (arith, nat_tests)

-- the choices of a write to a register
abbrev by_choice : State → ℕ → ℕ → Bool → Bool → State → State
by_choice x r v two three status = if two then status else if three then x else record x { reg = set_at x.reg r v }

pub written_work : (x : State) (r v : ℕ) → is_work r ≡ true → with_register x r v ≡ record x { reg = set_at x.reg r v }
written_work x r v h =
    let range = work_range r h in
    ap (λ c. by_choice x r v c (r == 3) (with_status x v)) (not_this r 2 range.0 (omega arith))
    ∙ ap (λ c. by_choice x r v false c (with_status x v)) (not_this r 3 range.0 (omega arith))

none_at : (op : TwoOp) (r : ℕ) → destination_fault op false (InRegister r) ≡ None
none_at MOV r = refl
none_at ADD r = refl
none_at ADDC r = refl
none_at SUBC r = refl
none_at SUB r = refl
none_at CMP r = refl
none_at BIT r = refl
none_at BIC r = refl
none_at BIS r = refl
none_at XOR r = refl
none_at AND r = refl

puts_none : (op : TwoOp) (v r : ℕ) → put_by_two op v (InRegister r) ≡ None
puts_none MOV v r = refl
puts_none ADD v r = refl
puts_none ADDC v r = refl
puts_none SUBC v r = refl
puts_none SUB v r = refl
puts_none CMP v r = refl
puts_none BIT v r = refl
puts_none BIC v r = refl
puts_none BIS v r = refl
puts_none XOR v r = refl
puts_none AND v r = refl

pub work_allowed : (w : Work) (s : State) → reads_near w ≡ true → access_fault s (instr_of w) ≡ None
work_allowed (Shift r) s h = refl
work_allowed (Extend r) s h = refl
work_allowed (By op (FromReg x) r) s h = none_at op r
work_allowed (By op (Imm v) r) s h = none_at op r
work_allowed (By op (Short v) r) s h = none_at op r
work_allowed (By op (FromIndex x y) r) s h = let no : false ≡ true = h in cc
work_allowed (By op (FromAbs a) r) s h = let no : false ≡ true = h in cc
work_allowed (By op (At x) r) s h = let no : false ≡ true = h in cc
work_allowed (By op (AtPlus x) r) s h = let no : false ≡ true = h in cc

pub work_puts : (input : List ℕ) (w : Work) (s : State) → put_by input (instr_of w) s ≡ None
work_puts input (Shift r) s = refl
work_puts input (Extend r) s = refl
work_puts input (By op src r) s = puts_none op (source_value input false s (source s src)) r

pub work_costs : (b : Board) (w : Work) (s : State) → reads_near w ≡ true → cost b s (instr_of w) ≡ instruction_cost b (instr_of w)
work_costs b (Shift r) s h = refl
work_costs b (Extend r) s h = refl
work_costs b (By op (FromReg x) r) s h = refl
work_costs b (By op (Imm v) r) s h = refl
work_costs b (By op (Short v) r) s h = refl
work_costs b (By op (FromIndex x y) r) s h = let no : false ≡ true = h in cc
work_costs b (By op (FromAbs a) r) s h = let no : false ≡ true = h in cc
work_costs b (By op (At x) r) s h = let no : false ≡ true = h in cc
work_costs b (By op (AtPlus x) r) s h = let no : false ≡ true = h in cc

-- ---- What they change

same_flags : (s : State) (f : Flags) → SameBut s (record s { flags = f })
same_flags s f = record { phase = refl; has_code = refl; has_sram = refl; has_fram = refl; has_taken = refl; kept = λ r low. refl }

same_written : (s : State) (f : Flags) (r v : ℕ) → is_work r ≡ true → SameBut s (with_register (record s { flags = f }) r v)
same_written s f r v h =
    let range = work_range r h in
    subst (λ x. SameBut s x) (sym (written_work (record s { flags = f }) r v h)) (record {
      phase = refl;
      has_code = refl;
      has_sram = refl;
      has_fram = refl;
      has_taken = refl;
      kept = λ x low. ap (λ c. if c then v else s.reg x) (differs x r low range.0);
    })

same_two : (op : TwoOp) (v r : ℕ) (s : State) → is_work r ≡ true → SameBut s (two_values op false v (InRegister r) s (destination_value false s (InRegister r)))
same_two op v r s h =
    let d : ℕ = destination_value false s (InRegister r) in
    elim (writes_destination op) as (λ c. SameBut s (if c then with_register (record s { flags = two_flags op false s.flags v d }) r (two_result op false s.flags.carry v d) else record s { flags = two_flags op false s.flags v d })) [
      | true ↦ same_written s (two_flags op false s.flags v d) r (two_result op false s.flags.carry v d) h
      | false ↦ same_flags s (two_flags op false s.flags v d)
    ]

pub work_same : (input : List ℕ) (w : Work) (s : State) → is_work (reg_of w) ≡ true → reads_near w ≡ true → SameBut s (done input (instr_of w) s)
work_same input (Shift r) s h near = same_written s (one_flags RRA false s.flags (register s r)) r (one_result RRA false s.flags.carry (register s r)) h
work_same input (Extend r) s h near = same_written s (one_flags SXT false s.flags (register s r)) r (one_result SXT false s.flags.carry (register s r)) h
work_same input (By op (FromReg x) r) s h near = same_two op (register s x) r s h
work_same input (By op (Imm v) r) s h near = same_two op v r s h
work_same input (By op (Short v) r) s h near = same_two op v r s h
work_same input (By op (FromIndex x y) r) s h near = let no : false ≡ true = near in cc
work_same input (By op (FromAbs a) r) s h near = let no : false ≡ true = near in cc
work_same input (By op (At x) r) s h near = let no : false ≡ true = near in cc
work_same input (By op (AtPlus x) r) s h near = let no : false ≡ true = near in cc

-- ---- The tests of `fits`, one by one

pub fits_profile : (w : Work) → fits w ≡ true → in_profile (instr_of w) ≡ true
fits_profile w h = (and_parts (in_profile (instr_of w)) (is_work (reg_of w)) (and_parts (in_profile (instr_of w) && is_work (reg_of w)) (reads_near w) h).0).0

pub fits_work : (w : Work) → fits w ≡ true → is_work (reg_of w) ≡ true
fits_work w h = (and_parts (in_profile (instr_of w)) (is_work (reg_of w)) (and_parts (in_profile (instr_of w) && is_work (reg_of w)) (reads_near w) h).0).1

pub fits_near : (w : Work) → fits w ≡ true → reads_near w ≡ true
fits_near w h = (and_parts (in_profile (instr_of w) && is_work (reg_of w)) (reads_near w) h).1
