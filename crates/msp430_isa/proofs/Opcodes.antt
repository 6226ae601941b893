-- Operations, conditions, offsets and widths, there and back.
use Rattle.std.proofs.Common.{◌≡◌, ℕ, ◌-◌, ◌<◌, ◌≤◌, true, false, Some, None, refl, sym, ap, ◌∙◌, arith, ℤ, pos, negsuc}
use Rattle.std.specs.Prelude.{◌==◌, nat_lt, if◌then◌else◌, Bool}
use Rattle.std.proofs.lemmas.Bool.{eqb-true, eqb-false, ltb-true, ltb-false, lt-ltb, le-ltb, cond_both}
use Rattle.msp430_isa.specs.declared.instr.TwoOp.{TwoOp}
use Rattle.msp430_isa.specs.declared.instr.TwoOp.TheVariants.{Mov as MOV, Add as ADD, Addc as ADDC, Subc as SUBC, Sub as SUB, Cmp as CMP, Bit as BIT, Bic as BIC, Bis as BIS, Xor as XOR, And as AND}
use Rattle.msp430_isa.specs.declared.instr.OneOp.{OneOp}
use Rattle.msp430_isa.specs.declared.instr.OneOp.TheVariants.{Rrc as RRC, Swpb as SWPB, Rra as RRA, Sxt as SXT, Push as PUSH, Call as CALL}
use Rattle.msp430_isa.specs.declared.instr.Cond.{Cond}
use Rattle.msp430_isa.specs.declared.instr.Cond.TheVariants.{Jne as JNE, Jeq as JEQ, Jnc as JNC, Jc as JC, Jn as JN, Jge as JGE, Jl as JL, Jmp as JMP}
use Rattle.msp430_isa.specs.Fields.{two_opcode, one_opcode, condition, offset_bits, width_bit}
use Rattle.msp430_isa.specs.Profile.{offset_fits}
use Rattle.msp430_isa.specs.Decoding.{two_op_at, one_op_at, cond_at, offset_at}
use Rattle.msp430_isa.proofs.Passed.{cond_some}

pub two_op_back : (op : TwoOp) → two_op_at (two_opcode op) ≡ Some op
two_op_back MOV = refl
two_op_back ADD = refl
two_op_back ADDC = refl
two_op_back SUBC = refl
two_op_back SUB = refl
two_op_back CMP = refl
two_op_back BIT = refl
two_op_back BIC = refl
two_op_back BIS = refl
two_op_back XOR = refl
two_op_back AND = refl

pub two_opcode_bounds : (op : TwoOp) → (4 ≤ two_opcode op) × (two_opcode op < 16)
two_opcode_bounds MOV = (omega arith, omega arith)
two_opcode_bounds ADD = (omega arith, omega arith)
two_opcode_bounds ADDC = (omega arith, omega arith)
two_opcode_bounds SUBC = (omega arith, omega arith)
two_opcode_bounds SUB = (omega arith, omega arith)
two_opcode_bounds CMP = (omega arith, omega arith)
two_opcode_bounds BIT = (omega arith, omega arith)
two_opcode_bounds BIC = (omega arith, omega arith)
two_opcode_bounds BIS = (omega arith, omega arith)
two_opcode_bounds XOR = (omega arith, omega arith)
two_opcode_bounds AND = (omega arith, omega arith)

pub one_op_back : (op : OneOp) → one_op_at (one_opcode op) ≡ Some op
one_op_back RRC = refl
one_op_back SWPB = refl
one_op_back RRA = refl
one_op_back SXT = refl
one_op_back PUSH = refl
one_op_back CALL = refl

pub one_opcode_low : (op : OneOp) → one_opcode op < 8
one_opcode_low RRC = omega arith
one_opcode_low SWPB = omega arith
one_opcode_low RRA = omega arith
one_opcode_low SXT = omega arith
one_opcode_low PUSH = omega arith
one_opcode_low CALL = omega arith

pub cond_back : (on : Cond) → cond_at (condition on) ≡ on
cond_back JNE = refl
cond_back JEQ = refl
cond_back JNC = refl
cond_back JC = refl
cond_back JN = refl
cond_back JGE = refl
cond_back JL = refl
cond_back JMP = refl

pub condition_low : (on : Cond) → condition on < 8
condition_low JNE = omega arith
condition_low JEQ = omega arith
condition_low JNC = omega arith
condition_low JC = omega arith
condition_low JN = omega arith
condition_low JGE = omega arith
condition_low JL = omega arith
condition_low JMP = omega arith

pub width_back : (byte : Bool) → (width_bit byte == 1) ≡ byte
width_back true = refl
width_back false = refl

pub width_low : (byte : Bool) → width_bit byte < 2
width_low true = omega arith
width_low false = omega arith

pub offset_back : (z : ℤ) → offset_fits z ≡ true → offset_at (offset_bits z) ≡ z
offset_back (pos n) h = ap (λ c. if c then pos n else negsuc (1023 - n)) h
offset_back (negsuc n) h =
    let low : n < 512 = ltb-true n 512 h in
    let high : nat_lt (1023 - n) 512 ≡ false = le-ltb (1023 - n) 512 (omega arith) in
    let same : 1023 - (1023 - n) ≡ n = omega arith in
    ap (λ c. if c then pos (1023 - n) else negsuc (1023 - (1023 - n))) high ∙ ap (λ m. negsuc m) same

pub offset_bits_low : (z : ℤ) → offset_fits z ≡ true → offset_bits z < 1024
offset_bits_low (pos n) h = (let low : n < 512 = ltb-true n 512 h in omega arith)
offset_bits_low (negsuc n) h = omega arith

-- ---- From a field to what it stands for and back

pub two_op_kept : (n : ℕ) (op : TwoOp) → two_op_at n ≡ Some op → two_opcode op ≡ n
two_op_kept n op =
    let P = λ (o : TwoOp). two_opcode o ≡ n in
    let at = λ (k : ℕ) (e : (n == k) ≡ true). sym (eqb-true n k e) in
    cond_some (n == 4) MOV _ op P (at 4) (cond_some (n == 5) ADD _ op P (at 5) (cond_some (n == 6) ADDC _ op P (at 6)
    (cond_some (n == 7) SUBC _ op P (at 7) (cond_some (n == 8) SUB _ op P (at 8) (cond_some (n == 9) CMP _ op P (at 9)
    (cond_some (n == 11) BIT _ op P (at 11) (cond_some (n == 12) BIC _ op P (at 12) (cond_some (n == 13) BIS _ op P (at 13)
    (cond_some (n == 14) XOR _ op P (at 14) (cond_some (n == 15) AND None op P (at 15) (λ e. cc)))))))))))

pub one_op_kept : (n : ℕ) (op : OneOp) → one_op_at n ≡ Some op → one_opcode op ≡ n
one_op_kept n op =
    let P = λ (o : OneOp). one_opcode o ≡ n in
    let at = λ (k : ℕ) (e : (n == k) ≡ true). sym (eqb-true n k e) in
    cond_some (n == 0) RRC _ op P (at 0) (cond_some (n == 1) SWPB _ op P (at 1) (cond_some (n == 2) RRA _ op P (at 2)
    (cond_some (n == 3) SXT _ op P (at 3) (cond_some (n == 4) PUSH _ op P (at 4) (cond_some (n == 5) CALL None op P (at 5) (λ e. cc))))))

pub cond_kept : (n : ℕ) → n < 8 → condition (cond_at n) ≡ n
cond_kept n h =
    let P = λ (o : Cond). condition o ≡ n in
    let at = λ (k : ℕ) (e : (n == k) ≡ true). sym (eqb-true n k e) in
    cond_both (n == 0) JNE _ P (at 0) (λ n0. cond_both (n == 1) JEQ _ P (at 1) (λ n1. cond_both (n == 2) JNC _ P (at 2)
    (λ n2. cond_both (n == 3) JC _ P (at 3) (λ n3. cond_both (n == 4) JN _ P (at 4) (λ n4. cond_both (n == 5) JGE _ P (at 5)
    (λ n5. cond_both (n == 6) JL JMP P (at 6) (λ n6.
    omega (arith, h, eqb-false n 0 n0, eqb-false n 1 n1, eqb-false n 2 n2, eqb-false n 3 n3, eqb-false n 4 n4, eqb-false n 5 n5, eqb-false n 6 n6))))))))

pub offset_kept : (n : ℕ) → n < 1024 → (offset_bits (offset_at n) ≡ n) × (offset_fits (offset_at n) ≡ true)
offset_kept n h =
    let P = λ (z : ℤ). (offset_bits z ≡ n) × (offset_fits z ≡ true) in
    cond_both (nat_lt n 512) (pos n) (negsuc (1023 - n)) P
    (λ e. (refl, e))
    (λ e. let high : 512 ≤ n = ltb-false n 512 e in (omega arith, lt-ltb (1023 - n) 512 (omega arith)))

pub width_kept : (b : ℕ) → b < 2 → width_bit (b == 1) ≡ b
width_kept b h =
    let P = λ (c : Bool). width_bit c ≡ b in
    elim (b == 1) as (λ c. (b == 1) ≡ c → width_bit c ≡ b) [ true ↦ λ e. sym (eqb-true b 1 e) | false ↦ λ e. omega (arith, h, eqb-false b 1 e) ] refl
