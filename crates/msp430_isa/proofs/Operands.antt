-- Operands and their fields, there and back.
use Rattle.std.proofs.Common.{◌≡◌, ℕ, ◌<◌, ◌≤◌, true, refl, sym, ap, ◌∙◌, arith, [], ◌∷◌, length}
use Rattle.std.specs.Prelude.{◌==◌, nat_lt, if◌then◌else◌}
use Rattle.std.proofs.lemmas.Bool.{eqb-true, eqb-false, ltb-true, lt-ltb, cond_both}
use Rattle.msp430_isa.specs.declared.instr.Src.{Src}
use Rattle.msp430_isa.specs.declared.instr.Src.TheVariants.{Reg as FromReg, Index as FromIndex, Abs as FromAbs, At, AtPlus, Imm, Short}
use Rattle.msp430_isa.specs.declared.instr.Dst.{Dst}
use Rattle.msp430_isa.specs.declared.instr.Dst.TheVariants.{Reg as ToReg, Index as ToIndex, Abs as ToAbs}
use Rattle.msp430_isa.specs.Fields.{generator, generator_mode, source_mode, source_register, source_words, destination_mode, destination_register, destination_words}
use Rattle.msp430_isa.specs.Profile.{is_source, is_destination, source_fits, destination_fits}
use Rattle.msp430_isa.specs.Decoding.{source_at, destination_at}
use Rattle.msp430_isa.proofs.Passed.{base_is, plain_is, of_constant}
use Rattle.msp430_isa.proofs.Lists.{Takes}

-- ---- From an operand to its fields and back

only : (a v : ℕ) → a ∷ [] ≡ v ∷ [] → v ≡ a
only a v e = cc

pub source_back : (src : Src) (x : ℕ) → is_source src ≡ true → Takes (source_words src) x → source_at (source_mode src) (source_register src) x ≡ src
source_back (FromReg r) x h t = ap (λ c. if c then Short 0 else FromReg r) (plain_is r h).1
source_back (FromIndex r a) x h t =
    let b = base_is r h in
    ap (λ c. if c then FromAbs x else if r == 3 then Short 1 else FromIndex r x) b.not_sr
    ∙ ap (λ c. if c then Short 1 else FromIndex r x) b.not_r3
    ∙ ap (λ n. FromIndex r n) (only a x t)
source_back (FromAbs a) x h t = ap (λ n. FromAbs n) (only a x t)
source_back (At r) x h t =
    let b = base_is r h in
    ap (λ c. if c then Short 4 else if r == 3 then Short 2 else At r) b.not_sr
    ∙ ap (λ c. if c then Short 2 else At r) b.not_r3
source_back (AtPlus r) x h t =
    let b = base_is r h in
    ap (λ c. if c then Imm x else if r == 2 then Short 8 else if r == 3 then Short 65535 else AtPlus r) b.not_pc
    ∙ ap (λ c. if c then Short 8 else if r == 3 then Short 65535 else AtPlus r) b.not_sr
    ∙ ap (λ c. if c then Short 65535 else AtPlus r) b.not_r3
source_back (Imm a) x h t = ap (λ n. Imm n) (only a x t)
source_back (Short v) x h t =
    let P : ℕ → Type 0 = λ n. source_at (generator_mode n) (generator n) x ≡ Short n in
    of_constant P v h refl refl refl refl refl refl

pub source_register_low : (src : Src) → is_source src ≡ true → source_register src < 16
source_register_low (FromReg r) h = (plain_is r h).0
source_register_low (FromIndex r x) h = (base_is r h).low
source_register_low (FromAbs a) h = omega arith
source_register_low (At r) h = (base_is r h).low
source_register_low (AtPlus r) h = (base_is r h).low
source_register_low (Imm v) h = omega arith
source_register_low (Short v) h = of_constant (λ n. generator n < 16) v h (omega arith) (omega arith) (omega arith) (omega arith) (omega arith) (omega arith)

pub source_mode_low : (src : Src) → is_source src ≡ true → source_mode src < 4
source_mode_low (FromReg r) h = omega arith
source_mode_low (FromIndex r x) h = omega arith
source_mode_low (FromAbs a) h = omega arith
source_mode_low (At r) h = omega arith
source_mode_low (AtPlus r) h = omega arith
source_mode_low (Imm v) h = omega arith
source_mode_low (Short v) h = of_constant (λ n. generator_mode n < 4) v h (omega arith) (omega arith) (omega arith) (omega arith) (omega arith) (omega arith)

pub source_words_few : (src : Src) → length (source_words src) ≤ 1
source_words_few (FromReg r) = omega arith
source_words_few (FromIndex r x) = omega arith
source_words_few (FromAbs a) = omega arith
source_words_few (At r) = omega arith
source_words_few (AtPlus r) = omega arith
source_words_few (Imm v) = omega arith
source_words_few (Short v) = omega arith

pub destination_back : (dst : Dst) (x : ℕ) → is_destination dst ≡ true → Takes (destination_words dst) x → destination_at (destination_mode dst) (destination_register dst) x ≡ dst
destination_back (ToReg r) x h t = refl
destination_back (ToIndex r a) x h t =
    ap (λ c. if c then ToAbs x else ToIndex r x) (base_is r h).not_sr
    ∙ ap (λ n. ToIndex r n) (only a x t)
destination_back (ToAbs a) x h t = ap (λ n. ToAbs n) (only a x t)

low_register : (r : ℕ) → nat_lt r 16 ≡ true → r < 16
low_register r h = ltb-true r 16 h

pub destination_register_low : (dst : Dst) → is_destination dst ≡ true → destination_register dst < 16
destination_register_low (ToReg r) h = low_register r h
destination_register_low (ToIndex r x) h = (base_is r h).low
destination_register_low (ToAbs a) h = omega arith

pub destination_mode_low : (dst : Dst) → destination_mode dst < 2
destination_mode_low (ToReg r) = omega arith
destination_mode_low (ToIndex r x) = omega arith
destination_mode_low (ToAbs a) = omega arith

pub destination_words_few : (dst : Dst) → length (destination_words dst) ≤ 1
destination_words_few (ToReg r) = omega arith
destination_words_few (ToIndex r x) = omega arith
destination_words_few (ToAbs a) = omega arith

-- ---- From fields to an operand and back

pub record SourceFields (m r x : ℕ) (src : Src) : Type 0 where
  pub register : source_register src ≡ r
  pub mode : source_mode src ≡ m
  pub takes : Takes (source_words src) x
  pub fits : source_fits src ≡ true

pub source_kept : (m r x : ℕ) → m < 4 → x < 65536 → SourceFields m r x (source_at m r x)
source_kept m r x h k =
    let P = λ (s : Src). SourceFields m r x s in
    let word : nat_lt x 65536 ≡ true = lt-ltb x 65536 k in
    cond_both (m == 0) _ _ P
    (λ e0. let m0 : 0 ≡ m = sym (eqb-true m 0 e0) in
    cond_both (r == 3) (Short 0) (FromReg r) P
    (λ e. record { register = sym (eqb-true r 3 e); mode = m0; takes = refl; fits = refl })
    (λ e. record { register = refl; mode = m0; takes = refl; fits = refl }))
    (λ n0. cond_both (m == 1) _ _ P
    (λ e1. let m1 : 1 ≡ m = sym (eqb-true m 1 e1) in
    cond_both (r == 2) (FromAbs x) _ P
    (λ e. record { register = sym (eqb-true r 2 e); mode = m1; takes = refl; fits = word })
    (λ n. cond_both (r == 3) (Short 1) (FromIndex r x) P
    (λ e. record { register = sym (eqb-true r 3 e); mode = m1; takes = refl; fits = refl })
    (λ e. record { register = refl; mode = m1; takes = refl; fits = word })))
    (λ n1. cond_both (m == 2) _ _ P
    (λ e2. let m2 : 2 ≡ m = sym (eqb-true m 2 e2) in
    cond_both (r == 2) (Short 4) _ P
    (λ e. record { register = sym (eqb-true r 2 e); mode = m2; takes = refl; fits = refl })
    (λ n. cond_both (r == 3) (Short 2) (At r) P
    (λ e. record { register = sym (eqb-true r 3 e); mode = m2; takes = refl; fits = refl })
    (λ e. record { register = refl; mode = m2; takes = refl; fits = refl })))
    (λ n2. let m3 : 3 ≡ m = omega (arith, h, eqb-false m 0 n0, eqb-false m 1 n1, eqb-false m 2 n2) in
    cond_both (r == 0) (Imm x) _ P
    (λ e. record { register = sym (eqb-true r 0 e); mode = m3; takes = refl; fits = word })
    (λ n. cond_both (r == 2) (Short 8) _ P
    (λ e. record { register = sym (eqb-true r 2 e); mode = m3; takes = refl; fits = refl })
    (λ n'. cond_both (r == 3) (Short 65535) (AtPlus r) P
    (λ e. record { register = sym (eqb-true r 3 e); mode = m3; takes = refl; fits = refl })
    (λ e. record { register = refl; mode = m3; takes = refl; fits = refl }))))))

pub record DestinationFields (m r x : ℕ) (dst : Dst) : Type 0 where
  pub register : destination_register dst ≡ r
  pub mode : destination_mode dst ≡ m
  pub takes : Takes (destination_words dst) x
  pub fits : destination_fits dst ≡ true

pub destination_kept : (m r x : ℕ) → m < 2 → x < 65536 → DestinationFields m r x (destination_at m r x)
destination_kept m r x h k =
    let P = λ (d : Dst). DestinationFields m r x d in
    let word : nat_lt x 65536 ≡ true = lt-ltb x 65536 k in
    cond_both (m == 0) (ToReg r) _ P
    (λ e. record { register = refl; mode = sym (eqb-true m 0 e); takes = refl; fits = refl })
    (λ n. let m1 : 1 ≡ m = omega (arith, h, eqb-false m 0 n) in
    cond_both (r == 2) (ToAbs x) (ToIndex r x) P
    (λ e. record { register = sym (eqb-true r 2 e); mode = m1; takes = refl; fits = word })
    (λ e. record { register = refl; mode = m1; takes = refl; fits = word }))
