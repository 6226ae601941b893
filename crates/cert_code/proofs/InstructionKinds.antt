-- Which instruction has which kind, and where jumps land.
use Rattle.std.proofs.Common.{◌≡◌, ℕ, ◌<◌, ◌≤◌, Bool, true, false, not, refl, ap, ◌∙◌, arith}
use Rattle.std.specs.Prelude.{if◌then◌else◌, ◌==◌, ◌&&◌, ℤ, pos, negsuc}
use Rattle.std.proofs.lemmas.Bool.{and_parts}
use Rattle.std.proofs.lemmas.Bool.Decides.{nat_tests}
use Rattle.msp430_isa.specs.declared.instr.Src.{Src}
use Rattle.msp430_isa.specs.declared.instr.Src.TheVariants.{Reg as FromReg, Index as FromIndex, Abs as FromAbs, At, AtPlus, Imm, Short}
use Rattle.msp430_isa.specs.declared.instr.Dst.{Dst}
use Rattle.msp430_isa.specs.declared.instr.Dst.TheVariants.{Reg as ToReg, Index as ToIndex, Abs as ToAbs}
use Rattle.msp430_isa.specs.declared.instr.TwoOp.{TwoOp}
use Rattle.msp430_isa.specs.declared.instr.TwoOp.TheVariants.{Mov as MOV}
use Rattle.msp430_isa.specs.declared.instr.OneOp.{OneOp}
use Rattle.msp430_isa.specs.declared.instr.OneOp.TheVariants.{Rra as RRA, Sxt as SXT, Call as CALL}
use Rattle.msp430_isa.specs.declared.instr.Cond.{Cond}
use Rattle.msp430_isa.specs.declared.instr.Instr.{Instr}
use Rattle.msp430_isa.specs.declared.instr.Instr.TheVariants.{Two, One, Jump}
use Rattle.msp430_isa.specs.Results.{jump_target}
use Rattle.msp430_machine.specs.Steps.{next}
use Rattle.cert_rules.specs.Forms.{Kind, Computes, Branches, Leaps, Calls, Returns, is_form, is_pc, goes_on, is_used, is_plain_source, is_plain_destination, one_form, leap, call, kind_of}
use Rattle.msp430_isa.specs.Profile.{is_move}
use Rattle.cert_rules.specs.Outcomes.{target_of}
use Rattle.cert_effects.proofs.Calling.{call_to}
use Rattle.cert_effects.proofs.Returning.{return_back}

-- ---- Kinds

pub branch_is : (i : Instr) (on : Cond) (x : ℤ) → kind_of i ≡ Branches on x → i ≡ Jump on x
branch_is (Jump on' y) on x e = ap back e
  where
    back : Kind → Instr
    back (Branches on x) = Jump on x
    back Computes = Jump on x
    back (Leaps t) = Jump on x
    back (Calls t) = Jump on x
    back Returns = Jump on x
branch_is (One op byte src) on x e = absurd (by_source src e)
  where
    by_source : (src : Src) → call src ≡ Branches on x → ⊥
    by_source (Imm t) e = let bad : Calls t ≡ Branches on x = e in cc
    by_source (FromReg r) e = let bad : Computes ≡ Branches on x = e in cc
    by_source (FromIndex r y) e = let bad : Computes ≡ Branches on x = e in cc
    by_source (FromAbs a) e = let bad : Computes ≡ Branches on x = e in cc
    by_source (At r) e = let bad : Computes ≡ Branches on x = e in cc
    by_source (AtPlus r) e = let bad : Computes ≡ Branches on x = e in cc
    by_source (Short v) e = let bad : Computes ≡ Branches on x = e in cc
branch_is (Two op byte src dst) on x e = absurd (by_pc (is_pc dst) e)
  where
    by_source : (src : Src) → leap src ≡ Branches on x → ⊥
    by_source (Imm t) e = let bad : Leaps t ≡ Branches on x = e in cc
    by_source (FromReg r) e = let bad : Returns ≡ Branches on x = e in cc
    by_source (FromIndex r y) e = let bad : Returns ≡ Branches on x = e in cc
    by_source (FromAbs a) e = let bad : Returns ≡ Branches on x = e in cc
    by_source (At r) e = let bad : Returns ≡ Branches on x = e in cc
    by_source (AtPlus r) e = let bad : Returns ≡ Branches on x = e in cc
    by_source (Short v) e = let bad : Returns ≡ Branches on x = e in cc

    by_pc : (c : Bool) → (if c then leap src else Computes) ≡ Branches on x → ⊥
    by_pc true e = by_source src e
    by_pc false e = let bad : Computes ≡ Branches on x = e in cc

moves : (op : TwoOp) → is_move op ≡ true → op ≡ MOV
moves MOV e = refl
moves op e = absurd (let bad : false ≡ true = e in cc)

pc_is : (dst : Dst) → is_pc dst ≡ true → dst ≡ ToReg 0
pc_is (ToReg r) e = ap (λ n. ToReg n) (number_is r 0 e)
  where
    number_is : (a b : ℕ) → (a == b) ≡ true → a ≡ b
    number_is a b e = grind (arith, nat_tests)
pc_is (ToIndex r x) e = absurd (let bad : false ≡ true = e in cc)
pc_is (ToAbs a) e = absurd (let bad : false ≡ true = e in cc)

leap_source : (src : Src) (target : ℕ) → leap src ≡ Leaps target → src ≡ Imm target
leap_source (Imm t) target e = ap back e
  where
    back : Kind → Src
    back (Leaps t) = Imm t
    back Computes = Imm 0
    back (Branches on x) = Imm 0
    back (Calls t) = Imm 0
    back Returns = Imm 0
leap_source (FromReg r) target e = absurd (let bad : Returns ≡ Leaps target = e in cc)
leap_source (FromIndex r y) target e = absurd (let bad : Returns ≡ Leaps target = e in cc)
leap_source (FromAbs a) target e = absurd (let bad : Returns ≡ Leaps target = e in cc)
leap_source (At r) target e = absurd (let bad : Returns ≡ Leaps target = e in cc)
leap_source (AtPlus r) target e = absurd (let bad : Returns ≡ Leaps target = e in cc)
leap_source (Short v) target e = absurd (let bad : Returns ≡ Leaps target = e in cc)

pub leap_is : (i : Instr) (target : ℕ) → is_form i ≡ true → kind_of i ≡ Leaps target → i ≡ Two MOV false (Imm target) (ToReg 0)
leap_is (Jump on y) target f e = absurd (let bad : Branches on y ≡ Leaps target = e in cc)
leap_is (One op byte src) target f e = absurd (by_source src e)
  where
    by_source : (src : Src) → call src ≡ Leaps target → ⊥
    by_source (Imm t) e = let bad : Calls t ≡ Leaps target = e in cc
    by_source (FromReg r) e = let bad : Computes ≡ Leaps target = e in cc
    by_source (FromIndex r y) e = let bad : Computes ≡ Leaps target = e in cc
    by_source (FromAbs a) e = let bad : Computes ≡ Leaps target = e in cc
    by_source (At r) e = let bad : Computes ≡ Leaps target = e in cc
    by_source (AtPlus r) e = let bad : Computes ≡ Leaps target = e in cc
    by_source (Short v) e = let bad : Computes ≡ Leaps target = e in cc
leap_is (Two op byte src dst) target f e = by_pc (is_pc dst) refl f e
  where
    by_pc : (c : Bool) → is_pc dst ≡ c → (not byte && (if c then is_move op && goes_on src else is_used op && is_plain_source src && is_plain_destination dst)) ≡ true → (if c then leap src else Computes) ≡ Leaps target
        → Two op byte src dst ≡ Two MOV false (Imm target) (ToReg 0)
    by_pc true d f e =
        let p = and_parts (not byte) (is_move op && goes_on src) f in
        let q = and_parts (is_move op) (goes_on src) p.1 in
        ap (λ o. Two o byte src dst) (moves op q.0) ∙ ap (λ y. Two MOV y src dst) (plain_width byte p.0) ∙ ap (λ y. Two MOV false y dst) (leap_source src target e) ∙ ap (λ y. Two MOV false (Imm target) y) (pc_is dst d)
      where
        plain_width : (y : Bool) → not y ≡ true → y ≡ false
        plain_width true e = absurd (let bad : false ≡ true = e in cc)
        plain_width false e = refl
    by_pc false d f e = absurd (let bad : Computes ≡ Leaps target = e in cc)

pub call_is : (i : Instr) (target : ℕ) → is_form i ≡ true → kind_of i ≡ Calls target → i ≡ call_to target
call_is (Jump on y) target f e = absurd (let bad : Branches on y ≡ Calls target = e in cc)
call_is (One op byte src) target f e = ap (λ z. One z byte src) (calls op src target (and_parts (not byte) (one_form op src) f).1 e) ∙ ap (λ z. One CALL z src) (word_wide byte (and_parts (not byte) (one_form op src) f).0) ∙ ap (λ z. One CALL false z) (call_source src target e)
  where
    call_source : (src : Src) (target : ℕ) → call src ≡ Calls target → src ≡ Imm target
    call_source (Imm t) target e = ap back e
      where
        back : Kind → Src
        back (Calls t) = Imm t
        back Computes = Imm 0
        back (Branches on x) = Imm 0
        back (Leaps t) = Imm 0
        back Returns = Imm 0
    call_source (FromReg r) target e = absurd (let bad : Computes ≡ Calls target = e in cc)
    call_source (FromIndex r y) target e = absurd (let bad : Computes ≡ Calls target = e in cc)
    call_source (FromAbs a) target e = absurd (let bad : Computes ≡ Calls target = e in cc)
    call_source (At r) target e = absurd (let bad : Computes ≡ Calls target = e in cc)
    call_source (AtPlus r) target e = absurd (let bad : Computes ≡ Calls target = e in cc)
    call_source (Short v) target e = absurd (let bad : Computes ≡ Calls target = e in cc)

    word_wide : (y : Bool) → not y ≡ true → y ≡ false
    word_wide true e = absurd (let bad : false ≡ true = e in cc)
    word_wide false e = refl

    calls : (op : OneOp) (src : Src) (target : ℕ) → one_form op src ≡ true → call src ≡ Calls target → op ≡ CALL
    calls CALL src target f e = refl
    calls RRA (FromReg r) target f e = absurd (let bad : Computes ≡ Calls target = e in cc)
    calls SXT (FromReg r) target f e = absurd (let bad : Computes ≡ Calls target = e in cc)
    calls op src target f e = absurd (let bad : false ≡ true = f in cc)
call_is (Two op byte src dst) target f e = absurd (by_pc (is_pc dst) e)
  where
    by_source : (src : Src) → leap src ≡ Calls target → ⊥
    by_source (Imm t) e = let bad : Leaps t ≡ Calls target = e in cc
    by_source (FromReg r) e = let bad : Returns ≡ Calls target = e in cc
    by_source (FromIndex r y) e = let bad : Returns ≡ Calls target = e in cc
    by_source (FromAbs a) e = let bad : Returns ≡ Calls target = e in cc
    by_source (At r) e = let bad : Returns ≡ Calls target = e in cc
    by_source (AtPlus r) e = let bad : Returns ≡ Calls target = e in cc
    by_source (Short v) e = let bad : Returns ≡ Calls target = e in cc

    by_pc : (c : Bool) → (if c then leap src else Computes) ≡ Calls target → ⊥
    by_pc true e = by_source src e
    by_pc false e = let bad : Computes ≡ Calls target = e in cc

return_source : (src : Src) → goes_on src ≡ true → leap src ≡ Returns → src ≡ AtPlus 1
return_source (Imm t) f e = absurd (let bad : Leaps t ≡ Returns = e in cc)
return_source (AtPlus r) f e = ap (λ n. AtPlus n) (number_is r 1 f)
  where
    number_is : (a b : ℕ) → (a == b) ≡ true → a ≡ b
    number_is a b e = grind (arith, nat_tests)
return_source (FromReg r) f e = absurd (let bad : false ≡ true = f in cc)
return_source (FromIndex r y) f e = absurd (let bad : false ≡ true = f in cc)
return_source (FromAbs a) f e = absurd (let bad : false ≡ true = f in cc)
return_source (At r) f e = absurd (let bad : false ≡ true = f in cc)
return_source (Short v) f e = absurd (let bad : false ≡ true = f in cc)

pub return_is : (i : Instr) → is_form i ≡ true → kind_of i ≡ Returns → i ≡ return_back
return_is (Jump on y) f e = absurd (let bad : Branches on y ≡ Returns = e in cc)
return_is (One op byte src) f e = absurd (by_source src e)
  where
    by_source : (src : Src) → call src ≡ Returns → ⊥
    by_source (Imm t) e = let bad : Calls t ≡ Returns = e in cc
    by_source (FromReg r) e = let bad : Computes ≡ Returns = e in cc
    by_source (FromIndex r y) e = let bad : Computes ≡ Returns = e in cc
    by_source (FromAbs a) e = let bad : Computes ≡ Returns = e in cc
    by_source (At r) e = let bad : Computes ≡ Returns = e in cc
    by_source (AtPlus r) e = let bad : Computes ≡ Returns = e in cc
    by_source (Short v) e = let bad : Computes ≡ Returns = e in cc
return_is (Two op byte src dst) f e = by_pc (is_pc dst) refl f e
  where
    by_pc : (c : Bool) → is_pc dst ≡ c → (not byte && (if c then is_move op && goes_on src else is_used op && is_plain_source src && is_plain_destination dst)) ≡ true → (if c then leap src else Computes) ≡ Returns
        → Two op byte src dst ≡ return_back
    by_pc true d f e =
        let p = and_parts (not byte) (is_move op && goes_on src) f in
        let q = and_parts (is_move op) (goes_on src) p.1 in
        ap (λ o. Two o byte src dst) (moves op q.0) ∙ ap (λ y. Two MOV y src dst) (plain_width byte p.0) ∙ ap (λ y. Two MOV false y dst) (return_source src q.1 e) ∙ ap (λ y. Two MOV false (AtPlus 1) y) (pc_is dst d)
      where
        plain_width : (y : Bool) → not y ≡ true → y ≡ false
        plain_width true e = absurd (let bad : false ≡ true = e in cc)
        plain_width false e = refl
    by_pc false d f e = absurd (let bad : Computes ≡ Returns = e in cc)

-- ---- Targets

pub jump_lands : (next : ℕ) (x : ℤ) (low high : ℕ) → low ≤ target_of next x → target_of next x < high → 1 ≤ low → high ≤ 65536 → next < 65536 → jump_target next x ≡ target_of next x
jump_lands next (pos n) low high l h one top small = omega (arith, l, h, top)
jump_lands next (negsuc n) low high l h one top small = omega (arith, l, h, one, top, small)
