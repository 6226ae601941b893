-- What a flat function's rules keep: a slot that a call may not change stays.
use Rattle.std.proofs.Common.{◌≡◌, ℕ, ◌%◌, ◌≤◌, Bool, true, false, not, Option, Some, None, List, [], ◌∷◌, refl, sym, ap, ◌∙◌, subst, arith, ⊎_elim}
use Rattle.std.specs.Prelude.{if◌then◌else◌, ◌==◌, ◌&&◌, ◌||◌, nat_le}
use Rattle.std.proofs.lemmas.Bool.{and_parts, cases_Bool}
use Rattle.std.proofs.lemmas.Bool.Decides.{nat_tests}
use Rattle.certificate.specs.declared.cert.Slot.{Slot}
use Rattle.certificate.specs.declared.cert.Slot.TheVariants.{Reg, Word}
use Rattle.certificate.specs.declared.cert.Span.{Span}
use Rattle.certificate.specs.Rows.{Flat}
use Rattle.msp430_isa.specs.declared.instr.Src.{Src}
use Rattle.msp430_isa.specs.declared.instr.Src.TheVariants.{Reg as FromReg, Imm}
use Rattle.msp430_isa.specs.declared.instr.OneOp.{OneOp}
use Rattle.msp430_isa.specs.declared.instr.OneOp.TheVariants.{Rra as RRA, Sxt as SXT, Call as CALL}
use Rattle.msp430_isa.specs.declared.instr.Instr.{Instr}
use Rattle.msp430_isa.specs.declared.instr.Instr.TheVariants.{Two, One, Jump}
use Rattle.msp430_isa.specs.Results.{writes_destination}
use Rattle.msp430_machine.specs.State.{State}
use Rattle.msp430_machine.specs.Memory.{word_at}
use Rattle.cert_rules.specs.declared.Rule.TheVariants.{Writes}
use Rattle.cert_rules.specs.Slots.{same_slot, is_memory, in_spans, first_in}
use Rattle.cert_rules.specs.Forms.{is_general, is_form, one_form}
use Rattle.cert_rules.specs.Known.{Known}
use Rattle.cert_rules.specs.Places.{Place, Number, InReg, InReach, source_place, destination_place}
use Rattle.cert_rules.specs.Effects.{lost_by_call}
use Rattle.cert_rules.specs.Sheet.{Sheet}
use Rattle.cert_rules.specs.Accesses.{access_faults, places_fault, writes_fault, keep_fault, keep_fault_of, is_kept, unnamed, word_of_reach}
use Rattle.cert_rules.specs.Standing.{Copy}
use Rattle.cert_rules.specs.Copies.{copied_to}
use Rattle.cert_rules.specs.Calls.{callee_writes_fault, unnamed_word, least_word}
use Rattle.cert_effects.specs.Knows.{value_of}
use Rattle.cert_effects.proofs.Values.{equal_numbers}
use Rattle.cert_effects.proofs.Reaches.{none_in}
use Rattle.cert_effects.proofs.Rules.{none_parts, unless_passes, number_passes}
use Rattle.cert_effects.proofs.Computing.{touches}
use Rattle.cert_effects.proofs.Computed.{may_write}
use Rattle.cert_effects.proofs.Copying.{Stays}

-- ---- Slots that have a value

abbrev pub counts : Slot → Bool
counts (Reg r) = is_general r
counts (Word a) = is_memory a && a % 2 == 0

pub no_value : (s : State) (x : Slot) → counts x ≡ false → value_of s x ≡ 0
no_value s (Reg r) e = ap (λ c. if c then s.reg r else 0) e
no_value s (Word a) e = ap (λ c. if c then word_at s a else 0) e

-- ---- Small parts

le_of : (a b : ℕ) → nat_le a b ≡ true → a ≤ b
le_of a b e = grind (arith, nat_tests)

not_true : (c : Bool) → not c ≡ true → c ≡ false
not_true true e = absurd (let no : false ≡ true = e in cc)
not_true false e = refl

false_or : (c : Bool) → (c ≡ true → ⊥) → c ≡ false
false_or c never = by_case c refl
  where
    by_case : (d : Bool) → c ≡ d → c ≡ false
    by_case true e = absurd (never e)
    by_case false e = e

-- a register that a call leaves, and a certificate may speak of, is R4 to R10
kept_register : (r : ℕ) → is_general r ≡ true → (nat_le 11 r && nat_le r 15) ≡ false → is_kept r ≡ true
kept_register r g e = grind (arith, nat_tests)

-- a word that is named, or none of memory
named : (m i : Bool) → m ≡ true → (m && not i) ≡ false → i ≡ true
named m true e f = refl
named m false e f = absurd (let no : true ≡ false = sym (ap (λ c. c && true) e) ∙ f in cc)

-- ---- A place whose writes the rules allow

pub place_keeps : (f : Flat) (writes : Bool) (p : Place) → (if writes then word_of_reach (unnamed f.writes) p else None) ≡ None → (a : ℕ) → (if writes then keep_fault_of a p else None) ≡ None
    → (x : Slot) → counts x ≡ true → lost_by_call f x ≡ false → (writes && touches p x) ≡ false
place_keeps f false p h a k x c e = refl
place_keeps f true (Number v) h a k x c e = refl
place_keeps f true (InReg q) h a k (Word b) c e = refl
place_keeps f true (InReg q) h a k (Reg r) c e = false_or (r == q) (λ same.
    (let free : is_kept q ≡ false = not_true (is_kept q) (unless_passes (not (is_kept q)) _ _ _ _ k) in
    let bad : true ≡ false = sym (kept_register r c e) ∙ ap is_kept (equal_numbers r q same) ∙ free in cc))
place_keeps f true (InReach q) h a k (Reg r) c e = refl
place_keeps f true (InReach q) h a k (Word b) c e = false_or (nat_le q.least b && nat_le b q.greatest) (λ hit.
    (let within = and_parts (nat_le q.least b) (nat_le b q.greatest) hit in
    let m = and_parts (is_memory b) (b % 2 == 0) c in
    let free : unnamed f.writes b ≡ false = none_in (unnamed f.writes) q.least q.greatest b h (le_of q.least b within.0) (le_of b q.greatest within.1) (equal_numbers (b % 2) 0 m.1) in
    let bad : true ≡ false = sym (named (is_memory b) (in_spans f.writes b) m.0 free) ∙ e in cc))

-- ---- An instruction that the rules allow in a flat function

one_keeps : (f : Flat) (a : ℕ) (κ : Known) (op : OneOp) (src : Src) → one_form op src ≡ true → keep_fault a (Some f) true (source_place κ src) ≡ None → (x : Slot) → counts x ≡ true → lost_by_call f x ≡ false → touches (source_place κ src) x ≡ false
one_keeps f a κ RRA (FromReg r) form k x c e = place_keeps f true (InReg r) refl a k x c e
one_keeps f a κ SXT (FromReg r) form k x c e = place_keeps f true (InReg r) refl a k x c e
one_keeps f a κ CALL (Imm v) form k x c e = refl
one_keeps f a κ op src form k x c e = absurd (let no : false ≡ true = form in cc)

writes_none : (f : Flat) (t : Sheet) (κ : Known) (i : Instr) (a : ℕ) → t.here.flat ≡ Some f → is_form i ≡ true → access_faults t a κ i ≡ None → (x : Slot) → counts x ≡ true → lost_by_call f x ≡ false → may_write κ i x ≡ false
writes_none f t κ (Jump on words) a flat form acc x c e = refl
writes_none f t κ (One op byte src) a flat form acc x c e =
    one_keeps f a κ op src (and_parts (not byte) (one_form op src) form).1 (subst (λ o. keep_fault a o true (source_place κ src) ≡ None) flat acc) x c e
writes_none f t κ (Two op byte src dst) a flat form acc x c e =
    let d : Place = destination_place κ dst in
    let one = none_parts (places_fault a op (source_place κ src) d) _ acc in
    let two = none_parts _ _ one.1 in
    let three = none_parts (writes_fault a t.here.flat (writes_destination op) d) _ two.1 in
    let four = none_parts (keep_fault a t.here.flat (writes_destination op) d) None three.1 in
    place_keeps f (writes_destination op) d
    (number_passes _ _ _ (subst (λ o. writes_fault a o (writes_destination op) d ≡ None) flat three.0)) a
    (subst (λ o. keep_fault a o (writes_destination op) d ≡ None) flat four.0) x c e

-- where each slot that isn't written stays, so does each that a call may not change
pub keeps : (f : Flat) (t : Sheet) (κ : Known) (i : Instr) (a : ℕ) (s u : State) → t.here.flat ≡ Some f → is_form i ≡ true → access_faults t a κ i ≡ None → ((x : Slot) → may_write κ i x ≡ false → value_of u x ≡ value_of s x)
    → (x : Slot) → lost_by_call f x ≡ false → value_of u x ≡ value_of s x
keeps f t κ i a s u flat form acc stays x e = ⊎_elim (λ c. stays x (writes_none f t κ i a flat form acc x c e)) (λ c. no_value u x c ∙ sym (no_value s x c)) (cases_Bool (counts x))

-- ---- A copy whose words are named

pub copy_keeps : (f : Flat) (c : Copy) (a : ℕ) (s u : State) → writes_fault a (Some f) true (InReach (copied_to c)) ≡ None → ((x : Slot) → Stays c x → value_of u x ≡ value_of s x)
    → (x : Slot) → lost_by_call f x ≡ false → value_of u x ≡ value_of s x
copy_keeps f c a s u h stays x e = ⊎_elim
    (λ k. stays x (place_keeps f true (InReach (copied_to c)) (number_passes (word_of_reach (unnamed f.writes) (InReach (copied_to c))) Writes a h) a refl x k e, no_counter x e))
    (λ k. no_value u x k ∙ sym (no_value s x k))
    (cases_Bool (counts x))
  where
    no_counter : (x : Slot) → lost_by_call f x ≡ false → same_slot x (Reg 15) ≡ false
    no_counter (Word b) e = refl
    no_counter (Reg r) e = false_or (r == 15) (λ same. (let bad : true ≡ false = sym (ap (λ n. nat_le 11 n && nat_le n 15) (equal_numbers r 15 same)) ∙ e in cc))

-- ---- A callee's words are its caller's

both_none : (x y : Option ℕ) → least_word x y ≡ None → (x ≡ None) × (y ≡ None)
both_none None y e = (refl, e)
both_none (Some a) None e = absurd (let no : Some a ≡ None = e in cc)
both_none (Some a) (Some b) e = absurd (by_case (nat_le a b) e)
  where
    by_case : (c : Bool) → (if c then Some a else Some b) ≡ None → ⊥
    by_case true k = let no : Some a ≡ None = k in cc
    by_case false k = let no : Some b ≡ None = k in cc

named_by : (own spans : List Span) (b : ℕ) → unnamed_word own spans ≡ None → is_memory b ≡ true → b % 2 ≡ 0 → in_spans spans b ≡ true → in_spans own b ≡ true
named_by own [] b h m even e = absurd (let no : false ≡ true = e in cc)
named_by own (x ∷ spans) b h m even e =
    let p = both_none (first_in (unnamed own) x.lo x.hi) (unnamed_word own spans) h in
    elim (nat_le x.lo b && nat_le b x.hi) as (λ c. (nat_le x.lo b && nat_le b x.hi) ≡ c → (c || in_spans spans b) ≡ true → in_spans own b ≡ true) [
      | true ↦ λ hit k.
          (let q = and_parts (nat_le x.lo b) (nat_le b x.hi) hit in
          named (is_memory b) (in_spans own b) m (none_in (unnamed own) x.lo x.hi b p.0 (le_of x.lo b q.0) (le_of b x.hi q.1) even))
      | false ↦ λ hit k. named_by own spans b p.1 m even k
    ] refl e

callee_lost : (f g : Flat) (a : ℕ) → callee_writes_fault a (Some f) (Some g) ≡ None → (x : Slot) → counts x ≡ true → lost_by_call f x ≡ false → lost_by_call g x ≡ false
callee_lost f g a h (Reg r) c e = e
callee_lost f g a h (Word b) c e = false_or (in_spans g.writes b) (λ hit.
    (let m = and_parts (is_memory b) (b % 2 == 0) c in
    let bad : true ≡ false = sym (named_by f.writes g.writes b (number_passes (unnamed_word f.writes g.writes) Writes a h) m.0 (equal_numbers (b % 2) 0 m.1) hit) ∙ e in cc))

pub callee_keeps : (f g : Flat) (a : ℕ) (s u : State) → callee_writes_fault a (Some f) (Some g) ≡ None → ((x : Slot) → lost_by_call g x ≡ false → value_of u x ≡ value_of s x)
    → (x : Slot) → lost_by_call f x ≡ false → value_of u x ≡ value_of s x
callee_keeps f g a s u h stays x e = ⊎_elim (λ c. stays x (callee_lost f g a h x c e)) (λ c. no_value u x c ∙ sym (no_value s x c)) (cases_Bool (counts x))
