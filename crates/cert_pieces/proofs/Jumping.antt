-- Conditional jumps inside of templates, and traps.
use Rattle.std.proofs.Common.{◌≡◌, ℕ, ◌+◌, ◌-◌, ◌≤◌, Bool, true, false, Option, Some, None, refl, ap, ◌∙◌, arith}
use Rattle.std.specs.Prelude.{ℤ, ◌&&◌, nat_lt, min, nat_le, max, if◌then◌else◌}
use Rattle.certificate.specs.declared.cert.Slot.{Slot}
use Rattle.certificate.specs.declared.cert.Slot.TheVariants.{Reg}
use Rattle.msp430_isa.specs.declared.instr.Cond.{Cond}
use Rattle.msp430_isa.specs.declared.instr.Cond.TheVariants.{Jnc as JNC}
use Rattle.msp430_isa.specs.declared.instr.Instr.TheVariants.{Jump}
use Rattle.msp430_machine.specs.Cost.{instruction_cost}
use Rattle.cert_rules.specs.Ranges.{Range, any_word, below, from}
use Rattle.cert_rules.specs.Slots.{same_slot, is_held}
use Rattle.cert_rules.specs.Spending.{paying}
use Rattle.cert_rules.specs.Known.{Known, range_of, with_cost}
use Rattle.cert_rules.specs.Effects.{on_edge, is_always, To, with_narrowed}
use Rattle.cert_rules.specs.Outcomes.{target_of}
use Rattle.cert_rules.specs.Sheet.{Sheet}
use Rattle.cert_pieces.specs.Pieces.{Has, Narrower, Falls, Lands, Begins, Stands, Here, pays, narrows_to}
use Rattle.cert_pieces.proofs.Stepping.{IfTaken, Sure, Anew, branches_on}
use Rattle.cert_pieces.proofs.Writing.{range_told, words_told}

-- ---- Jumps that tell nothing of a value

pub paid_has : (c : ℕ) (s κ : Known) → Has s κ → Has (pays c s) (with_cost c κ)
paid_has c s κ has = record {
  stretch = has.stretch;
  spent = ap (λ n. paying c n) has.spent;
  range = has.range;
  fresh = has.fresh;
  flags = has.flags;
  test = refl;
  words = has.words;
}

-- behind an operation whose flags tell of no comparison with a number, both edges can be taken
pub jumps_blindly : (t : Sheet) (a : ℕ) (on : Cond) (words : ℤ) (s : Known) → Stands t a (Jump on words) → is_always on ≡ false → s.flags ≡ true → s.test ≡ None
    → Falls t (pays (instruction_cost t.board (Jump on words)) s) (a + 2) → Lands t (pays (instruction_cost t.board (Jump on words)) s) (target_of (a + 2) words) → Here t a s
jumps_blindly t a on words s st always flags test falls lands incoming κ e h =
    let c = instruction_cost t.board (Jump on words) in
    branches_on t a on words incoming κ (pays c s) (pays c s) (Some (with_cost c κ)) (Some (with_cost c κ)) st e always (h.flags flags)
    (ap (λ q. on_edge on false q (with_cost c κ)) (h.test ∙ test)) (ap (λ q. on_edge on true q (with_cost c κ)) (h.test ∙ test))
    h.stretch h.stretch (paid_has c s κ h) (paid_has c s κ h) falls lands (Sure refl)

-- ---- Jumps that tell of a value

-- a range that an edge leaves is in this one, and of words
pub record LeftIn (outer r : Range) : Type 0 where
  pub inner : Narrower r outer
  pub word : Narrower r any_word

-- so it is, where an edge leaves one
abbrev pub IfLeft : Range → Option Range → Type 0
IfLeft outer None = Unit {0}
IfLeft outer (Some r) = LeftIn outer r

pub edge_has : (w : Slot) (outer : Range) (c : ℕ) (s κ : Known) (o : Option Range) → IfLeft outer o → Has s κ → IfTaken (λ ρ. Has (narrows_to w outer (pays c s)) ρ) (with_narrowed w (with_cost c κ) (To o))
edge_has w outer c s κ None left has = tt
edge_has w outer c s κ (Some r) left has = record {
  stretch = has.stretch;
  spent = ap (λ n. paying c n) has.spent;
  range = λ x. range_told (same_slot x w && is_held w) (s.range x) (κ.range x) r outer left.inner (has.range x);
  fresh = has.fresh;
  flags = has.flags;
  test = refl;
  words = λ x. words_told (same_slot x w && is_held w) (κ.range x) r left.word (has.words x);
}

min_right : (x y : ℕ) → min x y ≤ y
min_right x y = omega arith

min_left : (x y z : ℕ) → x ≤ z → min x y ≤ z
min_left x y z h = omega (arith, h)

no_even : (b : Bool) → false ≡ true → b ≡ true
no_even b h = absurd (let no : false ≡ true = h in cc)

pub if_left : (outer : Range) (c : Bool) (r : Range) → LeftIn outer r → IfLeft outer (if c then Some r else None)
if_left outer true r h = h
if_left outer false r h = tt

abbrev pub up_to : ℕ → Range
up_to n = record { least = 0; greatest = n - 1; even = false }

pub below_left : (n : ℕ) (r : Range) → Narrower r any_word → IfLeft (up_to n) (below n r)
below_left n r h = if_left (up_to n) (nat_lt r.least n) _ (record {
  inner = record { least = omega arith; greatest = min_right r.greatest (n - 1); even = λ e. no_even r.even e };
  word = record { least = omega arith; greatest = min_left r.greatest (n - 1) 65535 h.greatest; even = λ e. no_even r.even e };
})

pub from_left : (n : ℕ) (r : Range) → Narrower r any_word → IfLeft any_word (from n r)
from_left n r h =
    let fits : Narrower (record r { least = max r.least n }) any_word = record { least = omega arith; greatest = h.greatest; even = λ e. no_even r.even e } in
    if_left any_word (nat_le (max r.least n) r.greatest) _ (record { inner = fits; word = fits })

-- JNC behind a comparison of a register with a number: below it where the jump is taken. Something begins behind it in any case.
pub jumps_below : (t : Sheet) (a r n : ℕ) (words : ℤ) (s : Known) → Stands t a (Jump JNC words) → s.flags ≡ true → s.test ≡ Some (record { of = Reg r; with = n; ordered = true })
    → Falls t (narrows_to (Reg r) any_word (pays (instruction_cost t.board (Jump JNC words)) s)) (a + 2)
    → Lands t (narrows_to (Reg r) (up_to n) (pays (instruction_cost t.board (Jump JNC words)) s)) (target_of (a + 2) words)
    → Begins t (a + 2) → Here t a s
jumps_below t a r n words s st flags test falls lands begins incoming κ e h =
    let c = instruction_cost t.board (Jump JNC words) in
    branches_on t a JNC words incoming κ (narrows_to (Reg r) any_word (pays c s)) (narrows_to (Reg r) (up_to n) (pays c s))
    (with_narrowed (Reg r) (with_cost c κ) (To (from n (range_of κ (Reg r))))) (with_narrowed (Reg r) (with_cost c κ) (To (below n (range_of κ (Reg r))))) st e refl (h.flags flags)
    (ap (λ q. on_edge JNC false q (with_cost c κ)) (h.test ∙ test)) (ap (λ q. on_edge JNC true q (with_cost c κ)) (h.test ∙ test))
    h.stretch h.stretch
    (edge_has (Reg r) any_word c s κ _ (from_left n (range_of κ (Reg r)) (h.words (Reg r))) h)
    (edge_has (Reg r) (up_to n) c s κ _ (below_left n (range_of κ (Reg r)) (h.words (Reg r))) h)
    falls lands (Anew begins)
