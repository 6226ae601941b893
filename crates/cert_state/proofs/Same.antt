-- Knowledge that is told alike is the same.
use Rattle.std.proofs.Common.{◌≡◌, ℕ, Bool, List, Option}
use Rattle.std.specs.Prelude.{ℤ}
use Rattle.certificate.specs.declared.cert.Term.{Term}
use Rattle.certificate.specs.declared.cert.Slot.{Slot}
use Rattle.certificate.specs.Rows.{Spent}
use Rattle.cert_rules.specs.Ranges.{Range}
use Rattle.cert_rules.specs.Known.{Known, Test}

pub same_known : (κ : Known) (stretch : ℕ) (spent : Spent) (range : Slot → Option Range) (fresh : ℕ → Bool) (flags : Bool) (test : Option Test)
    → stretch ≡ κ.stretch → spent ≡ κ.spent → ((x : Slot) → range x ≡ κ.range x) → ((a : ℕ) → fresh a ≡ κ.fresh a) → flags ≡ κ.flags → test ≡ κ.test
    → let made : Known = record { stretch = stretch; spent = spent; range = range; fresh = fresh; flags = flags; test = test } in made ≡ κ
same_known κ stretch spent range fresh flags test a b c d e f = λ i. record {
  stretch = a i;
  spent = b i;
  range = λ x. c x i;
  fresh = λ n. d n i;
  flags = e i;
  test = f i;
}

pub same_spent : (s : Spent) (base : ℤ) (terms : List Term) → base ≡ s.base → terms ≡ s.terms → let made : Spent = record { base = base; terms = terms } in made ≡ s
same_spent s base terms b t = λ i. record { base = b i; terms = t i }
