-- What the rules say of each edge of an outcome.
use Rattle.std.proofs.Common.{◌≡◌, ℕ, ◌<◌, ◌≤◌, Bool, true, false, Option, Some, None, [], ◌∷◌, refl, arith, inl, inr, ◌⊎◌}
use Rattle.std.specs.Prelude.{nat_le, nat_lt, pos, ◌||◌, is_none}
use Rattle.std.specs.Int.Signed.{◌≤ℤ◌}
use Rattle.std.proofs.lemmas.Bool.Decides.{nat_tests}
use Rattle.cert_rules.specs.Known.{Known}
use Rattle.cert_rules.specs.Sheet.{Sheet}
use Rattle.cert_rules.specs.Outcomes.{Goes}
use Rattle.cert_rules.specs.Going.{may_go_to, spent_by, spent_to, edge_fault, edge_implied, points_fault, over_fault}
use Rattle.cert_rules.specs.declared.Rule.TheVariants.{Edge}
use Rattle.cert_rules.specs.Faults.{unless}
use Rattle.cert_effects.proofs.Rules.{none_parts, unless_passes}
use Rattle.cert_code.proofs.Sweeping.{one_within, two_within}

pub lt_of : (a b : ℕ) → nat_lt a b ≡ true → a < b
lt_of a b e = grind (arith, nat_tests)

pub le_of : (a b : ℕ) → nat_le a b ≡ true → a ≤ b
le_of a b e = grind (arith, nat_tests)

pub some_or : {A : Type 0} (o : Option A) → (o ≡ None) ⊎ ((x : A) × (o ≡ Some x))
some_or None = inl refl
some_or (Some x) = inr (x, refl)

pub true_or_false : (c : Bool) → (c ≡ true) ⊎ (c ≡ false)
true_or_false true = inl refl
true_or_false false = inr refl

-- ---- The edges of an outcome

pub edge_jump : (t : Sheet) (a nxt : ℕ) (falls : Option Known) (κ : Known) (target : ℕ) → edge_fault t a nxt (Goes falls (Some κ) target) ≡ None → may_go_to t target ≡ true
edge_jump t a nxt falls κ target h =
    unless_passes (may_go_to t target) Edge a (pos target) (pos a)
    (none_parts (unless (is_none falls || nat_lt nxt t.here.end) Edge a (pos nxt) (pos a)) (unless (may_go_to t target) Edge a (pos target) (pos a)) h).1

pub edge_fall : (t : Sheet) (a nxt : ℕ) (κ : Known) (jumps : Option Known) (target : ℕ) → edge_fault t a nxt (Goes (Some κ) jumps target) ≡ None → nxt < t.here.end
edge_fall t a nxt κ jumps target h =
    lt_of nxt t.here.end (unless_passes (nat_lt nxt t.here.end) Edge a (pos nxt) (pos a)
    (none_parts (unless (nat_lt nxt t.here.end) Edge a (pos nxt) (pos a)) (unless (is_none jumps || may_go_to t target) Edge a (pos target) (pos a)) h).0)

pub points_jump : (t : Sheet) (a nxt : ℕ) (falls : Option Known) (κ : Known) (target : ℕ) → points_fault t a nxt (Goes falls (Some κ) target) ≡ None → edge_implied t a target (Some κ) ≡ None
points_jump t a nxt falls κ target h = (none_parts (edge_implied t a nxt falls) (edge_implied t a target (Some κ)) h).1

pub points_fall : (t : Sheet) (a nxt : ℕ) (κ : Known) (jumps : Option Known) (target : ℕ) → points_fault t a nxt (Goes (Some κ) jumps target) ≡ None → edge_implied t a nxt (Some κ) ≡ None
points_fall t a nxt κ jumps target h = (none_parts (edge_implied t a nxt (Some κ)) (edge_implied t a target jumps) h).0

pub over_jump : (t : Sheet) (a nxt limit : ℕ) (falls : Option Known) (κ : Known) (target : ℕ) → over_fault a limit (spent_by t nxt (Goes falls (Some κ) target)) ≡ None → spent_to t target κ ≤ℤ pos limit
over_jump t a nxt limit None κ target h = one_within a limit (spent_to t target κ) [] h
over_jump t a nxt limit (Some f) κ target h = two_within a limit (spent_to t nxt f) (spent_to t target κ) [] h

pub over_fall : (t : Sheet) (a nxt limit : ℕ) (κ : Known) (jumps : Option Known) (target : ℕ) → over_fault a limit (spent_by t nxt (Goes (Some κ) jumps target)) ≡ None → spent_to t nxt κ ≤ℤ pos limit
over_fall t a nxt limit κ None target h = one_within a limit (spent_to t nxt κ) [] h
over_fall t a nxt limit κ (Some j) target h = one_within a limit (spent_to t nxt κ) (spent_to t target j ∷ []) h
