-- Parameters take arguments; what stays as it is for the caller does so in the function that it calls.
use Rattle.std.proofs.Common.{◌≡◌, ◌≢◌, ℕ, suc, ◌+◌, ◌^◌, ◌<◌, true, Option, Some, None, List, [], ◌∷◌, length, refl, sym, ap, ◌∙◌, subst, arith, ◌⊎◌, inl, inr}
use Rattle.std.specs.Prelude.{⊤, slice_index_or, slice_set}
use Rattle.base_io.specs.declared.place.Place.{Place}
use Rattle.c_tree.specs.Runs.{State, Done, write}
use Rattle.c_tree.specs.Nodes.{bind}
use Rattle.flow_graph.specs.declared.graph.Graph.{Graph}
use Rattle.flow_graph.specs.declared.graph.OpKind.TheVariants as kind
use Rattle.flow_graph.specs.declared.graph.Operand.{Operand}
use Rattle.flow_graph.specs.declared.graph.Operand.TheVariants.{Const, Object}
use Rattle.flow_graph.specs.Operations.{Words, words_of, with_word, operand_word}
use Rattle.flow_graph.specs.declared.nodes.Around.{Around}
use Rattle.flow_graph.specs.Nodes.{at_behind, first_of, laid_items}
use Rattle.flow_graph.specs.Flow as flow
use Rattle.flow_graph.specs.Flow.{Spot}
use Rattle.lowered_graphs.specs.Making.{Counts, Made, copy_into, op_of, zero_operand}
use Rattle.lowered_graphs.specs.Exprs.{home, copy_arguments}
use Rattle.lowered_meaning.specs.Tracks.{Tracks}
use Rattle.lowered_meaning.specs.Keeps.{Ground, FixedBy, Fixed, Ready, IsHomeBy, HasHomes, Agrees}
use Rattle.lowered_meaning.specs.Leaves.{Since}
use Rattle.lowered_meaning.proofs.TrackLemmas.{tracks_append, tracks_weaker, tracks_none}
use Rattle.lowered_meaning.proofs.KeepLemmas.{words_other}
use Rattle.lowered_meaning.proofs.SinceLemmas.{since_start, since_both}
use Rattle.lowered_meaning.proofs.ElementSteps.{tracks_does}
use Rattle.lowered_meaning.proofs.AssignStores.{HomesDiffer, size_of, Sets, with_words, since_set, sets_word}
use Rattle.lowered_meaning.proofs.CallsArguments.{WordsAre}

-- ---- a scalar that comes into scope

one_word : (ws : List ℕ) (v : ℕ) → length ws ≡ 1 → slice_set ws 0 v ≡ v ∷ []
one_word [] v e = absurd (omega (arith, e))
one_word (w ∷ []) v e = refl
one_word (w ∷ u ∷ ws) v e = absurd (omega (arith, e))

-- what a variable needs that comes into scope
pub record Enters (w : Ground) (scope scope' : ℕ → Type 0) (x : ℕ) : Type 0 where
  pub differ : HomesDiffer w
  pub homes : HasHomes w scope'
  pub has : w.has_object x ≡ true
  pub home_is : IsHomeBy w (home w.setting x) (w.owner (home w.setting x))
  pub less : (y : ℕ) → scope' y → y ≢ x → scope y

pub tracks_taken : (g : Graph) (w : Ground) (scope scope' : ℕ → Type 0) (most x : ℕ) (operand : Operand) (at : Place) (c : Counts) (k : Around) (s : Spot) (d : State) (v a o : ℕ)
    → Enters w scope scope' x → size_of w x ≡ 1 → Agrees w scope d s → Ready w s.objects → operand_word s.objects operand ≡ v → v < 2 ^ 16
    → Tracks g most a (a + most) (suc o) o (write x v d) k (copy_into (home w.setting x) operand at c).items s
    (λ u e z. Since w scope' s d e z × (z.objects ≡ with_word s.objects (home w.setting x) 0 v))
tracks_taken g w scope scope' most x operand at c k s d v a o enters one agrees ready value fits =
    tracks_does g most a o k (op_of kind.Copy (Some (home w.setting x)) operand zero_operand None at c.op) (tt {0}) (with_words d x (slice_set (slice_index_or d.store x []) 0 v)) s
    (record s { objects = with_word s.objects (home w.setting x) 0 v }) (λ u e z. Since w scope' s d e z × (z.objects ≡ with_word s.objects (home w.setting x) 0 v)) refl
    (ap (λ u. flow.Went [] (record s { objects = with_word s.objects (home w.setting x) 0 u })) value) refl (
      subst (λ ws. Since w scope' s d (with_words d x ws) to) (sym (one_word (slice_index_or d.store x []) v (agrees.shape x enters.has ∙ one)))
          (since_set w scope scope' x (v ∷ []) s d to enters.differ enters.homes enters.has enters.home_is enters.less (omega (arith, one)) (sym one) agrees ready
          (subst (λ ws. Sets w x ws s to) (one_word (words_of s.objects (home w.setting x)) v (ready.variables x enters.has ∙ one))
          (sets_word w x 0 v k.behind (words_of s.objects (home w.setting x)) s fits (omega (arith, ready.variables x enters.has, one)) refl agrees.fit))),
      refl,
    )
  where
    to : Spot
    to = record s { objects = with_word s.objects (home w.setting x) 0 v; at = k.behind }

-- ---- parameters

-- behind the parameters that are bound
abbrev pub Bind : (ℕ → Type 0) → List ℕ → ℕ → Type 0
Bind base [] = base
Bind base (x ∷ xs) = Bind (λ y. (y ≡ x) ⊎ base y) xs

-- a scalar of the function's own
pub record IsOwnScalar (w : Ground) (x : ℕ) : Type 0 where
  pub has : w.has_object x ≡ true
  pub own : w.owner (home w.setting x) ≡ Some w.function
  pub before : home w.setting x < w.base
  pub one : size_of w x ≡ 1

abbrev pub AreParameters : Ground → List ℕ → Type 0
AreParameters w [] = ⊤
AreParameters w (x ∷ xs) = IsOwnScalar w x × AreParameters w xs

-- the operands are no objects of the function
abbrev pub IsElsewhere : Ground → Operand → Type 0
IsElsewhere w (Const n) = ⊤
IsElsewhere w (Object o) = w.owner o ≢ Some w.function

abbrev pub AreElsewhere : Ground → List Operand → Type 0
AreElsewhere w [] = ⊤
AreElsewhere w (x ∷ xs) = IsElsewhere w x × AreElsewhere w xs

own_home : (w : Ground) (x : ℕ) → IsOwnScalar w x → IsHomeBy w (home w.setting x) (w.owner (home w.setting x))
own_home w x is = subst (IsHomeBy w (home w.setting x)) (sym is.own) (refl, is.before)

pub homes_bind : (w : Ground) (base : ℕ → Type 0) (x : ℕ) → HasHomes w base → IsOwnScalar w x → HasHomes w (λ y. (y ≡ x) ⊎ base y)
homes_bind w base x homes is y (inl e) = subst (λ v. (w.has_object v ≡ true) × IsHomeBy w (home w.setting v) (w.owner (home w.setting v))) (sym e) (is.has, own_home w x is)
homes_bind w base x homes is y (inr b) = homes y b

word_elsewhere : (w : Ground) (x : ℕ) (v : ℕ) (a : Operand) (old : Words) → IsOwnScalar w x → IsElsewhere w a → operand_word (with_word old (home w.setting x) 0 v) a ≡ operand_word old a
word_elsewhere w x v (Const n) old is e = refl
word_elsewhere w x v (Object o) old is e = ap (λ ws. slice_index_or ws 0 0) (words_other old o (home w.setting x) 0 v (λ q. e (ap w.owner q ∙ is.own)))

words_elsewhere : (w : Ground) (x v : ℕ) (bs : List Operand) (vs : List ℕ) (old : Words) → IsOwnScalar w x → AreElsewhere w bs → WordsAre old bs vs → WordsAre (with_word old (home w.setting x) 0 v) bs vs
words_elsewhere w x v [] [] old is e h = tt
words_elsewhere w x v (a ∷ bs) (u ∷ vs) old is e h = ((word_elsewhere w x v a old is e.0 ∙ h.0.0, h.0.1), words_elsewhere w x v bs vs old is e.1 h.1)
words_elsewhere w x v [] (u ∷ vs) old is e h = absurd h
words_elsewhere w x v (a ∷ bs) [] old is e h = absurd h

pub tracks_bound : (g : Graph) (w : Ground) (most : ℕ) (params : List ℕ) (operands : List Operand) (vs : List ℕ) (base : ℕ → Type 0) (at : Place) (c : Counts) (k : Around) (s : Spot) (d : State) (a o : ℕ)
    → HomesDiffer w → HasHomes w base → AreParameters w params → length operands ≡ length params → AreElsewhere w operands → WordsAre s.objects operands vs → Agrees w base d s → Ready w s.objects
    → Tracks g most a a (length params + o) o (bind params vs d) k (copy_arguments w.setting params operands at c).items s (λ u e z. Since w (Bind base params) s d e z)
tracks_bound g w most [] operands vs base at c k s d a o differ homes params same elsewhere words agrees ready =
    tracks_weaker g most a a o o a a (0 + o) o (Done [] (tt {0}) d) k [] s goal goal (omega arith) (omega arith) (omega arith) (omega arith) (λ u e z r. r)
    (tracks_none g most a o (tt {0}) d k s goal (since_start w base s d agrees ready))
  where
    goal : Unit {0} → State → Spot → Type 0
    goal u e z = Since w base s d e z
tracks_bound g w most (x ∷ params) [] vs base at c k s d a o differ homes params' same elsewhere words agrees ready = absurd (omega (arith, same))
tracks_bound g w most (x ∷ params) (b ∷ operands) [] base at c k s d a o differ homes params' same elsewhere words agrees ready = absurd words
tracks_bound g w most (x ∷ params) (b ∷ operands) (v ∷ vs) base at c k s d a o differ homes params' same elsewhere words agrees ready =
    tracks_append g most a a a (length (x ∷ params) + o) (length params + o) o (write x v d) (λ _. bind params vs) k (copy_into (home w.setting x) b at c).items rest.items s (λ u e z. Since w (λ y. (y ≡ x) ⊎ base y) s d e z × (z.objects ≡ with_word s.objects (home w.setting x) 0 v)) goal
    (tracks_weaker g most a (a + most) (suc (length params + o)) (length params + o) a a (length (x ∷ params) + o) (length params + o) (write x v d) (at_behind k (first_of (laid_items rest.items) k.behind)) (copy_into (home w.setting x) b at c).items s
    (λ u e z. Since w (λ y. (y ≡ x) ⊎ base y) s d e z × (z.objects ≡ with_word s.objects (home w.setting x) 0 v)) (λ u e z. Since w (λ y. (y ≡ x) ⊎ base y) s d e z × (z.objects ≡ with_word s.objects (home w.setting x) 0 v))
    (omega arith) (omega arith) (omega arith) (omega arith) (λ u e z r. r)
    (tracks_taken g w base (λ y. (y ≡ x) ⊎ base y) most x b at c (at_behind k (first_of (laid_items rest.items) k.behind)) s d v a (length params + o)
    (record { differ = differ; homes = homes_bind w base x homes params'.0; has = params'.0.has; home_is = own_home w x params'.0; less = by_other }) params'.0.one agrees ready words.0.0 words.0.1))
    (λ u e z cs r. tracks_weaker g most a a (length params + o) o a a (length params + o) o (bind params vs e) k rest.items z (λ u' e' z'. Since w (Bind base (x ∷ params)) z e e' z') goal (omega arith) (omega arith) (omega arith) (omega arith)
    (λ u' e' z' q. since_both w (λ y. (y ≡ x) ⊎ base y) (Bind base (x ∷ params)) s d e e' z z' r.0 q)
    (tracks_bound g w most params operands vs (λ y. (y ≡ x) ⊎ base y) at (copy_into (home w.setting x) b at c).counts k z e a o differ (homes_bind w base x homes params'.0) params'.1 (omega (arith, same)) elsewhere.1
    (subst (λ ws. WordsAre ws operands vs) (sym r.1) (words_elsewhere w x v operands vs s.objects params'.0 elsewhere.1 words.1)) r.0.agrees r.0.ready))
  where
    rest : Made (Unit {0})
    rest = copy_arguments w.setting params operands at (copy_into (home w.setting x) b at c).counts

    goal : Unit {0} → State → Spot → Type 0
    goal u e z = Since w (Bind base (x ∷ params)) s d e z

    by_other : (y : ℕ) → ((y ≡ x) ⊎ base y) → y ≢ x → base y
    by_other y (inl e) ne = absurd (ne e)
    by_other y (inr h) ne = h

-- ---- what stays

abbrev pub height : Ground → ℕ → ℕ
height w f = slice_index_or w.heights f 0

-- the function that is called, where it stands below
abbrev pub function_of : Ground → (f base top : ℕ) → Ground
function_of w f base top = record w { function = f; base = base; top = top }

pub fixed_called : (w : Ground) (f base top t o : ℕ) → height w f < height w w.function → Fixed w true t o → Fixed (function_of w f base top) true 0 o
fixed_called w f base top t o lower fixed = by_owner (w.owner o) fixed
  where
    by_owner : (m : Option ℕ) → FixedBy w true t o m → FixedBy (function_of w f base top) true 0 o m
    by_owner None e = e
    by_owner (Some m) (inl e) = inr ((λ q. omega (arith, lower, ap (height w) q, ap (height w) e.0)), inr (omega (arith, lower, ap (height w) e.0)))
    by_owner (Some m) (inr (ne, inl e)) = cc
    by_owner (Some m) (inr (ne, inr le)) = inr ((λ q. omega (arith, lower, ap (height w) q, le)), inr (omega (arith, lower, le)))
