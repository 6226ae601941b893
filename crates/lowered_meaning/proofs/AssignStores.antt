-- What is stored in variables: a word of a scalar, a word of an element, or all words.
use Rattle.std.proofs.Common.{◌≡◌, ◌≢◌, ℕ, suc, ◌+◌, ◌^◌, ◌<◌, ◌≤◌, Bool, true, false, Option, Some, None, List, [], length, refl, sym, ap, ◌∙◌, subst, arith, ◌⊎◌, inl, inr, set}
use Rattle.std.proofs.lemmas.Bool.{cases_eq}
use Rattle.std.proofs.lemmas.List.{get_or-set_same, get_or-set_other, length-set}
use Rattle.std.specs.Prelude.{slice_get, slice_index_or, slice_set, nat_lt, if◌then◌else◌}
use Rattle.base_io.specs.declared.place.Place.{Place}
use Rattle.c_values.specs.declared.ops.Ty.{Ty}
use Rattle.c_values.specs.Values.{value, within, index_trap}
use Rattle.c_tree.specs.Runs.{State, Got, Done, Trapped, Part, behind_events, at_element, set_words, write, write_at}
use Rattle.flow_graph.specs.declared.graph.Graph.{Graph}
use Rattle.flow_graph.specs.declared.graph.Op.{Op}
use Rattle.flow_graph.specs.declared.graph.OpKind.TheVariants as kind
use Rattle.flow_graph.specs.declared.graph.Operand.{Operand}
use Rattle.flow_graph.specs.Operations.{words_of, word_at, with_word, operand_word}
use Rattle.flow_graph.specs.declared.nodes.Around.{Around}
use Rattle.flow_graph.specs.Flow as flow
use Rattle.flow_graph.specs.Flow.{Spot}
use Rattle.lowered_graphs.specs.Making.{Counts, copy_into, store_into, op_of, zero_operand}
use Rattle.lowered_graphs.specs.Exprs.{home, array_use, length_in}
use Rattle.lowered_meaning.specs.Tracks.{Tracks}
use Rattle.lowered_meaning.specs.Keeps.{Ground, FixedBy, Fixed, SameShape, Ready, IsHomeBy, HasHomes, Agrees}
use Rattle.lowered_meaning.specs.Leaves.{Since}
use Rattle.lowered_meaning.proofs.KeepLemmas.{words_other, length_at, fits_write, ready_on}
use Rattle.lowered_meaning.proofs.ElementSteps.{tracks_does, tracks_traps, effect_at}
use Rattle.lowered_meaning.proofs.WordsSame.{index_of}

-- each variable has an object of its own
abbrev pub HomesDiffer : Ground → Type 0
HomesDiffer w = (x y : ℕ) → w.has_object x ≡ true → w.has_object y ≡ true → home w.setting x ≡ home w.setting y → x ≡ y

abbrev pub size_of : Ground → ℕ → ℕ
size_of w x = length_in (slice_get w.setting.program.variables x)

-- a variable takes these words in the graph, and all else stays
pub record Sets (w : Ground) (x : ℕ) (ws : List ℕ) (s z : Spot) : Type 0 where
  pub words : words_of z.objects (home w.setting x) ≡ ws
  pub others : (o : ℕ) → o ≢ home w.setting x → words_of z.objects o ≡ words_of s.objects o
  pub fit : (o k : ℕ) → word_at z.objects o k < 2 ^ 16
  pub input : z.input ≡ s.input
  pub calls : z.calls ≡ s.calls

abbrev pub with_words : State → ℕ → List ℕ → State
with_words d x ws = record d { store = slice_set d.store x ws }

-- an object of a variable in scope is none that stays
pub not_fixed : (w : Ground) (h : ℕ) → IsHomeBy w h (w.owner h) → Fixed w true 0 h → ⊥
not_fixed w h is fixed = by_owner (w.owner h) is fixed
  where
    by_owner : (m : Option ℕ) → IsHomeBy w h m → FixedBy w true 0 h m → ⊥
    by_owner None i e = cc
    by_owner (Some m) i (inl e) = omega (arith, e.1)
    by_owner (Some m) i (inr e) = e.0 i.0

-- behind it x is in scope, and what was in scope is so still
pub since_set : (w : Ground) (scope scope' : ℕ → Type 0) (x : ℕ) (ws : List ℕ) (s : Spot) (d : State) (z : Spot)
    → HomesDiffer w → HasHomes w scope' → w.has_object x ≡ true → IsHomeBy w (home w.setting x) (w.owner (home w.setting x)) → ((y : ℕ) → scope' y → y ≢ x → scope y)
    → 1 ≤ size_of w x → length ws ≡ size_of w x → Agrees w scope d s → Ready w s.objects → Sets w x ws s z → Since w scope' s d (with_words d x ws) z
since_set w scope scope' x ws s d z differ homes has is_home less one size agrees ready sets = record {
  calls = sets.calls;
  agrees = record {
    variables = λ y is. variable y is (cases_eq y x);
    shape = λ y is. shaped y is (cases_eq y x);
    input = sets.input ∙ agrees.input;
    fit = sets.fit;
  };
  ready = ready_on w s.objects z.objects same_shape ready;
  kept = λ o fixed. sets.others o (λ e. not_fixed w (home w.setting x) is_home (subst (Fixed w true 0) e fixed));
  shape = same_shape;
  store = λ y fixed. get_or-set_other d.store x y ws [] (λ e. not_fixed w (home w.setting x) is_home (subst (λ v. Fixed w true 0 (home w.setting v)) e fixed));
}
  where
    there : x < length d.store
    there = length_at d.store x (omega (arith, one, agrees.shape x has))

    variable : (y : ℕ) → scope' y → ((y ≡ x) ⊎ (y ≢ x)) → words_of z.objects (home w.setting y) ≡ slice_index_or (slice_set d.store x ws) y []
    variable y is (inl e) = subst (λ v. words_of z.objects (home w.setting v) ≡ slice_index_or (slice_set d.store x ws) v []) (sym e) (sets.words ∙ sym (get_or-set_same d.store x ws [] there))
    variable y is (inr ne) = sets.others (home w.setting y) (λ e. ne (differ y x (homes y is).0 has e)) ∙ (agrees.variables y (less y is ne) ∙ sym (get_or-set_other d.store x y ws [] ne))

    shaped : (y : ℕ) → w.has_object y ≡ true → ((y ≡ x) ⊎ (y ≢ x)) → length (slice_index_or (slice_set d.store x ws) y []) ≡ size_of w y
    shaped y is (inl e) = subst (λ v. length (slice_index_or (slice_set d.store x ws) v []) ≡ size_of w v) (sym e) (ap length (get_or-set_same d.store x ws [] there) ∙ size)
    shaped y is (inr ne) = ap length (get_or-set_other d.store x y ws [] ne) ∙ agrees.shape y is

    shape_of : (o : ℕ) → ((o ≡ home w.setting x) ⊎ (o ≢ home w.setting x)) → length (words_of z.objects o) ≡ length (words_of s.objects o)
    shape_of o (inl e) = subst (λ v. length (words_of z.objects v) ≡ length (words_of s.objects v)) (sym e) (ap length sets.words ∙ (size ∙ sym (ready.variables x has)))
    shape_of o (inr ne) = ap length (sets.others o ne)

    same_shape : SameShape s.objects z.objects
    same_shape o = shape_of o (cases_eq o (home w.setting x))

-- one word
pub sets_word : (w : Ground) (x j v n : ℕ) (old : List ℕ) (s : Spot) → v < 2 ^ 16 → 1 ≤ length old → words_of s.objects (home w.setting x) ≡ old → ((o k : ℕ) → word_at s.objects o k < 2 ^ 16)
    → Sets w x (slice_set old j v) s (record s { objects = with_word s.objects (home w.setting x) j v; at = n })
sets_word w x j v n old s fits one is fit = record {
  words = get_or-set_same s.objects (home w.setting x) (set (words_of s.objects (home w.setting x)) j v) [] (length_at s.objects (home w.setting x) (omega (arith, one, ap length is)))
      ∙ ap (λ ws. slice_set ws j v) is;
  others = λ o ne. words_other s.objects o (home w.setting x) j v ne;
  fit = fits_write s.objects (home w.setting x) j v fits fit;
  input = refl;
  calls = refl;
}

-- what the stores need of the function and the variable
pub record Storable (w : Ground) (scope : ℕ → Type 0) (x : ℕ) : Type 0 where
  pub differ : HomesDiffer w
  pub homes : HasHomes w scope
  pub is : scope x
  pub one : 1 ≤ size_of w x
  pub small : size_of w x ≤ 1024

module _ (g : Graph) (w : Ground) (scope : ℕ → Type 0) (most x : ℕ) (can : Storable w scope x) where
  abbrev old_words : State → List ℕ
  old_words d = slice_index_or d.store x []

  pub since_word : (j v n : ℕ) (s : Spot) (d : State) → v < 2 ^ 16 → Agrees w scope d s → Ready w s.objects
      → Since w scope s d (with_words d x (slice_set (old_words d) j v)) (record s { objects = with_word s.objects (home w.setting x) j v; at = n })
  since_word j v n s d fits agrees ready =
      since_set w scope scope x (slice_set (old_words d) j v) s d (record s { objects = with_word s.objects (home w.setting x) j v; at = n })
      can.differ can.homes has (can.homes x can.is).1 (λ y is ne. is) can.one (length-set (old_words d) j v ∙ agrees.shape x has) agrees ready
      (sets_word w x j v n (old_words d) s fits (omega (arith, can.one, agrees.shape x has)) (agrees.variables x can.is) agrees.fit)
    where
      has : w.has_object x ≡ true
      has = (can.homes x can.is).0

  -- a word of a scalar
  pub tracks_copied : (operand : Operand) (at : Place) (c : Counts) (k : Around) (s : Spot) (d : State) (v a o : ℕ)
      → Agrees w scope d s → Ready w s.objects → operand_word s.objects operand ≡ v → v < 2 ^ 16
      → Tracks g most a (a + most) (suc o) o (write x v d) k (copy_into (home w.setting x) operand at c).items s (λ u e z. Since w scope s d e z)
  tracks_copied operand at c k s d v a o agrees ready value fits =
      tracks_does g most a o k (op_of kind.Copy (Some (home w.setting x)) operand zero_operand None at c.op) (tt {0}) (with_words d x (slice_set (old_words d) 0 v)) s
      (record s { objects = with_word s.objects (home w.setting x) 0 v }) (λ u e z. Since w scope s d e z) refl
      (ap (λ u. flow.Went [] (record s { objects = with_word s.objects (home w.setting x) 0 u })) value) refl (since_word 0 v k.behind s d fits agrees ready)

  -- what is stored in an array, by whether the index is within it
  abbrev stored_in : Bool → ℕ → ℕ → State → Got (Unit {0})
  stored_in true j v d = Done [] tt (with_words d x (slice_set (old_words d) j v))
  stored_in false j v d = Trapped [] index_trap

  write_is : (i v : ℕ) (ty : Ty) (d : State) → length (old_words d) ≡ size_of w x → i < 2 ^ 16 → write_at x ty i v d ≡ stored_in (nat_lt i (size_of w x)) i v d
  write_is i v ty d is fits = ap (λ p. behind_events [] (at_element p f d)) (ap (λ l. within l (value ty i)) is ∙ index_of ty (size_of w x) i can.small fits) ∙ by_case (nat_lt i (size_of w x))
    where
      f : ℕ → Part (Unit {0})
      f j = set_words x (slice_set (old_words d) j v)

      by_case : (b : Bool) → behind_events [] (at_element (if b then Some i else None) f d) ≡ stored_in b i v d
      by_case true = refl
      by_case false = refl

  -- a word of an element
  pub tracks_stored : (operand index : Operand) (ty : Ty) (at : Place) (c : Counts) (k : Around) (s : Spot) (d : State) (v i a o : ℕ)
      → Agrees w scope d s → Ready w s.objects → operand_word s.objects operand ≡ v → v < 2 ^ 16 → operand_word s.objects index ≡ i → i < 2 ^ 16
      → Tracks g most a (a + most) (suc o) o (write_at x ty i v d) k (store_into (array_use w.setting x) operand index at c).items s (λ u e z. Since w scope s d e z)
  tracks_stored operand index ty at c k s d v i a o agrees ready value fits place fiti =
      subst (λ r. Tracks g most a (a + most) (suc o) o r k (store_into (array_use w.setting x) operand index at c).items s goal)
      (sym (write_is i v ty d (agrees.shape x (can.homes x can.is).0) fiti)) (by_case (nat_lt i (size_of w x)) refl)
    where
      goal : Unit {0} → State → Spot → Type 0
      goal u e z = Since w scope s d e z

      op : Op
      op = op_of kind.Store None operand index (Some (array_use w.setting x)) at c.op

      to : Spot
      to = record s { objects = with_word s.objects (home w.setting x) i v }

      effect : effect_at op s ≡ flow.at_element (nat_lt i (size_of w x)) (flow.Went [] to)
      effect = ap (λ u. flow.store (Some (array_use w.setting x)) u (operand_word s.objects index) s) value ∙ ap (λ j. flow.store (Some (array_use w.setting x)) v j s) place

      by_case : (b : Bool) → nat_lt i (size_of w x) ≡ b → Tracks g most a (a + most) (suc o) o (stored_in b i v d) k (store_into (array_use w.setting x) operand index at c).items s goal
      by_case true e = tracks_does g most a o k op (tt {0}) (with_words d x (slice_set (old_words d) i v)) s to goal refl (effect ∙ ap (λ b. flow.at_element b (flow.Went [] to)) e) refl (since_word i v k.behind s d fits agrees ready)
      by_case false e = tracks_traps g most a (a + most) o o index_trap k op s goal refl (effect ∙ ap (λ b. flow.at_element b (flow.Went [] to)) e)
