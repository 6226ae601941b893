-- The least of the first other keys is the least of all.
use Rattle.std.specs.Prelude.{option_and_then, map}
use Rattle.std.proofs.Common.{◌≡◌, ◌∙◌, ◌⊎◌, ℕ, true, false, List, [], ◌∷◌, Option, Some, None, IsSome, Ok, option_map, refl, sym, ap, subst, inl, inr, true≢false, codes}
use Rattle.std.proofs.lemmas.Bool.{cases_Bool}
use Rattle.std.proofs.lemmas.Slice.Eq.{bytes_eq-Decides}
use Rattle.std.specs.List.{AllByRecursion}
use Rattle.std.specs.Str.{bytes_eq}
use Rattle.toml.specs.Data.{Data, string, integer, float, boolean, datetime, array, table, Members, get_member}
use Rattle.board_table.specs.Keys.{Path, Text, written}
use Rattle.board_table.specs.Others.{AtMost, IsLeast, IsLeastOther, IsOtherPath, found}
use Rattle.board_table.specs.Reading.{cost_at, number_at, path_of}
use Rattle.board_table.specs.Steps.{AscendsBelow, IsInOrder, access_names, access_readings, ascends, core_names, core_readings, first_other, least_other, other_below, top_names}
use Rattle.board_table.proofs.Names.{is_among, is_board_key, same_paths}
use Rattle.board_table.proofs.Order.{IsOtherKey, at_most_front, at_most_itself, at_most_path, first_least, least_either, least_path, least_wider}

no_none : (A : Type 0) → IsSome {T = A} None → ⊥
no_none A h = true≢false (sym h)

-- ---- what a number and a table of numbers are

-- nothing stands below
abbrev IsLeaf : Option Data → Type 0
IsLeaf d = (l : Text) (ks : Path) → option_and_then (found (l ∷ ks)) d ≡ None

leaf_data : (d : Data) (n : ℕ) (least most : ℕ) (path : Text) → number_at least most path (Some d) ≡ Ok n → IsLeaf (Some d)
leaf_data (table ms) n least most path e = cc
leaf_data (integer z) n least most path e = λ l ks. refl
leaf_data (string s) n least most path e = λ l ks. refl
leaf_data (float x) n least most path e = λ l ks. refl
leaf_data (boolean b) n least most path e = λ l ks. refl
leaf_data (datetime t) n least most path e = λ l ks. refl
leaf_data (array ds) n least most path e = λ l ks. refl

leaf : (d : Option Data) (n : ℕ) (least most : ℕ) (path : Text) → number_at least most path d ≡ Ok n → IsLeaf d
leaf None n least most path e = λ l ks. refl
leaf (Some d) n least most path e = leaf_data d n least most path e

abbrev head_or : {A : Type 0} → A → List A → A
head_or a [] = a
head_or a (x ∷ xs) = x

abbrev rest_of : {A : Type 0} → List A → List A
rest_of [] = []
rest_of (x ∷ xs) = xs

first_same : {A : Type 0} (x y : A) (xs ys : List A) → x ∷ xs ≡ y ∷ ys → x ≡ y
first_same x y xs ys e = ap (head_or x) e

rest_same : {A : Type 0} (x y : A) (xs ys : List A) → x ∷ xs ≡ y ∷ ys → xs ≡ ys
rest_same x y xs ys e = ap rest_of e

-- a table whose keys are all read has leaves there
all_leaves : (ms : Members) (least : ℕ) (name : Text) (keys : List Text) (ns : List ℕ)
    → map (λ key. cost_at least 1000000 name key (Some (table ms))) keys ≡ map Ok ns → AllByRecursion (λ key. IsLeaf (get_member key ms)) keys
all_leaves ms least name [] ns e = tt
all_leaves ms least name (k ∷ keys) [] e = cc
all_leaves ms least name (k ∷ keys) (n ∷ ns) e = (leaf (get_member k ms) n least 1000000 (path_of name k) (first_same _ _ _ _ e), all_leaves ms least name keys ns (rest_same _ _ _ _ e))

-- the table that stands under a name, and that these keys of it are leaves
pub record Costs (keys : List Text) (d : Option Data) : Type 0 where
  pub members : Members
  pub is : d ≡ Some (table members)
  pub leaves : AllByRecursion (λ key. IsLeaf (get_member key members)) keys

costs_at : (least : ℕ) (name key : Text) (keys : List Text) (ns : List ℕ) (d : Option Data)
    → map (λ k. cost_at least 1000000 name k d) (key ∷ keys) ≡ map Ok ns → Costs (key ∷ keys) d
costs_at least name key keys [] d e = cc
costs_at least name key keys (n ∷ ns) None e = cc
costs_at least name key keys (n ∷ ns) (Some (table ms)) e = record { members = ms; is = refl; leaves = all_leaves ms least name (key ∷ keys) (n ∷ ns) e }
costs_at least name key keys (n ∷ ns) (Some (integer z)) e = cc
costs_at least name key keys (n ∷ ns) (Some (string s)) e = cc
costs_at least name key keys (n ∷ ns) (Some (float x)) e = cc
costs_at least name key keys (n ∷ ns) (Some (boolean b)) e = cc
costs_at least name key keys (n ∷ ns) (Some (datetime t)) e = cc
costs_at least name key keys (n ∷ ns) (Some (array ds)) e = cc

-- ---- from paths to keys and back

same_text : (a b : Text) → bytes_eq a b ≡ true → a ≡ b
same_text a b e = (bytes_eq-Decides a b).0 e

-- a key that is among these is a leaf, where each of them is
leaf_among : (ms : Members) (keys : List Text) (k : Text) → AllByRecursion (λ key. IsLeaf (get_member key ms)) keys → is_among k keys ≡ true → IsLeaf (get_member k ms)
leaf_among ms [] k all e = absurd (true≢false (sym e))
leaf_among ms (key ∷ keys) k (here, rest) e = elim (cases_Bool (bytes_eq key k)) [
  | inl same ↦ subst (λ (t : Text). IsLeaf (get_member t ms)) (same_text key k same) here
  | inr apart ↦ leaf_among ms keys k rest (rw apart at e)
]

some_kept : (o : Option Data) → IsSome o → IsSome (option_and_then (found []) o)
some_kept None h = h
some_kept (Some d) h = refl

some_before : (ks : Path) (o : Option Data) → IsSome (option_and_then (found ks) o) → IsSome o
some_before ks None h = h
some_before ks (Some d) h = refl

-- the written path of a longer path is not below its first name
written_front : (k : Text) (ks : Path) → AtMost k (written (k ∷ ks))
written_front k [] = at_most_itself k
written_front k (l ∷ ks) = at_most_front k (46 ∷ written (l ∷ ks))

module _ (ms core access : Members) (core_is : get_member (codes "core") ms ≡ Some (table core)) (access_is : get_member (codes "access") ms ≡ Some (table access)) where
  abbrev CorePath : Text → Type 0
  CorePath s = (t : Text) × IsOtherKey core_names core t × (s ≡ path_of (codes "core") t)

  abbrev AccessPath : Text → Type 0
  AccessPath s = (t : Text) × IsOtherKey access_names access t × (s ≡ path_of (codes "access") t)

  abbrev Candidate : Text → Type 0
  Candidate u = (IsOtherKey top_names ms u ⊎ CorePath u) ⊎ AccessPath u

  into_path : (t : Text) → Candidate t → IsOtherPath ms t
  into_path t (inl (inl (h, other))) = record { path = t ∷ []; key = some_kept (get_member t ms) h; other = same_paths (t ∷ []) ∙ other; text = refl }
  into_path t (inl (inr (k, (h, other), is))) = record {
    path = codes "core" ∷ k ∷ [];
    key = subst (λ (o : Option Data). IsSome (option_and_then (found (k ∷ [])) o)) (sym core_is) (some_kept (get_member k core) h);
    other = same_paths (codes "core" ∷ k ∷ []) ∙ rw other refl;
    text = sym is;
  }
  into_path t (inr (k, (h, other), is)) = record {
    path = codes "access" ∷ k ∷ [];
    key = subst (λ (o : Option Data). IsSome (option_and_then (found (k ∷ [])) o)) (sym access_is) (some_kept (get_member k access) h);
    other = same_paths (codes "access" ∷ k ∷ []) ∙ rw other refl;
    text = sym is;
  }

  module _ (budget_leaf : IsLeaf (get_member (codes "budget") ms)) (core_leaves : AllByRecursion (λ key. IsLeaf (get_member key core)) core_names)
      (access_leaves : AllByRecursion (λ key. IsLeaf (get_member key access)) access_names) where
    abbrev Back : Text → Type 0
    Back s = (t : Text) × Candidate t × AtMost t s

    in_core : (l : Text) (ks : Path) → IsSome (found (l ∷ ks) (table core)) → is_board_key (codes "core" ∷ l ∷ ks) ≡ false → Back (written (codes "core" ∷ l ∷ ks))
    in_core l ks h other = elim (cases_Bool (is_among l core_names)) [
      | inr e ↦ (path_of (codes "core") l, inl (inr (l, (some_before ks (get_member l core) h, e), refl)), at_most_path (codes "core") l (written (l ∷ ks)) (written_front l ks))
      | inl e ↦ absurd (known_core l ks h other e)
    ]
      where
        known_core : (l : Text) (ks : Path) → IsSome (found (l ∷ ks) (table core)) → is_board_key (codes "core" ∷ l ∷ ks) ≡ false → is_among l core_names ≡ true → ⊥
        known_core l [] h other e = true≢false (rw e at other)
        known_core l (m ∷ ks) h other e = no_none Data (subst (λ (o : Option Data). IsSome o) (leaf_among core core_names l core_leaves e m ks) h)

    in_access : (l : Text) (ks : Path) → IsSome (found (l ∷ ks) (table access)) → is_board_key (codes "access" ∷ l ∷ ks) ≡ false → Back (written (codes "access" ∷ l ∷ ks))
    in_access l ks h other = elim (cases_Bool (is_among l access_names)) [
      | inr e ↦ (path_of (codes "access") l, inr (l, (some_before ks (get_member l access) h, e), refl), at_most_path (codes "access") l (written (l ∷ ks)) (written_front l ks))
      | inl e ↦ absurd (known_access l ks h other e)
    ]
      where
        known_access : (l : Text) (ks : Path) → IsSome (found (l ∷ ks) (table access)) → is_board_key (codes "access" ∷ l ∷ ks) ≡ false → is_among l access_names ≡ true → ⊥
        known_access l [] h other e = true≢false (rw e at other)
        known_access l (m ∷ ks) h other e = no_none Data (subst (λ (o : Option Data). IsSome o) (leaf_among access access_names l access_leaves e m ks) h)

    back_long : (k l : Text) (ks : Path) → IsSome (found (k ∷ l ∷ ks) (table ms)) → is_board_key (k ∷ l ∷ ks) ≡ false → Back (written (k ∷ l ∷ ks))
    back_long k l ks h other = elim (cases_Bool (bytes_eq (codes "budget") k)) [
      | inl b ↦
          let none : option_and_then (found (l ∷ ks)) (get_member k ms) ≡ None = subst (λ (t : Text). option_and_then (found (l ∷ ks)) (get_member t ms) ≡ None) (same_text (codes "budget") k b) (budget_leaf l ks) in
          absurd (no_none Data (subst (λ (o : Option Data). IsSome o) none h))
      | inr b ↦ elim (cases_Bool (bytes_eq (codes "core") k)) [
        | inl c ↦ core_long k l ks (same_text (codes "core") k c) h other
        | inr c ↦ elim (cases_Bool (bytes_eq (codes "access") k)) [
          | inl a ↦ access_long k l ks (same_text (codes "access") k a) h other
          | inr a ↦
              let e : is_among k top_names ≡ false = rw (b, c, a) in
              (k, inl (inl (some_before (l ∷ ks) (get_member k ms) h, e)), written_front k (l ∷ ks))
        ]
      ]
    ]
      where
        core_long : (k l : Text) (ks : Path) → codes "core" ≡ k → IsSome (found (k ∷ l ∷ ks) (table ms)) → is_board_key (k ∷ l ∷ ks) ≡ false → Back (written (k ∷ l ∷ ks))
        core_long k l ks is h other =
            let at : Text → Type 0 = λ t. IsSome (found (t ∷ l ∷ ks) (table ms)) → is_board_key (t ∷ l ∷ ks) ≡ false → Back (written (t ∷ l ∷ ks)) in
            subst at is (λ h other. in_core l ks (subst (λ (o : Option Data). IsSome (option_and_then (found (l ∷ ks)) o)) core_is h) other) h other

        access_long : (k l : Text) (ks : Path) → codes "access" ≡ k → IsSome (found (k ∷ l ∷ ks) (table ms)) → is_board_key (k ∷ l ∷ ks) ≡ false → Back (written (k ∷ l ∷ ks))
        access_long k l ks is h other =
            let at : Text → Type 0 = λ t. IsSome (found (t ∷ l ∷ ks) (table ms)) → is_board_key (t ∷ l ∷ ks) ≡ false → Back (written (t ∷ l ∷ ks)) in
            subst at is (λ h other. in_access l ks (subst (λ (o : Option Data). IsSome (option_and_then (found (l ∷ ks)) o)) access_is h) other) h other

    back_path : (p : Path) → IsSome (found p (table ms)) → is_board_key p ≡ false → Back (written p)
    back_path [] h other = absurd (true≢false other)
    back_path (k ∷ []) h other = (k, inl (inl (some_before [] (get_member k ms) h, other)), at_most_itself k)
    back_path (k ∷ l ∷ ks) h other = back_long k l ks h other

    back : (s : Text) → IsOtherPath ms s → Back s
    back s o = subst Back o.text (back_path o.path o.key (sym (same_paths o.path) ∙ o.other))

    least_here : ascends ms ≡ true → ascends core ≡ true → ascends access ≡ true → IsLeast (IsOtherPath ms) (least_other ms)
    unfolding least_other
    least_here a b c =
        let core_other : other_below (codes "core") core_names (get_member (codes "core") ms) ≡ option_map (path_of (codes "core")) (first_other core_names core) = ap (other_below (codes "core") core_names) core_is in
        let access_other : other_below (codes "access") access_names (get_member (codes "access") ms) ≡ option_map (path_of (codes "access")) (first_other access_names access) =
        ap (other_below (codes "access") access_names) access_is in
        let top = first_least top_names ms a in
        let in_c = subst (IsLeast CorePath) (sym core_other) (least_path (IsOtherKey core_names core) (codes "core") (first_other core_names core) (first_least core_names core b)) in
        let in_a = subst (IsLeast AccessPath) (sym access_other) (least_path (IsOtherKey access_names access) (codes "access") (first_other access_names access) (first_least access_names access c)) in
        least_wider Candidate (IsOtherPath ms) into_path back (least_other ms)
        (least_either (λ u. IsOtherKey top_names ms u ⊎ CorePath u) AccessPath _ _ (least_either (IsOtherKey top_names ms) CorePath _ _ top in_c) in_a)

-- the names behind the first
abbrev core_others : List Text
core_others = rest_of core_names

abbrev access_others : List Text
access_others = rest_of access_names

-- where the board's own keys are as they should be, the least other is the least of all
pub least_law : (ms : Members) (n : ℕ) (core access : List ℕ) → IsInOrder ms → number_at 1 1000000000 (codes "budget") (get_member (codes "budget") ms) ≡ Ok n
    → core_readings (get_member (codes "core") ms) ≡ map Ok core → access_readings (get_member (codes "access") ms) ≡ map Ok access → IsLeastOther ms (least_other ms)
least_law ms n core access order budget_ok core_ok access_ok =
    let c : Costs core_names (get_member (codes "core") ms) = costs_at 1 (codes "core") (codes "move") core_others core _ core_ok in
    let a : Costs access_names (get_member (codes "access") ms) = costs_at 0 (codes "access") (codes "fetch") access_others access _ access_ok in
    least_here ms c.members a.members c.is a.is (leaf _ n 1 1000000000 (codes "budget") budget_ok) c.leaves a.leaves order.top (subst AscendsBelow c.is order.core) (subst AscendsBelow a.is order.access)
