-- The least of some texts.
use Rattle.std.specs.Prelude.{if◌then◌else◌}
use Rattle.std.proofs.Common.{◌≡◌, ◌∙◌, ◌⊎◌, ◌++◌, Bool, true, false, List, [], ◌∷◌, Option, Some, None, IsSome, option_map, Ordering, Less, Equal, Greater, refl, sym, ap, subst, inl, inr, true≢false, nat_cmp, is_lt, is_eq}
use Rattle.std.proofs.lemmas.Bool.{and_parts}
use Rattle.std.proofs.lemmas.Cmp.{nat_list_cmp_total, nat_cmp_total, tied_itself}
use Rattle.std.proofs.lemmas.Map.Text.{is_eq-slice_cmp}
use Rattle.std.proofs.lemmas.Slice.Eq.{bytes_eq-Decides}
use Rattle.std.specs.Ordering.{match_ordering, ordering_reverse, ordering_then}
use Rattle.std.specs.Cmp.Lexicographic.{slice_cmp}
use Rattle.std.specs.List.{list_any}
use Rattle.std.specs.Str.{bytes_eq}
use Rattle.toml.specs.Data.{Data, Members, no_members, member, get_member, is_before}
use Rattle.std.specs.List.Sorted.{IsStrictlySortedBy}
use Rattle.std.specs.Map.{keys_of}
use Rattle.std.specs.String.{string_cmp}
use Rattle.toml.specs.View.{members_view}
use Rattle.toml.proofs.Views.{Entry, is_before-sorted}
use Rattle.board_table.specs.Keys.{Text}
use Rattle.board_table.specs.Others.{AtMost, IsLeast}
use Rattle.board_table.specs.Reading.{path_of}
use Rattle.board_table.specs.Steps.{ascends, first_other, lesser}

abbrev cmp : Text → Text → Ordering
cmp a b = slice_cmp nat_cmp a b

same_text : (a b : Text) → cmp a b ≡ Equal → a ≡ b
same_text a b e = (bytes_eq-Decides a b).0 (sym (is_eq-slice_cmp a b) ∙ ap is_eq e)

pub at_most_itself : (a : Text) → AtMost a a
at_most_itself a = ap is_lt (tied_itself nat_list_cmp_total a)

pub at_most_less : (a b : Text) → cmp a b ≡ Less → AtMost a b
at_most_less a b e = ap is_lt (nat_list_cmp_total.antisymm b a ∙ ap ordering_reverse e)

less_is : (o : Ordering) → is_lt o ≡ true → o ≡ Less
less_is Less e = refl
less_is Equal e = absurd (true≢false (sym e))
less_is Greater e = absurd (true≢false (sym e))

pub at_most_lt : (a b : Text) → is_lt (cmp a b) ≡ true → AtMost a b
at_most_lt a b e = at_most_less a b (less_is (cmp a b) e)

trans_by : (o p : Ordering) (a b c : Text) → o ≡ cmp a b → p ≡ cmp c a → AtMost a b → AtMost b c → is_lt p ≡ false
trans_by o Equal a b c e f ab bc = refl
trans_by o Greater a b c e f ab bc = refl
trans_by Less Less a b c e f ab bc = absurd (true≢false (sym (ap is_lt (nat_list_cmp_total.trans c a b (sym f) (sym e))) ∙ bc))
trans_by Equal Less a b c e f ab bc = absurd (true≢false (ap is_lt f ∙ ap (λ (t : Text). is_lt (cmp c t)) (same_text a b (sym e)) ∙ bc))
trans_by Greater Less a b c e f ab bc = absurd (true≢false (sym (ap is_lt (nat_list_cmp_total.antisymm b a ∙ ap ordering_reverse (sym e))) ∙ ab))

pub at_most_trans : (a b c : Text) → AtMost a b → AtMost b c → AtMost a c
at_most_trans a b c ab bc = trans_by (cmp a b) (cmp c a) a b c refl refl ab bc

-- a text is at most what it begins
pub at_most_front : (a b : Text) → AtMost a (a ++ b)
at_most_front [] [] = refl
at_most_front [] (y ∷ b) = refl
at_most_front (x ∷ a) b = ap (λ (o : Ordering). is_lt (ordering_then o (cmp (a ++ b) a))) (tied_itself nat_cmp_total x) ∙ at_most_front a b

same_front : (p a b : Text) → cmp (p ++ a) (p ++ b) ≡ cmp a b
same_front [] a b = refl
same_front (x ∷ p) a b = ap (λ (o : Ordering). ordering_then o (cmp (p ++ a) (p ++ b))) (tied_itself nat_cmp_total x) ∙ same_front p a b

pub at_most_path : (name a b : Text) → AtMost a b → AtMost (path_of name a) (path_of name b)
at_most_path name a b h = ap is_lt (same_front name (46 ∷ b) (46 ∷ a)) ∙ h

-- ---- least texts

pub least_path : (P : Text → Type 0) (name : Text) (o : Option Text) → IsLeast P o → IsLeast (λ s. (t : Text) × P t × (s ≡ path_of name t)) (option_map (path_of name) o)
least_path P name None h = λ s (t, p, e). h t p
least_path P name (Some t) (p, least) = ((t, p, refl), λ s (u, q, e). subst (AtMost (path_of name t)) (sym e) (at_most_path name t u (least u q)))

least_of_two : (P Q : Text → Type 0) (s t : Text) → IsLeast P (Some s) → IsLeast Q (Some t) → (b : Bool) → is_lt (cmp t s) ≡ b → IsLeast (λ u. P u ⊎ Q u) (if b then Some t else Some s)
least_of_two P Q s t (p, leastp) (q, leastq) true e =
    (inr q, λ u either. elim either [ inl h ↦ at_most_trans t s u (at_most_lt t s e) (leastp u h) | inr h ↦ leastq u h ])
least_of_two P Q s t (p, leastp) (q, leastq) false e =
    (inl p, λ u either. elim either [ inl h ↦ leastp u h | inr h ↦ at_most_trans s t u e (leastq u h) ])

pub least_either : (P Q : Text → Type 0) (a b : Option Text) → IsLeast P a → IsLeast Q b → IsLeast (λ u. P u ⊎ Q u) (lesser a b)
least_either P Q None None f g = λ u either. elim either [ inl h ↦ f u h | inr h ↦ g u h ]
least_either P Q None (Some t) f (q, least) = (inr q, λ u either. elim either [ inl h ↦ absurd (f u h) | inr h ↦ least u h ])
least_either P Q (Some s) None (p, least) g = (inl p, λ u either. elim either [ inl h ↦ least u h | inr h ↦ absurd (g u h) ])
least_either P Q (Some s) (Some t) f g = least_of_two P Q s t f g (is_lt (cmp t s)) refl

-- more texts, none of them below all those before
pub least_wider : (P Q : Text → Type 0) → ((t : Text) → P t → Q t) → ((s : Text) → Q s → (t : Text) × P t × AtMost t s) → (o : Option Text) → IsLeast P o → IsLeast Q o
least_wider P Q into back None h = λ s q. let (t, p, le) = back s q in h t p
least_wider P Q into back (Some t) (p, least) = (into t p, λ s q. let (u, pu, le) = back s q in at_most_trans t u s (least u pu) le)

-- ---- the first other key is the least

found_by : (o : Ordering) (a : Option Data) (d : Data) → IsSome (match_ordering o a (Some d) a) → (o ≡ Equal) ⊎ IsSome a
found_by Less a d h = inr h
found_by Equal a d h = inl refl
found_by Greater a d h = inr h

-- a key before the first of ascending keys is before each
before_all : (k : Text) (ms : Members) → is_before k ms ≡ true → ascends ms ≡ true → (q : Text) → IsSome (get_member q ms) → cmp k q ≡ Less
before_all k no_members b a q h = absurd (true≢false (sym h))
before_all k (member l d ms) b a q h =
    let (first, rest) = and_parts (is_before l ms) (ascends ms) a in
    let less = less_is (cmp k l) b in
    elim (found_by (cmp q l) (get_member q ms) d h) [
      | inl e ↦ subst (λ (t : Text). cmp k t ≡ Less) (sym (same_text q l e)) less
      | inr more ↦ nat_list_cmp_total.trans k l q less (before_all l ms first rest q more)
    ]

abbrev among : List Text → Text → Bool
among keys t = list_any (λ w. bytes_eq w t) keys

-- a key of the members that is not among these
abbrev pub IsOtherKey : List Text → Members → Text → Type 0
IsOtherKey keys ms t = IsSome (get_member t ms) × (list_any (λ w. bytes_eq w t) keys ≡ false)

-- a later key is still found behind a lesser one
found_later : (k : Text) (d : Data) (ms : Members) (q : Text) → cmp k q ≡ Less → IsSome (get_member q ms) → IsSome (get_member q (member k d ms))
found_later k d ms q less h =
    let greater : cmp q k ≡ Greater = nat_list_cmp_total.antisymm q k ∙ ap ordering_reverse less in
    subst (λ (o : Ordering). IsSome (match_ordering o (get_member q ms) (Some d) (get_member q ms))) (sym greater) h

first_by : (keys : List Text) (k : Text) (d : Data) (ms : Members) (b : Bool) → among keys k ≡ b → is_before k ms ≡ true → ascends ms ≡ true
    → IsLeast (IsOtherKey keys ms) (first_other keys ms) → IsLeast (IsOtherKey keys (member k d ms)) (if b then first_other keys ms else Some k)
first_by keys k d ms true e before rest least =
    least_wider (IsOtherKey keys ms) (IsOtherKey keys (member k d ms))
    (λ t (h, other). (found_later k d ms t (before_all k ms before rest t h) h, other))
    (λ s (h, other). elim (found_by (cmp s k) (get_member s ms) d h) [
      | inl same ↦ absurd (true≢false (sym e ∙ ap (among keys) (sym (same_text s k same)) ∙ other))
      | inr more ↦ (s, (more, other), at_most_itself s)
    ])
    (first_other keys ms) least
first_by keys k d ms false e before rest least = (
  (subst (λ (o : Ordering). IsSome (match_ordering o (get_member k ms) (Some d) (get_member k ms))) (sym (tied_itself nat_list_cmp_total k)) refl, e),
  λ s (h, other). elim (found_by (cmp s k) (get_member s ms) d h) [
    | inl same ↦ subst (AtMost k) (sym (same_text s k same)) (at_most_itself k)
    | inr more ↦ at_most_less k s (before_all k ms before rest s more)
  ],
)

pub first_least : (keys : List Text) (ms : Members) → ascends ms ≡ true → IsLeast (IsOtherKey keys ms) (first_other keys ms)
first_least keys no_members a = λ t (h, other). true≢false (sym h)
first_least keys (member k d ms) a =
    let (before, rest) = and_parts (is_before k ms) (ascends ms) a in
    first_by keys k d ms (among keys k) refl before rest (first_least keys ms rest)

-- the keys of a table's map ascend
pub ascends-view : (es : List Entry) → IsStrictlySortedBy string_cmp (keys_of es) → ascends (members_view es) ≡ true
unfolding IsStrictlySortedBy
ascends-view [] h = refl
ascends-view (e ∷ es) h = rw (is_before-sorted e.0 es h.0) (ascends-view es h.1)

antisym_by : (o : Ordering) (a b : Text) → o ≡ cmp a b → AtMost a b → AtMost b a → a ≡ b
antisym_by Equal a b e ab ba = same_text a b (sym e)
antisym_by Less a b e ab ba = absurd (true≢false (ap is_lt e ∙ ba))
antisym_by Greater a b e ab ba = absurd (true≢false (sym (ap is_lt (nat_list_cmp_total.antisymm b a ∙ ap ordering_reverse (sym e))) ∙ ab))

-- there is one least text
pub least_same : (P : Text → Type 0) (s t : Text) → IsLeast P (Some s) → IsLeast P (Some t) → s ≡ t
least_same P s t (p, below_s) (q, below_t) = antisym_by (cmp s t) s t refl (below_s t q) (below_t s p)
