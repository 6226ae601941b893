-- Where calls have no cycle, the numbers of flat functions are what the rule says of each other: rounds over the functions come to an end.
use Rattle.std.proofs.Common.{◌≡◌, ℕ, zero, suc, ◌+◌, ◌<◌, ◌≤◌, Bool, true, false, ◌⊎◌, List, [], ◌∷◌, ◌++◌, length, refl, sym, ap, subst, inl, inr, ◌∙◌, add-one, zero-add, arith}
use Rattle.std.specs.Prelude.{Option, None, Some, map, slice_get, Contains, nat_lt, if◌then◌else◌, ◌==◌}
use Rattle.std.specs.Option.{option_map}
use Rattle.std.proofs.lemmas.Bool.Decides.{leb_tells}
use Rattle.std.proofs.lemmas.Bool.{cases_eq}
use Rattle.std.proofs.lemmas.Option.{slice_get_within}
use Rattle.std.proofs.lemmas.List.Elements.{Contains-append_left, Contains-append_right}
use Rattle.flow_graph.specs.declared.graph.Item.{Item, roll-Item}
use Rattle.flow_graph.specs.declared.graph.Item.TheOpen.{Item-F}
use Rattle.flow_graph.specs.declared.graph.Item.TheFolds.{map-Item, fold-roll-Item, ind-Item}
use Rattle.flow_graph.specs.declared.graph.Func.{Func}
use Rattle.flow_graph.specs.declared.graph.Graph.{Graph}
use Rattle.flow_graph.specs.Rules.{CallsFit, Doing, doing, doing_all, doing_by, doing_in, doings, height_of}
use Rattle.item_weights.specs.Weights.{Own, Weight, all_of, call, greater, item_weight, item_weights, items_weight, joined, plus, turns, weight_by}
use Rattle.item_weights.specs.Flat.{AreFlats, FlatsAreFlats, Rule, flat_by, flats, flats_by, flats_to, next_flats, no_numbers, number_of}
use Rattle.item_weights.proofs.WeightLevels.{weight_rolled}
use Rattle.item_weights.proofs.FlatNumbers.{deeper, first_flats}

-- ---- a weight asks only for the numbers of the functions that are called

module _ (own : Own) (fs hs : List (Option ℕ)) where
  abbrev pub Agree : List ℕ → Type 0
  Agree calls = (c : ℕ) → Contains calls c → slice_get fs c ≡ slice_get hs c

  left : (a b : List ℕ) → Agree (a ++ b) → Agree a
  left a b h c k = h c (Contains-append_left a b c k)

  right : (a b : List ℕ) → Agree (a ++ b) → Agree b
  right a b h c k = h c (Contains-append_right a b c k)

  abbrev IsSame : Item → Type 0
  IsSame x = Agree (doing x).calls → item_weight own fs x ≡ item_weight own hs x

  abbrev Known : Type 0
  Known = (x : Item) × IsSame x

  abbrev bare : List Known → List Item
  bare es = map (λ (e : Known). e.0) es

  abbrev AreSame : List Known → Type 0
  AreSame es = Agree (doing_all (map doing (bare es))).calls → map (item_weight own fs) (bare es) ≡ map (item_weight own hs) (bare es)

  same_list : (es : List Known) → AreSame es
  same_list [] h = refl
  same_list (e ∷ es) h =
      let a = doing e.0 in
      let b = doing_all (map doing (bare es)) in
      ap (λ v. v ∷ map (item_weight own fs) (bare es)) (e.1 (left a.calls b.calls h)) ∙ ap (λ vs. item_weight own hs e.0 ∷ vs) (same_list es (right a.calls b.calls h))

  abbrev SameLayer : Item-F Item → Type 0
  SameLayer z = Agree (doing_by (map-Item Item Doing doing z)).calls → weight_by own fs (map-Item Item (Option Weight) (item_weight own fs) z) ≡ weight_by own hs (map-Item Item (Option Weight) (item_weight own hs) z)

  same_layer : (y : Item-F Known) → SameLayer (map-Item Known Item (λ e. e.0) y)
  same_layer (Item-F.One op) h = refl
  same_layer (Item-F.Branch test a b) h =
      let x = doing_all (map doing (bare a)) in
      let y = doing_all (map doing (bare b)) in
      ap (λ vs. joined plus (Some (own test)) (joined greater (all_of vs) (all_of (map (item_weight own fs) (bare b))))) (same_list a (left x.calls y.calls h))
      ∙ ap (λ vs. joined plus (Some (own test)) (joined greater (all_of (map (item_weight own hs) (bare a))) (all_of vs))) (same_list b (right x.calls y.calls h))
  same_layer (Item-F.Loop pre test post step back count) h =
      let x = doing_all (map doing (bare pre)) in
      let y = doing_all (map doing (bare post)) in
      let z = doing_all (map doing (bare step)) in
      let e = same_list pre (left x.calls (y.calls ++ z.calls) h) in
      let k = right x.calls (y.calls ++ z.calls) h in
      let i = same_list post (left y.calls z.calls k) in
      let j = same_list step (right y.calls z.calls k) in
      ap (λ vs. turns count (own test) (joined plus (all_of vs) (joined plus (Some (own test)) (joined plus (all_of (map (item_weight own fs) (bare post))) (joined plus (all_of (map (item_weight own fs) (bare step))) (Some (own back))))))) e
      ∙ (ap (λ vs. turns count (own test) (joined plus (all_of (map (item_weight own hs) (bare pre))) (joined plus (Some (own test)) (joined plus (all_of vs) (joined plus (all_of (map (item_weight own fs) (bare step))) (Some (own back))))))) i
      ∙ ap (λ vs. turns count (own test) (joined plus (all_of (map (item_weight own hs) (bare pre))) (joined plus (Some (own test)) (joined plus (all_of (map (item_weight own hs) (bare post))) (joined plus (all_of vs) (Some (own back))))))) j)
  same_layer (Item-F.Switch items) h = ap all_of (same_list items h)
  same_layer (Item-F.CallTo op f) h = ap (call (own op)) (h f (0, omega arith, refl))
  same_layer (Item-F.Leave op to) h = refl

  doing_rolled : (x : Item-F Item) → doing (roll-Item x) ≡ doing_by (map-Item Item Doing doing x)
  unfolding doing
  doing_rolled x = fold-roll-Item Doing doing_by x

  same_rolled : (x : Item-F Item) → SameLayer x → IsSame (roll-Item x)
  same_rolled x h agree = weight_rolled own fs x ∙ (h (subst (λ (d : Doing). Agree d.calls) (doing_rolled x) agree) ∙ sym (weight_rolled own hs x))

  same_item : (x : Item) → IsSame x
  same_item = ind-Item IsSame (λ x y is. same_rolled x (subst SameLayer is (same_layer y)))

  same_weights : (xs : List Item) → Agree (doings xs).calls → item_weights own fs xs ≡ item_weights own hs xs
  same_weights [] h = refl
  same_weights (x ∷ xs) h =
      ap (λ v. v ∷ item_weights own fs xs) (same_item x (left (doing x).calls (doings xs).calls h)) ∙ ap (λ vs. item_weight own hs x ∷ vs) (same_weights xs (right (doing x).calls (doings xs).calls h))

  pub same_weight : (xs : List Item) → Agree (doings xs).calls → items_weight own fs xs ≡ items_weight own hs xs
  same_weight xs h = ap all_of (same_weights xs h)

-- ---- functions by the number of those that are lower

ltb_tells : (a b : ℕ) → ((nat_lt a b ≡ true) × (a < b)) ⊎ ((nat_lt a b ≡ false) × (b ≤ a))
ltb_tells a b = elim (leb_tells (suc a) b) [
  | inl t ↦ inl (t.0, let h = t.1 in omega (arith, h))
  | inr f ↦ inr (f.0, let h = f.1 in omega (arith, h))
]

module _ (heights : List ℕ) where
  abbrev one_if : Bool → ℕ
  one_if b = if b then 1 else 0

  abbrev lower : ℕ → ℕ → ℕ
  lower zero h = 0
  lower (suc j) h = one_if (nat_lt (height_of heights j) h) + lower j h

  lower_few : (n h : ℕ) → lower n h ≤ n
  lower_few zero h = omega arith
  lower_few (suc j) h = let r = lower_few j h in elim (ltb_tells (height_of heights j) h) [
    | inl t ↦ let e = ap one_if t.0 in omega (arith, e, r)
    | inr f ↦ let e = ap one_if f.0 in omega (arith, e, r)
  ]

  lower_more : (n h k : ℕ) → h ≤ k → lower n h ≤ lower n k
  lower_more zero h k le = omega arith
  lower_more (suc j) h k le = let r = lower_more j h k le in elim (ltb_tells (height_of heights j) h) [
    | inl t ↦ elim (ltb_tells (height_of heights j) k) [
      | inl u ↦ let e = ap one_if t.0 in let d = ap one_if u.0 in omega (arith, e, d, r)
      | inr u ↦ absurd (let a = t.1 in let b = u.1 in omega (arith, a, b, le))
    ]
    | inr f ↦ let e = ap one_if f.0 in omega (arith, e, r)
  ]

  lower_less : (n c k : ℕ) → c < n → height_of heights c < k → lower n (height_of heights c) < lower n k
  lower_less zero c k lt below = absurd (omega (arith, lt))
  lower_less (suc j) c k lt below = elim (cases_eq c j) [
    | inl same ↦
        let r = lower_more j (height_of heights j) k (subst (λ i. height_of heights i ≤ k) same (omega (arith, below))) in
        let here = subst (λ i. height_of heights i < k) same below in
        subst (λ i. lower (suc j) (height_of heights i) < lower (suc j) k) (sym same) (elim (ltb_tells (height_of heights j) (height_of heights j)) [
          | inl t ↦ absurd (let a = t.1 in omega (arith, a))
          | inr f ↦ elim (ltb_tells (height_of heights j) k) [
            | inl u ↦ let e = ap one_if f.0 in let d = ap one_if u.0 in omega (arith, e, d, r)
            | inr u ↦ absurd (let a = u.1 in omega (arith, a, here))
          ]
        ])
    | inr other ↦
        let r = lower_less j c k (omega (arith, lt, other)) below in
        elim (ltb_tells (height_of heights j) (height_of heights c)) [
          | inl t ↦ elim (ltb_tells (height_of heights j) k) [
            | inl u ↦ let e = ap one_if t.0 in let d = ap one_if u.0 in omega (arith, e, d, r)
            | inr u ↦ absurd (let a = t.1 in let b = u.1 in omega (arith, a, b, below))
          ]
          | inr f ↦ let e = ap one_if f.0 in omega (arith, e, r)
        ]
  ]

  pub rank : ℕ → ℕ → ℕ
  rank n f = lower n (height_of heights f)

  rank_small : (n f : ℕ) → f < n → rank n f < n
  unfolding rank
  rank_small n f lt = let a = lower_less n f (suc (height_of heights f)) lt (omega arith) in let b = lower_few n (suc (height_of heights f)) in omega (arith, a, b)

  rank_less : (n c f : ℕ) → c < n → height_of heights c < height_of heights f → rank n c < rank n f
  unfolding rank
  rank_less n c f lt below = lower_less n c (height_of heights f) lt below

-- ---- rounds

by_index : {X : Type 0} (xs ys : List X) → ((k : ℕ) → slice_get xs k ≡ slice_get ys k) → xs ≡ ys
by_index [] [] h = refl
by_index [] (y ∷ ys) h = let e = h 0 in absurd (cc)
by_index (x ∷ xs) [] h = let e = h 0 in absurd (cc)
by_index (x ∷ xs) (y ∷ ys) h = let e : Some x ≡ Some y = h 0 in let same : x ≡ y = cc in ap (λ z. z ∷ xs) same ∙ ap (λ zs. y ∷ zs) (by_index xs ys (λ k. h (suc k)))

number_at : (rule : Rule) (main : ℕ) (fs : List (Option ℕ)) (base : ℕ) (funcs : List Func) (k : ℕ) → slice_get (flats_by rule main fs base funcs) k ≡ option_map (flat_by rule main fs (base + k)) (slice_get funcs k)
number_at rule main fs base [] k = refl
number_at rule main fs base (x ∷ xs) zero = ap (λ f. Some (flat_by rule main fs f x)) (omega arith)
number_at rule main fs base (x ∷ xs) (suc k) = number_at rule main fs (base + 1) xs k ∙ ap (λ f. option_map (flat_by rule main fs f) (slice_get xs k)) (omega arith)

pub next_at : (rule : Rule) (g : Graph) (fs : List (Option ℕ)) (k : ℕ) → slice_get (next_flats rule g fs) k ≡ option_map (flat_by rule g.main fs k) (slice_get g.functions k)
next_at rule g fs k = number_at rule g.main fs 0 g.functions k ∙ ap (λ f. option_map (flat_by rule g.main fs f) (slice_get g.functions k)) (zero-add k)

none_at : (funcs : List Func) (k : ℕ) → slice_get funcs k ≡ None → slice_get (no_numbers funcs) k ≡ None
none_at [] k e = refl
none_at (x ∷ xs) zero e = absurd (cc)
none_at (x ∷ xs) (suc k) e = none_at xs k e

module _ (rule : Rule) (g : Graph) (heights : List ℕ) (fits : CallsFit g heights) where
  no_function : (k f : ℕ) → slice_get g.functions f ≡ None → slice_get (flats_to rule g k) f ≡ None
  no_function zero f e = ap (λ xs. slice_get xs f) (first_flats rule g) ∙ none_at g.functions f e
  no_function (suc k) f e =
      ap (λ n. slice_get (flats_to rule g n) f) (sym (add-one k)) ∙ (ap (λ xs. slice_get xs f) (deeper rule g k) ∙ (next_at rule g (flats_to rule g k) f ∙ ap (option_map (flat_by rule g.main (flats_to rule g k) f)) e))

  same_number : (f : ℕ) (func : Func) (fs hs : List (Option ℕ)) → Agree rule.own fs hs (doings func.body).calls → flat_by rule g.main fs f func ≡ flat_by rule g.main hs f func
  same_number f func fs hs agree = ap (λ w. if f == g.main then None else number_of rule w) (same_weight rule.own fs hs func.body agree)

  abbrev many : ℕ
  many = length g.functions

  -- the numbers of functions stay, once there were more rounds than functions that are lower
  stable_more : (k f : ℕ) → rank heights many f < suc k → ((c : ℕ) → rank heights many c < k → slice_get (flats_to rule g k) c ≡ slice_get (flats_to rule g (k + 1)) c)
      → (x : Option Func) → slice_get g.functions f ≡ x → slice_get (flats_to rule g (suc k)) f ≡ slice_get (flats_to rule g (suc k + 1)) f
  stable_more k f lt ih None e = no_function (suc k) f e ∙ sym (no_function (suc k + 1) f e)
  stable_more k f lt ih (Some func) e =
      let a = flats_to rule g k in
      let b = flats_to rule g (suc k) in
      let agree : Agree rule.own a b (doings func.body).calls = λ c ct.
      (let below = fits f c (subst (λ y. Contains (doing_in y).calls c) (sym e) ct) in
      let less = rank_less heights many c f below.0 below.1 in
      ih c (omega (arith, less, lt)) ∙ ap (λ n. slice_get (flats_to rule g n) c) (add-one k)) in
      ap (λ n. slice_get (flats_to rule g n) f) (sym (add-one k)) ∙ (ap (λ xs. slice_get xs f) (deeper rule g k) ∙ (next_at rule g a f ∙ (ap (option_map (flat_by rule g.main a f)) e
      ∙ (ap Some (same_number f func a b agree) ∙ (sym (ap (option_map (flat_by rule g.main b f)) e) ∙ (sym (next_at rule g b f) ∙ sym (ap (λ xs. slice_get xs f) (deeper rule g (suc k)))))))))

  -- the numbers of functions stay, once there were more rounds than functions that are lower
  stable : (k f : ℕ) → rank heights many f < k → slice_get (flats_to rule g k) f ≡ slice_get (flats_to rule g (k + 1)) f
  stable zero f lt = absurd (omega (arith, lt))
  stable (suc k) f lt = stable_more k f lt (λ c h. stable k c h) (slice_get g.functions f) refl

  at_last_same : (f : ℕ) → slice_get (flats_to rule g many) f ≡ slice_get (flats_to rule g (many + 1)) f
  at_last_same f = by_function (slice_get g.functions f) refl
    where
      by_function : (x : Option Func) → slice_get g.functions f ≡ x → slice_get (flats_to rule g many) f ≡ slice_get (flats_to rule g (many + 1)) f
      by_function None e = no_function many f e ∙ sym (no_function (many + 1) f e)
      by_function (Some func) e = stable many f (rank_small heights many f (slice_get_within g.functions f func e))

  are_flats : AreFlats rule g (flats rule g)
  are_flats = by_index (flats_to rule g many) (flats_to rule g (many + 1)) at_last_same ∙ deeper rule g many

pub flats_are_flats : FlatsAreFlats
flats_are_flats rule g heights fits = are_flats rule g heights fits
