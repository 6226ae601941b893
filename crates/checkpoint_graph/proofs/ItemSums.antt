-- What items weigh, part by part.
use Rattle.std.specs.Prelude.{Result, Ok, Err, Option, None, Some, IfOk, IfSome}
use Rattle.std.proofs.Common.{◌≡◌, ◌++◌, ℕ, zero, suc, List, [], ◌∷◌, refl, sym, ap, ◌∙◌, subst, add_assoc, add-zero, zero-add}
use Rattle.flow_graph.specs.declared.graph.Op.{Op}
use Rattle.flow_graph.specs.declared.graph.Item.{Item, out-Item}
use Rattle.flow_graph.specs.declared.graph.Item.TheVariants as item
use Rattle.item_weights.specs.declared.uses.Weights.{Weights}
use Rattle.item_weights.specs.Weights.{Own, Weight, item_weight, items_weight, joined, no_weight, plus}
use Rattle.item_weights.specs.Tallies.{weight_of_parts}
use Rattle.item_weights.proofs.WeightLevels.{weight_level}
use Rattle.chain_units.specs.Known.{Weighs, both, nothing, told_weights}
use Rattle.chain_units.specs.Marks.{turn_of}
use Rattle.chain_units.specs.Sums.{Rises}
use Rattle.checkpoint_graph.specs.Knowing.{IsTold, told, told_option, uses_from}
use Rattle.checkpoint_graph.proofs.ToldUses.{rises_from}
use Rattle.checkpoint_graph.proofs.ToldSums.{told_sum}

-- ---- sums of weights

plus_assoc : (u v w : Weight) → plus (plus u v) w ≡ plus u (plus v w)
plus_assoc u v w = λ i. record { base = add_assoc u.base v.base w.base i; reads = λ o. add_assoc (u.reads o) (v.reads o) (w.reads o) i; writes = λ o. add_assoc (u.writes o) (v.writes o) (w.writes o) i }

pub plus_none : (w : Weight) → plus w no_weight ≡ w
plus_none w = λ i. record { base = add-zero w.base i; reads = λ o. add-zero (w.reads o) i; writes = λ o. add-zero (w.writes o) i }

none_plus : (w : Weight) → plus no_weight w ≡ w
none_plus w = λ i. record { base = zero-add w.base i; reads = λ o. zero-add (w.reads o) i; writes = λ o. zero-add (w.writes o) i }

abbrev added : Option Weight → Option Weight → Option Weight
added = joined plus

added_assoc : (a b c : Option Weight) → added (added a b) c ≡ added a (added b c)
added_assoc None b c = refl
added_assoc (Some u) None c = refl
added_assoc (Some u) (Some v) None = refl
added_assoc (Some u) (Some v) (Some w) = ap (λ x. Some x) (plus_assoc u v w)

none_added : (a : Option Weight) → added (Some no_weight) a ≡ a
none_added None = refl
none_added (Some w) = ap (λ x. Some x) (none_plus w)

added_none : (a : Option Weight) → added a (Some no_weight) ≡ a
added_none None = refl
added_none (Some w) = ap (λ x. Some x) (plus_none w)

module _ (own : Own) (flats : List (Option ℕ)) where
  items_append : (xs ys : List Item) → items_weight own flats (xs ++ ys) ≡ added (items_weight own flats xs) (items_weight own flats ys)
  items_append [] ys = sym (none_added (items_weight own flats ys))
  items_append (x ∷ xs) ys =
      ap (added (item_weight own flats x)) (items_append xs ys) ∙ sym (added_assoc (item_weight own flats x) (items_weight own flats xs) (items_weight own flats ys))

  -- an item by itself
  pub item_alone : (x : Item) → items_weight own flats (x ∷ []) ≡ weight_of_parts own flats (out-Item x)
  item_alone x = added_none (item_weight own flats x) ∙ weight_level own flats x

  -- a turn, as its parts are added one behind the other
  pub turn_weight : (pre : List Item) (test : Op) (post step : List Item)
      → added (added (added (added (Some no_weight) (items_weight own flats pre)) (items_weight own flats (item.One test ∷ []))) (items_weight own flats post)) (items_weight own flats step)
      ≡ items_weight own flats (turn_of pre test post step)
  turn_weight pre test post step =
      let p = items_weight own flats pre in
      let t = items_weight own flats (item.One test ∷ []) in
      let q = items_weight own flats post in
      let s = items_weight own flats step in
      ap (λ (a : Option Weight). added (added (added a t) q) s) (none_added p)
      ∙ (added_assoc (added p t) q s
      ∙ (added_assoc p t (added q s)
      ∙ sym (items_append pre (item.One test ∷ (post ++ step))
      ∙ ap (added p) (items_append (item.One test ∷ []) (post ++ step) ∙ ap (added t) (items_append post step)))))

-- ---- as they are told

no_uses : (o n : ℕ) → uses_from no_weight o n ≡ []
no_uses o zero = refl
no_uses o (suc n) = no_uses (suc o) n

pub nothing_told : (objects : ℕ) (w : Weights) → told_weights w ≡ nothing → IsTold objects (Some no_weight) (Some w)
nothing_told objects w e = ap (λ x. Some x) ((λ i. record { base = 0; uses = no_uses 0 objects i }) ∙ sym e)

pub told_same : (objects : ℕ) (a b : Option Weight) (found : Option Weights) → a ≡ b → IsTold objects a found → IsTold objects b found
told_same objects a b found e is = subst (λ (o : Option Weight). IsTold objects o found) e is

told_some : (objects : ℕ) (o : Option Weight) (w : Weights) → told_option objects o ≡ Some (told_weights w) → (v : Weight) × (o ≡ Some v) × (told objects v ≡ told_weights w)
told_some objects None w e = absurd (cc)
told_some objects (Some v) w e = (v, refl, (let same : Some (told objects v) ≡ Some (told_weights w) = e in cc))

told_none : (objects : ℕ) (o : Option Weight) → told_option objects o ≡ None → o ≡ None
told_none objects None e = refl
told_none objects (Some v) e = absurd (cc)

-- the first has none
pub first_none : (objects : ℕ) (a b : Option Weight) → told_option objects a ≡ None → told_option objects (added a b) ≡ None
first_none objects a b e = ap (λ (o : Option Weight). told_option objects (added o b)) (told_none objects a e)

-- the second has none
pub second_none : (objects : ℕ) (a b : Option Weight) → told_option objects b ≡ None → told_option objects (added a b) ≡ None
second_none objects a b e = ap (λ (o : Option Weight). told_option objects (added a o)) (told_none objects b e) ∙ by a
  where
    by : (o : Option Weight) → told_option objects (added o None) ≡ None
    by None = refl
    by (Some v) = refl

-- both have some
pub both_some : (objects : ℕ) (a b : Option Weight) (v w : Weights) (sum : Weighs) → told_option objects a ≡ Some (told_weights v) → told_option objects b ≡ Some (told_weights w) → sum ≡ both (told_weights v) (told_weights w)
    → told_option objects (added a b) ≡ Some sum
both_some objects a b v w sum e f is =
    let (x, is_x, told_x) = told_some objects a v e in
    let (y, is_y, told_y) = told_some objects b w f in
    ap (λ (o : Option Weight). told_option objects (added o b)) is_x
    ∙ (ap (λ (o : Option Weight). told_option objects (added (Some x) o)) is_y
    ∙ ap (λ (s : Weighs). Some s) (sym (told_sum x y objects) ∙ (ap (λ (s : Weighs). both s (told objects y)) told_x ∙ (ap (λ (s : Weighs). both (told_weights v) s) told_y ∙ sym is))))

-- what is told rises
pub rises_told : (objects : ℕ) (o : Option Weight) (found : Option Weights) → IsTold objects o found → IfSome found (λ w. Rises w.uses.items)
rises_told objects o None is = tt
rises_told objects o (Some w) is = let (v, is_v, same) = told_some objects o w is in subst (λ (s : Weighs). Rises s.uses) same (rises_from v 0 objects)

pub if_ok : {T E : Type 0} (P Q : T → Type 0) (r : Result T E) → ((x : T) → P x → Q x) → IfOk r P → IfOk r Q
if_ok P Q (Ok x) f h = f x h
if_ok P Q (Err e) f h = h
