-- A function that has a number keeps it, round for round.
use Rattle.std.proofs.Common.{◌≡◌, ℕ, zero, suc, ◌++◌, Bool, true, false, List, [], ◌∷◌, length, refl, sym, ap, subst, ◌∙◌, add-one}
use Rattle.std.specs.Prelude.{Option, None, Some, map, slice_get, if◌then◌else◌, ◌==◌}
use Rattle.std.specs.Option.{option_map}
use Rattle.flow_graph.specs.declared.graph.Item.{Item, roll-Item}
use Rattle.flow_graph.specs.declared.graph.Item.TheOpen.{Item-F}
use Rattle.flow_graph.specs.declared.graph.Item.TheFolds.{map-Item, ind-Item}
use Rattle.flow_graph.specs.declared.graph.Func.{Func}
use Rattle.flow_graph.specs.declared.graph.Graph.{Graph}
use Rattle.item_weights.specs.Weights.{Own, Weight, all_of, call, greater, item_weight, items_weight, joined, plus, turns, weight_by}
use Rattle.item_weights.specs.Flat.{Keep, Rule, flat_by, flats_to, next_flats, no_numbers, number_of}
use Rattle.item_weights.proofs.WeightLevels.{weight_rolled}
use Rattle.item_weights.proofs.FlatNumbers.{deeper, first_flats}
use Rattle.item_weights.proofs.Heights.{next_at}

-- what the first is, the other is, where the first is anything
abbrev Kept : {A : Type 0} → Option A → Option A → Type 0
Kept {A} x y = (v : A) → x ≡ Some v → y ≡ Some v

joined_kept : (f : Weight → Weight → Weight) (a b x y : Option Weight) → Kept a x → Kept b y → Kept (joined f a b) (joined f x y)
joined_kept f None b x y h k v e = absurd (cc)
joined_kept f (Some w) None x y h k v e = absurd (cc)
joined_kept f (Some w) (Some u) x y h k v e = ap (λ m. joined f m y) (h w refl) ∙ (ap (joined f (Some w)) (k u refl) ∙ e)

turns_kept : (count : Option ℕ) (t : Weight) (a x : Option Weight) → Kept a x → Kept (turns count t a) (turns count t x)
turns_kept None t a x h v e = e
turns_kept (Some n) t None x h v e = absurd (cc)
turns_kept (Some n) t (Some w) x h v e = ap (turns (Some n) t) (h w refl) ∙ e

call_kept : (w : Weight) (a x : Option (Option ℕ)) → ((n : ℕ) → a ≡ Some (Some n) → x ≡ Some (Some n)) → Kept (call w a) (call w x)
call_kept w None x h v e = absurd (cc)
call_kept w (Some None) x h v e = absurd (cc)
call_kept w (Some (Some n)) x h v e = ap (call w) (h n refl) ∙ e

number_kept : (rule : Rule) (a x : Option Weight) → Kept a x → Kept (number_of rule a) (number_of rule x)
number_kept rule None x h v e = absurd (cc)
number_kept rule (Some w) x h v e = ap (number_of rule) (h w refl) ∙ e

if_kept : (b : Bool) (x y : Option ℕ) → Kept x y → Kept (if b then None else x) (if b then None else y)
if_kept true x y h v e = e
if_kept false x y h v e = h v e

-- ---- what has a weight keeps it, where the functions called keep their numbers

module _ (own : Own) (fs hs : List (Option ℕ)) (keep : Keep fs hs) where
  abbrev IsKept : Item → Type 0
  IsKept x = Kept (item_weight own fs x) (item_weight own hs x)

  abbrev Known : Type 0
  Known = (x : Item) × IsKept x

  abbrev bare : List Known → List Item
  bare es = map (λ (e : Known). e.0) es

  list_kept : (es : List Known) → Kept (all_of (map (item_weight own fs) (bare es))) (all_of (map (item_weight own hs) (bare es)))
  list_kept [] v h = h
  list_kept (e ∷ es) v h =
      joined_kept plus (item_weight own fs e.0) (all_of (map (item_weight own fs) (bare es))) (item_weight own hs e.0) (all_of (map (item_weight own hs) (bare es))) e.1 (list_kept es) v h

  abbrev KeptLayer : Item-F Item → Type 0
  KeptLayer z = Kept (weight_by own fs (map-Item Item (Option Weight) (item_weight own fs) z)) (weight_by own hs (map-Item Item (Option Weight) (item_weight own hs) z))

  same_kept : (x : Option Weight) → Kept x x
  same_kept x v e = e

  layer_kept : (y : Item-F Known) → KeptLayer (map-Item Known Item (λ e. e.0) y)
  layer_kept (Item-F.One op) v e = e
  layer_kept (Item-F.Branch test a b) v e =
      joined_kept plus (Some (own test)) _ (Some (own test)) _ (same_kept (Some (own test))) (joined_kept greater _ _ _ _ (list_kept a) (list_kept b)) v e
  layer_kept (Item-F.Loop pre test post step back count) v e =
      turns_kept count (own test) _ _ (joined_kept plus _ _ _ _ (list_kept pre) (joined_kept plus (Some (own test)) _ (Some (own test)) _ (same_kept (Some (own test)))
      (joined_kept plus _ _ _ _ (list_kept post) (joined_kept plus _ _ _ _ (list_kept step) (same_kept (Some (own back))))))) v e
  layer_kept (Item-F.Switch items) v e = list_kept items v e
  layer_kept (Item-F.CallTo op f) v e = call_kept (own op) (slice_get fs f) (slice_get hs f) (keep f) v e
  layer_kept (Item-F.Leave op to) v e = e

  rolled_kept : (x : Item-F Item) → KeptLayer x → IsKept (roll-Item x)
  rolled_kept x h v e = weight_rolled own hs x ∙ h v (sym (weight_rolled own fs x) ∙ e)

  item_kept : (x : Item) → IsKept x
  item_kept = ind-Item IsKept (λ x y is. rolled_kept x (subst KeptLayer is (layer_kept y)))

  items_kept : (xs : List Item) → Kept (items_weight own fs xs) (items_weight own hs xs)
  items_kept [] v e = e
  items_kept (x ∷ xs) v e = joined_kept plus (item_weight own fs x) (items_weight own fs xs) (item_weight own hs x) (items_weight own hs xs) (item_kept x) (items_kept xs) v e

-- ---- and so do functions their numbers

flat_kept : (rule : Rule) (main : ℕ) (fs hs : List (Option ℕ)) → Keep fs hs → (f : ℕ) (func : Func) → Kept (flat_by rule main fs f func) (flat_by rule main hs f func)
flat_kept rule main fs hs keep f func =
    if_kept (f == main) (number_of rule (items_weight rule.own fs func.body)) (number_of rule (items_weight rule.own hs func.body))
    (number_kept rule (items_weight rule.own fs func.body) (items_weight rule.own hs func.body) (items_kept rule.own fs hs keep func.body))

found_kept : (rule : Rule) (main : ℕ) (fs hs : List (Option ℕ)) → Keep fs hs → (f n : ℕ) (x : Option Func)
    → option_map (flat_by rule main fs f) x ≡ Some (Some n) → option_map (flat_by rule main hs f) x ≡ Some (Some n)
found_kept rule main fs hs keep f n None e = absurd (cc)
found_kept rule main fs hs keep f n (Some func) e = ap Some (flat_kept rule main fs hs keep f func n (cc))

next_kept : (rule : Rule) (g : Graph) (fs hs : List (Option ℕ)) → Keep fs hs → Keep (next_flats rule g fs) (next_flats rule g hs)
next_kept rule g fs hs keep f n e = next_at rule g hs f ∙ found_kept rule g.main fs hs keep f n (slice_get g.functions f) (sym (next_at rule g fs f) ∙ e)

no_number : (funcs : List Func) (f n : ℕ) → slice_get (no_numbers funcs) f ≡ Some (Some n) → ⊥
no_number [] f n e = absurd (cc)
no_number (x ∷ xs) zero n e = absurd (cc)
no_number (x ∷ xs) (suc f) n e = no_number xs f n e

pub flats_keep : (rule : Rule) (g : Graph) (k : ℕ) → Keep (flats_to rule g k) (next_flats rule g (flats_to rule g k))
flats_keep rule g zero = λ f n e. absurd (no_number g.functions f n (subst (λ (xs : List (Option ℕ)). slice_get xs f ≡ Some (Some n)) (first_flats rule g) e))
flats_keep rule g (suc k) =
    let e : flats_to rule g (suc k) ≡ next_flats rule g (flats_to rule g k) = ap (flats_to rule g) (sym (add-one k)) ∙ deeper rule g k in
    let keep : Keep (flats_to rule g k) (flats_to rule g (suc k)) = subst (λ (xs : List (Option ℕ)). Keep (flats_to rule g k) xs) (sym e) (flats_keep rule g k) in
    subst (λ (xs : List (Option ℕ)). Keep xs (next_flats rule g (flats_to rule g (suc k)))) (sym e) (next_kept rule g (flats_to rule g k) (flats_to rule g (suc k)) keep)

-- ---- one function of them, where the numbers are made one by one

-- the first of those that are left, behind those that are made
first_left : (made left all : List (Option ℕ)) (x : Option ℕ) (f : ℕ) → length made ≡ f → made ++ x ∷ left ≡ all → slice_get all f ≡ Some x
first_left [] left all x f l e = ap (λ n. slice_get all n) (sym l) ∙ ap (λ (xs : List (Option ℕ)). slice_get xs 0) (sym e)
first_left (y ∷ made) left all x zero l e = absurd (cc)
first_left (y ∷ made) left all x (suc f) l e = sym (ap (λ (xs : List (Option ℕ)). slice_get xs (suc f)) e) ∙ first_left made left (made ++ x ∷ left) x f (cc) refl

-- the number of the function to come is the one that it has, where it has one
pub kept_here : (rule : Rule) (g : Graph) (flats made rest : List (Option ℕ)) (f : ℕ) (x : Option ℕ) → Keep flats (next_flats rule g flats) → length made ≡ f → made ++ x ∷ rest ≡ next_flats rule g flats
    → (n : ℕ) → slice_get flats f ≡ Some (Some n) → x ≡ Some n
kept_here rule g flats made rest f x keep l e n h = let a = first_left made rest (next_flats rule g flats) x f l e in let b = keep f n h in cc
