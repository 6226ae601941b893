-- Items as they are placed: an item by its parts, and that it is itself.
use Rattle.std.proofs.Common.{◌≡◌, ℕ, List, [], ◌∷◌, refl, ap, ◌∙◌, sym, subst}
use Rattle.std.specs.Prelude.{Option, map}
use Rattle.flow_graph.specs.declared.graph.Op.{Op}
use Rattle.flow_graph.specs.declared.graph.LeaveTo.{LeaveTo}
use Rattle.flow_graph.specs.declared.graph.Item.{Item, out-Item, roll-Item}
use Rattle.flow_graph.specs.declared.graph.Item.TheVariants.{One, Branch, Loop, Switch, CallTo, Leave, outs-One, outs-Branch, outs-Loop, outs-Switch, outs-CallTo, outs-Leave, rolls-One, rolls-Branch, rolls-Loop, rolls-Switch, rolls-CallTo, rolls-Leave}
use Rattle.flow_graph.specs.declared.graph.Item.TheOpen.{Item-F}
use Rattle.flow_graph.specs.declared.graph.Item.TheFolds.{map-Item, fold_out-Item, fold-roll-Item, ind-Item}
use Rattle.chain_units.specs.Known.{Known}
use Rattle.chain_units.specs.Marks.{Placed, items_of, placed, placed_by, placed_items}

module _ (k : Known) where
  abbrev pub placed_layer : Item-F Item → Item-F Placed
  placed_layer (Item-F.One op) = Item-F.One op
  placed_layer (Item-F.Branch test a b) = Item-F.Branch test (placed_items k a) (placed_items k b)
  placed_layer (Item-F.Loop pre test post step back count) = Item-F.Loop (placed_items k pre) test (placed_items k post) (placed_items k step) back count
  placed_layer (Item-F.Switch items) = Item-F.Switch (placed_items k items)
  placed_layer (Item-F.CallTo op f) = Item-F.CallTo op f
  placed_layer (Item-F.Leave op to) = Item-F.Leave op to

  mapped_items : (items : List Item) → map (placed k) items ≡ placed_items k items
  mapped_items [] = refl
  mapped_items (x ∷ xs) = ap (λ l. placed k x ∷ l) (mapped_items xs)

  mapped : (x : Item-F Item) → map-Item Item Placed (placed k) x ≡ placed_layer x
  mapped (Item-F.One op) = refl
  mapped (Item-F.Branch test a b) = rw (mapped_items a, mapped_items b) refl
  mapped (Item-F.Loop pre test post step back count) = rw (mapped_items pre, mapped_items post, mapped_items step) refl
  mapped (Item-F.Switch items) = rw (mapped_items items) refl
  mapped (Item-F.CallTo op f) = refl
  mapped (Item-F.Leave op to) = refl

  pub placed_level : (x : Item) → placed k x ≡ placed_by k (placed_layer (out-Item x))
  unfolding placed
  placed_level x = fold_out-Item Placed (placed_by k) x ∙ ap (placed_by k) (mapped (out-Item x))

  -- ---- an item that is placed is itself

  abbrev IsItself : Item → Type 0
  IsItself x = (placed k x).item ≡ x

  -- an item with the proof that it is itself
  abbrev KnownItem : Type 0
  KnownItem = (x : Item) × IsItself x

  abbrev bare : List KnownItem → List Item
  bare es = map (λ (e : KnownItem). e.0) es

  items_back : (es : List KnownItem) → items_of (map (placed k) (bare es)) ≡ bare es
  items_back [] = refl
  items_back (e ∷ es) = ap (λ (x : Item). x ∷ items_of (map (placed k) (bare es))) e.1 ∙ ap (λ (xs : List Item). e.0 ∷ xs) (items_back es)

  rebuilt : (y : Item-F KnownItem) → (placed_by k (map-Item Item Placed (placed k) (map-Item KnownItem Item (λ e. e.0) y))).item ≡ roll-Item (map-Item KnownItem Item (λ e. e.0) y)
  rebuilt (Item-F.One op) = sym (rolls-One op)
  rebuilt (Item-F.Branch test a b) = rw (items_back a, items_back b) (sym (rolls-Branch test (bare a) (bare b)))
  rebuilt (Item-F.Loop pre test post step back count) = rw (items_back pre, items_back post, items_back step) (sym (rolls-Loop (bare pre) test (bare post) (bare step) back count))
  rebuilt (Item-F.Switch items) = rw (items_back items) (sym (rolls-Switch (bare items)))
  rebuilt (Item-F.CallTo op f) = sym (rolls-CallTo op f)
  rebuilt (Item-F.Leave op to) = sym (rolls-Leave op to)

  rolled : (x : Item-F Item) → placed k (roll-Item x) ≡ placed_by k (map-Item Item Placed (placed k) x)
  unfolding placed
  rolled x = fold-roll-Item Placed (placed_by k) x

  pub placed_same : (x : Item) → (placed k x).item ≡ x
  placed_same = ind-Item IsItself (λ x y is.
      ap (λ (p : Placed). p.item) (rolled x) ∙ subst (λ (z : Item-F Item). (placed_by k (map-Item Item Placed (placed k) z)).item ≡ roll-Item z) is (rebuilt y))

  pub items_same : (xs : List Item) → items_of (placed_items k xs) ≡ xs
  items_same [] = refl
  items_same (x ∷ xs) = ap (λ (y : Item). y ∷ items_of (placed_items k xs)) (placed_same x) ∙ ap (λ (ys : List Item). x ∷ ys) (items_same xs)

  -- ---- an item by its parts

  pub placed-One : (op : Op) → placed k (One op) ≡ placed_by k (Item-F.One op)
  placed-One op = placed_level (One op) ∙ ap (λ l. placed_by k (placed_layer l)) (outs-One op)

  pub placed-Branch : (test : Op) (a b : List Item) → placed k (Branch test a b) ≡ placed_by k (Item-F.Branch test (placed_items k a) (placed_items k b))
  placed-Branch test a b = placed_level (Branch test a b) ∙ ap (λ l. placed_by k (placed_layer l)) (outs-Branch test a b)

  pub placed-Loop : (pre : List Item) (test : Op) (post step : List Item) (back : Op) (count : Option ℕ)
      → placed k (Loop pre test post step back count) ≡ placed_by k (Item-F.Loop (placed_items k pre) test (placed_items k post) (placed_items k step) back count)
  placed-Loop pre test post step back count = placed_level (Loop pre test post step back count) ∙ ap (λ l. placed_by k (placed_layer l)) (outs-Loop pre test post step back count)

  pub placed-Switch : (items : List Item) → placed k (Switch items) ≡ placed_by k (Item-F.Switch (placed_items k items))
  placed-Switch items = placed_level (Switch items) ∙ ap (λ l. placed_by k (placed_layer l)) (outs-Switch items)

  pub placed-CallTo : (op : Op) (f : ℕ) → placed k (CallTo op f) ≡ placed_by k (Item-F.CallTo op f)
  placed-CallTo op f = placed_level (CallTo op f) ∙ ap (λ l. placed_by k (placed_layer l)) (outs-CallTo op f)

  pub placed-Leave : (op : Op) (to : LeaveTo) → placed k (Leave op to) ≡ placed_by k (Item-F.Leave op to)
  placed-Leave op to = placed_level (Leave op to) ∙ ap (λ l. placed_by k (placed_layer l)) (outs-Leave op to)
