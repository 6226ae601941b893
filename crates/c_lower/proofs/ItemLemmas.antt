-- Items one after another, and the groups of a switch.
use denote.Param.Weighed.{most}
use Rattle.std.proofs.Common.{◌≡◌, ℕ, ◌≤◌, arith, subst, refl, sym, ap, ◌∙◌, Bool, true, false, List, [], ◌∷◌, ◌++◌, map, append-nil}
use Rattle.std.specs.Prelude.{if◌then◌else◌}
use Rattle.base_io.specs.declared.place.Place.{Place}
use Rattle.c_tree.specs.Nodes.{has_default}
use Rattle.c_tree.specs.declared.tree.Group.{Group}
use Rattle.flow_graph.specs.declared.graph.Item.{Item}
use Rattle.flow_graph.specs.declared.graph.Item.TheVariants as item
use Rattle.flow_graph.specs.declared.graph.Operand.{Operand}
use Rattle.lowered_graphs.specs.declared.positions.Position.{Position}
use Rattle.lowered_graphs.specs.Making.{Emit, Made, Counts, made_on}
use Rattle.lowered_graphs.specs.Stmts.{Within, LoweredStmt, LoweredGroup, lowered_group, group_parts, group_items, each_item, labels, default_items, groups_from}
use Rattle.lowered_graphs.proofs.StmtLevels.{group_level}
use Rattle.c_lower.specs.declared.arms.Arm.{Arm}
use Rattle.c_lower.specs.Places.{position}
use Rattle.c_lower.specs.Arms.{Chains, arm_of, nested, nested_made}
use Rattle.c_lower.specs.Emitting.{Emits, Emitted}
use Rattle.c_lower.proofs.EmitLemmas.{on_pure}

-- an item, and then the others
pub each_more : (last : Position) (x : LoweredStmt) (xs : List LoweredStmt) (c : Counts) → each_item last (x ∷ xs) c ≡ made_on (x.emit (position xs last) c) (λ u. each_item last xs)
each_more last x [] c = sym (on_pure (x.emit last c))
each_more last x (y ∷ ys) c = refl

pub position_map : {A B : Type 0} (f : A → B) (xs : List A) (last : Position) → position (map f xs) last ≡ position xs last
position_map f [] last = refl
position_map f (x ∷ xs) last = refl

pub nested_append : (xs ys : List Arm) (items : List Item) → nested (xs ++ ys) items ≡ nested xs (nested ys items)
nested_append [] ys items = refl
nested_append (a ∷ others) ys items = ap (λ l. a.before ++ item.Branch a.test a.yes l ∷ []) (nested_append others ys items)

-- a group that has no default is one arm more
pub group_more : (v : Operand) (g : LoweredGroup) (gs : List LoweredGroup) (others : Emit (Unit {0})) (at : Place) (c d : Counts) (arm : Arm)
    → has_default g.labels ≡ false → arm ≡ (arm_of v g at c).value → d ≡ (arm_of v g at c).counts
    → groups_from v (g ∷ gs) others at c ≡ nested_made (arm ∷ []) (groups_from v gs others at d)
group_more v g gs others at c d arm h e q = rw (h, e, q) (ap (λ l. record {
  items = l ++ item.Branch (arm_of v g at c).value.test (arm_of v g at c).value.yes (groups_from v gs others at (arm_of v g at c).counts).items ∷ [];
  value = tt;
  counts = (groups_from v gs others at (arm_of v g at c).counts).counts;
}) (sym (append-nil (labels v g.labels c).items)))

pub group_none : (v : Operand) (g : LoweredGroup) (gs : List LoweredGroup) (others : Emit (Unit {0})) (at : Place) (c : Counts) → has_default g.labels ≡ true
    → groups_from v (g ∷ gs) others at c ≡ groups_from v gs others at c
group_none v g gs others at c h = rw h refl

pub nested_more : (xs arms : List Arm) (arm : Arm) (m : Made (Unit {0})) → arms ≡ xs ++ arm ∷ [] → nested_made xs (nested_made (arm ∷ []) m) ≡ nested_made arms m
nested_more xs arms arm m h = ap (λ l. record { items = l; value = tt; counts = m.counts }) (sym (ap (λ l. nested l m.items) h ∙ nested_append xs (arm ∷ []) m.items))

-- items that are left are no larger
pub most_rest : {A : Type 0} (size : A → ℕ) (x : A) (left rest : List A) (n : ℕ) → left ≡ x ∷ rest → most size left ≤ n → most size rest ≤ n
most_rest size x left rest n e h = let k = subst (λ xs. most size xs ≤ n) e h in omega (arith, k)

-- ---- the groups of a switch

-- the group with `default` stands first
pub default_here : (w : Within) (g : Group) (gs : List LoweredGroup) → has_default g.labels ≡ true → default_items (lowered_group w g ∷ gs) ≡ group_items (group_parts w g)
default_here w g gs h = ap (λ x. default_items (x ∷ gs)) (sym (group_level w g)) ∙ ap (λ b. if b then group_items (group_parts w g) else default_items gs) h

-- it stands further on
pub default_on : (w : Within) (g : Group) (gs : List LoweredGroup) → has_default g.labels ≡ false → default_items (lowered_group w g ∷ gs) ≡ default_items gs
default_on w g gs h = ap (λ x. default_items (x ∷ gs)) (sym (group_level w g)) ∙ ap (λ b. if b then group_items (group_parts w g) else default_items gs) h

pub labels_level : (w : Within) (g : Group) (b : Bool) → has_default g.labels ≡ b → has_default (lowered_group w g).labels ≡ b
labels_level w g b h = ap (λ x. has_default x.labels) (sym (group_level w g)) ∙ h

-- a group without `default` is given, and its arm stands behind the others
pub group_given : (w : Within) (v : Operand) (g : Group) (at : Place) (arms more : List Arm) (arm : Arm) (s t : Emitted) → has_default g.labels ≡ false
    → Emits (arm_of v (group_parts w g) at) arm s t → more ≡ arms ++ arm ∷ [] → Chains v (lowered_group w g) at arms more s t
group_given w v g at arms more arm s t h d q =
    let e = subst (λ (x : LoweredGroup). Emits (arm_of v x at) arm s t) (group_level w g) d in
    record {
      whole = λ gs others. ap (nested_made arms) (group_more v (lowered_group w g) gs others at s.counts t.counts arm (labels_level w g false h) e.answer e.counts)
          ∙ nested_more arms more arm (groups_from v gs others at t.counts) q;
      outer = e.items ∙ append-nil s.items;
    }

pub group_left : (w : Within) (v : Operand) (g : Group) (at : Place) (arms : List Arm) (s : Emitted) → has_default g.labels ≡ true → Chains v (lowered_group w g) at arms arms s s
group_left w v g at arms s h = record {
  whole = λ gs others. ap (nested_made arms) (group_none v (lowered_group w g) gs others at s.counts (labels_level w g true h));
  outer = refl;
}
