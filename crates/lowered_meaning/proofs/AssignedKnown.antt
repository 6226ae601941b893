-- What a statement assigns to is in scope or one of its own locals; and so a function is clear of the variables of another.
use Rattle.std.proofs.Common.{◌≡◌, ℕ, zero, suc, ◌≤◌, Bool, true, Option, Some, None, List, [], ◌∷◌, ◌++◌, sym, subst, arith, ◌⊎◌, inl, inr}
use Rattle.std.specs.Prelude.{map, ◌&&◌, ◌==◌}
use Rattle.std.proofs.lemmas.Bool.Decides.{Decides-eqb}
use Rattle.c_values.specs.declared.ops.Ty.{Ty}
use Rattle.c_tree.specs.declared.tree.Action.{Action}
use Rattle.c_tree.specs.declared.tree.Action.TheVariants as action
use Rattle.c_tree.specs.declared.tree.Declared.{Declared}
use Rattle.c_tree.specs.declared.tree.Stmt.{Stmt}
use Rattle.c_tree.specs.declared.tree.StmtKind.{out-StmtKind}
use Rattle.c_tree.specs.declared.tree.BlockItem.{BlockItem, out-BlockItem}
use Rattle.c_tree.specs.declared.tree.BlockItem.TheOpen.{StmtKind-F, BlockItem-F}
use Rattle.c_tree.specs.declared.tree.ForFirst.{ForFirst}
use Rattle.c_tree.specs.declared.tree.ForFirst.TheVariants as first
use Rattle.c_tree.specs.declared.tree.Group.{Group}
use Rattle.c_tree.specs.declared.tree.Program.{Program}
use Rattle.c_tree.specs.Layer.{StmtLayer, ItemLayer}
use Rattle.sound_programs.specs.Counted.{sum_of, stmt_nodes, item_nodes, group_nodes, item_nodes_by, kind_nodes_by, counted_stmt, counted_item}
use Rattle.sound_programs.proofs.CountLevels as count
use Rattle.sound_programs.specs.Scoped as scoping
use Rattle.sound_programs.specs.Scoped.{Scope, holds, names_opt, declared_behind, first_behind, in_loop, in_switch, opt_action_names}
use Rattle.lowered_graphs.specs.Stmts as lower
use Rattle.lowered_graphs.specs.Stmts.{LoweredStmt, lowered_stmt, lowered_item, lowered_group, lowered_by, stmt_parts, item_parts, group_parts, all_of, all_in, all_of_groups, assigned_by, action_assigned, first_assigned, opt_assigned, declared_locals, first_locals}
use Rattle.lowered_graphs.proofs.StmtLevels.{stmt_level, item_level, group_level}
use Rattle.lowered_meaning.specs.Keeps.{Ground}
use Rattle.lowered_meaning.proofs.FitParts.{both_parts, either_part, Each}
use Rattle.lowered_meaning.proofs.FitActions.{IsLocal}
use Rattle.lowered_meaning.proofs.GoodStmts.{within, OwnOnce, Good, GoodAction, GoodFirst, GoodStep, GoodItem, item_behind, GoodItems, GoodGroups, GoodLayer, good_level}

pub each_append : (P : ℕ → Type 0) (xs ys : List ℕ) → Each P xs → Each P ys → Each P (xs ++ ys)
each_append P [] ys h k = k
each_append P (x ∷ xs) ys h k = (h.0, each_append P xs ys h.1 k)

module _ (w : Ground) (is_main : Bool) (result : Option Ty) (May : ℕ → Type 0) (Q : ℕ → Type 0) (own : (x : ℕ) → IsLocal w x → Q x) where
  abbrev p : Program
  p = w.setting.program

  abbrev W : lower.Within
  W = within w is_main result May

  -- all in scope have the property
  abbrev pub All : Scope → Type 0
  All xs = (x : ℕ) → holds x xs ≡ true → Q x

  all_behind : (ds : List Declared) (xs : Scope) → OwnOnce w (declared_locals ds) → All xs → All (declared_behind ds xs)
  all_behind [] xs o all = all
  all_behind (d ∷ ds) xs o all = all_behind ds (d.variable ∷ xs) o.2 more
    where
      found : (x : ℕ) → (((x == d.variable) ≡ true) ⊎ (holds x xs ≡ true)) → Q x
      found x (inl e) = subst Q (sym ((Decides-eqb x d.variable).0 e)) (own d.variable o.0)
      found x (inr h) = all x h

      more : All (d.variable ∷ xs)
      more x h = found x (either_part (x == d.variable) (holds x xs) h)

  action_known : (xs : Scope) (a : Action) → GoodAction w is_main result May xs a → All xs → Each Q (action_assigned a)
  action_known xs (action.Value e) good all = tt
  action_known xs (action.Assign to e) good all = (all to.variable (both_parts (holds to.variable xs) (names_opt to.index xs && scoping.names e xs) good.named).0, tt)
  action_known xs (action.Update to at op ty by) good all = (all to.variable (both_parts (holds to.variable xs) (names_opt to.index xs && names_opt by xs) good.named).0, tt)

  first_known : (xs : Scope) (o : Option ForFirst) → GoodFirst w is_main result May xs o → All xs → Each Q (first_assigned o)
  first_known xs None good all = tt
  first_known xs (Some (first.Declare ds)) good all = tt
  first_known xs (Some (first.Act a)) good all = action_known xs a good all

  first_all : (xs : Scope) (o : Option ForFirst) → GoodFirst w is_main result May xs o → All xs → All (first_behind o xs)
  first_all xs None good all = all
  first_all xs (Some (first.Declare ds)) good all = all_behind ds xs good.local all
  first_all xs (Some (first.Act a)) good all = all

  step_known : (xs : Scope) (o : Option Action) → GoodStep w is_main result May xs o → All xs → Each Q (opt_assigned o)
  step_known xs None good all = tt
  step_known xs (Some a) good all = action_known xs a good all

  module _ (n : ℕ) (ih : (st : scoping.Stand) (xs : Scope) (s : Stmt) → stmt_nodes p s ≤ n → Good w is_main result May st xs s → All xs → Each Q (lowered_stmt W s).assigned) where
    item_known : (st : scoping.Stand) (xs : Scope) (L : ItemLayer) → item_nodes_by p (counted_item p L) ≤ n → GoodItem w is_main result May st xs L → All xs → Each Q (lower.item_by W (item_parts W L)).assigned
    item_known st xs (BlockItem-F.Declare ds) le good all = tt
    item_known st xs (BlockItem-F.«BlockItem::Act» s) le good all = ih st xs s le good all

    item_all : (st : scoping.Stand) (xs : Scope) (L : ItemLayer) → GoodItem w is_main result May st xs L → All xs → All (item_behind w is_main result May L xs)
    item_all st xs (BlockItem-F.Declare ds) good all = all_behind ds xs good.local all
    item_all st xs (BlockItem-F.«BlockItem::Act» s) good all = all

    items_known : (st : scoping.Stand) (xs : Scope) (bs : List BlockItem) → sum_of (map (item_nodes p) bs) ≤ n → GoodItems w is_main result May st xs bs → All xs → Each Q (all_of (λ z. z.assigned) (map (lowered_item W) bs))
    items_known st xs [] le good all = tt
    items_known st xs (b ∷ bs) le good all = each_append Q (lowered_item W b).assigned (all_of (λ z. z.assigned) (map (lowered_item W) bs))
        (subst (λ z. Each Q z.assigned) (item_level W b) (item_known st xs (out-BlockItem b) (omega (arith, le, count.item_level p b)) good.0 all))
        (items_known st (item_behind w is_main result May (out-BlockItem b) xs) bs (omega (arith, le)) good.1 (item_all st xs (out-BlockItem b) good.0 all))

    groups_known : (st : scoping.Stand) (xs : Scope) (gs : List Group) → sum_of (map (group_nodes p) gs) ≤ n → GoodGroups w is_main result May st xs gs → All xs → Each Q (all_of_groups (λ z. z.assigned) (map (lowered_group W) gs))
    groups_known st xs [] le good all = tt
    groups_known st xs (g ∷ gs) le good all = each_append Q (all_of (λ z. z.assigned) (lowered_group W g).items) (all_of_groups (λ z. z.assigned) (map (lowered_group W) gs))
        (subst (λ z. Each Q (all_of (λ y. y.assigned) z.items)) (group_level W g) (items_known st xs g.items (omega (arith, le, count.group_level p g)) good.0.items all))
        (groups_known st xs gs (omega (arith, le)) good.1 all)

    level_known : (st : scoping.Stand) (xs : Scope) (L : StmtLayer) → kind_nodes_by p (counted_stmt p L) ≤ n → GoodLayer w is_main result May st xs L → All xs → Each Q (assigned_by (stmt_parts W L))
    level_known st xs (StmtKind-F.Block items) le good all = items_known st xs items le good all
    level_known st xs StmtKind-F.Empty le good all = tt
    level_known st xs (StmtKind-F.«StmtKind::Act» a) le good all = action_known xs a good all
    level_known st xs StmtKind-F.Break le good all = tt
    level_known st xs StmtKind-F.Continue le good all = tt
    level_known st xs (StmtKind-F.Return e) le good all = tt
    level_known st xs (StmtKind-F.If c x None) le good all = each_append Q (lowered_stmt W x).assigned [] (ih st xs x (omega (arith, le)) good.1 all) tt
    level_known st xs (StmtKind-F.If c x (Some y)) le good all = each_append Q (lowered_stmt W x).assigned (lowered_stmt W y).assigned (ih st xs x (omega (arith, le)) good.1 all) (ih st xs y (omega (arith, le)) good.2 all)
    level_known st xs (StmtKind-F.While c body) le good all = ih in_loop xs body (omega (arith, le)) good.1 all
    level_known st xs (StmtKind-F.Do body c) le good all = ih in_loop xs body (omega (arith, le)) good.0 all
    level_known st xs (StmtKind-F.For f c step body) le good all = each_append Q (first_assigned f) (opt_assigned step ++ (lowered_stmt W body).assigned) (first_known xs f good.0 all)
        (each_append Q (opt_assigned step) (lowered_stmt W body).assigned (step_known (first_behind f xs) step good.2 (first_all xs f good.0 all)) (ih in_loop (first_behind f xs) body (omega (arith, le)) good.3 (first_all xs f good.0 all)))
    level_known st xs (StmtKind-F.Switch e groups) le good all = groups_known (in_switch st) xs groups (omega (arith, le)) good.2 all

  by_nodes : (n : ℕ) (st : scoping.Stand) (xs : Scope) (s : Stmt) → stmt_nodes p s ≤ n → Good w is_main result May st xs s → All xs → Each Q (lowered_stmt W s).assigned
  by_nodes zero st xs s le good all = absurd (omega (arith, le, count.stmt_level p s))
  by_nodes (suc n) st xs s le good all = subst (λ z. Each Q z.assigned) (stmt_level W s)
      (level_known n (by_nodes n) st xs (out-StmtKind s.kind) (omega (arith, le, count.stmt_level p s)) (good_level w is_main result May st xs s good) all)

  -- each variable that a statement assigns to has what those in scope and those of the function have
  pub assigned_known : (st : scoping.Stand) (xs : Scope) (s : Stmt) → Good w is_main result May st xs s → All xs → Each Q (lowered_stmt W s).assigned
  assigned_known st xs s good all = by_nodes (stmt_nodes p s) st xs s (omega arith) good all

  -- so has each that it declares
  pub locals_known : (xs : List ℕ) → OwnOnce w xs → Each Q xs
  locals_known [] h = tt
  locals_known (x ∷ xs) h = (own x h.0, locals_known xs h.2)
