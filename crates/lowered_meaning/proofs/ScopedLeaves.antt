-- Jumps of a statement that is scoped: a `break` or a `continue` of its own only where one may stand. So a function's body is left by its end or by `return`.
use Rattle.std.proofs.Common.{◌≡◌, ℕ, zero, suc, ◌≤◌, Bool, true, false, Some, None, List, [], ◌∷◌, refl, sym, ap, ◌∙◌, subst, arith, ◌⊎◌, inl, inr}
use Rattle.std.specs.Prelude.{◌&&◌, ◌||◌, map}
use Rattle.c_tree.specs.declared.tree.Group.{Group}
use Rattle.c_tree.specs.declared.tree.Stmt.{Stmt}
use Rattle.c_tree.specs.declared.tree.StmtKind.{out-StmtKind}
use Rattle.c_tree.specs.declared.tree.BlockItem.{BlockItem, out-BlockItem}
use Rattle.c_tree.specs.declared.tree.BlockItem.TheOpen.{StmtKind-F, BlockItem-F}
use Rattle.c_tree.specs.declared.tree.Program.{Program}
use Rattle.c_tree.specs.Layer.{StmtLayer, ItemLayer}
use Rattle.c_tree.specs.Runs.{State}
use Rattle.c_tree.specs.Nodes.{to_depth}
use Rattle.sound_programs.specs.Scoped as scoping
use Rattle.sound_programs.specs.Scoped.{Stand, Scope, Scoped, ScopedGroup, in_body, in_switch, each_fits, last_ends, groups_fit, opt_fits, all_labels, labels_differ, names, fits_by, scoped, scoped_item, scoped_group}
use Rattle.sound_programs.specs.Counted.{stmt_nodes, item_nodes, group_nodes, sum_of, kind_nodes_by, item_nodes_by, counted_stmt, counted_item}
use Rattle.sound_programs.proofs.CountLevels as count
use Rattle.sound_programs.proofs.NameLevels.{scoped_parts, scoped_item_parts, scoped_level, scoped_item_level, scoped_group_level}
use Rattle.lowered_graphs.specs.Stmts as lower
use Rattle.lowered_graphs.specs.Stmts.{Within, LoweredStmt, LoweredGroup, lowered_stmt, lowered_item, lowered_group, stmt_parts, item_parts, group_parts, any_of, any_in, any_of_groups, breaks_by, continues_by}
use Rattle.lowered_graphs.specs.GraphOf.{ends_by}
use Rattle.lowered_graphs.proofs.StmtLevels.{stmt_level, item_level, group_level}
use Rattle.lowered_meaning.proofs.CallsBodies.{OnDone, IsReturned}
use Rattle.lowered_meaning.proofs.CallsFalls.{IsBodyLeft}
use Rattle.lowered_meaning.proofs.CountedConstants.{and_left, and_right}
use Rattle.lowered_meaning.proofs.StmtInductionLeaves as leaves

or_cases : (a b : Bool) → (a || b) ≡ true → (a ≡ true) ⊎ (b ≡ true)
or_cases true b e = inl refl
or_cases false b e = inr e

module _ (p : Program) (W : Within) where
  -- it holds a `break` or a `continue` of its own only where one may stand
  abbrev Jumps : Stand → LoweredStmt → Type 0
  Jumps st l = (l.breaks ≡ true → st.breaks ≡ true) × (l.continues ≡ true → st.continues ≡ true)

  module _ (m : ℕ) (ih : (st : Stand) (xs : Scope) (x : Stmt) → stmt_nodes p x ≤ m → (scoped x).fits st xs ≡ true → Jumps st (lowered_stmt W x)) where
    item_jumps : (st : Stand) (xs : Scope) (b : BlockItem) → item_nodes p b ≤ m → (scoped_item b).fits st xs ≡ true → Jumps st (lowered_item W b)
    item_jumps st xs b le fits = subst (Jumps st) (item_level W b) (by_layer (out-BlockItem b) (omega (arith, le, count.item_level p b)) (ap (λ s. s.fits st xs) (scoped_item_level b) ∙ fits))
      where
        by_layer : (l : ItemLayer) → item_nodes_by p (counted_item p l) ≤ m → (scoping.item_by (scoped_item_parts l)).fits st xs ≡ true → Jumps st (lower.item_by W (item_parts W l))
        by_layer (BlockItem-F.Declare ds) le' e = (λ q. cc, λ q. cc)
        by_layer (BlockItem-F.«BlockItem::Act» x) le' e = ih st xs x le' e

    items_jumps : (st : Stand) (xs : Scope) (items : List BlockItem) → sum_of (map (item_nodes p) items) ≤ m → each_fits st xs (map scoped_item items) ≡ true
        → (any_of (λ l. l.breaks) (map (lowered_item W) items) ≡ true → st.breaks ≡ true) × (any_of (λ l. l.continues) (map (lowered_item W) items) ≡ true → st.continues ≡ true)
    items_jumps st xs [] le fits = (λ q. cc, λ q. cc)
    items_jumps st xs (b ∷ bs) le fits =
        let one : Jumps st (lowered_item W b) = item_jumps st xs b (omega (arith, le)) (and_left ((scoped_item b).fits st xs) _ fits) in
        let rest : (any_of (λ l. l.breaks) (map (lowered_item W) bs) ≡ true → st.breaks ≡ true) × (any_of (λ l. l.continues) (map (lowered_item W) bs) ≡ true → st.continues ≡ true)
        = items_jumps st ((scoped_item b).behind xs) bs (omega (arith, le)) (and_right ((scoped_item b).fits st xs) _ fits) in
        (λ q. either_of (or_cases (lowered_item W b).breaks (any_of (λ l. l.breaks) (map (lowered_item W) bs)) q) one.0 rest.0, λ q. either_of (or_cases (lowered_item W b).continues (any_of (λ l. l.continues) (map (lowered_item W) bs)) q) one.1 rest.1)
      where
        either_of : {A B C : Type 0} → A ⊎ B → (A → C) → (B → C) → C
        either_of (inl a) f g = f a
        either_of (inr b') f g = g b'

    groups_jump : (st : Stand) (xs : Scope) (gs : List Group) → sum_of (map (group_nodes p) gs) ≤ m → groups_fit st xs (map scoped_group gs) ≡ true
        → any_of_groups (λ l. l.continues) (map (lowered_group W) gs) ≡ true → st.continues ≡ true
    groups_jump st xs [] le fits e = cc
    groups_jump st xs (g ∷ gs) le fits e = by_or (or_cases (any_of (λ l. l.continues) (lowered_group W g).items) (any_of_groups (λ l. l.continues) (map (lowered_group W) gs)) e) (groups_jump st xs gs (omega (arith, le)))
      where
        fits_of : (hs : List ScopedGroup) → groups_fit st xs (scoped_group g ∷ hs) ≡ true → (each_fits st xs (scoped_group g).items ≡ true) × (groups_fit st xs hs ≡ true)
        fits_of [] q = (q, refl)
        fits_of (h ∷ hs) q = (and_left (each_fits st xs (scoped_group g).items) _ (and_right (last_ends (scoped_group g).items) _ q), and_right (each_fits st xs (scoped_group g).items) _ (and_right (last_ends (scoped_group g).items) _ q))

        both : (each_fits st xs (scoped_group g).items ≡ true) × (groups_fit st xs (map scoped_group gs) ≡ true)
        both = fits_of (map scoped_group gs) fits

        by_or : ((any_of (λ l. l.continues) (lowered_group W g).items ≡ true) ⊎ (any_of_groups (λ l. l.continues) (map (lowered_group W) gs) ≡ true))
            → (groups_fit st xs (map scoped_group gs) ≡ true → any_of_groups (λ l. l.continues) (map (lowered_group W) gs) ≡ true → st.continues ≡ true) → st.continues ≡ true
        by_or (inl q) rest = (items_jumps st xs g.items (omega (arith, le, count.group_level p g)) (ap (λ s. each_fits st xs s.items) (scoped_group_level g) ∙ both.0)).1
            (ap (λ s. any_of (λ l. l.continues) s.items) (group_level W g) ∙ q)
        by_or (inr q) rest = rest both.1 q

    layer_jumps : (st : Stand) (xs : Scope) (l : StmtLayer) → kind_nodes_by p (counted_stmt p l) ≤ m → fits_by (scoped_parts l) st xs ≡ true
        → (breaks_by (stmt_parts W l) ≡ true → st.breaks ≡ true) × (continues_by (stmt_parts W l) ≡ true → st.continues ≡ true)
    layer_jumps st xs (StmtKind-F.Block items) le fits = items_jumps st xs items le fits
    layer_jumps st xs StmtKind-F.Empty le fits = (λ q. cc, λ q. cc)
    layer_jumps st xs (StmtKind-F.«StmtKind::Act» a) le fits = (λ q. cc, λ q. cc)
    layer_jumps st xs StmtKind-F.Break le fits = (λ q. fits, λ q. cc)
    layer_jumps st xs StmtKind-F.Continue le fits = (λ q. cc, λ q. fits)
    layer_jumps st xs (StmtKind-F.Return e) le fits = (λ q. cc, λ q. cc)
    layer_jumps st xs (StmtKind-F.If c a None) le fits =
        let one : Jumps st (lowered_stmt W a) = ih st xs a (omega (arith, le)) (and_left ((scoped a).fits st xs) _ (and_right (names c xs) _ fits)) in
        (λ q. one.0 (or_no (lowered_stmt W a).breaks q), λ q. one.1 (or_no (lowered_stmt W a).continues q))
      where
        or_no : (b : Bool) → (b || false) ≡ true → b ≡ true
        or_no true q = refl
        or_no false q = cc
    layer_jumps st xs (StmtKind-F.If c a (Some b)) le fits =
        let arms : ((scoped a).fits st xs && (scoped b).fits st xs) ≡ true = and_right (names c xs) _ fits in
        let one : Jumps st (lowered_stmt W a) = ih st xs a (omega (arith, le)) (and_left ((scoped a).fits st xs) _ arms) in
        let two : Jumps st (lowered_stmt W b) = ih st xs b (omega (arith, le)) (and_right ((scoped a).fits st xs) _ arms) in
        (λ q. either_of (or_cases (lowered_stmt W a).breaks (lowered_stmt W b).breaks q) one.0 two.0, λ q. either_of (or_cases (lowered_stmt W a).continues (lowered_stmt W b).continues q) one.1 two.1)
      where
        either_of : {A B C : Type 0} → A ⊎ B → (A → C) → (B → C) → C
        either_of (inl x) f g = f x
        either_of (inr y) f g = g y
    layer_jumps st xs (StmtKind-F.While c body) le fits = (λ q. cc, λ q. cc)
    layer_jumps st xs (StmtKind-F.Do body c) le fits = (λ q. cc, λ q. cc)
    layer_jumps st xs (StmtKind-F.For o c step body) le fits = (λ q. cc, λ q. cc)
    layer_jumps st xs (StmtKind-F.Switch e groups) le fits =
        (λ q. cc, λ q. groups_jump (in_switch st) xs groups (omega (arith, le)) (and_right (labels_differ (all_labels (map scoped_group groups))) _ (and_right (names e xs) _ fits)) q)

  pub jumps : (m : ℕ) (st : Stand) (xs : Scope) (x : Stmt) → stmt_nodes p x ≤ m → (scoped x).fits st xs ≡ true → Jumps st (lowered_stmt W x)
  jumps zero st xs x le fits = absurd (omega (arith, le, count.stmt_level p x))
  jumps (suc m) st xs x le fits =
      subst (Jumps st) (stmt_level W x) (layer_jumps m (jumps m) st xs (out-StmtKind x.kind) (omega (arith, le, count.stmt_level p x)) (ap (λ s. s.fits st xs) (scoped_level x) ∙ fits))

  -- ---- bodies of functions

  none_here : (b : Bool) → (b ≡ true → false ≡ true) → b ≡ false
  none_here false f = refl
  none_here true f = sym (f refl)

  pub body_breaks : (xs : Scope) (x : Stmt) → (scoped x).fits in_body xs ≡ true → (lowered_stmt W x).breaks ≡ false
  body_breaks xs x fits = none_here (lowered_stmt W x).breaks (jumps (stmt_nodes p x) in_body xs x (omega arith) fits).0

  pub body_continues : (xs : Scope) (x : Stmt) → (scoped x).fits in_body xs ≡ true → (lowered_stmt W x).continues ≡ false
  body_continues xs x fits = none_here (lowered_stmt W x).continues (jumps (stmt_nodes p x) in_body xs x (omega arith) fits).1

  -- the body of a function is left by its end or by `return`
  pub scoped_left : (xs : Scope) (x : Stmt) → (scoped x).fits in_body xs ≡ true → (j : ℕ) (s : State) → OnDone IsBodyLeft ((to_depth p j).stmt x s)
  scoped_left xs x fits = leaves.body_left p W x (body_breaks xs x fits) (body_continues xs x fits)

  -- by `return` alone where it ends in one
  pub scoped_returned : (xs : Scope) (x : Stmt) → (scoped x).fits in_body xs ≡ true → ends_by (out-StmtKind x.kind) ≡ true → (j : ℕ) (s : State) → OnDone IsReturned ((to_depth p j).stmt x s)
  scoped_returned xs x fits = leaves.body_returned p W x (body_breaks xs x fits) (body_continues xs x fits)
