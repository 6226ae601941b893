-- What a statement in scope tells: its jumps stay within what holds them, and its locals are those that it declares.
use Rattle.std.proofs.Common.{◌≡◌, ℕ, Bool, true, false, Option, Some, None, List, [], ◌∷◌, ◌++◌, inl, inr, refl, sym, ap, subst, ◌∙◌}
use Rattle.std.specs.Prelude.{◌||◌, ◌&&◌, map}
use Rattle.std.proofs.lemmas.Bool.{and_parts, or_cases, false≢true}
use Rattle.base_io.specs.declared.place.Place.{Place}
use Rattle.c_tree.specs.declared.tree.Declared.{Declared}
use Rattle.c_tree.specs.declared.tree.ForFirst.{ForFirst}
use Rattle.c_tree.specs.declared.tree.ForFirst.TheVariants as first
use Rattle.c_tree.specs.declared.tree.Stmt.{Stmt}
use Rattle.c_tree.specs.declared.tree.StmtKind.{out-StmtKind}
use Rattle.c_tree.specs.declared.tree.Group.{Group}
use Rattle.c_tree.specs.declared.tree.BlockItem.{BlockItem, out-BlockItem}
use Rattle.c_tree.specs.declared.tree.BlockItem.TheOpen.{StmtKind-F, BlockItem-F}
use Rattle.c_tree.specs.Layer.{StmtLayer, ItemLayer}
use Rattle.sound_programs.specs.Scoped as scoping
use Rattle.sound_programs.specs.Scoped.{Stand, Scoped, ScopedGroup, scoped, scoped_item, scoped_group, names, names_opt, first_names, first_behind, opt_action_names, each_fits, groups_fit, last_ends, labels_differ, all_labels, locals, item_locals, group_locals, numbers_of, first_numbers, joined, stmt_numbers_by, item_numbers_by}
use Rattle.sound_programs.proofs.NameLevels.{scoped_parts, scoped_item_parts, scoped_level, scoped_item_level, scoped_group_level, locals_parts, locals_item_parts, locals_level, item_locals_level, group_locals_level}
use Rattle.lowered_graphs.specs.Stmts.{Within, LoweredStmt, LoweredGroup, lowered_by, item_by, stmt_parts, item_parts, lowered_stmt, lowered_item, lowered_group, any_of, all_of, any_of_groups, all_of_groups, first_locals, declared_locals, locals_by}
use Rattle.lowered_graphs.proofs.StmtLevels.{stmt_level, item_level, group_level}
use Rattle.lowered_rules.proofs.Inductions.{EachItem, EachGroup, ItemPart, StmtParts, stmt_induction}

module _ (w : Within) where
  abbrev L : Stmt → LoweredStmt
  L s = lowered_stmt w s

  -- ---- jumps

  pub record Jumps (l : LoweredStmt) (st : Stand) : Type 0 where
    pub breaks : l.breaks ≡ true → st.breaks ≡ true
    pub continues : l.continues ≡ true → st.continues ≡ true

  abbrev StaysIn : LoweredStmt → Scoped → Type 0
  StaysIn l sc = (st : Stand) (scope : List ℕ) → sc.fits st scope ≡ true → Jumps l st

  abbrev IsWithin : Stmt → Type 0
  IsWithin s = StaysIn (L s) (scoped s)

  item_layer : (x : ItemLayer) → ItemPart IsWithin x → StaysIn (item_by w (item_parts w x)) (scoping.item_by (scoped_item_parts x))
  item_layer (BlockItem-F.Declare ds) h st scope f = record { breaks = λ e. absurd (false≢true e); continues = λ e. absurd (false≢true e) }
  item_layer (BlockItem-F.«BlockItem::Act» s) h st scope f = h st scope f

  item_stays : (b : BlockItem) → ItemPart IsWithin (out-BlockItem b) → StaysIn (lowered_item w b) (scoped_item b)
  item_stays b h = subst (λ l. StaysIn l (scoped_item b)) (item_level w b) (subst (StaysIn (item_by w (item_parts w (out-BlockItem b)))) (scoped_item_level b) (item_layer (out-BlockItem b) h))

  record ListJumps (ls : List LoweredStmt) (st : Stand) : Type 0 where
    pub breaks : any_of (λ x. x.breaks) ls ≡ true → st.breaks ≡ true
    pub continues : any_of (λ x. x.continues) ls ≡ true → st.continues ≡ true

  either : (a b c : Bool) → (a ≡ true → c ≡ true) → (b ≡ true → c ≡ true) → (a || b) ≡ true → c ≡ true
  either a b c f g h = elim (or_cases a b h) [
    | inl x ↦ f x
    | inr y ↦ g y
  ]

  list_stays : (bs : List BlockItem) → EachItem IsWithin bs → (st : Stand) (scope : List ℕ) → each_fits st scope (map scoped_item bs) ≡ true → ListJumps (map (lowered_item w) bs) st
  list_stays [] h st scope f = record { breaks = λ e. absurd (false≢true e); continues = λ e. absurd (false≢true e) }
  list_stays (b ∷ bs) h st scope f =
      let p = and_parts ((scoped_item b).fits st scope) (each_fits st ((scoped_item b).behind scope) (map scoped_item bs)) f in
      let x = item_stays b h.0 st scope p.0 in
      let y = list_stays bs h.1 st ((scoped_item b).behind scope) p.1 in
      record { breaks = either (lowered_item w b).breaks _ st.breaks x.breaks y.breaks; continues = either (lowered_item w b).continues _ st.continues x.continues y.continues }

  group_stays : (g : Group) → EachItem IsWithin g.items → (st : Stand) (scope : List ℕ) → each_fits st scope (scoped_group g).items ≡ true → ListJumps (lowered_group w g).items st
  group_stays g h st scope f =
      subst (λ (l : LoweredGroup). ListJumps l.items st) (group_level w g)
      (list_stays g.items h st scope (subst (λ (x : ScopedGroup). each_fits st scope x.items ≡ true) (sym (scoped_group_level g)) f))

  groups_stay : (gs : List Group) → EachGroup IsWithin gs → (st : Stand) (scope : List ℕ) → groups_fit st scope (map scoped_group gs) ≡ true → any_of_groups (λ x. x.continues) (map (lowered_group w) gs) ≡ true → st.continues ≡ true
  groups_stay [] h st scope f = λ e. absurd (false≢true e)
  groups_stay (g ∷ []) h st scope f = either _ false st.continues (group_stays g h.0 st scope f).continues (λ e. absurd (false≢true e))
  groups_stay (g ∷ k ∷ gs) h st scope f =
      let p = and_parts (last_ends (scoped_group g).items) _ f in
      let q = and_parts (each_fits st scope (scoped_group g).items) (groups_fit st scope (map scoped_group (k ∷ gs))) p.1 in
      either _ _ st.continues (group_stays g h.0 st scope q.0).continues (groups_stay (k ∷ gs) h.1 st scope q.1)

  level : (x : StmtLayer) (at : Place) → StmtParts IsWithin x → StaysIn (lowered_by w (stmt_parts w x) at) (scoping.kind_by (scoped_parts x))
  level (StmtKind-F.Block bs) at h st scope f = let l = list_stays bs h st scope f in record { breaks = l.breaks; continues = l.continues }
  level StmtKind-F.Empty at h st scope f = record { breaks = λ e. absurd (false≢true e); continues = λ e. absurd (false≢true e) }
  level (StmtKind-F.«StmtKind::Act» a) at h st scope f = record { breaks = λ e. absurd (false≢true e); continues = λ e. absurd (false≢true e) }
  level StmtKind-F.Break at h st scope f = record { breaks = λ e. f; continues = λ e. absurd (false≢true e) }
  level StmtKind-F.Continue at h st scope f = record { breaks = λ e. absurd (false≢true e); continues = λ e. f }
  level (StmtKind-F.Return e) at h st scope f = record { breaks = λ e. absurd (false≢true e); continues = λ e. absurd (false≢true e) }
  level (StmtKind-F.If c x None) at h st scope f =
      let p = and_parts (names c scope) ((scoped x).fits st scope && true) f in
      let j = h.0 st scope (and_parts ((scoped x).fits st scope) true p.1).0 in
      record { breaks = either (L x).breaks false st.breaks j.breaks (λ e. absurd (false≢true e)); continues = either (L x).continues false st.continues j.continues (λ e. absurd (false≢true e)) }
  level (StmtKind-F.If c x (Some y)) at h st scope f =
      let p = and_parts (names c scope) ((scoped x).fits st scope && (scoped y).fits st scope) f in
      let q = and_parts ((scoped x).fits st scope) ((scoped y).fits st scope) p.1 in
      let j = h.0 st scope q.0 in
      let k = h.1 st scope q.1 in
      record { breaks = either (L x).breaks (L y).breaks st.breaks j.breaks k.breaks; continues = either (L x).continues (L y).continues st.continues j.continues k.continues }
  level (StmtKind-F.While c body) at h st scope f = record { breaks = λ e. absurd (false≢true e); continues = λ e. absurd (false≢true e) }
  level (StmtKind-F.Do body c) at h st scope f = record { breaks = λ e. absurd (false≢true e); continues = λ e. absurd (false≢true e) }
  level (StmtKind-F.For g c step body) at h st scope f = record { breaks = λ e. absurd (false≢true e); continues = λ e. absurd (false≢true e) }
  level (StmtKind-F.Switch e gs) at h st scope f =
      let p = and_parts (names e scope) _ f in
      let q = and_parts (labels_differ (all_labels (map scoped_group gs))) (groups_fit (scoping.in_switch st) scope (map scoped_group gs)) p.1 in
      record { breaks = λ e. absurd (false≢true e); continues = groups_stay gs h (scoping.in_switch st) scope q.1 }

  pub jumps_stay : (s : Stmt) (st : Stand) (scope : List ℕ) → (scoped s).fits st scope ≡ true → Jumps (L s) st
  jumps_stay = stmt_induction w.setting.program IsWithin (λ s h. subst (λ l. StaysIn l (scoped s)) (stmt_level w s) (subst (StaysIn (lowered_by w (stmt_parts w (out-StmtKind s.kind)) s.place)) (scoped_level s) (level (out-StmtKind s.kind) s.place h)))

  -- ---- locals

  abbrev HasLocals : Stmt → Type 0
  HasLocals s = (L s).locals ≡ locals s

  numbers_same : (ds : List Declared) → declared_locals ds ≡ numbers_of ds
  numbers_same [] = refl
  numbers_same (d ∷ ds) = ap (λ l. d.variable ∷ l) (numbers_same ds)

  first_same : (f : Option ForFirst) → first_locals f ≡ first_numbers f
  first_same None = refl
  first_same (Some (first.Declare ds)) = numbers_same ds
  first_same (Some (first.Act a)) = refl

  item_locals_by : (x : ItemLayer) → ItemPart HasLocals x → (item_by w (item_parts w x)).locals ≡ item_numbers_by (locals_item_parts x)
  item_locals_by (BlockItem-F.Declare ds) h = numbers_same ds
  item_locals_by (BlockItem-F.«BlockItem::Act» s) h = h

  item_same : (b : BlockItem) → ItemPart HasLocals (out-BlockItem b) → (lowered_item w b).locals ≡ item_locals b
  item_same b h = ap (λ (l : LoweredStmt). l.locals) (sym (item_level w b)) ∙ (item_locals_by (out-BlockItem b) h ∙ item_locals_level b)

  both_lists : (a b c d : List ℕ) → a ≡ c → b ≡ d → a ++ b ≡ c ++ d
  both_lists a b c d e f = ap (λ l. l ++ b) e ∙ ap (λ l. c ++ l) f

  list_same : (bs : List BlockItem) → EachItem HasLocals bs → all_of (λ x. x.locals) (map (lowered_item w) bs) ≡ joined (map item_locals bs)
  list_same [] h = refl
  list_same (b ∷ bs) h = both_lists (lowered_item w b).locals _ (item_locals b) _ (item_same b h.0) (list_same bs h.1)

  groups_same : (gs : List Group) → EachGroup HasLocals gs → all_of_groups (λ x. x.locals) (map (lowered_group w) gs) ≡ joined (map group_locals gs)
  groups_same [] h = refl
  groups_same (g ∷ gs) h =
      both_lists (all_of (λ x. x.locals) (lowered_group w g).items) _ (group_locals g) _
      (ap (λ (l : LoweredGroup). all_of (λ x. x.locals) l.items) (sym (group_level w g)) ∙ (list_same g.items h.0 ∙ group_locals_level g)) (groups_same gs h.1)

  locals_layer : (x : StmtLayer) → StmtParts HasLocals x → locals_by (stmt_parts w x) ≡ stmt_numbers_by (locals_parts x)
  locals_layer (StmtKind-F.Block bs) h = list_same bs h
  locals_layer StmtKind-F.Empty h = refl
  locals_layer (StmtKind-F.«StmtKind::Act» a) h = refl
  locals_layer StmtKind-F.Break h = refl
  locals_layer StmtKind-F.Continue h = refl
  locals_layer (StmtKind-F.Return e) h = refl
  locals_layer (StmtKind-F.If c x None) h = ap (λ l. l ++ []) h.0
  locals_layer (StmtKind-F.If c x (Some y)) h = both_lists (L x).locals (L y).locals (locals x) (locals y) h.0 h.1
  locals_layer (StmtKind-F.While c body) h = h
  locals_layer (StmtKind-F.Do body c) h = h
  locals_layer (StmtKind-F.For f c step body) h = both_lists (first_locals f) (L body).locals (first_numbers f) (locals body) (first_same f) h
  locals_layer (StmtKind-F.Switch e gs) h = groups_same gs h

  pub locals_same : (s : Stmt) → (lowered_stmt w s).locals ≡ locals s
  locals_same = stmt_induction w.setting.program HasLocals (λ s h. ap (λ (l : LoweredStmt). l.locals) (sym (stmt_level w s)) ∙ (locals_layer (out-StmtKind s.kind) h ∙ locals_level s))
