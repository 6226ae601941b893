-- What a statement is given, and items of a block one after another.
use Rattle.std.proofs.Common.{◌≡◌, ◌≢◌, ℕ, ◌≤◌, Bool, true, false, Option, List, [], ◌∷◌, ◌++◌, refl, sym, ap, subst, ◌∙◌, arith}
use Rattle.std.specs.Prelude.{⊤, ◌||◌, map}
use Rattle.std.proofs.lemmas.Bool.{and_parts, false≢true}
use Rattle.c_tree.specs.declared.tree.Program.{Program}
use Rattle.c_tree.specs.declared.tree.Stmt.{Stmt}
use Rattle.c_tree.specs.declared.tree.StmtKind.{out-StmtKind}
use Rattle.c_tree.specs.declared.tree.BlockItem.{BlockItem, out-BlockItem}
use Rattle.c_tree.specs.declared.tree.BlockItem.TheOpen.{StmtKind-F, BlockItem-F}
use Rattle.c_tree.specs.Layer.{StmtLayer, ItemLayer}
use Rattle.sound_programs.specs.Counted.{is_return, is_return_item, ends_in_return}
use Rattle.sound_programs.specs.Scoped as scoping
use Rattle.sound_programs.specs.Scoped.{Stand, Scoped, ScopedGroup, scoped, scoped_item, scoped_group, holds, names, names_opt, first_names, first_behind, each_fits, opt_fits, groups_fit, last_ends, opt_action_names, declared_names, declared_behind, labels_differ, all_labels}
use Rattle.sound_programs.specs.Sound as sound
use Rattle.sound_programs.specs.Sound.{typing, has_value, has_type, has_promoted, stmt_fits, item_fits, group_fits, stmt_by, item_parts_fit, parts_fit, all_hold, labels_fit, label_fits, is_labelled, return_fits, tests, first_fits, step_fits}
use Rattle.sound_programs.proofs.SoundLevels as sounds
use Rattle.sound_programs.proofs.NameLevels.{scoped_item_parts, scoped_level, scoped_item_level}
use Rattle.flow_graph.specs.Rules.{Where, Ending, Open, Returns}
use Rattle.lowered_graphs.specs.declared.positions.Position.{Position}
use Rattle.lowered_graphs.specs.declared.positions.Position.TheVariants.{Anywhere, LastOfGroup, Body, LastOfBody}
use Rattle.lowered_graphs.specs.Making.{Counts, Made}
use Rattle.lowered_graphs.specs.Exprs.{Setting}
use Rattle.lowered_graphs.specs.Stmts.{Within, LoweredStmt, LoweredGroup, each_item, last_position, item_by, item_parts, lowered_stmt, lowered_item, any_of, all_of, any_of_groups, all_of_groups}
use Rattle.lowered_graphs.proofs.StmtLevels.{item_level}
use Rattle.lowered_rules.proofs.Inductions.{EachItem, ItemPart}
use Rattle.lowered_rules.proofs.EachLemmas.{Each, each_left, each_right, or_first, or_second}
use Rattle.lowered_rules.proofs.StmtOrder.{OrderlyAll, orderly_item, orderly_each}
use Rattle.lowered_rules.proofs.FitLemmas.{Ground, Fits, fits_none, fits_append, Spared, Other}
use Rattle.lowered_rules.proofs.ActionFit.{fits_declare, in_scope_behind}

-- ---- lists whose numbers differ

abbrev pub Distinct : List ℕ → Type 0
Distinct [] = ⊤
Distinct (x ∷ xs) = Each (λ y. y ≢ x) xs × Distinct xs

pub distinct_left : (xs ys : List ℕ) → Distinct (xs ++ ys) → Distinct xs
distinct_left [] ys h = tt
distinct_left (x ∷ xs) ys h = (each_left (λ y. y ≢ x) xs ys h.0, distinct_left xs ys h.1)

pub distinct_right : (xs ys : List ℕ) → Distinct (xs ++ ys) → Distinct ys
distinct_right [] ys h = h
distinct_right (x ∷ xs) ys h = distinct_right xs ys h.1

-- ---- how a list ends

abbrev pub at_end : Bool → Position → Ending
at_end false last = Open
at_end true LastOfBody = Returns
at_end true _ = Open

abbrev pub stmt_ending : StmtLayer → Position → Ending
stmt_ending (StmtKind-F.Block items) last = at_end (ends_in_return items) (last_position last)
stmt_ending x last = at_end (is_return x) last

abbrev pub item_ending : ItemLayer → Position → Ending
item_ending (BlockItem-F.Declare ds) last = Open
item_ending (BlockItem-F.«BlockItem::Act» s) last = stmt_ending (out-StmtKind s.kind) last

-- inside of a body
abbrev pub nested : Position → Bool
nested Body = false
nested _ = true

pub end_anywhere : (b : Bool) → at_end b Anywhere ≡ Open
end_anywhere true = refl
end_anywhere false = refl

pub end_of_group : (b : Bool) → at_end b LastOfGroup ≡ Open
end_of_group true = refl
end_of_group false = refl

nested_last : (b : Bool) (last : Position) → nested last ≡ true → at_end b (last_position last) ≡ Open
nested_last b Anywhere h = end_anywhere b
nested_last b LastOfGroup h = end_of_group b
nested_last b LastOfBody h = end_anywhere b
nested_last b Body h = absurd (false≢true h)

stmt_end : (x : StmtLayer) (last : Position) → nested last ≡ true → stmt_ending x last ≡ at_end (is_return x) last
stmt_end (StmtKind-F.Block items) last h = nested_last (ends_in_return items) last h
stmt_end StmtKind-F.Empty last h = refl
stmt_end (StmtKind-F.«StmtKind::Act» a) last h = refl
stmt_end StmtKind-F.Break last h = refl
stmt_end StmtKind-F.Continue last h = refl
stmt_end (StmtKind-F.Return e) last h = refl
stmt_end (StmtKind-F.If c x y) last h = refl
stmt_end (StmtKind-F.While c body) last h = refl
stmt_end (StmtKind-F.Do body c) last h = refl
stmt_end (StmtKind-F.For f c step body) last h = refl
stmt_end (StmtKind-F.Switch e groups) last h = refl

item_end : (x : ItemLayer) (last : Position) → nested last ≡ true → item_ending x last ≡ at_end (is_return_item x) last
item_end (BlockItem-F.Declare ds) last h = refl
item_end (BlockItem-F.«BlockItem::Act» s) last h = stmt_end (out-StmtKind s.kind) last h

stmt_anywhere : (x : StmtLayer) → stmt_ending x Anywhere ≡ Open
stmt_anywhere x = stmt_end x Anywhere refl ∙ end_anywhere (is_return x)

item_anywhere : (x : ItemLayer) → item_ending x Anywhere ≡ Open
item_anywhere x = item_end x Anywhere refl ∙ end_anywhere (is_return_item x)

-- ---- what is known of a part

pub record Facts : Type 0 where
  pub callees : List ℕ
  pub locals : List ℕ
  pub assigned : List ℕ
  pub breaks : Bool
  pub continues : Bool
  pub returns : Bool

abbrev pub no_facts : Facts
no_facts = record { callees = []; locals = []; assigned = []; breaks = false; continues = false; returns = false }

abbrev pub both_facts : Facts → Facts → Facts
both_facts f g = record { callees = f.callees ++ g.callees; locals = f.locals ++ g.locals; assigned = f.assigned ++ g.assigned; breaks = f.breaks || g.breaks; continues = f.continues || g.continues; returns = f.returns || g.returns }

abbrev pub facts_of : LoweredStmt → Facts
facts_of l = record { callees = l.callees; locals = l.locals; assigned = l.assigned; breaks = l.breaks; continues = l.continues; returns = l.returns }

abbrev pub facts_list : List LoweredStmt → Facts
facts_list xs = record { callees = all_of (λ x. x.callees) xs; locals = all_of (λ x. x.locals) xs; assigned = all_of (λ x. x.assigned) xs; breaks = any_of (λ x. x.breaks) xs; continues = any_of (λ x. x.continues) xs; returns = any_of (λ x. x.returns) xs }

-- a `break` in a group is the switch's own
abbrev pub facts_groups : List LoweredGroup → Facts
facts_groups gs = record { callees = all_of_groups (λ x. x.callees) gs; locals = all_of_groups (λ x. x.locals) gs; assigned = all_of_groups (λ x. x.assigned) gs; breaks = any_of_groups (λ x. x.breaks) gs; continues = any_of_groups (λ x. x.continues) gs; returns = any_of_groups (λ x. x.returns) gs }

module _ (G : Ground) where
  abbrev pub s : Setting
  s = G.setting

  abbrev pub p : Program
  p = G.setting.program

  abbrev pub W : Within
  W = record { setting = G.setting; function = G.function; is_main = G.is_main }

  abbrev pub InScope : List ℕ → Type 0
  InScope scope = (x : ℕ) → holds x scope ≡ true → G.known x

  pub record Given (avoid : Option ℕ) (w : Where) (f : Facts) : Type 0 where
    pub spared : Spared G avoid
    pub main : w.in_main ≡ G.is_main
    pub callees : Each G.callee f.callees
    pub locals : Each G.local f.locals
    pub distinct : Distinct f.locals
    pub assigned : Each (Other G avoid) f.assigned
    pub other : Each (Other G avoid) f.locals
    pub breaks : f.breaks ≡ true → w.breaks ≡ true
    pub continues : f.continues ≡ true → w.continues ≡ true
    pub returns : f.returns ≡ true → w.returns ≡ true

  pub given_first : (avoid : Option ℕ) (w : Where) (f g : Facts) → Given avoid w (both_facts f g) → Given avoid w f
  given_first avoid w f g h = record {
    spared = h.spared;
    main = h.main;
    callees = each_left G.callee f.callees g.callees h.callees;
    locals = each_left G.local f.locals g.locals h.locals;
    distinct = distinct_left f.locals g.locals h.distinct;
    assigned = each_left (Other G avoid) f.assigned g.assigned h.assigned;
    other = each_left (Other G avoid) f.locals g.locals h.other;
    breaks = λ e. h.breaks (or_first f.breaks g.breaks e);
    continues = λ e. h.continues (or_first f.continues g.continues e);
    returns = λ e. h.returns (or_first f.returns g.returns e);
  }

  pub given_rest : (avoid : Option ℕ) (w : Where) (f g : Facts) → Given avoid w (both_facts f g) → Given avoid w g
  given_rest avoid w f g h = record {
    spared = h.spared;
    main = h.main;
    callees = each_right G.callee f.callees g.callees h.callees;
    locals = each_right G.local f.locals g.locals h.locals;
    distinct = distinct_right f.locals g.locals h.distinct;
    assigned = each_right (Other G avoid) f.assigned g.assigned h.assigned;
    other = each_right (Other G avoid) f.locals g.locals h.other;
    breaks = λ e. h.breaks (or_second f.breaks g.breaks e);
    continues = λ e. h.continues (or_second f.continues g.continues e);
    returns = λ e. h.returns (or_second f.returns g.returns e);
  }

  -- behind the functions that expressions call
  abbrev pub on_facts : List ℕ → Facts → Facts
  on_facts cs f = record { callees = cs ++ f.callees; locals = f.locals; assigned = f.assigned; breaks = f.breaks; continues = f.continues; returns = f.returns }

  pub given_on : (avoid : Option ℕ) (w : Where) (cs : List ℕ) (f : Facts) → Given avoid w (on_facts cs f) → Given avoid w f
  given_on avoid w cs f h = record {
    spared = h.spared;
    main = h.main;
    callees = each_right G.callee cs f.callees h.callees;
    locals = h.locals;
    distinct = h.distinct;
    assigned = h.assigned;
    other = h.other;
    breaks = h.breaks;
    continues = h.continues;
    returns = h.returns;
  }

  -- within a loop or a switch that it stands in
  pub given_in : (avoid : Option ℕ) (w v : Where) (f g : Facts) → Given avoid w f → v.in_main ≡ w.in_main → Each G.callee g.callees → g.locals ≡ f.locals → Each (Other G avoid) g.assigned
      → (g.breaks ≡ true → v.breaks ≡ true) → (g.continues ≡ true → v.continues ≡ true) → (g.returns ≡ true → v.returns ≡ true) → Given avoid v g
  given_in avoid w v f g h m c l a bs cs rs = record {
    spared = h.spared;
    main = m ∙ h.main;
    callees = c;
    locals = subst (Each G.local) (sym l) h.locals;
    distinct = subst Distinct (sym l) h.distinct;
    assigned = a;
    other = subst (Each (Other G avoid)) (sym l) h.other;
    breaks = bs;
    continues = cs;
    returns = rs;
  }

  abbrev pub Holds : LoweredStmt → Scoped → Bool → (Position → Ending) → Type 0
  Holds l sc typed ending = (avoid : Option ℕ) (w : Where) → Given avoid w (facts_of l) → (scope : List ℕ) → InScope scope → (st : Stand) → typed ≡ true → sc.fits st scope ≡ true
      → (last : Position) (c : Counts) → G.base ≤ c.temp → (l.emit last c).counts.temp ≤ G.top → Fits G avoid w (ending last) (l.emit last c).items

  abbrev pub StmtHolds : Stmt → Type 0
  StmtHolds t = Holds (lowered_stmt W t) (scoped t) (stmt_fits p G.result t) (stmt_ending (out-StmtKind t.kind))

  abbrev pub ItemHolds : BlockItem → Type 0
  ItemHolds b = Holds (lowered_item W b) (scoped_item b) (item_fits p G.result b) (item_ending (out-BlockItem b))

  abbrev pub EachHolds : List BlockItem → Type 0
  EachHolds [] = ⊤
  EachHolds (b ∷ bs) = ItemHolds b × EachHolds bs

  -- a statement that stands anywhere
  pub anywhere : (t : Stmt) → StmtHolds t → (avoid : Option ℕ) (w : Where) → Given avoid w (facts_of (lowered_stmt W t)) → (scope : List ℕ) → InScope scope → (st : Stand) → stmt_fits p G.result t ≡ true → (scoped t).fits st scope ≡ true
      → (c : Counts) → G.base ≤ c.temp → ((lowered_stmt W t).emit Anywhere c).counts.temp ≤ G.top → Fits G avoid w Open ((lowered_stmt W t).emit Anywhere c).items
  anywhere t h avoid w g scope in' st typed fits c lo hi =
      subst (λ e. Fits G avoid w e ((lowered_stmt W t).emit Anywhere c).items) (stmt_anywhere (out-StmtKind t.kind)) (h avoid w g scope in' st typed fits Anywhere c lo hi)

  -- ---- items

  item_layer : (x : ItemLayer) → ItemPart StmtHolds x → Holds (item_by W (item_parts W x)) (scoping.item_by (scoped_item_parts x)) (sound.item_by p (item_parts_fit p G.result x)) (item_ending x)
  item_layer (BlockItem-F.Declare ds) h avoid w g scope in' st typed fits last c lo hi = fits_declare G avoid w g.spared ds scope in' g.locals g.other typed fits g.callees c lo hi
  item_layer (BlockItem-F.«BlockItem::Act» t) h avoid w g scope in' st typed fits last c lo hi = h avoid w g scope in' st typed fits last c lo hi

  item_holds : (b : BlockItem) → ItemPart StmtHolds (out-BlockItem b) → ItemHolds b
  item_holds b h =
      subst (λ l. Holds l (scoped_item b) (item_fits p G.result b) (item_ending (out-BlockItem b))) (item_level W b)
      (subst (λ sc. Holds (item_by W (item_parts W (out-BlockItem b))) sc (item_fits p G.result b) (item_ending (out-BlockItem b))) (scoped_item_level b)
      (subst (λ t. Holds (item_by W (item_parts W (out-BlockItem b))) (scoping.item_by (scoped_item_parts (out-BlockItem b))) t (item_ending (out-BlockItem b))) (sounds.item_level p G.result b)
      (item_layer (out-BlockItem b) h)))

  pub items_hold : (bs : List BlockItem) → EachItem StmtHolds bs → EachHolds bs
  items_hold [] h = tt
  items_hold (b ∷ bs) h = (item_holds b h.0, items_hold bs h.1)

  stmt_behind : (t : Stmt) (scope : List ℕ) → (scoped t).behind scope ≡ scope
  stmt_behind t scope = sym (ap (λ (sc : Scoped). sc.behind scope) (scoped_level t))

  behind_layer : (x : ItemLayer) (scope : List ℕ) → Each G.local (item_by W (item_parts W x)).locals → InScope scope → InScope ((scoping.item_by (scoped_item_parts x)).behind scope)
  behind_layer (BlockItem-F.Declare ds) scope l h = in_scope_behind G ds scope l h
  behind_layer (BlockItem-F.«BlockItem::Act» t) scope l h = subst InScope (sym (stmt_behind t scope)) h

  item_behind : (b : BlockItem) (scope : List ℕ) → Each G.local (lowered_item W b).locals → InScope scope → InScope ((scoped_item b).behind scope)
  item_behind b scope l h =
      subst (λ (sc : Scoped). InScope (sc.behind scope)) (scoped_item_level b) (behind_layer (out-BlockItem b) scope (subst (λ (x : LoweredStmt). Each G.local x.locals) (sym (item_level W b)) l) h)

  pub all_orderly : (bs : List BlockItem) → OrderlyAll (map (lowered_item W) bs)
  all_orderly [] = tt
  all_orderly (b ∷ bs) = (orderly_item W b, all_orderly bs)

  pub fits_items : (bs : List BlockItem) → EachHolds bs → (avoid : Option ℕ) (w : Where) → Given avoid w (facts_list (map (lowered_item W) bs)) → (scope : List ℕ) → InScope scope → (st : Stand) → all_hold (map (item_fits p G.result) bs) ≡ true
      → each_fits st scope (map scoped_item bs) ≡ true → (last : Position) → nested last ≡ true → (c : Counts) → G.base ≤ c.temp → (each_item last (map (lowered_item W) bs) c).counts.temp ≤ G.top
      → Fits G avoid w (at_end (ends_in_return bs) last) (each_item last (map (lowered_item W) bs) c).items
  fits_items [] h avoid w g scope in' st typed fits last n c lo hi = fits_none G avoid w
  fits_items (b ∷ []) h avoid w g scope in' st typed fits last n c lo hi =
      let t = and_parts (item_fits p G.result b) true typed in
      let f = and_parts ((scoped_item b).fits st scope) true fits in
      subst (λ e. Fits G avoid w e ((lowered_item W b).emit last c).items) (item_end (out-BlockItem b) last n)
      (h.0 avoid w (given_first avoid w (facts_of (lowered_item W b)) no_facts g) scope in' st t.0 f.0 last c lo hi)
  fits_items (b ∷ d ∷ bs) h avoid w g scope in' st typed fits last n c lo hi =
      let l : LoweredStmt = lowered_item W b in
      let m : Made (Unit {0}) = l.emit Anywhere c in
      let t = and_parts (item_fits p G.result b) (all_hold (map (item_fits p G.result) (d ∷ bs))) typed in
      let f = and_parts ((scoped_item b).fits st scope) (each_fits st ((scoped_item b).behind scope) (map scoped_item (d ∷ bs))) fits in
      let g1 = given_first avoid w (facts_of l) (facts_list (map (lowered_item W) (d ∷ bs))) g in
      let g2 = given_rest avoid w (facts_of l) (facts_list (map (lowered_item W) (d ∷ bs))) g in
      let to = (orderly_item W b Anywhere c).temps in
      let tr = (orderly_each last (map (lowered_item W) (d ∷ bs)) (all_orderly (d ∷ bs)) m.counts).temps in
      fits_append G avoid w (at_end (ends_in_return (d ∷ bs)) last) m.items _
      (subst (λ e. Fits G avoid w e m.items) (item_anywhere (out-BlockItem b)) (h.0 avoid w g1 scope in' st t.0 f.0 Anywhere c lo (omega (arith, tr, hi))))
      (fits_items (d ∷ bs) h.1 avoid w g2 ((scoped_item b).behind scope) (item_behind b scope g1.locals in') st t.1 f.1 last n m.counts (omega (arith, lo, to)) hi)
