-- What the rule of `switch` makes, and which statement a word begins.
use Rattle.std.proofs.Common.{◌≡◌, refl, sym, ap, subst, ◌∙◌, ℕ, ◌+◌, add-zero, add_assoc, Bool, true, false, List, [], ◌∷◌, ◌++◌, map, arith, append-nil, append_assoc}
use Rattle.std.specs.Prelude.{length, ◌&&◌}
use Rattle.c_values.specs.declared.ops.Ty.{Ty}
use Rattle.c_tree.specs.declared.tree.Expr.{Expr}
use Rattle.c_tree.specs.declared.tree.Label.{Label}
use Rattle.c_tree.specs.declared.tree.Group.{Group}
use Rattle.c_tree.specs.declared.tree.Function.{Function}
use Rattle.c_tree.specs.declared.tree.BlockItem.TheOpen.{StmtKind-F}
use Rattle.c_tree.specs.declared.tree.StmtKind.TheVariants as stmt
use Rattle.c_typing.specs.Parts.{◌>>=◌, pure}
use Rattle.c_typing.specs.Conversions as to
use Rattle.c_typing.specs.Judged.{Judged, is_token}
use Rattle.c_typing.specs.Expressions as expression
use Rattle.c_typing.specs.Statements as rule
use Rattle.sound_programs.specs.Sound.{has_promoted, group_fits, all_hold}
use Rattle.sound_programs.specs.Calls.{group_below}
use Rattle.sound_programs.specs.Counted.{expr_nodes, group_nodes, sum_of}
use Rattle.sound_programs.specs.Scoped as scoped
use Rattle.sound_programs.specs.Scoped.{Stand, Scoped, ScopedGroup, in_switch, names, each_fits, last_ends, groups_fit, all_labels, labels_differ, scoped_group, group_locals, joined}
use Rattle.accepted_programs.proofs.Walk.{World, Env, below}
use Rattle.accepted_programs.proofs.Types.{by_promoted}
use Rattle.accepted_programs.proofs.Trees.{Covers, Whole, Good, value, both}
use Rattle.accepted_programs.proofs.Values.{Fit, GoodExpr, IsExpr, value_makes, converted_makes}
use Rattle.accepted_programs.proofs.Calling.{all_snoc, sum_snoc}
use Rattle.accepted_programs.proofs.Doing.{Has, Stays, stays_refl, stays_trans, has_pure, has_if, has_then, has_given, has_next, has_true, has_false, has_from}
use Rattle.accepted_programs.proofs.Declaring.{Between, between_append}
use Rattle.accepted_programs.proofs.Stating.{GoodKind, IsKind, later_covers}
use Rattle.accepted_programs.proofs.Looping.{map_snoc, joined_snoc}
use Rattle.accepted_programs.proofs.Switching.{GoodGroup, IsGroup}

no_truth : false ≡ true → ⊥
no_truth h = cc

-- ---- groups, behind those that are there

-- the labels of groups
abbrev pub labels_of : List Group → List Label
labels_of [] = []
labels_of (g ∷ gs) = g.labels ++ labels_of gs

abbrev pub groups_end : List ScopedGroup → Bool
groups_end [] = true
groups_end (g ∷ gs) = last_ends g.items && groups_end gs

groups_snoc : (at : Stand) (scope : scoped.Scope) (gs : List ScopedGroup) (g : ScopedGroup) → groups_end gs ≡ true → groups_fit at scope gs ≡ true → each_fits at scope g.items ≡ true → groups_fit at scope (gs ++ g ∷ []) ≡ true
groups_snoc at scope [] g e h k = k
groups_snoc at scope (x ∷ []) g e h k = both (last_ends x.items) _ (left (last_ends x.items) true e) (both (each_fits at scope x.items) _ h k)
  where
    left : (a b : Bool) → (a && b) ≡ true → a ≡ true
    left true b h = refl
    left false b h = h
groups_snoc at scope (x ∷ y ∷ gs) g e h k =
    both (last_ends x.items) _ (left (last_ends x.items) _ e)
    (both (each_fits at scope x.items) _ (left (each_fits at scope x.items) _ (right (last_ends x.items) _ h))
    (groups_snoc at scope (y ∷ gs) g (right (last_ends x.items) _ e) (right (each_fits at scope x.items) _ (right (last_ends x.items) _ h)) k))
  where
    left : (a b : Bool) → (a && b) ≡ true → a ≡ true
    left true b h = refl
    left false b h = h

    right : (a b : Bool) → (a && b) ≡ true → b ≡ true
    right true b h = h
    right false b h = cc

end_snoc : (gs : List ScopedGroup) (g : ScopedGroup) → groups_end gs ≡ true → last_ends g.items ≡ true → groups_end (gs ++ g ∷ []) ≡ true
end_snoc [] g h k = both (last_ends g.items) true k refl
end_snoc (x ∷ gs) g h k = by (last_ends x.items) h (λ r. end_snoc gs g r k)
  where
    by : (b : Bool) → (b && groups_end gs) ≡ true → (groups_end gs ≡ true → groups_end (gs ++ g ∷ []) ≡ true) → (b && groups_end (gs ++ g ∷ [])) ≡ true
    by true h r = r h
    by false h r = cc

labels_snoc : (gs : List Group) (g : Group) → labels_of (gs ++ g ∷ []) ≡ labels_of gs ++ g.labels
labels_snoc [] g = append-nil g.labels
labels_snoc (x ∷ gs) g = ap (λ z. x.labels ++ z) (labels_snoc gs g) ∙ sym (append_assoc x.labels (labels_of gs) g.labels)

scoped_labels_snoc : (gs : List ScopedGroup) (g : ScopedGroup) → all_labels (gs ++ g ∷ []) ≡ all_labels gs ++ g.labels
scoped_labels_snoc [] g = append-nil g.labels
scoped_labels_snoc (x ∷ gs) g = ap (λ z. x.labels ++ z) (scoped_labels_snoc gs g) ∙ sym (append_assoc x.labels (all_labels gs) g.labels)

-- where each group so far ends in a jump, another may follow
pub record GoodGroups (w : World) (at : Stand) (ended : Bool) (e : Env) (gs : List Group) (before : List Label) (e' : Env) (n : ℕ) : Type 0 where
  pub stays : Stays e e'
  pub fits : Whole w → all_hold (map (group_fits w.program e.result) gs) ≡ true
  pub calls : all_hold (map (group_below (below w (length e.functions))) gs) ≡ true
  pub labels : all_labels (map scoped_group gs) ≡ before
  pub differ : labels_differ before ≡ true
  pub scoped_ : (scope : scoped.Scope) → Covers scope e → groups_fit at scope (map scoped_group gs) ≡ true
  pub ends : ended ≡ true → groups_end (map scoped_group gs) ≡ true
  pub locals_ : Between (length e.variables) (joined (map group_locals gs)) (length e'.variables)
  pub nodes : sum_of (map (group_nodes w.program) gs) ≡ n

module _ (w : World) where
  no_groups : (at : Stand) (e : Env) → GoodGroups w at true e [] [] e 0
  no_groups at e = record { stays = stays_refl e; fits = λ whole. refl; calls = refl; labels = refl; differ = refl; scoped_ = λ scope covers. refl; ends = λ h. refl; locals_ = omega arith; nodes = refl }

  groups_more : (at : Stand) (b : Bool) (e : Env) (gs : List Group) (before : List Label) (e1 : Env) (m : ℕ) (g : Group) (e2 : Env) (n : ℕ) → GoodGroups w at true e gs before e1 m → GoodGroup w at b before e1 g e2 n
      → GoodGroups w at b e (gs ++ g ∷ []) (before ++ g.labels) e2 (m + n)
  groups_more at b e gs before e1 m g e2 n f h = record {
    stays = stays_trans e e1 e2 f.stays h.stays;
    fits = λ whole. ap all_hold (map_snoc (group_fits w.program e.result) gs g) ∙ all_snoc (map (group_fits w.program e.result) gs) (group_fits w.program e.result g) (f.fits whole) (ap (λ r. group_fits w.program r g) (sym f.stays.inside.result) ∙ h.fits whole);
    calls = ap all_hold (map_snoc (group_below (below w (length e.functions))) gs g) ∙ all_snoc (map (group_below (below w (length e.functions))) gs) (group_below (below w (length e.functions)) g) f.calls
        (ap (λ (fs : List Function). group_below (below w (length fs)) g) (sym f.stays.inside.functions) ∙ h.calls);
    labels = ap all_labels (map_snoc scoped_group gs g) ∙ (scoped_labels_snoc (map scoped_group gs) (scoped_group g) ∙ (ap (λ z. z ++ (scoped_group g).labels) f.labels ∙ ap (λ z. before ++ z) h.labels));
    differ = h.differ;
    scoped_ = λ scope covers. ap (groups_fit at scope) (map_snoc scoped_group gs g) ∙ groups_snoc at scope (map scoped_group gs) (scoped_group g) (f.ends refl) (f.scoped_ scope covers) (h.scoped_ scope (later_covers w e e1 scope f.stays.scopes covers));
    ends = λ q. ap groups_end (map_snoc scoped_group gs g) ∙ end_snoc (map scoped_group gs) (scoped_group g) (f.ends refl) (h.ends q);
    locals_ = subst (λ z. Between (length e.variables) z (length e2.variables)) (sym (ap joined (map_snoc group_locals gs g) ∙ joined_snoc (map group_locals gs) (group_locals g)))
        (between_append (length e.variables) (length e1.variables) (length e2.variables) (joined (map group_locals gs)) (group_locals g) f.locals_ h.locals_);
    nodes = ap sum_of (map_snoc (group_nodes w.program) gs g) ∙ (sum_snoc (map (group_nodes w.program) gs) (group_nodes w.program g) ∙ (ap (λ k. k + group_nodes w.program g) f.nodes ∙ ap (λ k. m + k) h.nodes));
  }

  -- groups, and perhaps a token behind them; whether another group may stand there
  pub data AreGroups (at : Stand) : Bool → List Judged → Type 0 where
    no_more : (b : Bool) → AreGroups at b []
    token_behind : (b : Bool) (part : Judged) (rest : List Judged) → is_token part ≡ true → AreGroups at b (part ∷ rest)
    group_first : (b : Bool) (part : Judged) (rest : List Judged) → is_token part ≡ false → IsGroup w at b part.group → AreGroups at b rest → AreGroups at true (part ∷ rest)

  -- groups that are there, whether or not another may follow
  pub record SomeGroups (at : Stand) (e : Env) (gs : List Group) (e' : Env) (n : ℕ) : Type 0 where
    pub ended : Bool
    pub before : List Label
    pub good : GoodGroups w at ended e gs before e' n

  onto_has : (at : Stand) (b : Bool) (ty : Ty) (e0 : Env) (m : ℕ) (before : List Label) (gs : List Group) (js : List Judged) → AreGroups at b js
      → Has w (λ e. GoodGroups w at b e0 gs before e m) (rule.groups_onto ty before gs js) (λ e hs e' n. SomeGroups at e0 hs e' (m + n))
  onto_has at b ty e0 m before gs [] (no_more _) =
      has_pure w (λ e. GoodGroups w at b e0 gs before e m) gs (λ e hs e' n. SomeGroups at e0 hs e' (m + n)) (λ e q core. record { ended = b; before = before; good = subst (λ k. GoodGroups w at b e0 gs before e k) (sym (add-zero m)) q })
  onto_has at b ty e0 m before gs (part ∷ rest) (token_behind _ _ _ token) =
      has_true w (λ e. GoodGroups w at b e0 gs before e m) (is_token part) (pure gs) (part.group ty before >>= (λ g. rule.groups_onto ty (before ++ g.labels) (gs ++ g ∷ []) rest)) (λ e hs e' n. SomeGroups at e0 hs e' (m + n)) token
      (has_pure w (λ e. GoodGroups w at b e0 gs before e m) gs (λ e hs e' n. SomeGroups at e0 hs e' (m + n)) (λ e q core. record { ended = b; before = before; good = subst (λ k. GoodGroups w at b e0 gs before e k) (sym (add-zero m)) q }))
  onto_has at true ty e0 m before gs (part ∷ rest) (group_first c _ _ node is others) =
      has_false w (λ e. GoodGroups w at true e0 gs before e m) (is_token part) (pure gs) (part.group ty before >>= (λ g. rule.groups_onto ty (before ++ g.labels) (gs ++ g ∷ []) rest)) (λ e hs e' n. SomeGroups at e0 hs e' (m + n)) node
      (has_then w (λ e. GoodGroups w at true e0 gs before e m) (part.group ty before) (λ g. rule.groups_onto ty (before ++ g.labels) (gs ++ g ∷ []) rest) (GoodGroup w at c before) (λ e hs e' n. SomeGroups at e0 hs e' (m + n))
      (has_if w (λ e. GoodGroups w at true e0 gs before e m) (λ e. labels_differ before ≡ true) (part.group ty before) (GoodGroup w at c before) (GoodGroup w at c before) (λ e q. q.differ) (λ e a e' n q core core' g. g) (is ty before))
      (λ e g n. has_if w (λ e'. GoodGroups w at true e0 gs before e m × GoodGroup w at c before e g e' n) (λ e'. GoodGroups w at c e0 (gs ++ g ∷ []) (before ++ g.labels) e' (m + n)) (rule.groups_onto ty (before ++ g.labels) (gs ++ g ∷ []) rest)
      (λ e' hs e2 k. SomeGroups at e0 hs e2 ((m + n) + k)) (λ e' hs e2 k. SomeGroups at e0 hs e2 (m + (n + k))) (λ e' q. groups_more at c e0 gs before e m g e' n q.0 q.1)
      (λ e' hs e2 k q core core' f. subst (λ j. SomeGroups at e0 hs e2 j) (add_assoc m n k) f)
      (onto_has at c ty e0 (m + n) (before ++ g.labels) (gs ++ g ∷ []) rest others)))

  groups_has : (at : Stand) (ty : Ty) (js : List Judged) → AreGroups at true js → Has w (λ e. Unit {0}) (rule.groups_onto ty [] [] js) (SomeGroups at)
  groups_has at ty js are =
      has_from w (λ e. Unit {0}) (rule.groups_onto ty [] [] js) (SomeGroups at)
      (λ e0. has_if w (λ e. Unit {0} × (e ≡ e0)) (λ e. GoodGroups w at true e0 [] [] e 0) (rule.groups_onto ty [] [] js) (λ e hs e' n. SomeGroups at e0 hs e' (0 + n)) (λ e hs e' n. SomeGroups at e0 hs e' n)
      (λ e q. subst (λ z. GoodGroups w at true e0 [] [] z 0) (sym q.1) (no_groups at e0)) (λ e hs e' n q core core' g. subst (λ k. SomeGroups at e0 hs e' k) (zero_before n) g)
      (onto_has at true ty e0 0 [] [] js are))
    where
      zero_before : (n : ℕ) → 0 + n ≡ n
      zero_before n = omega arith

  switch_good : (at : Stand) (e : Env) (ty : Ty) (x : Expr) (m : ℕ) (gs : List Group) (e' : Env) (n : ℕ) → Good w e (value (to.promoted ty)) x m → SomeGroups (in_switch at) e gs e' n → GoodKind w at false e (stmt.Switch x gs) e' (m + (n + 0))
  switch_good at e ty x m gs e' n f s =
      let g = s.good in record {
        layer = StmtKind-F.Switch x gs;
        out = stmt.outs-Switch x gs;
        stays = g.stays;
        fits = λ whole. both _ _ (ap has_promoted (f.typed whole) ∙ by_promoted (λ t. has_promoted (value t) ≡ true) refl refl ty) (g.fits whole);
        calls = both _ _ f.calls g.calls;
        scoped_ = λ scope covers. both _ _ (f.named scope covers) (both _ _ (ap labels_differ g.labels ∙ g.differ) (g.scoped_ scope covers));
        ends = λ h. absurd (no_truth h);
        locals_ = g.locals_;
        nodes = sums (expr_nodes x) (sum_of (map (group_nodes w.program) gs)) m n f.nodes g.nodes;
      }
    where
      sums : (a b m n : ℕ) → a ≡ m → b ≡ n → a + b ≡ m + (n + 0)
      sums a b m n h k = omega (arith, h, k)

  pub switch_kind : (at : Stand) (bracket part close brace : Judged) (js : List Judged) → IsExpr w part → AreGroups (in_switch at) true js → IsKind w at false (rule.switch_by (bracket ∷ part ∷ close ∷ brace ∷ js))
  switch_kind at bracket part close brace js is are =
      has_given w (λ e. Unit {0}) (expression.value_of part) (rule.switch_value js) (GoodExpr w) (GoodKind w at false) (λ e. value_makes w e (Fit w e) part (λ q. q) is)
      (λ x m. has_next w (λ e. Unit {0} × GoodExpr w e x m) (expression.converted (to.promoted x.ty) x) (rule.switched js) (λ e y n. (y.ty ≡ to.promoted x.ty) × Good w e (value (to.promoted x.ty)) y (m + n)) (λ e k e' n. GoodKind w at false e k e' (m + n))
      (λ e. converted_makes w e ((Unit {0} × GoodExpr w e x m) × Fit w e) (to.promoted x.ty) x m (λ q. q.0.1))
      (λ y n. has_then w (λ e. (Unit {0} × GoodExpr w e x m) × ((y.ty ≡ to.promoted x.ty) × Good w e (value (to.promoted x.ty)) y (m + n))) (rule.groups_onto y.ty [] [] js) (λ gs. pure (stmt.Switch y gs)) (SomeGroups (in_switch at)) (λ e k e' i. GoodKind w at false e k e' (m + (n + i)))
      (has_if w (λ e. (Unit {0} × GoodExpr w e x m) × ((y.ty ≡ to.promoted x.ty) × Good w e (value (to.promoted x.ty)) y (m + n))) (λ e. Unit {0}) (rule.groups_onto y.ty [] [] js) (SomeGroups (in_switch at)) (SomeGroups (in_switch at)) (λ e q. tt) (λ e a e' i q core core' g. g) (groups_has (in_switch at) y.ty js are))
      (λ e gs i. has_pure w (λ e'. ((Unit {0} × GoodExpr w e x m) × ((y.ty ≡ to.promoted x.ty) × Good w e (value (to.promoted x.ty)) y (m + n))) × SomeGroups (in_switch at) e gs e' i) (stmt.Switch y gs) (λ e' k e2 j. GoodKind w at false e k e2 (m + (n + (i + j))))
      (λ e' q core. subst (λ z. GoodKind w at false e (stmt.Switch y gs) e' z) (add_assoc m n (i + 0)) (switch_good at e x.ty y (m + n) gs e' i q.0.1.1 q.1)))))
