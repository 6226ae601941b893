-- Every expression of a sound program whose names are in scope fits.
use Rattle.std.proofs.Common.{◌≡◌, ℕ, Bool, true, Some, None, List, [], ◌∷◌, ◌++◌, length, refl, sym, ap, ◌∙◌, subst, arith}
use Rattle.std.proofs.lemmas.List.{length-map}
use Rattle.std.specs.Prelude.{map, not, is_some, slice_get, IsTrue, ◌&&◌}
use Rattle.c_values.specs.declared.ops.Ty.{Ty}
use Rattle.c_values.specs.declared.ops.Ty.TheVariants.{U16}
use Rattle.c_tree.specs.declared.tree.Expr.{Expr}
use Rattle.c_tree.specs.declared.tree.ExprKind.{out-ExprKind}
use Rattle.c_tree.specs.declared.tree.ExprKind.TheOpen.{ExprKind-F}
use Rattle.c_tree.specs.declared.tree.Function.{Function}
use Rattle.c_tree.specs.declared.tree.Program.{Program}
use Rattle.c_tree.specs.Layer.{ExprLayer}
use Rattle.c_tree.specs.Nodes.{same_type, to_depth, run_body}
use Rattle.sound_programs.specs.Sound.{Typing, has_value, has_type, is_promoted, is_array, unary_fits, binary_fits, choice_fits, typing_by, typing, known, variables_fit}
use Rattle.sound_programs.specs.Scoped.{Scope, holds, all_in, names_by, names}
use Rattle.sound_programs.specs.Counted.{expr_nodes}
use Rattle.sound_programs.proofs.SoundLevels.{typing_level}
use Rattle.sound_programs.proofs.NameLevels.{named, names_level}
use Rattle.flow_graph.specs.declared.graph.Graph.{Graph}
use Rattle.lowered_graphs.specs.Exprs.{Setting, home, is_global, lowered, parts, callees_by, callees_of}
use Rattle.lowered_graphs.proofs.ExprLevels.{lowered_level}
use Rattle.lowered_meaning.specs.Keeps.{Ground, OwnsTemporaries, HasHomes}
use Rattle.lowered_meaning.proofs.AssignStores.{HomesDiffer}
use Rattle.lowered_meaning.proofs.AssignActions.{ExprOk}
use Rattle.lowered_meaning.proofs.Calls.{Callable}
use Rattle.lowered_meaning.proofs.ExprTypes.{binary_wide}
use Rattle.lowered_meaning.proofs.ExprInduction.{AllFit, LayerFit, all_tracked}
use Rattle.lowered_meaning.proofs.FitParts.{both_parts, IsTyped, typed_value, typed_type, value_is, void_is, convert_fits, unary_parts, binary_typed, AllTyped, IsCall, call_is, variables_sized, Each, each_left, each_right}

-- an expression is well typed, names variables of xs alone, and calls only functions that may be called
pub record Fit (s : Setting) (xs : Scope) (May : ℕ → Type 0) (e : Expr) : Type 0 where
  pub typed : IsTyped (typing s.program e)
  pub named : names e xs ≡ true
  pub called : Each May (lowered s e).callees

abbrev pub MayCall : Program → (ℕ → Type 0) → ℕ → Function → Type 0
MayCall p May f fn = (slice_get p.functions f ≡ Some fn) × May f

-- what is so of a function's objects wherever it is executed
pub record Grounded (w : Ground) : Type 0 where
  pub variables : IsTrue (variables_fit w.setting.program.variables)
  pub owns : OwnsTemporaries w
  pub differ : HomesDiffer w
  pub globals : (x : ℕ) → w.has_object x ≡ true → w.owner (home w.setting x) ≡ None → is_global w.setting x ≡ true
  pub file : (x : ℕ) → is_global w.setting x ≡ true → (w.has_object x ≡ true) × (w.owner (home w.setting x) ≡ None)

-- what is in scope covers the names, and the objects of the file
pub record Covers (w : Ground) (scope : ℕ → Type 0) (xs : Scope) : Type 0 where
  pub homes : HasHomes w scope
  pub in_scope : (x : ℕ) → holds x xs ≡ true → scope x
  pub file : (x : ℕ) → is_global w.setting x ≡ true → scope x

module _ (g : Graph) (w : Ground) (scope : ℕ → Type 0) (most : ℕ) (xs : Scope) (May : ℕ → Type 0) (ground : Grounded w) (covers : Covers w scope xs) where
  abbrev p : Program
  p = w.setting.program

  abbrev F : Expr → Type 0
  F = Fit w.setting xs May

  abbrev C : Expr → List ℕ
  C e = (lowered w.setting e).callees

  abbrev pub ExprsFit : List Expr → Type 0
  ExprsFit es = AllFit g w scope most F (MayCall p May) es

  pub all_fit : (es : List Expr) → AllTyped (map (typing p) es) → all_in xs (map names es) ≡ true → Each May (callees_of (map (lowered w.setting) es)) → ExprsFit es
  all_fit [] t n b = tt
  all_fit (e ∷ es) t n b =
      let i = both_parts (names e xs) (all_in xs (map names es)) n in (
        record { typed = t.0; named = i.0; called = each_left May (C e) (callees_of (map (lowered w.setting) es)) b },
        all_fit es t.1 i.1 (each_right May (C e) (callees_of (map (lowered w.setting) es)) b),
      )

  call_fits : (f : ℕ) (args : List Expr) → IsCall p f (map (typing p) args) → all_in xs (map names args) ≡ true → Each May (callees_of (map (lowered w.setting) args) ++ f ∷ [])
      → (fn : Function) × (slice_get p.functions f ≡ Some fn) × (length args ≡ length fn.params) × MayCall p May f fn × ExprsFit args
  call_fits f args call n b = (
    call.function,
    call.found,
    sym (length-map args (typing p)) ∙ call.same,
    (call.found, (each_right May (callees_of (map (lowered w.setting) args)) (f ∷ []) b).0),
    all_fit args call.typed n (each_left May (callees_of (map (lowered w.setting) args)) (f ∷ []) b),
  )

  scope_of : (x : ℕ) → holds x xs ≡ true → scope x × (w.owner (home w.setting x) ≡ None → is_global w.setting x ≡ true)
  scope_of x h = (covers.in_scope x h, λ e. ground.globals x (covers.homes x (covers.in_scope x h)).0 e)

  layer_fits : (L : ExprLayer) (ty : Ty) → IsTyped (typing_by p (known p L) ty) → names_by (named L) xs ≡ true → Each May (callees_by (parts w.setting L)) → LayerFit g w scope most F (MayCall p May) ty L
  layer_fits (ExprKind-F.Number n) ty t h b = tt
  layer_fits (ExprKind-F.Var x) ty t h b = scope_of x h
  layer_fits (ExprKind-F.Element x i) ty t h b =
      let k = both_parts (is_array ty (slice_get p.variables x)) (has_value (typing p i)) (value_is (is_array ty (slice_get p.variables x) && has_value (typing p i)) ty t) in
      let n = both_parts (holds x xs) (names i xs) h in
      (covers.in_scope x n.0, (variables_sized p.variables ground.variables x).0, record { typed = typed_value (typing p i) k.1; named = n.1; called = b })
  layer_fits (ExprKind-F.Convert e) ty t h b =
      let k = both_parts (has_value (typing p e)) (not (has_type ty (typing p e))) (value_is (has_value (typing p e) && not (has_type ty (typing p e))) ty t) in
      (convert_fits p e ty (typing p e) refl k.0 k.1, record { typed = typed_value (typing p e) k.0; named = h; called = b })
  layer_fits (ExprKind-F.Unary op a) ty t h b =
      let k = unary_parts p op a ty (value_is (unary_fits op (typing p a) ty) ty t) in
      (k.0, record { typed = k.1; named = h; called = b })
  layer_fits (ExprKind-F.Binary op a c) ty t h b =
      let e = value_is (binary_fits op (typing p a) (typing p c) ty) ty t in
      let k = binary_typed op (typing p a) (typing p c) ty e in
      let n = both_parts (names a xs) (names c xs) h in
      (binary_wide p a c ty op e, record { typed = k.0; named = n.0; called = each_left May (C a) (C c) b }, record { typed = k.1; named = n.1; called = each_right May (C a) (C c) b })
  layer_fits (ExprKind-F.Cond c a e) ty t h b =
      let k = both_parts (has_value (typing p c)) (is_promoted ty && (has_type ty (typing p a) && has_type ty (typing p e))) (value_is (choice_fits (typing p c) (typing p a) (typing p e) ty) ty t) in
      let l = both_parts (has_type ty (typing p a)) (has_type ty (typing p e)) (both_parts (is_promoted ty) (has_type ty (typing p a) && has_type ty (typing p e)) k.1).1 in
      let n = both_parts (names c xs) (names a xs && names e xs) h in
      let m = both_parts (names a xs) (names e xs) n.1 in
      let j = each_right May (C c) (C a ++ C e) b in (
        record { typed = typed_value (typing p c) k.0; named = n.0; called = each_left May (C c) (C a ++ C e) b },
        record { typed = typed_type ty (typing p a) l.0; named = m.0; called = each_left May (C a) (C e) j },
        record { typed = typed_type ty (typing p e) l.1; named = m.1; called = each_right May (C a) (C e) j },
      )
  layer_fits (ExprKind-F.Call f args) ty t h b = call_fits f args (call_is p f (map (typing p) args) ty t) h b
  layer_fits ExprKind-F.Input ty t h b = tt
  layer_fits (ExprKind-F.Output e) ty t h b =
      let k = both_parts (has_type U16 (typing p e)) (same_type ty U16) (void_is (has_type U16 (typing p e) && same_type ty U16) t) in
      record { typed = typed_type U16 (typing p e) k.0; named = h; called = b }

  -- what fits is closed under the levels of expressions
  pub close : (e : Expr) → F e → LayerFit g w scope most F (MayCall p May) e.ty (out-ExprKind e.kind)
  close e fit =
      layer_fits (out-ExprKind e.kind) e.ty (ap is_typed (typing_level p e) ∙ fit.typed) (ap (λ n. n xs) (names_level e) ∙ fit.named)
      (subst (λ l. Each May l.callees) (sym (lowered_level w.setting e)) fit.called)
    where
      is_typed : Typing → Bool
      is_typed t = is_some t

  -- each expression that fits does what it means, wherever it stands
  pub each_expr : (inner : ℕ → ℕ → Type 0) (nodes : ℕ → ℕ)
      → ((j f : ℕ) (fn : Function) → MayCall p May f fn → Callable g w scope (inner f) most (nodes f) f fn (run_body (to_depth p j).stmt fn.body))
      → (e : Expr) → F e → (j : ℕ) → ExprOk g w scope most (to_depth p j).expr e
  each_expr inner nodes callable e fit j = all_tracked g w scope most F (MayCall p May) ground.owns covers.homes inner nodes callable close (expr_nodes e) e (omega arith) fit j
