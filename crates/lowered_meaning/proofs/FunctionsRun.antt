-- Every function does what its body means: an induction on the heights of functions, of which each calls only lower ones.
use Rattle.std.proofs.Common.{◌≡◌, ◌≢◌, ℕ, zero, suc, ◌+◌, ◌<◌, ◌≤◌, Bool, true, false, Option, Some, None, List, [], ◌∷◌, ◌++◌, refl, sym, ap, ◌∙◌, subst, arith, inr}
use Rattle.std.specs.Prelude.{◌==◌, slice_get, if◌then◌else◌}
use Rattle.std.proofs.lemmas.Bool.Decides.{Decides-eqb}
use Rattle.c_tree.specs.declared.tree.Expr.{Expr}
use Rattle.c_tree.specs.declared.tree.StmtKind.{out-StmtKind}
use Rattle.c_tree.specs.declared.tree.Function.{Function}
use Rattle.c_tree.specs.declared.tree.Program.{Program}
use Rattle.c_tree.specs.Runs.{State, Part, ◌>>◌}
use Rattle.c_tree.specs.Meaning.{run_of}
use Rattle.c_tree.specs.Meaning as meant
use Rattle.c_tree.specs.Nodes.{to_depth, run_body, bind, enter}
use Rattle.sound_programs.specs.Counted.{stmt_nodes}
use Rattle.sound_programs.specs.Scoped.{Scope, globals_from}
use Rattle.flow_graph.specs.declared.graph.Graph.{Graph}
use Rattle.flow_graph.specs.Nodes.{first_of, laid_items, around_body, entry}
use Rattle.flow_graph.specs.Flow.{Spot}
use Rattle.lowered_graphs.specs.Making.{Counts}
use Rattle.lowered_graphs.specs.Exprs.{Setting, is_global, place_of, result_home}
use Rattle.lowered_graphs.specs.Stmts.{Within, lowered_stmt}
use Rattle.lowered_graphs.specs.GraphOf as graph
use Rattle.lowered_graphs.specs.declared.positions.Position.TheVariants.{Body}
use Rattle.lowered_meaning.specs.Tracks.{Stand}
use Rattle.lowered_meaning.specs.Keeps.{Ground, Agrees, Ready}
use Rattle.lowered_meaning.specs.Leaves.{Callee, StmtTracks}
use Rattle.lowered_meaning.specs.Behaves.{WholeRun}
use Rattle.lowered_meaning.proofs.RunLemmas.{behind_none}
use Rattle.lowered_meaning.proofs.AssignActions.{ExprOk}
use Rattle.lowered_meaning.proofs.CallsParameters.{AreParameters, height, function_of}
use Rattle.lowered_meaning.proofs.Calls.{BodyRuns, Globals, Callable}
use Rattle.lowered_meaning.proofs.CallsBodies.{OnDone, IsReturned}
use Rattle.lowered_meaning.proofs.CallsFalls.{IsApart, IsBodyLeft}
use Rattle.lowered_meaning.proofs.CallsMain.{whole_run}
use Rattle.lowered_meaning.proofs.CallsFunctions.{function_runs}
use Rattle.lowered_meaning.proofs.FitExprs.{Fit, MayCall, Grounded, Covers, each_expr}
use Rattle.lowered_meaning.proofs.FunctionScopes.{params_in, BodyScope, bind_in, bind_more, body_covers}

-- The functions of a graph: all stand on the same ground, but for where their temporaries begin and end.
module _ (g : Graph) (whole : Ground) (base top : ℕ → ℕ) (most : ℕ) (Reached : ℕ → Type 0) where
  abbrev s : Setting
  s = whole.setting

  abbrev p : Program
  p = s.program

  abbrev pub ground : ℕ → Ground
  ground f = function_of whole f (base f) (top f)

  abbrev pub inner : ℕ → ℕ → Type 0
  inner f = BodyScope s (params_in (slice_get p.functions f))

  abbrev pub callee : ℕ → Function → Bool → Callee
  callee f fn is_main = record { ground = ground f; is_main = is_main; result = fn.result }

  abbrev pub within : ℕ → Bool → Within
  within f is_main = record { setting = s; function = f; is_main = is_main }

  -- a lower function, which is reached
  abbrev pub May : ℕ → ℕ → Type 0
  May k f = Reached f × (height whole f < height whole k)

  abbrev function_nodes : Function → ℕ
  function_nodes fn = stmt_nodes p fn.body + (if graph.ends_by (out-StmtKind fn.body.kind) then 0 else 1)

  abbrev nodes_in : Option Function → ℕ
  nodes_in None = 0
  nodes_in (Some fn) = function_nodes fn

  abbrev pub nodes : ℕ → ℕ
  nodes f = nodes_in (slice_get p.functions f)

  -- how a function stands in the graph
  pub record Placed (f : ℕ) (fn : Function) (is_main : Bool) : Type 0 where
    pub grounded : Grounded (ground f)
    pub parameters : AreParameters (ground f) fn.params
    pub singles : (o : ℕ) → base f ≤ o → o < top f → whole.is_single o ≡ true
    pub small : function_nodes fn ≤ most
    pub result : is_main ≡ false → fn.result ≢ None → IsApart (ground f) (inner f) (result_home s f)
    pub counts : Counts
    pub low : base f ≤ counts.temp
    pub high : (graph.body (within f is_main) fn counts).counts.temp ≤ top f
    pub stands : Stand g around_body (graph.body (within f is_main) fn counts).items
    pub entered : entry g (place_of s f) ≡ first_of (laid_items (graph.body (within f is_main) fn counts).items) 0

  -- ---- what may be called

  -- the functions that one may call run, at every depth
  abbrev pub CalleesRun : ℕ → Type 0
  CalleesRun k = (j f : ℕ) (fn : Function) → MayCall p (May k) f fn
      → Placed f fn false × BodyRuns g (callee f fn false) (inner f) most (nodes f) (place_of s f) (run_body (to_depth p j).stmt fn.body)

  inner_is : (f : ℕ) (fn : Function) → slice_get p.functions f ≡ Some fn → inner f ≡ BodyScope s fn.params
  inner_is f fn found = ap (λ o. BodyScope s (params_in o)) found

  callable : (k : ℕ) (scope : ℕ → Type 0) (xs : Scope) → Grounded (ground k) → Covers (ground k) scope xs → (f : ℕ) (fn : Function) → MayCall p (May k) f fn → Placed f fn false → (body : Part ℕ)
      → BodyRuns g (callee f fn false) (inner f) most (nodes f) (place_of s f) body → Callable g (ground k) scope (inner f) most (nodes f) f fn body
  callable k scope xs grounded covers f fn may placed body runs = record {
    base = base f;
    top = top f;
    lower = may.1.1;
    differ = grounded.differ;
    singles = placed.singles;
    parameters = placed.parameters;
    binds = λ x is. bind_more fn.params (λ y. is_global s y ≡ true) (Globals (ground k) scope) (λ y h. (covers.file y h, (grounded.file y h).1)) x (subst (λ P. P x) (inner_is f fn may.0) is);
    globals = λ x is. subst (λ P. P x) (sym (inner_is f fn may.0)) (bind_in fn.params (λ y. is_global s y ≡ true) x (inr (grounded.globals x (covers.homes x is.0).0 is.1)));
    small = subst (λ o. nodes_in o ≤ most) (sym may.0) placed.small;
    runs = runs;
  }

  -- what each expression of a function does, in every scope and at every depth
  abbrev pub EachExpr : ℕ → Type 1
  EachExpr k = (j : ℕ) (scope : ℕ → Type 0) (xs : Scope) → Covers (ground k) scope xs → (e : Expr) → Fit s xs (May k) e → ExprOk g (ground k) scope most (to_depth p j).expr e

  each_of : (k : ℕ) → Grounded (ground k) → CalleesRun k → EachExpr k
  each_of k grounded run j scope xs covers e fit =
      each_expr g (ground k) scope most xs (May k) grounded covers inner nodes (λ i f fn may. callable k scope xs grounded covers f fn may (run i f fn may).0 (run_body (to_depth p i).stmt fn.body) (run i f fn may).1) e fit j

  -- ---- what bodies do

  -- what the statement of a body does, at every depth, and how it is left
  pub record BodyTracks (f : ℕ) (fn : Function) (is_main : Bool) : Type 0 where
    pub tracks : (j : ℕ) → StmtTracks g (callee f fn is_main) (inner f) most (stmt_nodes p fn.body) Body ((to_depth p j).stmt fn.body) ((lowered_stmt (within f is_main) fn.body).emit Body)
    pub left : (j : ℕ) (d : State) → OnDone IsBodyLeft ((to_depth p j).stmt fn.body d)
    pub returned : graph.ends_by (out-StmtKind fn.body.kind) ≡ true → (j : ℕ) (d : State) → OnDone IsReturned ((to_depth p j).stmt fn.body d)

  -- from what its expressions do
  abbrev pub BodiesTrack : Type 1
  BodiesTrack = (f : ℕ) (fn : Function) (is_main : Bool) → is_main ≡ (f == p.main) → slice_get p.functions f ≡ Some fn → Reached f → Covers (ground f) (inner f) (fn.params ++ globals_from 0 p.variables) → EachExpr f → BodyTracks f fn is_main

  body_run : (f : ℕ) (fn : Function) (is_main : Bool) → slice_get p.functions f ≡ Some fn → Placed f fn is_main → BodyTracks f fn is_main → (j : ℕ)
      → BodyRuns g (callee f fn is_main) (inner f) most (nodes f) (place_of s f) (run_body (to_depth p j).stmt fn.body)
  body_run f fn is_main found placed body j =
      subst (λ m. BodyRuns g (callee f fn is_main) (inner f) most m (place_of s f) (run_body (to_depth p j).stmt fn.body)) (sym (ap nodes_in found))
      (function_runs g (ground f) is_main (inner f) most fn (stmt_nodes p fn.body) (place_of s f) ((to_depth p j).stmt fn.body) ((lowered_stmt (within f is_main) fn.body).emit Body) placed.counts placed.result
      (body.tracks j) (body.left j) placed.low (graph.ends_by (out-StmtKind fn.body.kind)) (λ e. body.returned e j) placed.high placed.stands placed.entered)

  body_scope : (f : ℕ) (fn : Function) (is_main : Bool) → slice_get p.functions f ≡ Some fn → Placed f fn is_main → Covers (ground f) (inner f) (fn.params ++ globals_from 0 p.variables)
  body_scope f fn is_main found placed = subst (λ P. Covers (ground f) P (fn.params ++ globals_from 0 p.variables)) (sym (inner_is f fn found)) (body_covers (ground f) fn.params placed.grounded placed.parameters)

  -- a function that is lower than `main` isn't it
  pub no_main : (f : ℕ) → height whole f < height whole p.main → false ≡ (f == p.main)
  no_main f lower = by (f == p.main) refl
    where
      by : (b : Bool) → (f == p.main) ≡ b → false ≡ b
      by true e = absurd (omega (arith, lower, ap (height whole) ((Decides-eqb f p.main).0 e)))
      by false e = refl

  -- ---- the induction

  module _ (placed : (f : ℕ) (fn : Function) → slice_get p.functions f ≡ Some fn → Reached f → height whole f < height whole p.main → Placed f fn false) (bodies : BodiesTrack) where
    functions_run : (h f : ℕ) (fn : Function) → slice_get p.functions f ≡ Some fn → Reached f → height whole f < h → height whole f < height whole p.main → (j : ℕ)
        → BodyRuns g (callee f fn false) (inner f) most (nodes f) (place_of s f) (run_body (to_depth p j).stmt fn.body)
    functions_run zero f fn found reached lt lower j = absurd (omega (arith, lt))
    functions_run (suc h) f fn found reached lt lower j =
        let at : Placed f fn false = placed f fn found reached lower in
        body_run f fn false found at
        (bodies f fn false (no_main f lower) found reached (body_scope f fn false found at)
        (each_of f at.grounded (λ i k fk may. (placed k fk may.0 may.1.0 (omega (arith, may.1.1, lower)), functions_run h k fk may.0 may.1.0 (omega (arith, may.1.1, lt)) (omega (arith, may.1.1, lower)) i)))) j

    -- what `main` may call runs
    main_calls : CalleesRun p.main
    main_calls j f fn may = (placed f fn may.0 may.1.0 may.1.1, functions_run (height whole p.main) f fn may.0 may.1.0 may.1.1 may.1.1 j)

    -- the whole run of a program
    pub whole_runs : (fn : Function) → slice_get p.functions p.main ≡ Some fn → fn.params ≡ [] → Reached p.main → Placed p.main fn true → g.main ≡ place_of s p.main → (n : ℕ) (input : List ℕ) (z : Spot)
        → z.at ≡ entry g g.main → Agrees (ground p.main) (inner p.main) (meant.start p input n) z → Ready (ground p.main) z.objects → WholeRun g most (run_of p input n) z
    whole_runs fn found none reached at place n input z begins agrees ready =
        subst (λ o. WholeRun g most (enter (to_depth p n).stmt o [] (meant.start p input n)) z) (sym found)
        (entered fn.params none)
      where
        body : Part ℕ
        body = run_body (to_depth p n).stmt fn.body

        runs : WholeRun g most (body (meant.start p input n)) z
        runs = whole_run g (callee p.main fn true) (inner p.main) most refl (nodes p.main) (place_of s p.main) body (subst (λ o. nodes_in o ≤ most) (sym found) at.small)
            (body_run p.main fn true found at (bodies p.main fn true (sym ((Decides-eqb p.main p.main).1 refl)) found reached (body_scope p.main fn true found at) (each_of p.main at.grounded main_calls)) n)
            z (meant.start p input n) (begins ∙ ap (entry g) place) agrees ready

        entered : (params : List ℕ) → params ≡ [] → WholeRun g most ((bind params [] >> body) (meant.start p input n)) z
        entered [] e = subst (λ r. WholeRun g most r z) (sym (behind_none (body (meant.start p input n)))) runs
        entered (x ∷ params) e = cc
