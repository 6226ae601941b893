-- What the statements of a function's body do, from what soundness and scoping say of it and from what its expressions do.
use Rattle.std.proofs.Common.{◌≡◌, ◌≢◌, ℕ, ◌≤◌, Bool, true, false, Option, Some, None, List, [], ◌∷◌, ◌++◌, refl, sym, ap, ◌∙◌, subst, arith, ◌⊎◌, inl, inr}
use Rattle.std.specs.Prelude.{slice_get, ◌==◌}
use Rattle.std.proofs.lemmas.Bool.Decides.{Decides-eqb}
use Rattle.c_tree.specs.declared.tree.Expr.{Expr}
use Rattle.c_tree.specs.declared.tree.Action.{Action}
use Rattle.c_tree.specs.declared.tree.ForFirst.{ForFirst}
use Rattle.c_tree.specs.declared.tree.Function.{Function}
use Rattle.c_tree.specs.declared.tree.Program.{Program}
use Rattle.sound_programs.specs.Counted.{stmt_nodes}
use Rattle.sound_programs.specs.Scoped.{holds, in_body, globals_from}
use Rattle.flow_graph.specs.declared.graph.Graph.{Graph}
use Rattle.lowered_graphs.specs.declared.loops.Count.{Count}
use Rattle.lowered_graphs.specs.Counted.{greatest}
use Rattle.lowered_graphs.specs.Exprs.{home, is_global, result_home}
use Rattle.lowered_graphs.specs.Stmts.{lowered_stmt}
use Rattle.lowered_graphs.specs.declared.positions.Position.TheVariants.{Body}
use Rattle.lowered_meaning.specs.Keeps.{Ground}
use Rattle.lowered_meaning.specs.Leaves.{Callee}
use Rattle.lowered_meaning.proofs.CallsFalls.{IsApart}
use Rattle.lowered_meaning.proofs.CallsParameters.{AreParameters, height}
use Rattle.lowered_meaning.proofs.AssignedKnown.{assigned_known, locals_known}
use Rattle.lowered_meaning.proofs.FitParts.{Each, either_part}
use Rattle.lowered_meaning.proofs.FunctionScopes.{holds_either, global_of}
use Rattle.lowered_meaning.proofs.CountedHeads.{Head}
use Rattle.lowered_meaning.proofs.CountedKeeps.{each_weaker, counted_ok}
use Rattle.lowered_meaning.proofs.ReturnLemmas.{within}
use Rattle.lowered_meaning.proofs.StmtInduction.{StmtOk}
use Rattle.lowered_meaning.proofs.StmtInduction as induction
use Rattle.lowered_meaning.proofs.StmtInductionWhole.{stmt_good}
use Rattle.lowered_meaning.proofs.StatementsFit.{stmt_ok}
use Rattle.lowered_meaning.proofs.StmtInductionLeaves.{never_continues}
use Rattle.lowered_meaning.proofs.ScopedLeaves.{scoped_left, scoped_returned}
use Rattle.lowered_meaning.proofs.FitExprs.{Grounded, Covers}
use Rattle.lowered_meaning.proofs.FitActions.{IsLocal}
use Rattle.lowered_meaning.proofs.GoodStmts.{Good}
use Rattle.lowered_meaning.proofs.LeavesExprs.{ClearBody}
use Rattle.lowered_meaning.proofs.FunctionsRun as run

module _ (g : Graph) (whole : Ground) (base top : ℕ → ℕ) (most : ℕ) (Reached : ℕ → Type 0) (some : 1 ≤ most) where
  abbrev p : Program
  p = whole.setting.program

  abbrev ground : ℕ → Ground
  ground f = run.ground g whole base top most Reached f

  abbrev May : ℕ → ℕ → Type 0
  May f h = run.May g whole base top most Reached f h

  -- what is known of a function that is reached
  pub record Known (f : ℕ) (fn : Function) (is_main : Bool) : Type 0 where
    pub grounded : Grounded (ground f)
    pub good : Good (ground f) is_main fn.result (May f) in_body (fn.params ++ globals_from 0 p.variables) fn.body
    pub apart : is_main ≡ false → fn.result ≢ None → IsApart (ground f) (λ x. whole.has_object x ≡ true) (result_home whole.setting f)
    pub few : stmt_nodes p fn.body ≤ most
    pub parameters : AreParameters (ground f) fn.params

  -- of each function that is reached
  abbrev pub AllKnown : Type 0
  AllKnown = (f : ℕ) (fn : Function) (is_main : Bool) → is_main ≡ (f == p.main) → slice_get p.functions f ≡ Some fn → Reached f → Known f fn is_main

  -- ---- what a function may call is clear of its own variables

  module _ (known : AllKnown) (f x : ℕ) (own : IsLocal (ground f) x) (h : ℕ) (fn : Function) (may : May f h) (at : Known h fn (h == p.main)) where
    abbrev other : ℕ → Type 0
    other y = x ≢ y

    abbrev or_zero : Option ℕ → ℕ
    or_zero None = 0
    or_zero (Some n) = n

    -- a variable of h isn't x
    others_own : (y : ℕ) → whole.owner (home whole.setting y) ≡ Some h → other y
    others_own y o e =
        let same : Some f ≡ Some h = sym own.own ∙ (ap (λ z. whole.owner (home whole.setting z)) e ∙ o) in
        omega (arith, may.1, ap (λ z. height whole (or_zero z)) same)

    params_other : (ys : List ℕ) → AreParameters (ground h) ys → Each other ys
    params_other [] is = tt
    params_other (y ∷ ys) is = (others_own y is.0.own, params_other ys is.1)

    param_held : (ys : List ℕ) → AreParameters (ground h) ys → (y : ℕ) → holds y ys ≡ true → other y
    param_held [] is y e = cc
    param_held (z ∷ ys) is y e = by (either_part (y == z) (holds y ys) e) (param_held ys is.1 y)
      where
        by : (((y == z) ≡ true) ⊎ (holds y ys ≡ true)) → (holds y ys ≡ true → other y) → other y
        by (inl q) rest = subst other (sym ((Decides-eqb y z).0 q)) (others_own z is.0.own)
        by (inr q) rest = rest q

    global_other : (y : ℕ) → is_global whole.setting y ≡ true → other y
    global_other y is e = none_some (sym (at.grounded.file y is).1 ∙ (ap (λ z. whole.owner (home whole.setting z)) (sym e) ∙ own.own))
      where
        none_some : None ≡ Some f → ⊥
        none_some q = cc

    in_scope : (y : ℕ) → holds y (fn.params ++ globals_from 0 p.variables) ≡ true → other y
    in_scope y e = by (holds_either y fn.params (globals_from 0 p.variables) e)
      where
        by : ((holds y fn.params ≡ true) ⊎ (holds y (globals_from 0 p.variables) ≡ true)) → other y
        by (inl q) = param_held fn.params at.parameters y q
        by (inr q) = global_other y (global_of whole.setting y q)

    lower_too : (k : ℕ) → May h k → May f k
    lower_too k m = (m.0, omega (arith, m.1, may.1))

    clear_body : ClearBody p x (May f) fn
    clear_body = record {
      within = within (run.callee g whole base top most Reached h fn (h == p.main));
      params = params_other fn.params at.parameters;
      body = record {
        assigned = assigned_known (ground h) (h == p.main) fn.result (May h) other (λ y is. others_own y is.own) in_body (fn.params ++ globals_from 0 p.variables) fn.body at.good in_scope;
        locals = locals_known (ground h) (h == p.main) fn.result (May h) other (λ y is. others_own y is.own) (lowered_stmt (within (run.callee g whole base top most Reached h fn (h == p.main))) fn.body).locals at.good.local;
        callees = each_weaker (May h) (May f) lower_too (lowered_stmt (within (run.callee g whole base top most Reached h fn (h == p.main))) fn.body).callees at.good.called;
      };
    }

  -- ---- what bodies do

  body_tracks : AllKnown → (f : ℕ) (fn : Function) (is_main : Bool) → Known f fn is_main → Covers (ground f) (run.inner g whole base top most Reached f) (fn.params ++ globals_from 0 p.variables)
      → run.EachExpr g whole base top most Reached f → run.BodyTracks g whole base top most Reached f fn is_main
  body_tracks all f fn is_main known covers each = record {
    tracks = λ j. tracked.tracks Body j;
    left = λ j d. scoped_left p (within (run.callee g whole base top most Reached f fn is_main)) (fn.params ++ globals_from 0 p.variables) fn.body known.good.fits j d;
    returned = λ e j d. scoped_returned p (within (run.callee g whole base top most Reached f fn is_main)) (fn.params ++ globals_from 0 p.variables) fn.body known.good.fits e j d;
  }
    where
      callee : Callee
      callee = run.callee g whole base top most Reached f fn is_main

      scope : ℕ → Type 0
      scope = run.inner g whole base top most Reached f

      closed : (x : ℕ) → IsLocal (ground f) x → (h : ℕ) (called : Function) → slice_get p.functions h ≡ Some called → May f h → ClearBody p x (May f) called
      closed x own h called found may = clear_body all f x own h called may (all h called (h == p.main) refl found may.0)

      ok : StmtOk g callee most (stmt_nodes p fn.body) scope fn.body
      ok = stmt_ok g callee most (May f) some known.grounded each (λ body e j d. never_continues p (within callee) body e j d) known.apart
          (counted_ok g callee most (May f) known.grounded (λ x h. May f h) closed (λ x own h may. may))
          (stmt_nodes p fn.body) in_body scope (fn.params ++ globals_from 0 p.variables) fn.body covers known.good

      tracked : induction.Good g callee most scope fn.body
      tracked = stmt_good g callee most known.grounded.owns (stmt_nodes p fn.body) known.few scope fn.body (omega arith) ok

  -- every body does what it means
  pub bodies_track : AllKnown → run.BodiesTrack g whole base top most Reached
  bodies_track known f fn is_main main found reached covers each = body_tracks known f fn is_main (known f fn is_main main found reached) covers each
