-- The body of a loop of a known number of turns leaves its variable, and so each such loop owes what it is to owe.
use Rattle.std.proofs.Common.{◌≡◌, ◌≢◌, ℕ, ◌≤◌, Bool, true, false, Option, Some, None, List, [], ◌∷◌, ◌++◌, refl, sym, ap, ◌∙◌, subst}
use Rattle.std.specs.Prelude.{not, slice_get, ◌||◌, ◌==◌, if◌then◌else◌}
use Rattle.std.proofs.lemmas.Bool.Decides.{Decides-eqb}
use Rattle.c_tree.specs.declared.tree.Expr.{Expr}
use Rattle.c_tree.specs.declared.tree.Action.{Action}
use Rattle.c_tree.specs.declared.tree.Stmt.{Stmt}
use Rattle.c_tree.specs.declared.tree.BlockItem.TheOpen.{StmtKind-F}
use Rattle.c_tree.specs.declared.tree.ForFirst.{ForFirst}
use Rattle.c_tree.specs.declared.tree.Function.{Function}
use Rattle.c_tree.specs.declared.tree.Program.{Program}
use Rattle.c_tree.specs.Runs.{State, Got, Done, Trapped, Stopped}
use Rattle.c_tree.specs.Nodes.{to_depth}
use Rattle.sound_programs.specs.Scoped.{Scope}
use Rattle.sound_programs.specs.Scoped as scoping
use Rattle.flow_graph.specs.declared.graph.Graph.{Graph}
use Rattle.lowered_graphs.specs.declared.loops.Count.{Count}
use Rattle.lowered_graphs.specs.Counted.{greatest, count_head}
use Rattle.lowered_graphs.specs.Stmts as lower
use Rattle.lowered_graphs.specs.Stmts.{LoweredStmt, lowered_stmt, is_counted, if_counted, count_of, first_locals}
use Rattle.lowered_meaning.specs.Keeps.{Ground}
use Rattle.lowered_meaning.specs.Leaves.{Callee}
use Rattle.lowered_meaning.proofs.CountedHeads.{Head}
use Rattle.lowered_meaning.proofs.CountedLevels.{OnBoth, words_in}
use Rattle.lowered_meaning.proofs.CountedFit.{is_local, counted_fits}
use Rattle.lowered_meaning.proofs.ReturnLemmas.{within}
use Rattle.lowered_meaning.proofs.StmtInduction.{CountedOk}
use Rattle.lowered_meaning.proofs.FitParts.{Each}
use Rattle.lowered_meaning.proofs.FitExprs.{Grounded, Covers}
use Rattle.lowered_meaning.proofs.FitActions.{IsLocal}
use Rattle.lowered_meaning.proofs.GoodStmts.{OwnOnce, GoodLayer}
use Rattle.lowered_meaning.proofs.LeavesVariable.{Left, Any, Leaves}
use Rattle.lowered_meaning.proofs.LeavesExprs.{Apart, ClearBody}
use Rattle.lowered_meaning.proofs.LeavesStmts.{leaves_variable}

pub each_weaker : (P Q : ℕ → Type 0) → ((y : ℕ) → P y → Q y) → (ys : List ℕ) → Each P ys → Each Q ys
each_weaker P Q h [] e = tt
each_weaker P Q h (y ∷ ys) e = (h y e.0, each_weaker P Q h ys e.1)

-- ---- what is known of a body whose loop is counted

not_second : (a b : Bool) → not (a || b) ≡ true → not b ≡ true
not_second true b e = cc
not_second false b e = e

is_false : (b : Bool) → not b ≡ true → b ≡ false
is_false true e = cc
is_false false e = refl

neither : (a b : Bool) → (a || b) ≡ false → (a ≡ false) × (b ≡ false)
neither true b e = cc
neither false b e = (refl, e)

differs : (x y : ℕ) → (x == y) ≡ false → x ≢ y
differs x y e q = apart (sym ((Decides-eqb x y).1 q) ∙ e)
  where
    apart : true ≡ false → ⊥
    apart h = cc

none_held : (x : ℕ) (ys : List ℕ) → lower.holds x ys ≡ false → Each (λ y. x ≢ y) ys
none_held x [] e = tt
none_held x (y ∷ ys) e = let i = neither (x == y) (lower.holds x ys) e in (differs x y i.0, none_held x ys i.1)

counted_is : (l : LoweredStmt) (o : Option Count) (count : Count) → if_counted l o ≡ Some count → is_counted l count.variable ≡ true
counted_is l None count e = cc
counted_is l (Some c) count e = by (is_counted l c.variable) refl e
  where
    or_first : Option Count → Count
    or_first None = c
    or_first (Some k) = k

    by : (b : Bool) → is_counted l c.variable ≡ b → (if b then Some c else None) ≡ Some count → is_counted l count.variable ≡ true
    by true q i = subst (λ k. is_counted l k.variable ≡ true) (ap or_first i) q
    by false q i = cc

not_assigned : (l : LoweredStmt) (x : ℕ) → is_counted l x ≡ true → Each (λ y. x ≢ y) l.assigned
not_assigned l x e =
    none_held x l.assigned (is_false (lower.holds x l.assigned)
    (not_second l.returns (lower.holds x l.assigned)
    (not_second l.continues (l.returns || lower.holds x l.assigned)
    (not_second l.breaks (l.continues || (l.returns || lower.holds x l.assigned)) e))))

left_both : {A : Type 0} (x : ℕ) (d : State) (got : Got A) → Left x (Any x) d got → OnBoth (λ v e. words_in x e ≡ words_in x d) got
left_both x d (Done es v e) h = h.1
left_both x d (Trapped es t) h = tt
left_both x d (Stopped es) h = tt

-- ---- each such loop

-- `Clear x h`: the function h, and what it calls, is clear of the local x of the function
module _ (g : Graph) (f : Callee) (most : ℕ) (May : ℕ → Type 0) (grounded : Grounded f.ground) (Clear : ℕ → ℕ → Type 0)
    (closed : (x : ℕ) → IsLocal f.ground x → (h : ℕ) (fn : Function) → slice_get f.ground.setting.program.functions h ≡ Some fn → Clear x h → ClearBody f.ground.setting.program x (Clear x) fn)
    (clear : (x : ℕ) → IsLocal f.ground x → (h : ℕ) → May h → Clear x h) where
  abbrev w : Ground
  w = f.ground

  abbrev p : Program
  p = w.setting.program

  pub counted_ok : (scope : ℕ → Type 0) (xs : Scope) (st : scoping.Stand) (o : Option ForFirst) (test : Option Expr) (step : Option Action) (body : Stmt) → Covers w scope xs
      → GoodLayer w f.is_main f.result May st xs (StmtKind-F.For o test step body) → CountedOk g f most scope o test step body
  counted_ok scope xs st o test step body covers good count is h =
      counted_fits g f most May grounded scope xs st o test step body covers good count h (λ j d. left_both x d ((to_depth p j).stmt body d) (leaves j d))
    where
      x : ℕ
      x = count.variable

      l : LoweredStmt
      l = lowered_stmt (within f) body

      own : IsLocal w x
      own = is_local g f most May grounded scope xs st o test step body covers good count h

      once : OwnOnce w (h.declared.variable ∷ l.locals)
      once = subst (λ z. OwnOnce w (first_locals z ++ l.locals)) h.first_is good.4

      apart : Apart p x (Clear x) l
      apart = record {
        assigned = not_assigned l x (counted_is l (count_head p o test step) count is);
        locals = subst (λ y. Each (λ z. y ≢ z) l.locals) h.named_is once.1;
        callees = each_weaker May (Clear x) (clear x own) l.callees good.3.called;
      }

      leaves : (j : ℕ) → Leaves x ((to_depth p j).stmt body)
      leaves j = leaves_variable p x (Clear x) (closed x own) (within f) body apart j
