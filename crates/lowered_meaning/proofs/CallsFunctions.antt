-- A function as it is lowered: its body, and the return that is implied where the body doesn't end in one.
use Rattle.std.proofs.Common.{◌≡◌, ◌≢◌, ℕ, ◌+◌, ◌≤◌, Bool, true, false, Option, Some, None, ◌++◌, refl, ap, ◌∙◌, subst, arith, append-nil}
use Rattle.std.specs.Prelude.{if◌then◌else◌}
use Rattle.c_values.specs.declared.ops.Ty.{Ty}
use Rattle.c_tree.specs.declared.tree.Function.{Function}
use Rattle.c_tree.specs.declared.leaving.Leaving.{Leaving}
use Rattle.c_tree.specs.Runs.{State, Part, ◌>>=◌}
use Rattle.c_tree.specs.Nodes.{come_back}
use Rattle.flow_graph.specs.declared.graph.Graph.{Graph}
use Rattle.flow_graph.specs.declared.graph.OpKind.TheVariants as kind
use Rattle.flow_graph.specs.Nodes.{first_of, laid_items, around_body, entry}
use Rattle.lowered_graphs.specs.Making.{Counts, Emit, nothing, one, plain, zero_operand, ◌>>◌}
use Rattle.lowered_graphs.specs.Exprs.{result_home}
use Rattle.lowered_graphs.specs.Stmts.{Within}
use Rattle.lowered_graphs.specs.GraphOf.{return_zero, implied}
use Rattle.lowered_graphs.specs.declared.positions.Position.TheVariants.{Body}
use Rattle.lowered_meaning.specs.Tracks.{Stand}
use Rattle.lowered_meaning.specs.Keeps.{Ground}
use Rattle.lowered_meaning.specs.Leaves.{Callee, StmtTracks}
use Rattle.lowered_meaning.proofs.Calls.{BodyRuns}
use Rattle.lowered_meaning.proofs.CallsBodies.{OnDone, IsReturned, body_returns}
use Rattle.lowered_meaning.proofs.CallsFalls.{IsApart, IsBodyLeft, implied_items, body_falls}
use Rattle.lowered_meaning.proofs.CallsMain.{main_falls}

module _ (g : Graph) (w : Ground) (is_main : Bool) (scope : ℕ → Type 0) (most : ℕ) (fn : Function) where
  abbrev f : Callee
  f = record { ground = w; is_main = is_main; result = fn.result }

  abbrev within : Within
  within = record { setting = w.setting; function = w.function; is_main = is_main }

  -- as a function is lowered, by whether its body ends in a `return`
  abbrev pub whole : Bool → Emit (Unit {0}) → Emit (Unit {0})
  whole ends e = e >> (if ends then nothing else implied within fn)

  -- the step of the return that is implied
  abbrev pub extra : Bool → ℕ
  extra ends = if ends then 0 else 1

  -- ---- what is implied

  abbrev implied_by : Bool → Emit (Unit {0})
  implied_by b = if b then one (plain kind.Finish zero_operand fn.end) else (return_zero within fn.result fn.end >> one (plain kind.Ret zero_operand fn.end))

  return_items : (main : is_main ≡ false) (r : Option Ty) (c : Counts) → ((return_zero within r fn.end >> one (plain kind.Ret zero_operand fn.end)) c).items ≡ implied_items g f scope most fn.end main r c.op
  return_items main None c = refl
  return_items main (Some ty) c = refl

  return_temp : (r : Option Ty) (c : Counts) → ((return_zero within r fn.end >> one (plain kind.Ret zero_operand fn.end)) c).counts.temp ≡ c.temp
  return_temp None c = refl
  return_temp (Some ty) c = refl

  implied_temp : (b : Bool) (c : Counts) → (implied_by b c).counts.temp ≡ c.temp
  implied_temp true c = refl
  implied_temp false c = return_temp fn.result c

  module _ (n place : ℕ) (p : Part Leaving) (e : Emit (Unit {0})) (c : Counts) (result : is_main ≡ false → fn.result ≢ None → IsApart w scope (result_home w.setting w.function))
      (tracks : StmtTracks g f scope most n Body p e) (left : (d : State) → OnDone IsBodyLeft (p d)) (low : w.base ≤ c.temp) where
    abbrev Runs_ : ℕ → Type 0
    Runs_ m = BodyRuns g f scope most m place (p >>= come_back)

    falls : (b : Bool) → is_main ≡ b → (implied_by b (e c).counts).counts.temp ≤ w.top → Stand g around_body ((e c).items ++ (implied_by b (e c).counts).items)
        → entry g place ≡ first_of (laid_items ((e c).items ++ (implied_by b (e c).counts).items)) 0 → Runs_ (n + 1)
    falls true main high stand first = main_falls g f scope most main fn.end n place p e c tracks left low high stand first
    falls false main high stand first =
        body_falls g f scope most fn.end main n place p e c (result main) tracks left low (omega (arith, high, return_temp fn.result (e c).counts))
        (subst (λ l. Stand g around_body ((e c).items ++ l)) (return_items main fn.result (e c).counts) stand)
        (first ∙ ap (λ l. first_of (laid_items ((e c).items ++ l)) 0) (return_items main fn.result (e c).counts))

    -- the run of a function, from what the statement of its body does
    pub function_runs : (ends : Bool) → (ends ≡ true → (d : State) → OnDone IsReturned (p d)) → (whole ends e c).counts.temp ≤ w.top → Stand g around_body (whole ends e c).items
        → entry g place ≡ first_of (laid_items (whole ends e c).items) 0 → Runs_ (n + extra ends)
    function_runs true returned high stand first =
        subst Runs_ (omega arith)
        (body_returns g f scope most n place p e c tracks (returned refl) low high (subst (λ l. Stand g around_body l) (append-nil (e c).items) stand)
        (first ∙ ap (λ l. first_of (laid_items l) 0) (append-nil (e c).items)))
    function_runs false returned high stand first = falls is_main refl high stand first
