-- The theorem for a whole program: from how its functions stand in a graph, what their bodies do, and how the objects begin.
use Rattle.std.proofs.Common.{◌≡◌, ℕ, ◌<◌, true, false, Option, Some, None, List, [], ◌∷◌, refl, sym, ap, ◌∙◌, arith}
use Rattle.std.specs.Prelude.{slice_get}
use Rattle.c_tree.specs.declared.tree.Function.{Function}
use Rattle.c_tree.specs.declared.tree.Program.{Program}
use Rattle.c_tree.specs.Meaning as meant
use Rattle.c_tree.specs.Laws.{AreBounded}
use Rattle.sound_programs.specs.Sound.{no_parameters, is_int, is_main}
use Rattle.sound_programs.specs.SoundPrograms.{IsSound}
use Rattle.sound_programs.proofs.CountLevels as count
use Rattle.flow_graph.specs.declared.graph.Graph.{Graph}
use Rattle.flow_graph.specs.Operations.{Words}
use Rattle.flow_graph.specs.Flow as flow
use Rattle.flow_graph.specs.Flow.{Begin}
use Rattle.lowered_graphs.specs.Exprs.{place_of}
use Rattle.lowered_meaning.specs.Keeps.{Ground, Agrees, Ready}
use Rattle.lowered_meaning.specs.Behaves.{IsLowered}
use Rattle.lowered_meaning.proofs.WholeLemmas.{behaves}
use Rattle.lowered_meaning.proofs.StepsPutOne.{sound_puts_one}
use Rattle.lowered_meaning.proofs.CountedConstants.{and_left}
use Rattle.lowered_meaning.proofs.CallsParameters.{height}
use Rattle.lowered_meaning.proofs.FunctionsRun as run

module _ (g : Graph) (whole : Ground) (base top : ℕ → ℕ) (Reached : ℕ → Type 0) where
  abbrev p : Program
  p = whole.setting.program

  -- how the program stands in the graph
  pub record MainStands : Type 0 where
    pub main : Function
    pub found : slice_get p.functions p.main ≡ Some main
    pub reached : Reached p.main
    pub placed_main : run.Placed g whole base top p.nodes Reached p.main main true
    pub placed : (f : ℕ) (fn : Function) → slice_get p.functions f ≡ Some fn → Reached f → height whole f < height whole p.main → run.Placed g whole base top p.nodes Reached f fn false
    pub numbered : g.main ≡ place_of whole.setting p.main
    pub begins : (objects : Words) (input : List ℕ) (n : ℕ) → Begin g.objects objects
        → Agrees (run.ground g whole base top p.nodes Reached p.main) (run.inner g whole base top p.nodes Reached p.main) (meant.start p input n) (flow.start g objects input)
        × Ready (run.ground g whole base top p.nodes Reached p.main) objects

  no_params : (xs : List ℕ) → no_parameters xs ≡ true → xs ≡ []
  no_params [] e = refl
  no_params (x ∷ xs) e = cc

  main_params : (o : Option Function) (fn : Function) → o ≡ Some fn → is_main o ≡ true → fn.params ≡ []
  main_params None fn e h = cc
  main_params (Some m) fn e h = no_params fn.params (and_left (no_parameters fn.params) (is_int fn.result) (ap is_main (sym e) ∙ h))

  -- The graph does what the program means: forth in at most six operations a step, and back.
  pub lowered_main : IsSound p → AreBounded p → MainStands → run.BodiesTrack g whole base top p.nodes Reached → IsLowered p g
  lowered_main sound bounds stands bodies objects input begin =
      behaves p g objects input bounds (sound_puts_one p sound bounds) (omega (arith, stands.placed_main.small, count.stmt_level p stands.main.body))
      (λ n. run.whole_runs g whole base top p.nodes Reached stands.placed bodies stands.main stands.found (main_params (slice_get p.functions p.main) stands.main stands.found sound.main) stands.reached stands.placed_main stands.numbered
      n input (flow.start g objects input) refl (stands.begins objects input n begin).0 (stands.begins objects input n begin).1)
