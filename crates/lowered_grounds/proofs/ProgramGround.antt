-- How a sound program stands in its graph, so that the graph does what the program means.
use Rattle.std.proofs.Common.{◌≡◌, ℕ, true, Option, Some, None, List, [], ◌∷◌, refl}
use Rattle.std.specs.Prelude.{slice_get}
use Rattle.std.proofs.lemmas.Bool.{and_parts, false≢true}
use Rattle.c_tree.specs.declared.tree.Function.{Function}
use Rattle.c_tree.specs.declared.tree.Program.{Program}
use Rattle.c_tree.specs.Meaning as meant
use Rattle.c_tree.specs.Laws.{StepsAreBounded}
use Rattle.sound_programs.specs.Sound.{is_main, no_parameters, is_int}
use Rattle.sound_programs.specs.SoundPrograms.{IsSound}
use Rattle.sound_programs.specs.Scoped.{IsScoped}
use Rattle.flow_graph.specs.declared.graph.Graph.{Graph}
use Rattle.flow_graph.specs.Operations.{Words}
use Rattle.flow_graph.specs.Flow as flow
use Rattle.flow_graph.specs.Flow.{Begin}
use Rattle.lowered_graphs.specs.Exprs.{Setting, is_global}
use Rattle.lowered_graphs.specs.GraphOf.{graph_of}
use Rattle.lowered_meaning.specs.Behaves.{IsLowered}
use Rattle.lowered_meaning.specs.Keeps.{Agrees, Ready}
use Rattle.lowered_meaning.proofs.FunctionScopes.{params_in, BodyScope}
use Rattle.lowered_meaning.proofs.FunctionsRun as run
use Rattle.lowered_meaning.proofs.LoweredSound.{ProgramStands, lowered_sound}
use Rattle.lowered_rules.proofs.FrameLemmas.{MainIs, main_is, main_reached}
use Rattle.lowered_grounds.proofs.Owners.{global_variable, setting, whole, base, top, IsReached, named_at, homes_differ, unowned_global, global_unowned}
use Rattle.lowered_grounds.proofs.Beginnings.{all_small, single_words, variable_words, global_words, store_shape}
use Rattle.lowered_grounds.proofs.FunctionGround.{singles, function_stands}

-- ---- where `main` begins, the objects of the file are in scope

scope_global : (s : Setting) (params : List ℕ) → no_parameters params ≡ true → (x : ℕ) → BodyScope s params x → is_global s x ≡ true
scope_global s [] e x h = h
scope_global s (y ∷ ys) e x h = absurd (false≢true e)

main_scope : (s : Setting) (o : Option Function) → is_main o ≡ true → (x : ℕ) → BodyScope s (params_in o) x → is_global s x ≡ true
main_scope s None e x h = absurd (false≢true e)
main_scope s (Some f) e x h = scope_global s f.params (and_parts (no_parameters f.params) (is_int f.result) e).0 x h

module _ (p : Program) (sound : IsSound p) (names : IsScoped p) where
  abbrev heights : List ℕ
  heights = sound.acyclic.0

  abbrev g : Graph
  g = graph_of p

  main : MainIs p sound names
  main = main_is p sound names

  begins : (objects : Words) (input : List ℕ) (n : ℕ) → Begin g.objects objects
      → Agrees (run.ground g (whole p heights) (base p) (top p) p.nodes (IsReached p) p.main) (run.inner g (whole p heights) (base p) (top p) p.nodes (IsReached p) p.main) (meant.start p input n) (flow.start g objects input)
      × Ready (run.ground g (whole p heights) (base p) (top p) p.nodes (IsReached p) p.main) objects
  begins objects input n begin = (
    record {
      variables = λ x is. let v = global_variable (slice_get p.variables x) (main_scope (setting p) (slice_get p.functions p.main) sound.main x is) in global_words p sound names objects begin x v.0 v.1 v.2;
      shape = λ x h. store_shape p.variables x;
      input = refl;
      fit = all_small p sound names objects begin;
    },
    record {
      temporaries = λ o low high. single_words p sound names objects begin o (singles p sound names p.main main.function main.there (main_reached p sound names) o low high);
      singles = λ o h. single_words p sound names objects begin o h;
      variables = λ x h. variable_words p sound names objects begin x (named_at p x h);
    },
  )

  pub program_stands : ProgramStands g (whole p heights) (base p) (top p) (IsReached p)
  program_stands = record {
    differ = homes_differ p heights;
    globals = unowned_global p;
    file = global_unowned p sound names;
    main = main.function;
    found = main.there;
    reached = main_reached p sound names;
    functions = λ n f is_main e found reached. function_stands p sound names n f found reached is_main e;
    numbered = refl;
    begins = begins;
  }

-- the graph of a sound program does what the program means
pub lowered_behave : StepsAreBounded → (p : Program) → IsSound p → IsScoped p → IsLowered p (graph_of p)
lowered_behave bounded p sound names = lowered_sound (graph_of p) (whole p sound.acyclic.0) (base p) (top p) (IsReached p) sound names (program_stands p sound names) (bounded p)
