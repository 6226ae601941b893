-- A graph that does what a program means carries it.
use Rattle.std.proofs.Common.{◌≡◌, ◌≢◌, ℕ, List, [], inl, inr, refl, sym, ap, ◌∙◌, append-nil}
use Rattle.std.specs.Prelude.{◌⊎◌}
use Rattle.plain_meaning.specs.Behaviour.{Outcome, Going, Meaning, IsSteady}
use Rattle.c_tree.specs.declared.tree.Program.{Program}
use Rattle.c_tree.specs.Meaning.{meaning}
use Rattle.flow_graph.specs.declared.graph.Graph.{Graph}
use Rattle.flow_graph.specs.Operations.{Words}
use Rattle.flow_graph.specs.Flow.{Stand, At, Over, Told, flow, flow_from, meaning_of, outcome_of, start}
use Rattle.flow_graph.proofs.FlowLemmas.{IsMore, flow_more}
use Rattle.lowered_graphs.specs.GraphOf.{graph_of}
use Rattle.lowered_meaning.specs.Behaves.{Behaves, IsLowered}
use Rattle.lowered_rules.specs.Obeying.{GraphsObey}
use Rattle.lowered_grounds.specs.Laws.{LoweredGraphsBehave}
use Rattle.resumed_runs.specs.Carries.{Carries}
use Rattle.each_image.specs.Image.{CarriesFrom}
use Rattle.lowered_carries.specs.Laws.{LoweredGraphsAreEach, LoweredGraphsCarry}

-- ---- a graph's flow is steady

told_on : (few many : Told) → IsMore few many → outcome_of few.stand ≢ Going → many ≡ few
told_on few many h ne = by few.stand refl
  where
    by : (s : Stand) → few.stand ≡ s → many ≡ few
    by (At s) e = absurd (ne (ap outcome_of e))
    by (Over o) e = h.over o e

pub flow_steady : (g : Graph) (objects : Words) → IsSteady (λ words n. flow g objects words n)
flow_steady g objects = record {
  more = λ input n m le. (flow_more g n m (start g objects input) le).words;
  stopped = λ input n m le ne. ap meaning_of (told_on (flow_from g n (start g objects input)) (flow_from g m (start g objects input)) (flow_more g n m (start g objects input) le) ne);
}

-- ---- the bridge

ended_so : (o : Outcome) (said : Outcome) → ((said ≡ Going) ⊎ (said ≡ o)) → said ≢ Going → o ≡ said
ended_so o said (inl e) ne = absurd (ne e)
ended_so o said (inr e) ne = sym e

pub behaving_carries : (p : Program) (g : Graph) (objects : Words) (input : List ℕ) → Behaves p g objects input → Carries (meaning p) (λ words n. flow g objects words n) p.nodes input
behaving_carries p g objects input b = record {
  steady = flow_steady g objects;
  forth = λ n. let d = b.forth n in (d.ops, d.few, ([], ap (λ (x : Meaning). x.words) d.same ∙ sym (append-nil (meaning p input n).words)), λ ne. d.same);
  back = λ m. let t = b.back m in (t.steps, t.few, t.words, λ ne. ended_so (meaning p input t.steps).outcome (flow g objects input m).outcome t.outcome ne);
}

-- a graph that does what a program means carries it
pub lowered_carries : (p : Program) (g : Graph) → IsLowered p g → CarriesFrom (meaning p) p.nodes g
lowered_carries p g lowered objects input words begin = behaving_carries p g objects input (lowered objects input begin)

pub lowered_carry : LoweredGraphsBehave → LoweredGraphsCarry
lowered_carry behave p sound names = lowered_carries p (graph_of p) (behave p sound names)

pub lowered_are_each : LoweredGraphsBehave → GraphsObey → LoweredGraphsAreEach
lowered_are_each behave obey p heads sound names few alone stand objects room = record {
  rules = obey p sound names few;
  alone = alone;
  stand = stand;
  objects = objects;
  room = room;
  carries = lowered_carry behave p sound names;
}
