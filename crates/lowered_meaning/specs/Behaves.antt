-- What a program's graph has to do: the statement of the theorem on lowering.
use Rattle.std.specs.Prelude.{◌≡◌, ℕ, suc, ◌+◌, ◌*◌, ◌≤◌, List, [], ◌∷◌, ◌++◌, ◌⊎◌}
use Rattle.plain_meaning.specs.Behaviour.{Going, EndedWith, Meaning}
use Rattle.c_tree.specs.declared.tree.Program.{Program}
use Rattle.c_tree.specs.Runs.{Got, Done, Trapped, Stopped}
use Rattle.c_tree.specs.Meaning.{put_words, meaning}
use Rattle.flow_graph.specs.declared.graph.Graph.{Graph}
use Rattle.flow_graph.specs.Operations.{Words}
use Rattle.flow_graph.specs.Flow.{Spot, flow_from, flow, Begin, told_over}
use Rattle.lowered_meaning.specs.Runs.{Pays, Comes, Meets}

-- what is said of m operations, and the program in some number of steps
pub record Told (p : Program) (said : Meaning) (input : List ℕ) (m : ℕ) : Type 0 where
  pub steps : ℕ
  pub few : steps ≤ p.nodes * (m + 1)
  pub words : said.words ≡ (meaning p input steps).words
  pub outcome : (said.outcome ≡ Going) ⊎ (said.outcome ≡ (meaning p input steps).outcome)

-- at most so many operations do what the program does
pub record Does (g : Graph) (objects : Words) (input : List ℕ) (said : Meaning) (most : ℕ) : Type 0 where
  pub ops : ℕ
  pub few : ops ≤ most
  pub same : flow g objects input ops ≡ said

-- The graph does what the program does, on an input and from these words of its objects.
pub record Behaves (p : Program) (g : Graph) (objects : Words) (input : List ℕ) : Type 0 where
  -- what the program does in n steps, the graph does in at most 6 n operations
  pub forth : (n : ℕ) → Does g objects input (meaning p input n) (6 * n)
  -- in m operations the graph has put the words of the program in some N (m + 1) steps at most; and where it ends or traps, so does the program then
  pub back : (m : ℕ) → Told p (flow g objects input m) input m

-- on every input, and from every beginning of the objects
abbrev pub IsLowered : Program → Graph → Type 0
IsLowered p g = (objects : Words) (input : List ℕ) → Begin g.objects objects → Behaves p g objects input

-- ---- what the induction over the tree has to give

-- a whole run: where the program ends, the graph does
abbrev pub WholeRun : Graph → (most : ℕ) → Got ℕ → Spot → Type 0
WholeRun g most (Done es v d) s = (m : ℕ) × (flow_from g m s ≡ told_over (put_words es) (EndedWith v)) × Pays most most 0 0 0 es m
WholeRun g most (Trapped es t) s = Meets g most most 0 es t s
WholeRun g most (Stopped es) s = Comes g most most 0 0 0 es s (λ z. Unit {0})

-- a step puts at most one word more
abbrev pub PutsOne : List ℕ → List ℕ → Type 0
PutsOne ws vs = (vs ≡ ws) ⊎ ((w : ℕ) × (vs ≡ ws ++ w ∷ []))

abbrev pub StepsPutOne : Program → Type 0
StepsPutOne p = (input : List ℕ) (n : ℕ) → PutsOne (meaning p input n).words (meaning p input (suc n)).words
