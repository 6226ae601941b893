-- A flow in which, before each operation, every object that isn't live may change its words.
use Rattle.std.specs.Prelude.{ℕ, zero, suc, ◌≡◌, List, [], length}
use Rattle.plain_meaning.specs.Behaviour.{EndedWith, TrappedWith, Going}
use Rattle.flow_graph.specs.declared.graph.Graph.{Graph}
use Rattle.flow_graph.specs.Operations.{Words, words_of}
use Rattle.flow_graph.specs.Flow.{Begin, Spot, Did, Went, Ended, Trapped, Lost, Told, At, Over, telling, operate, start, flow, meaning_of}
use Rattle.flow_graph.specs.Rules.{IsGraph}
use Rattle.live_objects.specs.Live.{IsLiveBefore}

-- as many objects of the same sizes, and the same words in each object that is live before an operation
pub record AgreeBefore (g : Graph) (i : ℕ) (old new : Words) : Type 0 where
  pub so_many : length new ≡ length old
  pub sizes : (o : ℕ) → length (words_of new o) ≡ length (words_of old o)
  pub live : (o : ℕ) → IsLiveBefore g i o → words_of new o ≡ words_of old o

-- nothing but objects that aren't live has changed
pub record ChangesDead (g : Graph) (old new : Spot) : Type 0 where
  pub at : new.at ≡ old.at
  pub calls : new.calls ≡ old.calls
  pub input : new.input ≡ old.input
  pub objects : AgreeBefore g old.at old.objects new.objects

abbrev pub FreeOn : (Spot → Told → Type 0) → Did → Told → Type 0
FreeOn Rest (Went ws s) told = (more : Told) × Rest s more × (told ≡ telling ws more)
FreeOn Rest (Ended w) told = told ≡ record { words = []; stand = Over (EndedWith w) }
FreeOn Rest (Trapped t) told = told ≡ record { words = []; stand = Over (TrappedWith t) }
FreeOn Rest Lost told = told ≡ record { words = []; stand = Over Going }

-- m operations from a spot, before each of which objects that aren't live may change
abbrev pub FreeFlow : Graph → ℕ → Spot → Told → Type 0
FreeFlow g zero s told = told ≡ record { words = []; stand = At s }
FreeFlow g (suc m) s told = (t : Spot) × ChangesDead g s t × FreeOn (FreeFlow g m) (operate g t) told

-- Dead objects are free: however they change, a graph by the rules puts and ends as it does where nothing changes.
abbrev pub DeadObjectsAreFree : Type 0
DeadObjectsAreFree = (g : Graph) (objects : Words) (input : List ℕ) (m : ℕ) (told : Told) → IsGraph g → Begin g.objects objects
    → FreeFlow g m (start g objects input) told → meaning_of told ≡ flow g objects input m
