-- What comes of a run: words of the machine, and traps of the program's own.
use Rattle.std.specs.Prelude.{ℕ, ◌≡◌, ◌⊎◌, ◌<◌, ◌^◌, List, All}
use Rattle.c_values.specs.Values.{divide_trap, index_trap, shift_trap}
use Rattle.plain_meaning.specs.Behaviour.{EndedWith, TrappedWith}
use Rattle.flow_graph.specs.declared.graph.Graph.{Graph}
use Rattle.flow_graph.specs.Operations.{Words, word_at}
use Rattle.flow_graph.specs.Flow.{Spot, flow, flow_from, start, told_at}

-- of 16 bits
abbrev pub IsWord : ℕ → Type 0
IsWord w = w < 2 ^ 16

-- A division by 0, an index outside of its array, or a shift by no count of its width: none of the traps by which a device tells of itself.
abbrev pub IsOwn : ℕ → Type 0
IsOwn t = (t ≡ divide_trap) ⊎ (t ≡ index_trap) ⊎ (t ≡ shift_trap)

-- objects of words alone
abbrev pub AreWords : Words → Type 0
AreWords objects = (o k : ℕ) → IsWord (word_at objects o k)

pub record Results (g : Graph) (objects : Words) (input : List ℕ) : Type 0 where
  -- the words of the objects, wherever the run stands
  pub held : (n : ℕ) (ws : List ℕ) (s : Spot) → flow_from g n (start g objects input) ≡ told_at ws s → AreWords s.objects
  -- the words that are put in n operations, and how the run has stopped
  pub words : (n : ℕ) → All IsWord (flow g objects input n).words
  pub ends : (n w : ℕ) → (flow g objects input n).outcome ≡ EndedWith w → IsWord w
  pub traps : (n t : ℕ) → (flow g objects input n).outcome ≡ TrappedWith t → IsOwn t
