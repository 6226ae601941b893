-- What has to hold of a flow, so that it can be tracked over memories that are like its own where objects have words.
use Rattle.std.specs.Prelude.{ℕ, ◌≡◌, ◌≢◌, ◌⊎◌, ◌<◌, List, Some, None}
use Rattle.msp430_machine.specs.State.{input_word}
use Rattle.laid_code.specs.Flows.{Memory, On, Away, Traps, Change, Flow}

-- the words of objects, of which each has so many, are words
abbrev pub AreSmall : (ℕ → ℕ) → Memory → Type 0
AreSmall words now = (o i : ℕ) → i < words o → now o i < 65536

-- two memories have the same words where objects have any
abbrev pub AreAlike : (ℕ → ℕ) → Memory → Memory → Type 0
AreAlike words now real = (o i : ℕ) → i < words o → now o i ≡ real o i

pub record Obeys (Q : Type 0) (flow : Flow Q) (input : List ℕ) (words : ℕ → ℕ) : Type 0 where
  -- an operation sees no more of a memory than the words of objects
  pub local : (at : Q) (now real : Memory) (w : ℕ) → AreAlike words now real → flow.effect at now w ≡ flow.effect at real w
  -- what it writes is a word, within the object that is written there
  pub value : (at : Q) (now : Memory) (taken : ℕ) (c : Change) → AreSmall words now → (flow.effect at now (input_word input taken)).change ≡ Some c → c.value < 65536
  pub within : (at : Q) (now : Memory) (taken : ℕ) (c : Change) → (flow.effect at now (input_word input taken)).change ≡ Some c → (flow.target at ≡ Some c.object) × (c.index < words c.object)
  -- where an object is written and control goes on, it is written
  pub idle : (at : Q) (now : Memory) (taken : ℕ) → (flow.effect at now (input_word input taken)).change ≡ None
      → ((flow.effect at now (input_word input taken)).turn ≡ On) ⊎ ((flow.effect at now (input_word input taken)).turn ≡ Away) → flow.target at ≡ None
  -- the trap by which boot tells that a stretch was cut is none of the flow's
  pub other : (at : Q) (now : Memory) (taken v : ℕ) → AreSmall words now → (flow.effect at now (input_word input taken)).turn ≡ Traps v → v ≢ 4
