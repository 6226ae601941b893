-- What the command found among the words.
use Rattle.std.specs.Prelude.{ℕ, List, [], ◌∷◌, Option, Some, None, codes, option_map, option_and_then, unwrap_or}
use Rattle.clap.specs.Walk.{Row, Text, all_of}
use Rattle.job_parts.specs.Words.{Word, Given, number}

-- the values of each option, and the other words
pub record Texts : Type 0 where
  pub budget : Option (List Text)
  pub steps : Option (List Text)
  pub rest : List Text

abbrev pub texts_of : List Row → Texts
texts_of rows = record {
  budget = all_of (codes "budget") rows;
  steps = all_of (codes "steps") rows;
  rest = unwrap_or (all_of (codes "words") rows) [];
}

abbrev pub setting_number : Word → Option ℕ
setting_number v = number 1 1000000000 v

-- what an option's values say
abbrev pub read_slot : Option (List Word) → Option (Option ℕ)
read_slot None = Some None
read_slot (Some []) = None
read_slot (Some (v ∷ vs)) = option_map (λ n. Some n) (setting_number v)

abbrev pub given_of : List Word → Option (Option ℕ) → Option (Option ℕ) → Option Given
given_of rest b s = option_and_then (λ m. option_map (λ n. record { budget = m; steps = n; rest = rest }) s) b

abbrev pub numbers : Texts → Option Given
numbers g = given_of g.rest (read_slot g.budget) (read_slot g.steps)
