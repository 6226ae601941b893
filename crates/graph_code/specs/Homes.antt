-- Where objects stand in FRAM: from 0x4400 on, in the order of their numbers.
use Rattle.std.specs.Prelude.{ℕ, zero, suc, ◌+◌, ◌*◌, ◌<◌, ◌≤◌, List, [], ◌∷◌, sum_by}
use Rattle.flow_graph.specs.declared.graph.Object.{Object}
use Rattle.flow_graph.specs.declared.graph.Graph.{Graph}
use Rattle.graph_flow.specs.GraphFlow.{sizes}

-- the words of the objects before one
abbrev pub words_before : List Object → ℕ → ℕ
words_before [] o = 0
words_before (x ∷ xs) zero = 0
words_before (x ∷ xs) (suc o) = x.words + words_before xs o

-- the word of FRAM from which an object stands; word k is that of the address 2k
abbrev pub first_word : Graph → ℕ → ℕ
first_word g o = 0x2200 + words_before g.objects o

-- the bytes that objects need
abbrev pub data_bytes : Graph → ℕ
data_bytes g = 2 * sum_by (λ x. x.words) g.objects

-- as many as there are from 0x4400 to the call stack, which begins at 0x7F00
abbrev pub most_data : ℕ
most_data = 15104

-- Each object stands between boot's words and the call stack, and behind all objects before it.
pub record HaveHomes (g : Graph) : Type 0 where
  pub room : (o : ℕ) → first_word g o + sizes g o ≤ 0x3F80
  pub apart : (o t : ℕ) → o < t → first_word g o + sizes g o ≤ first_word g t

abbrev pub ObjectsHaveHomes : Type 0
ObjectsHaveHomes = (g : Graph) → data_bytes g ≤ most_data → HaveHomes g
