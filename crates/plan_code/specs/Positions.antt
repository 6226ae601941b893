-- What stands in a section, position by position: its head, moves of objects between FRAM and SRAM, operations, and the counting of turns in R10.
-- Positions are numbered from 0 in the order of the code.
use Rattle.std.specs.Prelude.{ℕ, ◌+◌, ◌-◌, ◌==◌, ◌&&◌, ◌||◌, nat_lt, if◌then◌else◌, Bool, true, false, Option, Some, None, List, [], ◌∷◌, ◌++◌, length, map, take, drop}
use Rattle.flow_graph.specs.declared.graph.Graph.{Graph}
use Rattle.flow_graph.specs.declared.nodes.Next.{Next}
use Rattle.flow_graph.specs.declared.nodes.Next.TheVariants as next
use Rattle.flow_graph.specs.declared.nodes.Node.{Node}
use Rattle.flow_graph.specs.Nodes.{entry, graph_nodes}
use Rattle.graph_flow.specs.GraphFlow.{target_by}
use Rattle.chain_units.specs.Known.{Known}
use Rattle.plan_code.specs.Sections.{Shape, Callee, Straight, Rounds, Section}

-- where a position jumps to: nowhere; the position of this number; or where the section stands that begins with the operation of this number
pub data Goal : Type 0 where
  Nowhere : Goal
  To : ℕ → Goal
  Enters : ℕ → Goal

-- A head; an object is restored from FRAM to SRAM; R10 is set to a number of turns; an operation is done; a turn ends, which lowers R10 and jumps
-- where it is 0; an object is saved from SRAM to FRAM.
pub data What : Type 0 where
  Sleeps : What
  Restores : ℕ → What
  Sets : ℕ → What
  Does : Node → What
  Turns : What
  Saves : ℕ → What

-- with the section, and the number of the operation that is done next wherever a run stands here
pub record Position : Type 0 where
  pub section : Section
  pub spot : ℕ
  pub what : What
  pub goal : Goal

-- ---- What a section restores and saves

abbrev pub chosen : (ℕ → Bool) → List ℕ → List ℕ
chosen test [] = []
chosen test (o ∷ os) = if test o then o ∷ chosen test os else chosen test os

-- the operations of a section
abbrev pub nodes_in : Graph → Section → List Node
nodes_in g s = take (s.behind - s.opening.first) (drop s.opening.first (graph_nodes g))

abbrev pub is_target : Option ℕ → ℕ → Bool
is_target None o = false
is_target (Some t) o = t == o

-- one of the operations writes the object
abbrev pub is_written : List Node → ℕ → Bool
is_written [] o = false
is_written (x ∷ xs) o = is_target (target_by x.op.kind x.op) o || is_written xs o

-- Whether an object is live where the section is left: before the operation behind it, after its last one, or before either that a loop goes on
-- with, its own first or the one behind it.
abbrev pub is_wanted : Known → Shape → Section → ℕ → Bool
is_wanted k Callee s o = false
is_wanted k (Straight false) s o = k.before s.behind o
is_wanted k (Straight true) s o = k.after (s.behind - 1) o
is_wanted k (Rounds turns) s o = k.before s.opening.first o || k.before s.behind o

-- arrays, and scalars that are live where the section begins
abbrev pub restored : Known → Section → List ℕ
restored k s = chosen (λ o. k.is_array o || k.before s.opening.first o) s.opening.homes

-- what the section writes and is live where it is left
abbrev pub saved : Known → Section → List ℕ
saved k s = chosen (λ o. is_written (nodes_in k.graph s) o && is_wanted k s.opening.shape s o) s.opening.homes

-- ---- Where operations lead

-- how many positions stand before the first operation
abbrev pub front_size : Known → Shape → Section → ℕ
front_size k Callee s = 0
front_size k (Straight ends) s = 1 + length (restored k s)
front_size k (Rounds turns) s = 2 + length (restored k s)

-- How many positions stand before what is done where the section is left by falling through or by a loop's test. In a loop these are also the end of a
-- turn, the Go to the next one, the saves, and the Go to the head.
abbrev pub exit_size : Known → Shape → Section → ℕ
exit_size k (Rounds turns) s = front_size k s.opening.shape s + ((s.behind - s.opening.first) + (2 + length (saved k s)))
exit_size k shape s = front_size k s.opening.shape s + (s.behind - s.opening.first)

module _ (k : Known) (at : ℕ) (s : Section) where
  -- an operation of the section, or the one behind it
  abbrev pub inside : ℕ → Goal
  inside n = To (at + (if nat_lt n s.behind then front_size k s.opening.shape s + (n - s.opening.first) else exit_size k s.opening.shape s))

  abbrev pub inner_goal : Next → Goal
  inner_goal (next.To n) = inside n
  inner_goal (next.Either n m) = inside m
  inner_goal (next.Into f n) = Enters (entry k.graph f)
  inner_goal next.Returns = Nowhere
  inner_goal next.Ends = Nowhere

  abbrev pub here : ℕ → What → Goal → Position
  here spot what goal = record { section = s; spot = spot; what = what; goal = goal }

  abbrev pub inner : Node → Position
  inner x = here x.op.number (Does x) (inner_goal x.next)

  abbrev pub saves_at : ℕ → List Position
  saves_at spot = map (λ o. here spot (Saves o) Nowhere) (saved k s)

  -- ---- its positions

  abbrev pub count : ℕ
  count = s.behind - s.opening.first

  -- all operations but the last, and the last
  abbrev pub leading : List Node
  leading = take (count - 1) (nodes_in k.graph s)

  abbrev pub last : List Node
  last = drop (count - 1) (nodes_in k.graph s)

  abbrev pub head_and_restores : List Position
  head_and_restores = here s.opening.first Sleeps Nowhere ∷ map (λ o. here s.opening.first (Restores o) Nowhere) (restored k s)

  -- an operation that ends a chain goes to other sections
  abbrev pub end_goal : Next → Goal
  end_goal (next.To n) = Enters n
  end_goal (next.Either n m) = Enters m
  end_goal (next.Into f n) = Enters (entry k.graph f)
  end_goal next.Returns = Nowhere
  end_goal next.Ends = Nowhere

  abbrev pub ending : Node → Position
  ending x = here x.op.number (Does x) (end_goal x.next)

  -- the Go of a loop, to where a turn begins or to the head
  abbrev pub going : Goal → Node → Position
  going goal x = here x.op.number (Does x) goal

  abbrev pub turn_ends : Position
  turn_ends = here (s.behind - 1) Turns (To (at + (front_size k s.opening.shape s + (count + 1))))

  abbrev pub rounds : ℕ → List Position
  rounds turns =
      head_and_restores ++ here s.opening.first (Sets turns) Nowhere ∷ (map inner leading
      ++ turn_ends ∷ (map (going (To (at + front_size k s.opening.shape s))) last
      ++ (saves_at (s.behind - 1) ++ (map (going (To at)) last ++ saves_at s.behind))))

  abbrev pub positions_by : Shape → List Position
  positions_by Callee = map inner (nodes_in k.graph s)
  positions_by (Straight false) = head_and_restores ++ (map inner (nodes_in k.graph s) ++ saves_at s.behind)
  positions_by (Straight true) = head_and_restores ++ (map inner leading ++ (saves_at (s.behind - 1) ++ map ending last))
  positions_by (Rounds turns) = rounds turns

  -- the positions of the section whose first has the number `at`
  abbrev pub section_positions : List Position
  section_positions = positions_by s.opening.shape

-- ---- all of them

abbrev pub positions_from : Known → ℕ → List Section → List Position
positions_from k at [] = []
positions_from k at (s ∷ ss) = section_positions k at s ++ positions_from k (at + length (section_positions k at s)) ss

-- the position at which the section begins that begins with the operation
abbrev pub entered : Known → ℕ → List Section → ℕ → ℕ
entered k at [] n = 0
entered k at (s ∷ ss) n = if s.opening.first == n then at else entered k (at + length (section_positions k at s)) ss n

-- the position that is jumped to
abbrev pub target_of : Known → List Section → Goal → ℕ
target_of k ss Nowhere = 0
target_of k ss (To i) = i
target_of k ss (Enters n) = entered k 0 ss n
