-- The arcs of a graph between places: the operations, and behind them the end of each function. Control goes from a return to the end of its function, and
-- from there behind each call of it. An operation that isn't there has no arcs.
use Rattle.std.specs.Prelude.{ℕ, ◌+◌, ◌++◌, nat_lt, if◌then◌else◌, List, [], ◌∷◌, length, slice_index_or}
use Rattle.graph_paths.specs.declared.arcs.Arc.{Arc}
use Rattle.graph_paths.specs.Arcs.{arc}
use Rattle.graph_paths.specs.declared.Role.{Role}
use Rattle.graph_paths.specs.declared.Role.TheVariants.{Goal, Wall, Open}
use Rattle.flow_graph.specs.declared.graph.Op.{Op}
use Rattle.flow_graph.specs.declared.graph.Func.{Func}
use Rattle.flow_graph.specs.declared.nodes.Next.{Next}
use Rattle.flow_graph.specs.declared.nodes.Next.TheVariants.{To, Either, Into, Returns, Ends}
use Rattle.flow_graph.specs.Nodes.{first_of, laid_items}
use Rattle.flow_graph.specs.declared.owned.Owned.{Owned}
use Rattle.live_objects.specs.Live.{needs, writes}

-- the operation that each function begins with
abbrev pub entries : List Func → List ℕ
entries [] = []
entries (f ∷ fs) = first_of (laid_items f.body) 0 ∷ entries fs

-- to an operation, if there is one of this number
abbrev pub to_operation : ℕ → ℕ → ℕ → List Arc
to_operation count i j = if nat_lt j count then arc i j ∷ [] else []

-- from the end of a function, if there is one of this number
abbrev pub from_end : ℕ → ℕ → ℕ → ℕ → List Arc
from_end count functions f j = if nat_lt f functions then to_operation count (count + f) j else []

abbrev pub arcs_of : ℕ → List ℕ → ℕ → ℕ → Next → List Arc
arcs_of count entries i f (To n) = to_operation count i n
arcs_of count entries i f (Either n m) = to_operation count i n ++ to_operation count i m
arcs_of count entries i f (Into c n) = to_operation count i (slice_index_or entries c 0) ++ from_end count (length entries) c n
arcs_of count entries i f Returns = arc i (count + f) ∷ []
arcs_of count entries i f Ends = []

abbrev pub arcs_from : ℕ → List ℕ → ℕ → List Owned → List Arc
arcs_from count entries i [] = []
arcs_from count entries i (x ∷ xs) = arcs_of count entries i x.function x.node.next ++ arcs_from count entries (i + 1) xs

-- what an operation is to paths along which an object is live
abbrev pub role_by : Op → ℕ → Role
role_by op o = if needs op o then Goal else (if writes op o then Wall else Open)

abbrev pub roles_by : ℕ → List Owned → List Role
roles_by o [] = []
roles_by o (x ∷ xs) = role_by x.node.op o ∷ roles_by o xs
