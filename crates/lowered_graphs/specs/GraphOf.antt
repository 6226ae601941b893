-- What a program is lowered to. Operations are numbered from 0, function by function in the order of the text. The objects are the globals, and then of each
-- function reached from `main` its result, its parameters, its locals, and its temporaries in the order in which operations first write them.
use Rattle.std.specs.Prelude.{ℕ, zero, suc, ◌+◌, ◌++◌, Bool, true, false, Option, Some, None, List, [], ◌∷◌, length, replicate, slice_get, slice_index_or, slice_set, ◌==◌, ◌||◌, ◌&&◌, if◌then◌else◌}
use Rattle.base_io.specs.declared.place.Place.{Place}
use Rattle.c_values.specs.declared.ops.Ty.{Ty}
use Rattle.c_tree.specs.declared.tree.Variable.{Variable}
use Rattle.c_tree.specs.declared.tree.StmtKind.{out-StmtKind}
use Rattle.c_tree.specs.declared.tree.BlockItem.TheOpen.{StmtKind-F}
use Rattle.c_tree.specs.declared.tree.Function.{Function}
use Rattle.c_tree.specs.declared.tree.Program.{Program}
use Rattle.c_tree.specs.Layer.{StmtLayer}
use Rattle.c_tree.specs.Meaning.{first_words}
use Rattle.sound_programs.specs.Counted.{ends_in_return}
use Rattle.flow_graph.specs.declared.graph.OpKind.TheVariants as kind
use Rattle.flow_graph.specs.declared.graph.Object.{Object}
use Rattle.flow_graph.specs.declared.graph.Func.{Func}
use Rattle.flow_graph.specs.declared.graph.Graph.{Graph}
use Rattle.lowered_graphs.specs.declared.positions.Position.TheVariants.{Body}
use Rattle.lowered_graphs.specs.Making.{Emit, Made, ◌>>◌, nothing, one, copy_into, plain, zero_operand}
use Rattle.lowered_graphs.specs.declared.homes.Homes.{Homes}
use Rattle.lowered_graphs.specs.declared.numbering.Numbering.{Numbering}
use Rattle.lowered_graphs.specs.Exprs.{length_or, result_home}
use Rattle.lowered_graphs.specs.Stmts.{Within, lowered_stmt, holds}

-- ---- functions

abbrev pub ends_by : StmtLayer → Bool
ends_by (StmtKind-F.Block items) = ends_in_return items
ends_by _ = false

abbrev pub return_zero : Within → Option Ty → Place → Emit (Unit {0})
return_zero w None at = nothing
return_zero w (Some ty) at = copy_into (result_home w.setting w.function) zero_operand at

abbrev pub implied_return : Within → Function → Emit (Unit {0})
implied_return w f = return_zero w f.result f.end >> one (plain kind.Ret zero_operand f.end)

-- the return that is implied
abbrev pub implied : Within → Function → Emit (Unit {0})
implied w f = if w.is_main then one (plain kind.Finish zero_operand f.end) else implied_return w f

-- a body that doesn't end in `return` returns behind its end
abbrev pub body : Within → Function → Emit (Unit {0})
body w f = (lowered_stmt w f.body).emit Body >> (if ends_by (out-StmtKind f.body.kind) then nothing else implied w f)

abbrev pub within_of : Program → Homes → ℕ → Within
within_of p homes n = record { setting = record { program = p; homes = homes }; function = n; is_main = n == p.main }

-- ---- which functions are reached

abbrev pub no_homes : Homes
no_homes = record { variables = []; results = []; places = [] }

abbrev pub function_callees : Program → ℕ → Function → List ℕ
function_callees p n f = (lowered_stmt (within_of p no_homes n) f.body).callees

-- whether a marked function calls f; the first of the functions has the number n
abbrev pub is_called : Program → List Bool → ℕ → ℕ → List Function → Bool
is_called p marks f n [] = false
is_called p marks f n (x ∷ xs) = (slice_index_or marks n false && holds f (function_callees p n x)) || is_called p marks f (n + 1) xs

-- the marks of the functions from the n-th on, and of those that a marked one calls
abbrev pub mark_on : Program → List Bool → ℕ → List Function → List Bool
mark_on p marks n [] = []
mark_on p marks n (x ∷ xs) = (slice_index_or marks n false || is_called p marks n 0 p.functions) ∷ mark_on p marks (n + 1) xs

abbrev pub marks_after : Program → ℕ → List Bool
marks_after p zero = slice_set (replicate (length p.functions) false) p.main true
marks_after p (suc k) = mark_on p (marks_after p k) 0 p.functions

-- whether a function is reached: within as many calls as there are functions
abbrev pub reached : Program → List Bool
reached p = marks_after p (length p.functions)

-- ---- objects

abbrev pub object_of : Variable → List ℕ → Object
object_of v first = record { words = length_or v.length; first = first }

abbrev pub scalar : Object
scalar = record { words = 1; first = [] }

abbrev pub add_variable : ℕ → Object → Numbering → Numbering
add_variable x o m = record { objects = m.objects ++ o ∷ []; variables = slice_set m.variables x (length m.objects); results = m.results }

abbrev pub add_result : ℕ → Numbering → Numbering
add_result f m = record { objects = m.objects ++ scalar ∷ []; variables = m.variables; results = slice_set m.results f (length m.objects) }

abbrev pub add_temporaries : ℕ → Numbering → Numbering
add_temporaries n m = record { objects = m.objects ++ replicate n scalar; variables = m.variables; results = m.results }

abbrev pub add_global : ℕ → Variable → Numbering → Numbering
add_global x v m = if v.global then add_variable x (object_of v (first_words v)) m else m

abbrev pub add_globals : ℕ → List Variable → Numbering → Numbering
add_globals x [] m = m
add_globals x (v ∷ vs) m = add_globals (x + 1) vs (add_global x v m)

abbrev pub add_local : ℕ → Option Variable → Numbering → Numbering
add_local x None m = m
add_local x (Some v) m = add_variable x (object_of v []) m

abbrev pub add_locals : Program → List ℕ → Numbering → Numbering
add_locals p [] m = m
add_locals p (x ∷ xs) m = add_locals p xs (add_local x (slice_get p.variables x) m)

-- `main` has no result object: it hands its value to the Finish
abbrev pub add_result_of : Program → ℕ → Option Ty → Numbering → Numbering
add_result_of p n None m = m
add_result_of p n (Some ty) m = if n == p.main then m else add_result n m

-- A body has as many temporaries, wherever its objects stand.
abbrev pub temporaries : Program → ℕ → Function → ℕ
temporaries p n f = (body (within_of p no_homes n) f (record { op = 0; temp = 0 })).counts.temp

-- the result, the parameters and the locals of a function
abbrev pub add_named : Program → ℕ → Function → Numbering → Numbering
add_named p n f m = add_locals p (f.params ++ (lowered_stmt (within_of p no_homes n) f.body).locals) (add_result_of p n f.result m)

abbrev pub add_function : Program → ℕ → Function → Numbering → Numbering
add_function p n f m = add_temporaries (temporaries p n f) (add_named p n f m)

abbrev pub add_functions : Program → ℕ → List Function → Numbering → Numbering
add_functions p n [] m = m
add_functions p n (f ∷ fs) m = add_functions p (n + 1) fs (if slice_index_or (reached p) n false then add_function p n f m else m)

-- the globals are numbered, and nothing else
abbrev pub globals : Program → Numbering
globals p = add_globals 0 p.variables (record { objects = []; variables = replicate (length p.variables) 0; results = replicate (length p.functions) 0 })

abbrev pub numbering : Program → Numbering
numbering p = add_functions p 0 p.functions (globals p)

-- ---- the place of each function among those reached

abbrev pub places_from : List Bool → ℕ → List ℕ
places_from [] k = []
places_from (true ∷ ms) k = k ∷ places_from ms (k + 1)
places_from (false ∷ ms) k = k ∷ places_from ms k

abbrev pub homes_of : Program → Homes
homes_of p = record { variables = (numbering p).variables; results = (numbering p).results; places = places_from (reached p) 0 }

-- ---- a program

pub record Bodies : Type 0 where
  pub functions : List Func
  pub ops : ℕ

abbrev pub func_of : Function → Made (Unit {0}) → Func
func_of f m = record { name = f.name; body = m.items; end = f.end }

-- the first temporary of a function stands behind its locals
abbrev pub made_function : Program → Homes → ℕ → ℕ → ℕ → Function → Made (Unit {0})
made_function p homes n op temp f = body (within_of p homes n) f (record { op = op; temp = temp })

abbrev pub with_function : Function → Made (Unit {0}) → Bodies → Bodies
with_function f m b = record { functions = func_of f m ∷ b.functions; ops = b.ops }

-- the objects before a function's temporaries
abbrev pub objects_before : Program → ℕ → Function → Numbering → ℕ
objects_before p n f m = length (add_named p n f m).objects

abbrev pub bodies_from : Program → Homes → ℕ → ℕ → Numbering → List Function → Bodies
bodies_from p homes n op m [] = record { functions = []; ops = op }
bodies_from p homes n op m (f ∷ fs) =
    if slice_index_or (reached p) n false
    then with_function f (made_function p homes n op (objects_before p n f m) f)
    (bodies_from p homes (n + 1) (made_function p homes n op (objects_before p n f m) f).counts.op (add_function p n f m) fs)
    else bodies_from p homes (n + 1) op m fs

abbrev pub bodies : Program → Bodies
bodies p = bodies_from p (homes_of p) 0 0 (globals p) p.functions

abbrev pub graph_of : Program → Graph
graph_of p = record { objects = (numbering p).objects; functions = (bodies p).functions; main = slice_index_or (homes_of p).places p.main 0 }

abbrev pub operations : Program → ℕ
operations p = (bodies p).ops
