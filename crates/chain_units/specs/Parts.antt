-- The marks of an item, from its parts themselves.
use Rattle.std.specs.Prelude.{◌≡◌, ℕ, Bool, true, false, Option, List, [], ◌∷◌, ◌++◌, take, ◌||◌, ◌&&◌, if◌then◌else◌}
use Rattle.flow_graph.specs.declared.graph.Op.{Op}
use Rattle.flow_graph.specs.declared.graph.LeaveTo.TheVariants.{Continue}
use Rattle.flow_graph.specs.declared.graph.Item.{Item}
use Rattle.flow_graph.specs.declared.graph.Item.TheVariants as item
use Rattle.flow_graph.specs.declared.graph.Item.TheOpen.{Item-F}
use Rattle.flow_graph.specs.declared.nodes.Around.{Around}
use Rattle.flow_graph.specs.Nodes.{call_node, first_of, in_loop, laid_items, leave_to, node, test_node}
use Rattle.chain_units.specs.declared.cutting.Turning as code
use Rattle.chain_units.specs.Known.{Known, or_nothing}
use Rattle.chain_units.specs.Planned.{IsGreatest}
use Rattle.chain_units.specs.Pieces.{IsTurnOf}
use Rattle.chain_units.specs.Marks.{Alone, Closes, Flat, Joins, Mark, are_flat, ends, first_is_counted, flat_or, is_conditional, loop_weighed, marks_of, one_marks, placed_items, some_continues, turn_of}

-- two items that are one unit: a loop of known count with the Copy before it, where they are flat together
abbrev pub begins_pair : Known → List Item → Bool
begins_pair k [] = false
begins_pair k (x ∷ xs) = first_is_counted xs && are_flat k (take 2 (x ∷ xs))

abbrev pub branch_parts : Known → Op → List Item → List Item → Around → List Mark
branch_parts k test a b c =
    ends (test_node test (first_of (laid_items a) c.behind) (first_of (laid_items b) c.behind))
    ++ (marks_of k (placed_items k a) c ++ Closes ∷ (marks_of k (placed_items k b) c ++ Closes ∷ []))

abbrev pub close_if : Bool → List Mark
close_if b = if b then Closes ∷ [] else []

abbrev pub split_parts : Known → List Item → Op → List Item → List Item → Op → Around → List Mark
split_parts k pre test post step back c =
    let laid_step = laid_items step in
    let top = first_of (laid_items pre) test.number in
    let next = first_of laid_step back.number in
    marks_of k (placed_items k pre) (in_loop laid_step back c test.number)
    ++ (ends (test_node test (first_of (laid_items post) next) c.behind)
    ++ (marks_of k (placed_items k post) (in_loop laid_step back c next)
    ++ (close_if ((some_continues pre || some_continues post) || some_continues step)
    ++ (marks_of k (placed_items k step) (in_loop laid_step back c back.number)
    ++ ends (node back top)))))

abbrev pub loop_parts : Known → Item → List Item → Op → List Item → List Item → Op → Around → List Mark
loop_parts k whole pre test post step back c =
    Closes ∷ (
    if is_conditional k (turn_of pre test post step) (first_of (laid_items pre) test.number) c.behind
    then Alone whole c.behind ∷ []
    else split_parts k pre test post step back c
    )

abbrev pub switch_parts : Known → List Item → Around → List Mark
switch_parts k items c = marks_of k (placed_items k items) (record c { break_to = c.behind }) ++ Closes ∷ []

abbrev pub marks_by : Known → Item-F Item → Around → List Mark
marks_by k (Item-F.One op) c = one_marks op op.kind c.behind
marks_by k (Item-F.Branch test a b) c = flat_or k (item.Branch test a b) c.behind (branch_parts k test a b c)
marks_by k (Item-F.Loop pre test post step back count) c = loop_parts k (item.Loop pre test post step back count) pre test post step back c
marks_by k (Item-F.Switch items) c = flat_or k (item.Switch items) c.behind (switch_parts k items c)
marks_by k (Item-F.CallTo op f) c = if k.is_flat f then Joins (Flat (item.CallTo op f ∷ []) c.behind) ∷ [] else ends (call_node op f c.behind)
marks_by k (Item-F.Leave op to) c = ends (node op (leave_to to c))

-- whether a `continue` in an item goes to the step of the loop that holds it
abbrev pub continues_in : Item-F Item → Bool
continues_in (Item-F.Branch test a b) = some_continues a || some_continues b
continues_in (Item-F.Switch items) = some_continues items
continues_in (Item-F.Leave op Continue) = true
continues_in _ = false

-- the turns of a conditional loop, by its parts
pub record IsConditional (k : Known) (pre : List Item) (test : Op) (post step : List Item) (behind : ℕ) (t : code.Turning) : Type 0 where
  pub yes : is_conditional k (turn_of pre test post step) (first_of (laid_items pre) test.number) behind ≡ true
  pub turn : IsTurnOf k (turn_of pre test post step) (first_of (laid_items pre) test.number) behind t.turn
  pub greatest : IsGreatest (loop_weighed k (turn_of pre test post step) (first_of (laid_items pre) test.number) behind (or_nothing (k.weights (turn_of pre test post step)))) 1024
      k.board.budget t.greatest.turns t.greatest.homes.items t.greatest.cost

-- the item is a loop of these parts, whatever its count
pub record IsLoopOf (x : Item) (pre : List Item) (test : Op) (post step : List Item) (back : Op) : Type 0 where
  pub count : Option ℕ
  pub parts : x ≡ item.Loop pre test post step back count
