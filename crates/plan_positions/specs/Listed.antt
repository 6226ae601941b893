-- The positions of a section as the code makes them, by what it restores and saves and by its operations.
use Rattle.std.specs.Prelude.{ℕ, ◌+◌, ◌-◌, nat_lt, if◌then◌else◌, true, false, List, ◌∷◌, ◌++◌, map, take, drop, slice_get}
use Rattle.flow_graph.specs.declared.graph.Func.{Func}
use Rattle.flow_graph.specs.declared.nodes.Next.{Next}
use Rattle.flow_graph.specs.declared.nodes.Next.TheVariants as next
use Rattle.flow_graph.specs.declared.nodes.Node.{Node}
use Rattle.flow_graph.specs.Nodes.{first_in}
use Rattle.plan_positions.specs.declared.section.Shape.{Shape}
use Rattle.plan_positions.specs.declared.section.Shape.TheVariants.{Callee, Straight, Rounds}
use Rattle.plan_positions.specs.declared.position.Goal.{Goal}
use Rattle.plan_positions.specs.declared.position.Goal.TheVariants.{Nowhere, To, Enters}
use Rattle.plan_positions.specs.declared.position.What.TheVariants.{Sleeps, Restores, Sets, Does, Turns, Saves}
use Rattle.plan_positions.specs.declared.position.Position.{Position}
use Rattle.plan_positions.specs.declared.frame.Frame.{Frame}

abbrev pub front_by : Shape → ℕ → ℕ
front_by Callee restored = 0
front_by (Straight ends) restored = 1 + restored
front_by (Rounds turns) restored = 2 + restored

abbrev pub exit_by : Shape → ℕ → ℕ → ℕ → ℕ
exit_by (Rounds turns) front count saved = front + (count + (2 + saved))
exit_by _ front count saved = front + count

abbrev pub inside_by : Frame → ℕ → Goal
inside_by f n = To (f.at + (if nat_lt n f.behind then f.front + (n - f.first) else f.exit))

abbrev pub inner_goal_by : Frame → List Func → Next → Goal
inner_goal_by f functions (next.To n) = inside_by f n
inner_goal_by f functions (next.Either n m) = inside_by f m
inner_goal_by f functions (next.Into h n) = Enters (first_in (slice_get functions h))
inner_goal_by f functions next.Returns = Nowhere
inner_goal_by f functions next.Ends = Nowhere

abbrev pub end_goal_by : List Func → Next → Goal
end_goal_by functions (next.To n) = Enters n
end_goal_by functions (next.Either n m) = Enters m
end_goal_by functions (next.Into h n) = Enters (first_in (slice_get functions h))
end_goal_by functions next.Returns = Nowhere
end_goal_by functions next.Ends = Nowhere

abbrev pub inner_by : Frame → List Func → Node → Position
inner_by f functions x = record { spot = x.op.number; what = Does x; goal = inner_goal_by f functions x.next }

abbrev pub ending_by : List Func → Node → Position
ending_by functions x = record { spot = x.op.number; what = Does x; goal = end_goal_by functions x.next }

abbrev pub going_by : Goal → Node → Position
going_by goal x = record { spot = x.op.number; what = Does x; goal = goal }

abbrev pub restore_by : ℕ → ℕ → Position
restore_by spot o = record { spot = spot; what = Restores o; goal = Nowhere }

abbrev pub save_by : ℕ → ℕ → Position
save_by spot o = record { spot = spot; what = Saves o; goal = Nowhere }

abbrev pub head_by : ℕ → List ℕ → List Position
head_by spot restored = record { spot = spot; what = Sleeps; goal = Nowhere } ∷ map (restore_by spot) restored

abbrev pub count_of : Frame → ℕ
count_of f = f.behind - f.first

abbrev pub sets_by : Frame → ℕ → Position
sets_by f turns = record { spot = f.first; what = Sets turns; goal = Nowhere }

abbrev pub turn_by : Frame → Position
turn_by f = record { spot = f.behind - 1; what = Turns; goal = To (f.at + (f.front + (count_of f + 1))) }

-- up to the end of a turn, and from there on
abbrev pub turn_begun_by : Frame → List Func → List ℕ → List Node → ℕ → List Position
turn_begun_by f functions restored nodes turns = head_by f.first restored ++ sets_by f turns ∷ map (inner_by f functions) (take (count_of f - 1) nodes)

abbrev pub turn_ended_by : Frame → List ℕ → List Node → List Position
turn_ended_by f saved nodes =
    turn_by f ∷ (map (going_by (To (f.at + f.front))) (drop (count_of f - 1) nodes)
    ++ (map (save_by (f.behind - 1)) saved ++ (map (going_by (To f.at)) (drop (count_of f - 1) nodes) ++ map (save_by f.behind) saved)))

abbrev pub listed_by : Shape → Frame → List Func → List ℕ → List ℕ → List Node → List Position
listed_by Callee f functions restored saved nodes = map (inner_by f functions) nodes
listed_by (Straight false) f functions restored saved nodes = head_by f.first restored ++ (map (inner_by f functions) nodes ++ map (save_by f.behind) saved)
listed_by (Straight true) f functions restored saved nodes =
    head_by f.first restored
    ++ (map (inner_by f functions) (take (count_of f - 1) nodes) ++ (map (save_by (f.behind - 1)) saved ++ map (ending_by functions) (drop (count_of f - 1) nodes)))
listed_by (Rounds turns) f functions restored saved nodes = turn_begun_by f functions restored nodes turns ++ turn_ended_by f saved nodes
