use Rattle.std.proofs.Common.{◌≡◌, ◌+◌, ◌*◌, ◌≤◌, [], map, length}
use Rattle.c_typing.specs.Sizes.{size, total}
use Rattle.c_typing.specs.Statements as spec
use Rattle.c_typing.specs.Programs.{judged}
use Rattle.c_typing.proofs.Making.{Leads}
use Rattle.c_statements.proofs.statements.+nested.Given as goal

-- A node has fewer tokens and nodes below it than itself; at the same trees the calls go down these ranks.
abbrev pub decreases-stmt : goal.decreases-stmt
decreases-stmt l = 40 * size l.raw.now + 0

abbrev pub decreases-boxed_stmt : goal.decreases-boxed_stmt
decreases-boxed_stmt l = 40 * size l.raw.now + 1

abbrev pub decreases-stmt_parts : goal.decreases-stmt_parts
decreases-stmt_parts l = 40 * total l.parts.now + 31

abbrev pub decreases-stmt_kind : goal.decreases-stmt_kind
decreases-stmt_kind l = 40 * total l.parts.now + 30

abbrev pub decreases-word_kind : goal.decreases-word_kind
decreases-word_kind l = 40 * total l.rest.now + 25

abbrev pub decreases-loop_kind : goal.decreases-loop_kind
decreases-loop_kind l = 40 * total l.rest.now + 22

abbrev pub decreases-node_kind : goal.decreases-node_kind
decreases-node_kind l = 40 * size l.part.now + 2

abbrev pub decreases-block : goal.decreases-block
decreases-block l = 40 * size l.part.now + 1

abbrev pub decreases-items : goal.decreases-items
decreases-items l = 40 * size l.raw.now + 0

abbrev pub decreases-block_parts : goal.decreases-block_parts
decreases-block_parts l = 40 * total l.parts.now + 25

abbrev pub decreases-items_in : goal.decreases-items_in
decreases-items_in l = 40 * total l.parts.now + 20

abbrev pub decreases-item : goal.decreases-item
decreases-item l = 40 * size l.raw.now + 0

abbrev pub decreases-item_parts : goal.decreases-item_parts
decreases-item_parts l = 40 * total l.parts.now + 25

abbrev pub decreases-if_parts : goal.decreases-if_parts
decreases-if_parts l = 40 * total l.parts.now + 20

abbrev pub decreases-yes_parts : goal.decreases-yes_parts
decreases-yes_parts l = 40 * (size l.part.now + total l.rest.now) + 15

abbrev pub decreases-else_parts : goal.decreases-else_parts
decreases-else_parts l = 40 * total l.parts.now + 10

abbrev pub decreases-while_parts : goal.decreases-while_parts
decreases-while_parts l = 40 * total l.parts.now + 20

abbrev pub decreases-while_body : goal.decreases-while_body
decreases-while_body l = 40 * size l.part.now + 10

abbrev pub decreases-do_parts : goal.decreases-do_parts
decreases-do_parts l = 40 * total l.parts.now + 20

abbrev pub decreases-for_parts : goal.decreases-for_parts
decreases-for_parts l = 40 * total l.parts.now + 20

abbrev pub decreases-scoped_for : goal.decreases-scoped_for
decreases-scoped_for l = 40 * total l.parts.now + 18

abbrev pub decreases-first_parts : goal.decreases-first_parts
decreases-first_parts l = 40 * total l.parts.now + 16

abbrev pub decreases-first_some : goal.decreases-first_some
decreases-first_some l = 40 * total l.rest.now + 14

abbrev pub decreases-test_parts : goal.decreases-test_parts
decreases-test_parts l = 40 * total l.parts.now + 12

abbrev pub decreases-step_parts : goal.decreases-step_parts
decreases-step_parts l = 40 * total l.parts.now + 10

abbrev pub decreases-for_body : goal.decreases-for_body
decreases-for_body l = 40 * total l.parts.now + 8

abbrev pub decreases-switch_parts : goal.decreases-switch_parts
decreases-switch_parts l = 40 * total l.parts.now + 20

abbrev pub decreases-switch_value : goal.decreases-switch_value
decreases-switch_value l = 40 * total l.parts.now + 18

abbrev pub decreases-switched : goal.decreases-switched
decreases-switched l = 40 * total l.parts.now + 16

abbrev pub decreases-groups_in : goal.decreases-groups_in
decreases-groups_in l = 40 * total l.parts.now + 14

abbrev pub decreases-group : goal.decreases-group
decreases-group l = 40 * size l.raw.now + 0

abbrev pub decreases-scoped_group : goal.decreases-scoped_group
decreases-scoped_group l = 40 * total l.parts.now + 30

abbrev pub decreases-group_parts : goal.decreases-group_parts
decreases-group_parts l = 40 * total l.parts.now + 25

abbrev pub invariant-items_in-loop-part : goal.invariant-items_in-loop-part
invariant-items_in-loop-part l = Leads (spec.items_onto [] (map judged l.parts)) l.initial.state (spec.items_onto l.done (map judged l.rest)) l.state × (total l.rest ≤ total l.parts)

abbrev pub decreases-items_in-loop-part : goal.decreases-items_in-loop-part
decreases-items_in-loop-part l = length l.rest

abbrev pub invariant-groups_in-loop-part : goal.invariant-groups_in-loop-part
invariant-groups_in-loop-part l = Leads (spec.groups_onto l.ty [] [] (map judged l.parts)) l.initial.state (spec.groups_onto l.ty l.before l.done (map judged l.rest)) l.state × (total l.rest ≤ total l.parts)

abbrev pub decreases-groups_in-loop-part : goal.decreases-groups_in-loop-part
decreases-groups_in-loop-part l = length l.rest

abbrev pub invariant-group_parts-loop-part : goal.invariant-group_parts-loop-part
invariant-group_parts-loop-part l = Leads (spec.group_onto l.ty l.before [] (map judged l.parts)) l.initial.state (spec.group_onto l.ty l.before l.labels (map judged l.rest)) l.state × (total l.rest ≤ total l.parts)

abbrev pub decreases-group_parts-loop-part : goal.decreases-group_parts-loop-part
decreases-group_parts-loop-part l = length l.rest
