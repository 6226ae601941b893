use Rattle.std.proofs.Common.{◌≡◌, ℕ, ◌≤◌, ◌+◌, [], ◌*◌, length, reverse}
use Rattle.std.specs.Prelude.{map}
use Rattle.c_tree.specs.Runs.{go_on}
use Rattle.c_tree.specs.Chains.{rests_of}
use Rattle.c_tree.specs.Nodes as nodes
use Rattle.c_tree.specs.Lines.{seen}
use Rattle.c_tree.specs.Follows.{Leads}
use Rattle.c_tree.proofs.nodes.+nodes.Given as goal

-- Each node and each turn begins a step first; between two steps the calls go down these ranks.
abbrev pub decreases-expressions::expr : goal.decreases-expressions::expr
decreases-expressions::expr g l = 40 * l.run.now.left + 0

abbrev pub decreases-expressions::node : goal.decreases-expressions::node
decreases-expressions::node g l = 40 * l.run.now.left + 39

abbrev pub decreases-operands::first : goal.decreases-operands::first
decreases-operands::first g l = 40 * l.run.now.left + 7

abbrev pub decreases-operands::chain : goal.decreases-operands::chain
decreases-operands::chain g l = 40 * l.run.now.left + 6

abbrev pub decreases-operands::rests : goal.decreases-operands::rests
decreases-operands::rests g l = 40 * l.run.now.left + 5

abbrev pub decreases-operands::rest : goal.decreases-operands::rest
decreases-operands::rest g l = 40 * l.run.now.left + 4

abbrev pub decreases-operands::second : goal.decreases-operands::second
decreases-operands::second g l = 40 * l.run.now.left + 3

abbrev pub decreases-operands::worked : goal.decreases-operands::worked
decreases-operands::worked g l = 40 * l.run.now.left + 1

abbrev pub decreases-expressions::choice : goal.decreases-expressions::choice
decreases-expressions::choice g l = 40 * l.run.now.left + 1

abbrev pub decreases-calls::arguments : goal.decreases-calls::arguments
decreases-calls::arguments g l = 40 * l.run.now.left + 1

abbrev pub decreases-calls::call : goal.decreases-calls::call
decreases-calls::call g l = 40 * l.run.now.left + 2

abbrev pub decreases-calls::run_body : goal.decreases-calls::run_body
decreases-calls::run_body g l = 40 * l.run.now.left + 1

abbrev pub decreases-expressions::value_or : goal.decreases-expressions::value_or
decreases-expressions::value_or g l = 40 * l.run.now.left + 1

abbrev pub decreases-statements::stmt : goal.decreases-statements::stmt
decreases-statements::stmt g l = 40 * l.run.now.left + 0

abbrev pub decreases-statements::stmt_node : goal.decreases-statements::stmt_node
decreases-statements::stmt_node g l = 40 * l.run.now.left + 39

abbrev pub decreases-statements::arm : goal.decreases-statements::arm
decreases-statements::arm g l = 40 * l.run.now.left + 1

abbrev pub decreases-statements::block : goal.decreases-statements::block
decreases-statements::block g l = 40 * l.run.now.left + 31

abbrev pub decreases-statements::block_item : goal.decreases-statements::block_item
decreases-statements::block_item g l = 40 * l.run.now.left + 30

abbrev pub decreases-declarations::declare_list : goal.decreases-declarations::declare_list
decreases-declarations::declare_list g l = 40 * l.run.now.left + 29

abbrev pub decreases-actions::act : goal.decreases-actions::act
decreases-actions::act g l = 40 * l.run.now.left + 15

abbrev pub decreases-actions::assign : goal.decreases-actions::assign
decreases-actions::assign g l = 40 * l.run.now.left + 3

abbrev pub decreases-actions::assigned : goal.decreases-actions::assigned
decreases-actions::assigned g l = 40 * l.run.now.left + 1

abbrev pub decreases-actions::update : goal.decreases-actions::update
decreases-actions::update g l = 40 * l.run.now.left + 14

abbrev pub decreases-actions::updated : goal.decreases-actions::updated
decreases-actions::updated g l = 40 * l.run.now.left + 3

abbrev pub decreases-actions::finished : goal.decreases-actions::finished
decreases-actions::finished g l = 40 * l.run.now.left + 2

abbrev pub decreases-declarations::declare_each : goal.decreases-declarations::declare_each
decreases-declarations::declare_each g l = 40 * l.run.now.left + 28

abbrev pub decreases-declarations::declare : goal.decreases-declarations::declare
decreases-declarations::declare g l = 40 * l.run.now.left + 27

abbrev pub decreases-declarations::declare_sized : goal.decreases-declarations::declare_sized
decreases-declarations::declare_sized g l = 40 * l.run.now.left + 26

abbrev pub decreases-declarations::declare_scalar : goal.decreases-declarations::declare_scalar
decreases-declarations::declare_scalar g l = 40 * l.run.now.left + 1

abbrev pub decreases-declarations::declare_array : goal.decreases-declarations::declare_array
decreases-declarations::declare_array g l = 40 * l.run.now.left + 2

abbrev pub decreases-declarations::fill : goal.decreases-declarations::fill
decreases-declarations::fill g l = 40 * l.run.now.left + 1

abbrev pub decreases-loops::for_first : goal.decreases-loops::for_first
decreases-loops::for_first g l = 40 * l.run.now.left + 31

abbrev pub decreases-switches::select : goal.decreases-switches::select
decreases-switches::select g l = 40 * l.run.now.left + 33

abbrev pub decreases-switches::switched : goal.decreases-switches::switched
decreases-switches::switched g l = 40 * l.run.now.left + 32

abbrev pub decreases-loops::turns : goal.decreases-loops::turns
decreases-loops::turns g l = 40 * l.run.now.left + 1

abbrev pub decreases-loops::turn : goal.decreases-loops::turn
decreases-loops::turn g l = 40 * l.run.now.left + 39

abbrev pub decreases-loops::loop_body : goal.decreases-loops::loop_body
decreases-loops::loop_body g l = 40 * l.run.now.left + 38

abbrev pub decreases-loops::full_turn : goal.decreases-loops::full_turn
decreases-loops::full_turn g l = 40 * l.run.now.left + 37

abbrev pub decreases-loops::stepped : goal.decreases-loops::stepped
decreases-loops::stepped g l = 40 * l.run.now.left + 36

abbrev pub decreases-loops::step_on : goal.decreases-loops::step_on
decreases-loops::step_on g l = 40 * l.run.now.left + 35

abbrev pub decreases-actions::act_opt : goal.decreases-actions::act_opt
decreases-actions::act_opt g l = 40 * l.run.now.left + 34

abbrev pub decreases-loops::do_test : goal.decreases-loops::do_test
decreases-loops::do_test g l = 40 * l.run.now.left + 2

abbrev pub decreases-loops::last_test : goal.decreases-loops::last_test
decreases-loops::last_test g l = 40 * l.run.now.left + 1

abbrev pub decreases-expressions::leaf : goal.decreases-expressions::leaf
decreases-expressions::leaf g l = 40 * l.run.now.left + 4

abbrev pub decreases-calls::called : goal.decreases-calls::called
decreases-calls::called g l = 40 * l.run.now.left + 3

abbrev pub decreases-statements::acted : goal.decreases-statements::acted
decreases-statements::acted g l = 40 * l.run.now.left + 16

abbrev pub decreases-statements::returned : goal.decreases-statements::returned
decreases-statements::returned g l = 40 * l.run.now.left + 2

abbrev pub decreases-statements::if_arm : goal.decreases-statements::if_arm
decreases-statements::if_arm g l = 40 * l.run.now.left + 2

abbrev pub decreases-loops::for_loop : goal.decreases-loops::for_loop
decreases-loops::for_loop g l = 40 * l.run.now.left + 32

abbrev pub decreases-switches::switch : goal.decreases-switches::switch
decreases-switches::switch g l = 40 * l.run.now.left + 34

abbrev pub invariant-operands::chain-loop-part : goal.invariant-operands::chain-loop-part
invariant-operands::chain-loop-part g l = ((d : ℕ) → l.initial.run.left ≤ d → (n : ℕ) × (l.run.left ≤ n) × Leads ((nodes.to_depth l.p d).expr l.e l.initial.run) l.initial.run (seen (g.K.Sink.taken l.initial.sink) (g.K.Sink.faults l.initial.sink)) (go_on ((nodes.to_depth l.p n).expr l.at l.run) (rests_of l.p n (map (λ r. r.now) (reverse l.above.items)))) l.run (seen (g.K.Sink.taken l.sink) (g.K.Sink.faults l.sink))) × (l.run.left ≤ l.initial.run.left)

abbrev pub decreases-operands::chain-loop-part : goal.decreases-operands::chain-loop-part
decreases-operands::chain-loop-part g l = l.run.left

abbrev pub invariant-operands::rests-loop-e : goal.invariant-operands::rests-loop-e
invariant-operands::rests-loop-e g l = ((d : ℕ) → l.initial.run.left ≤ d → (n : ℕ) × (l.run.left ≤ n) × Leads (rests_of l.p d (map (λ r. r.now) (reverse l.initial.above.items)) l.initial.word l.initial.run) l.initial.run (seen (g.K.Sink.taken l.initial.sink) (g.K.Sink.faults l.initial.sink)) (rests_of l.p n (map (λ r. r.now) (reverse l.above.items)) l.word l.run) l.run (seen (g.K.Sink.taken l.sink) (g.K.Sink.faults l.sink))) × (l.run.left ≤ l.initial.run.left)

abbrev pub decreases-operands::rests-loop-e : goal.decreases-operands::rests-loop-e
decreases-operands::rests-loop-e g l = length (map (λ r. r.now) (reverse l.above.items))

abbrev pub invariant-calls::arguments-loop-e : goal.invariant-calls::arguments-loop-e
invariant-calls::arguments-loop-e g l = ((d : ℕ) → l.initial.run.left ≤ d → Leads (nodes.values_onto (nodes.to_depth l.p d).expr [] l.args l.initial.run) l.initial.run (seen (g.K.Sink.taken l.initial.sink) (g.K.Sink.faults l.initial.sink)) (nodes.values_onto (nodes.to_depth l.p d).expr l.values.items l.rest l.run) l.run (seen (g.K.Sink.taken l.sink) (g.K.Sink.faults l.sink))) × (l.run.left ≤ l.initial.run.left)

abbrev pub decreases-calls::arguments-loop-e : goal.decreases-calls::arguments-loop-e
decreases-calls::arguments-loop-e g l = length l.rest

abbrev pub invariant-statements::block-loop-item : goal.invariant-statements::block-loop-item
invariant-statements::block-loop-item g l = ((d : ℕ) → l.initial.run.left ≤ d → Leads (nodes.items_by l.p (nodes.to_depth l.p d).expr (nodes.to_depth l.p d).stmt l.items l.initial.run) l.initial.run (seen (g.K.Sink.taken l.initial.sink) (g.K.Sink.faults l.initial.sink)) (nodes.items_by l.p (nodes.to_depth l.p d).expr (nodes.to_depth l.p d).stmt l.rest l.run) l.run (seen (g.K.Sink.taken l.sink) (g.K.Sink.faults l.sink))) × (l.run.left ≤ l.initial.run.left)

abbrev pub decreases-statements::block-loop-item : goal.decreases-statements::block-loop-item
decreases-statements::block-loop-item g l = length l.rest

abbrev pub invariant-declarations::declare_each-loop-declarator : goal.invariant-declarations::declare_each-loop-declarator
invariant-declarations::declare_each-loop-declarator g l = ((d : ℕ) → l.initial.run.left ≤ d → Leads (nodes.declare_each l.p (nodes.to_depth l.p d).expr l.declared l.initial.run) l.initial.run (seen (g.K.Sink.taken l.initial.sink) (g.K.Sink.faults l.initial.sink)) (nodes.declare_each l.p (nodes.to_depth l.p d).expr l.rest l.run) l.run (seen (g.K.Sink.taken l.sink) (g.K.Sink.faults l.sink))) × (l.run.left ≤ l.initial.run.left)

abbrev pub decreases-declarations::declare_each-loop-declarator : goal.decreases-declarations::declare_each-loop-declarator
decreases-declarations::declare_each-loop-declarator g l = length l.rest

abbrev pub invariant-declarations::fill-loop-value : goal.invariant-declarations::fill-loop-value
invariant-declarations::fill-loop-value g l = ((d : ℕ) → l.initial.run.left ≤ d → Leads (nodes.fill (nodes.to_depth l.p d).expr l.variable 0 l.values l.initial.run) l.initial.run (seen (g.K.Sink.taken l.initial.sink) (g.K.Sink.faults l.initial.sink)) (nodes.fill (nodes.to_depth l.p d).expr l.variable l.place l.rest l.run) l.run (seen (g.K.Sink.taken l.sink) (g.K.Sink.faults l.sink))) × (l.run.left ≤ l.initial.run.left) × (l.place + length l.rest ≡ length l.values)

abbrev pub decreases-declarations::fill-loop-value : goal.decreases-declarations::fill-loop-value
decreases-declarations::fill-loop-value g l = length l.rest

abbrev pub invariant-loops::turns-loop-run : goal.invariant-loops::turns-loop-run
invariant-loops::turns-loop-run g l = ((d : ℕ) → l.initial.run.left ≤ d → (n : ℕ) × (l.run.left ≤ n) × Leads ((nodes.to_depth l.p d).turns l.s l.initial.run) l.initial.run (seen (g.K.Sink.taken l.initial.sink) (g.K.Sink.faults l.initial.sink)) ((nodes.to_depth l.p n).turns l.s l.run) l.run (seen (g.K.Sink.taken l.sink) (g.K.Sink.faults l.sink))) × (l.run.left ≤ l.initial.run.left)

abbrev pub decreases-loops::turns-loop-run : goal.decreases-loops::turns-loop-run
decreases-loops::turns-loop-run g l = l.run.left
