use Rattle.std.proofs.Common.{◌≡◌, rules, subst, sym, arith}
use Rattle.std.specs.Prelude.{Err}
use Rattle.flow_graph.specs.declared.graph.Graph.{Graph}
use Rattle.flow_graph.specs.Rules.{IsGraph}
use Rattle.lowered_counts.specs.Counts.{IsSmall}
use Rattle.lowered_counts.proofs.Small.{graphs_are_small}
use Rattle.lowered_rules.proofs.Obeyed.{graphs_obey}
use Rattle.job_files.specs.Answers.{answer_of}
use Rattle.plan_job.proofs.Reading.{no_board, no_program, planned_or_refused}
use Rattle.plan_job.proofs.report.report_of_texts.Goals as goal

pub returns-in_err-graph : goal.returns-in_err-graph
returns-in_err-graph c =
    let e : c.from_residual.result ≡ Err c.in_err-graph.field-0.0 = search rules in
    rw e (no_program c.args.budget c.args.program.now c.args.board.now (answer_of c.in_err-graph.field-0.0) c.in_err-graph.ensures)

pub returns-in_err-board : goal.returns-in_err-board
returns-in_err-board c =
    let e : c.from_residual-in_err-board.result ≡ Err c.in_err-board.field-0.0 = search rules in
    rw e (no_board c.args.budget c.args.program.now c.args.board.now c.in_ok-graph.graph c.in_ok-graph.ensures (answer_of c.in_err-board.field-0.0) c.in_err-board.ensures)

pub report_of-requires : goal.report_of-requires
report_of-requires c =
    let is = c.in_ok-graph.ensures in
    let small = subst (λ (g : Graph). IsSmall g) (sym is.graph) (graphs_are_small is.program is.sound is.scoped is.is_text.few) in
    record {
      rules = subst (λ (g : Graph). IsGraph g) (sym is.graph) (graphs_obey is.program is.sound is.scoped is.is_text.few);
      functions = let few = small.functions in omega (arith, few);
      objects = let few = small.objects in omega (arith, few);
    }

pub returns : goal.returns
returns c =
    planned_or_refused c.args.budget c.args.program.now c.args.board.now c.in_ok-graph.graph c.in_ok-board.board
    (record { graph = c.in_ok-graph.ensures; board_file = c.in_ok-board.ensures }) c.report_of.result c.report_of.ensures
