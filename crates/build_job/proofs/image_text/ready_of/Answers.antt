use Rattle.std.proofs.Common.{◌≡◌, rules, subst, sym, arith}
use Rattle.std.specs.Prelude.{Err, string_bytes}
use Rattle.ti_txt.specs.Bytes.{blocks_of}
use Rattle.flow_graph.specs.declared.graph.Graph.{Graph}
use Rattle.flow_graph.specs.Rules.{IsGraph}
use Rattle.graph_code.specs.Order.{IsAlone}
use Rattle.lowered_rules.proofs.Obeyed.{graphs_obey}
use Rattle.emit_each.specs.Emitting.{IsEmitted}
use Rattle.job_files.specs.Answers.{IsRefusedFor, answer_of}
use Rattle.build_job.specs.Building.{AreGiven}
use Rattle.build_job.specs.Images.{RefusesGraph}
use Rattle.build_job.specs.Parts.{IsSpelled}
use Rattle.build_job.proofs.Reading.{no_board, no_image, no_lone}
use Rattle.build_job.proofs.image_text.ready_of.Goals as goal

pub returns-in_err-graph : goal.returns-in_err-graph
returns-in_err-graph c =
    let e : c.from_residual.result ≡ Err c.in_err-graph.field-0.0 = search rules in
    rw e (no_lone c.args.budget c.args.program.now c.args.board.now (answer_of c.in_err-graph.field-0.0) c.in_err-graph.ensures)

pub returns-in_err-board : goal.returns-in_err-board
returns-in_err-board c =
    let e : c.from_residual-in_err-board.result ≡ Err c.in_err-board.field-0.0 = search rules in
    let is = c.in_ok-graph.ensures in
    rw e (no_board c.args.budget c.args.program.now c.args.board.now is.0 is.1 (answer_of c.in_err-board.field-0.0) c.in_err-board.ensures)

pub image_of-requires : goal.image_of-requires
image_of-requires c =
    let is = c.in_ok-graph.ensures in
    record {
      rules = subst (λ (g : Graph). IsGraph g) (sym is.2) (graphs_obey is.0 is.1.sound is.1.scoped is.1.is_text.few);
      alone = subst (λ (g : Graph). IsAlone g) (sym is.2) is.1.alone;
    }

pub returns-in_err-image : goal.returns-in_err-image
returns-in_err-image c =
    let e : c.from_residual-in_err-image.result ≡ Err c.in_err-image.field-0.0 = search rules in
    let is = c.in_ok-graph.ensures in
    let given : AreGiven c.args.budget c.args.program.now c.args.board.now is.0 c.in_ok-board.board = record { program = is.1; board_file = c.in_ok-board.ensures } in
    rw e (no_image c.args.budget c.args.program.now c.args.board.now is.0 c.in_ok-board.board given (answer_of c.in_err-image.field-0.0)
    (subst (λ (g : Graph). IsRefusedFor (RefusesGraph c.in_ok-board.board g) (answer_of c.in_err-image.field-0.0)) is.2 c.in_err-image.ensures))

pub spelled-requires : goal.spelled-requires
spelled-requires c = let fit = c.in_ok-image.ensures.objects in omega (arith, fit)

pub returns-in-Ok : goal.returns-in-Ok
returns-in-Ok c =
    let is = c.in_ok-graph.ensures in
    record {
      program = is.0;
      board = c.in_ok-board.board;
      image = blocks_of c.in_ok-image.image;
      fine = record {
        given = record { program = is.1; board_file = c.in_ok-board.ensures };
        emitted = subst (λ (g : Graph). IsEmitted c.in_ok-board.board g (blocks_of c.in_ok-image.image)) is.2 c.in_ok-image.ensures;
      };
      spelled = subst (λ (g : Graph). IsSpelled g (blocks_of c.in_ok-image.image) c.in-Ok.ready.text.items (string_bytes c.in-Ok.ready.line)) is.2 c.in-Ok.ensures;
    }
