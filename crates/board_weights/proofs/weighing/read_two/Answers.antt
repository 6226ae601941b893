use Rattle.board_weights.specs.OnBoard.{in_operand, with_reads}
use Rattle.board_weights.proofs.Adding.{reads_both}
use Rattle.board_weights.proofs.weighing.read_two.Goals as goal

pub returns : goal.returns
returns c = λ n v h. reads_both n (in_operand c.args.a) (in_operand c.args.b) v c.read_operand-2.new.tally (c.read_operand-2.ensures n (with_reads (in_operand c.args.a) v) (c.read_operand.ensures n v h))
