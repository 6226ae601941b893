use Rattle.board_weights.specs.OnBoard.{in_array, in_operand, with_reads}
use Rattle.board_weights.proofs.Adding.{reads_both}
use Rattle.board_weights.proofs.weighing.read_element.Goals as goal

pub returns : goal.returns
returns c = λ n v h. reads_both n (in_operand c.args.index) (in_array c.args.array) v c.read_array.new.tally (c.read_array.ensures n (with_reads (in_operand c.args.index) v) (c.read_operand.ensures n v h))
