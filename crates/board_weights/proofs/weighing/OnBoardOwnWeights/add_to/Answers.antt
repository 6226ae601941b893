use Rattle.item_weights.specs.Weights.{with_base}
use Rattle.board_weights.specs.OnBoard.{reads_by, with_reads}
use Rattle.board_weights.proofs.Adding.{own_added}
use Rattle.board_weights.proofs.weighing.OnBoardOwnWeights.add_to.Goals as goal

pub returns : goal.returns
returns c = λ n v h.
    let op = c.args.op.now in
    let v1 = with_base c.base.result v in
    own_added n v c.base.result c.args.self.now.board op c.add_writes.new.tally c.base.ensures (c.add_writes.ensures n (with_reads (reads_by op.kind op) v1) (c.add_reads.ensures n v1 (c.add_base.ensures n v h)))
