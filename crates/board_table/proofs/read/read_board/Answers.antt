use Rattle.board_table.specs.Faults.{extra, missing, out_of_range}
use Rattle.board_table.proofs.Exact.{board_exactly, fault_exactly}
use Rattle.board_table.proofs.read.read_board.Goals as goal

pub returns-clause-board : goal.returns-clause-board
returns-clause-board c = board_exactly c.args.bytes.now _ c.board_in.ensures

pub returns-clause-missing : goal.returns-clause-missing
returns-clause-missing c = fault_exactly c.args.bytes.now missing _ c.board_in.ensures

pub returns-clause-out_of_range : goal.returns-clause-out_of_range
returns-clause-out_of_range c = fault_exactly c.args.bytes.now out_of_range _ c.board_in.ensures

pub returns-clause-extra : goal.returns-clause-extra
returns-clause-extra c = fault_exactly c.args.bytes.now extra _ c.board_in.ensures
