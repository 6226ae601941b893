use Rattle.chain_units.proofs.OneTurn.{tests_one_turn}
use Rattle.chain_units.proofs.laws.one_turn_is_tested.Goals as goal

pub returns : goal.returns
returns c = tests_one_turn
