use Rattle.item_weights.proofs.Heights as heights
use Rattle.item_weights.proofs.laws.flats_are_flats.Goals as goal

pub returns : goal.returns
returns c = heights.flats_are_flats
