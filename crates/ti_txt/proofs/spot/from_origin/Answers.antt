use Rattle.ti_txt.proofs.Placed.{whole_address}
use Rattle.ti_txt.proofs.spot.from_origin.Goals as goal

pub returns-else-digits-eq0-clause-moved : goal.returns-else-digits-eq0-clause-moved
returns-else-digits-eq0-clause-moved c = whole_address _ _ c.requires.few c.requires.small
