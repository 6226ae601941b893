use Rattle.run_and_say.proofs.Calls as calls
use Rattle.run_and_say.proofs.law.shown_alike.Goals as goal

pub returns : goal.returns
returns c = calls.shown_alike c.is_steady.ensures c.one_reading.ensures
