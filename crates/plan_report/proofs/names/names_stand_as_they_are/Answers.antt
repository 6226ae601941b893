use Rattle.std.proofs.lemmas.Str.{encodes-IsAscii}
use Rattle.plan_report.proofs.names.names_stand_as_they_are.Goals as goal

pub returns : goal.returns
returns c = encodes-IsAscii
