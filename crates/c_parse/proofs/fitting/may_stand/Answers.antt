use Rattle.c_parse.proofs.Fronts.{open_passed, refused_told}
use Rattle.c_parse.proofs.Stepping.{passed, halted}
use Rattle.c_parse.proofs.fitting.may_stand.Goals as goal

pub returns-in-Ok-None : goal.returns-in-Ok-None
returns-in-Ok-None c = open_passed _ _ _ _ _ _ c.in_ok-machine.ensures (passed _ _ _ _ _ _ c.in-Ok-None.ensures c.in-Ok-None.field-0-is)

pub returns-in-Ok-Some : goal.returns-in-Ok-Some
returns-in-Ok-Some c = refused_told _ _ _ _ _ c.in_ok-machine.ensures (halted _ _ _ _ _ _ _ c.in-Ok-Some.ensures c.in-Ok-Some.field-0-is) c.requires.roomy
