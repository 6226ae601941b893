use Rattle.commands.proofs.Calls as calls
use Rattle.commands.proofs.call.schematic.Goals as goal

pub run-requires : goal.run-requires
run-requires g c = record { boxes = c.requires.boxes; rows = c.requires.rows }

pub returns-clause-cause : goal.returns-clause-cause
returns-clause-cause g c = calls.cause _ _ _ _ _ _ _ _ c.run.ensures

pub returns-clause-complete : goal.returns-clause-complete
returns-clause-complete g c = calls.complete _ _ _ _ _ _ _ _ c.run.ensures

pub returns-clause-words : goal.returns-clause-words
returns-clause-words g c = calls.words_are _ _ _ _ _ _ _ _ c.run.ensures

pub returns-clause-read_fault : goal.returns-clause-read_fault
returns-clause-read_fault g c = calls.read_fault_is _ _ _ _ _ _ _ _ c.run.ensures

pub returns-clause-read_rose : goal.returns-clause-read_rose
returns-clause-read_rose g c = calls.read_rose _ _ _ _ _ _ _ _ c.run.ensures

pub returns-clause-too_large : goal.returns-clause-too_large
returns-clause-too_large g c = calls.too_large_is _ _ _ _ _ _ _ _ c.run.ensures

pub returns-clause-write_fault : goal.returns-clause-write_fault
returns-clause-write_fault g c = calls.write_fault_is _ _ _ _ _ _ _ _ c.run.ensures

pub returns-clause-write_rose : goal.returns-clause-write_rose
returns-clause-write_rose g c = calls.write_rose _ _ _ _ _ _ _ _ c.run.ensures

pub returns-clause-supply_fault : goal.returns-clause-supply_fault
returns-clause-supply_fault g c = calls.supply_fault_is _ _ _ _ _ _ _ _ c.run.ensures

pub returns-clause-output_rose : goal.returns-clause-output_rose
returns-clause-output_rose g c = calls.output_rose _ _ _ _ _ _ _ _ c.run.ensures

pub returns-clause-leaves : goal.returns-clause-leaves
returns-clause-leaves g c = calls.leaves _ _ _ _ _ _ _ _ c.run.ensures

pub returns-clause-failed_write : goal.returns-clause-failed_write
returns-clause-failed_write g c = calls.failed_write _ _ _ _ _ _ _ _ c.run.ensures

pub returns-clause-headline : goal.returns-clause-headline
returns-clause-headline g c job asks is =
    let law = c.lowered_images_agree.ensures in
    calls.headline _ _ _ _ _ _ _ _ law.agrees law.endures law.is_image law.is_held c.run.ensures job asks is

pub returns-clause-call : goal.returns-clause-call
returns-clause-call g c = c.run.ensures
