use Rattle.commands.proofs.OneCause.{decide_one}
use Rattle.commands.proofs.call.words_files_and_boxes_decide_one.Goals as goal

pub returns : goal.returns
returns c = decide_one
