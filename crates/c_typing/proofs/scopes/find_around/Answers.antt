use Rattle.std.proofs.Common.{◌≡◌, ◌∙◌}
use Rattle.c_typing.proofs.ScopeLemmas.{found_behind, missed_behind}
use Rattle.c_typing.proofs.scopes.find_around.Goals as goal

pub returns-in-Some-find_in : goal.returns-in-Some-find_in
returns-in-Some-find_in c =
    found_behind c.args.name.now c.in-Some-find_in.meaning c.in-Some.last.now c.in-Some.others.now c.loop-last.rest.now c.in-Some.ensures c.in-Some-find_in.ensures ∙ c.loop-last.invariant

pub loop-last-preserved : goal.loop-last-preserved
loop-last-preserved c = missed_behind c.args.name.now c.in-Some.last.now c.in-Some.others.now c.loop-last.rest.now c.in-Some.ensures c.in-None.ensures ∙ c.loop-last.invariant
