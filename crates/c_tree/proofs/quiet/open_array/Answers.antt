use Rattle.c_tree.specs.Runs as runs
use Rattle.c_tree.proofs.Chain.{follows_ok, follows_quiet}
use Rattle.c_tree.proofs.quiet.open_array.Goals as goal

pub returns-clause-meets : goal.returns-clause-meets
returns-clause-meets c = λ a.
    rw (← c.in-Ok.ensures) (follows_ok (runs.set_words c.args.variable c.in-Ok.zeros c.args.run.now) (λ _. runs.begin_each c.args.length) _ _ _ _ _ _ tt _
    (follows_quiet (runs.set_words c.args.variable c.in-Ok.zeros c.args.run.now) _ _ a _ c.set_words.ensures.is c.set_words.ensures.steps) (c.begin_each.ensures.meets a))
