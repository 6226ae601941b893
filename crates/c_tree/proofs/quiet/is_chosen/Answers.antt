use Rattle.c_tree.proofs.quiet.is_chosen.Goals as goal

pub returns-else-has_default-clause-meets : goal.returns-else-has_default-clause-meets
returns-else-has_default-clause-meets c = λ a. rw (← c.has_default.ensures, c.if-has_default.false) (c.tested.ensures.meets a)
