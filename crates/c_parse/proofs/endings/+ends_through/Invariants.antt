use Rattle.c_parse.proofs.endings.+ends_through.Given as goal

abbrev pub decreases-ends_through : goal.decreases-ends_through
decreases-ends_through l = l.blocks
