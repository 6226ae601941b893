use Rattle.std.proofs.Common.{◌∷◌, reverse, ap, ◌∙◌, arith}
use Rattle.std.proofs.lemmas.Grind.{common_steps}
use Rattle.c_parse.specs.Turning.{as_word}
use Rattle.c_parse.proofs.Stepping.{refuse_other, refuse_deep, refuse_empty, pass_shift}
use Rattle.c_parse.proofs.machine.Machine.shift.Goals as goal

pub returns-then-not-fits : goal.returns-then-not-fits
returns-then-not-fits c = refuse_other (as_word c.args.class c.args.leaf) c.args.wanted _ _ _ c.args.self.now.waits.counted (c.is_same-fits.ensures.other c.if-not-fits.true)

pub returns-in_default : goal.returns-in_default
returns-in_default c = refuse_empty (as_word c.args.class c.args.leaf) c.args.wanted _ _ _ c.args.self.now.waits.counted (grind (arith, common_steps, c.in_default.ensures))

pub returns : goal.returns
returns c = pass_shift (as_word c.args.class c.args.leaf) c.args.wanted _ _ c.in-Some.top (reverse c.pop.new.self.items) _ (c.is_same-fits.ensures.same c.if-not-fits.false)
    (grind (arith, common_steps, c.args.self.now.waits.counted, c.if-too_deep.false))
    (grind (arith, common_steps, c.in-Some.ensures)) (c.in_ok-build.ensures ∙ ap (λ t. t ∷ reverse c.pop.new.self.items) c.in_ok-add.ensures)

pub returns-then-too_deep : goal.returns-then-too_deep
returns-then-too_deep c = refuse_deep (as_word c.args.class c.args.leaf) c.args.wanted _ _ _ c.args.self.now.waits.counted (grind (arith, common_steps, c.if-too_deep.true))
