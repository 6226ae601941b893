use Rattle.std.proofs.Common.{◌++◌, length, take, ap, ◌∙◌, arith}
use Rattle.c_parse.specs.Profile.{nearest}
use Rattle.c_parse.specs.Words.{words_of}
use Rattle.c_parse.proofs.Fronts.{all_take, nearest_before}
use Rattle.c_parse.proofs.profile.classes_before.Goals as goal

pub loop-left-init : goal.loop-left-init
loop-left-init c = record {
  read = ap (λ l. l ++ nearest (take (length c.args.before.now) (words_of c.args.text.now c.args.before.now))) c.new-classes.ensures.items
      ∙ ap nearest (all_take c.args.text.now c.args.before.now);
  within = omega arith;
}

pub loop-left-preserved : goal.loop-left-preserved
loop-left-preserved c = record { read = nearest_before c.args.text.now c.args.before.now c.loop-left.left _ _ _ _ (omega arith) c.loop-left.invariant.within c.in-Ok.ensures.items c.word_class-class.ensures c.loop-left.invariant.read; within = omega arith }
