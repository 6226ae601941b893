use Rattle.std.proofs.Common.{reverse, ◌≤◌, length, arith}
use Rattle.std.proofs.lemmas.Grind.{common_steps}
use Rattle.std.proofs.lemmas.List.{length-reverse}
use Rattle.c_parse.specs.Machine.{level}
use Rattle.c_parse.proofs.Levels.{level_length}
use Rattle.c_parse.proofs.waits.Waits.push.Goals as goal

pub overflow_add-self : goal.overflow_add-self
overflow_add-self c =
    let le : level (reverse c.args.self.now.stack.items) ≤ length (reverse c.args.self.now.stack.items) = level_length (reverse c.args.self.now.stack.items) in
    grind (arith, common_steps, le, c.args.self.now.counted, length-reverse, c.in-Ok.ensures.upper_bound, c.in-Ok.ensures.items, c.in-Ok.ensures.len)
