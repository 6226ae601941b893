use Rattle.std.proofs.Common.{◌<◌, length, arith}
use Rattle.c_parse.proofs.Fronts.{front_stops}
use Rattle.c_parse.proofs.Reading.{reads_on}
use Rattle.c_parse.proofs.Stepping.{passed, halted}
use Rattle.c_parse.proofs.Whole.{stands_first}
use Rattle.c_parse.proofs.fitting.behind.Goals as goal

pub tokens-init : goal.tokens-init
tokens-init c = record { stands = stands_first _ _ c.in_ok-machine.ensures.0 c.in_ok-machine.ensures.1; within = omega arith }

pub tokens-preserved : goal.tokens-preserved
tokens-preserved c =
    let within : c.tokens.at < length c.args.before.now = c.in-Some.ensures.lookup.3.0 in
    record {
      stands = reads_on c.args.text.now c.args.before.now c.tokens.at c.in-Some.token.now within c.in-Some.ensures.lookup.1 _ _ _ _ c.tokens.invariant.stands
          (passed _ _ _ _ _ _ c.in-Ok-None.ensures c.in-Ok-None.field-0-is);
      within = omega arith;
    }

pub unreachable-requires : goal.unreachable-requires
unreachable-requires c =
    let within : c.tokens.at < length c.args.before.now = c.in-Some.ensures.lookup.3.0 in
    front_stops c.args.text.now c.args.before.now c.tokens.at c.in-Some.token.now within c.in-Some.ensures.lookup.1 _ _ c.tokens.invariant.stands
    (halted _ _ _ _ _ _ _ c.in-Ok-Some.ensures c.in-Ok-Some.field-0-is).0 c.requires.fit
