use Rattle.std.proofs.Common.{rules}
use Rattle.c_lex.specs.Cut.{Cut}
use Rattle.program_texts.specs.Front.{Spells}
use Rattle.program_texts.proofs.Readings.{lexical, syntactic, typing}
use Rattle.program_texts.proofs.front.typed_of.Goals as goal

pub returns-in-Err-clause-fault : goal.returns-in-Err-clause-fault
returns-in-Err-clause-fault c = lexical c.args.text.now c.in-Err.fault c.of_tokens.result c.of_tokens.ensures c.in-Err.ensures.fault

pub returns-in-Err-parse-clause-fault : goal.returns-in-Err-parse-clause-fault
returns-in-Err-parse-clause-fault c =
    let cut : Cut c.args.text.now c.deref.result.now = search rules in
    syntactic c.args.text.now c.deref.result.now c.in-Err-parse.fault c.of_tree.result c.of_tree.ensures cut c.in-Err-parse.ensures.first

pub returns-in-Ok-typed-clause-typed : goal.returns-in-Ok-typed-clause-typed
returns-in-Ok-typed-clause-typed c =
    let spelled : Spells c.args.text.now c.in-Ok-parse.raw = search rules in
    (c.in-Ok-parse.raw, spelled, c.in-Ok-typed.ensures.accepts)

pub returns-clause-fault : goal.returns-clause-fault
returns-clause-fault c =
    let spelled : Spells c.args.text.now c.in-Ok-parse.raw = search rules in
    typing c.args.text.now c.in-Ok-parse.raw c.in-Err-typed.fault c.of_types.result c.of_types.ensures spelled c.in-Err-typed.ensures.refuses
