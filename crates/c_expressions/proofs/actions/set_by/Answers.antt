use Rattle.std.proofs.Common.{◌≡◌, sym}
use Rattle.c_typing.specs.Programs.{judged}
use Rattle.c_typing.specs.Texts.{compound_op}
use Rattle.c_expressions.proofs.actions.set_by.Goals as goal

pub returns-else-spells : goal.returns-else-spells
returns-else-spells c =
    let op : compound_op (judged c.args.sign.now).text ≡ c.compound_op.result = rw (← c.text.ensures) (sym c.compound_op.ensures) in
    rw (← c.spells.ensures, c.if-spells.false, ← c.place.ensures, op) c.compounded.ensures
