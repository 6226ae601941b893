use Rattle.std.proofs.Common.{◌≡◌}
use Rattle.c_typing.proofs.ScopeLemmas.{added}
use Rattle.c_typing.proofs.scopes.add.Goals as goal

pub returns-clause-ok : goal.returns-clause-ok
returns-clause-ok c =
    added c.in-Ok.key c.args.name.now c.args.meaning c.args.scope.now.entries c.insert.new.self.entries c.in-Ok.ensures.items c.requires c.in-Ok-insert.ensures.entries
