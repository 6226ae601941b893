use Rattle.std.proofs.Common.{◌≡◌}
use Rattle.c_typing.proofs.ScopeLemmas.{closes}
use Rattle.c_typing.proofs.scopes.next_outer.Goals as goal

pub returns-in-Some : goal.returns-in-Some
returns-in-Some c = λ scope. closes scope c.in-Some.scope c.pop.new.self.items c.args.outer.now.items (cc)
