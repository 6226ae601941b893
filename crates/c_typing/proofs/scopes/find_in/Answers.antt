use Rattle.std.proofs.Common.{◌≡◌}
use Rattle.c_typing.proofs.ScopeLemmas.{found_in}
use Rattle.c_typing.proofs.scopes.find_in.Goals as goal

pub returns : goal.returns
returns c = let e = found_in c.args.name.now c.args.scope.now.entries in cc
