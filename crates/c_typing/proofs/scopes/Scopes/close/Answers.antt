use Rattle.std.proofs.Common.{◌≡◌, sym, ap, ◌∙◌}
use Rattle.c_typing.specs.Scopes.{closed}
use Rattle.c_typing.specs.Kept.{scope_of}
use Rattle.c_typing.proofs.scopes.Scopes.close.Goals as goal

pub returns : goal.returns
returns c = sym (c.next_outer.ensures (scope_of c.self.inside.inner)) ∙ ap closed c.self.view_is
