use Rattle.std.proofs.Common.{◌≡◌, [], ◌∷◌, ap, ◌∙◌}
use Rattle.c_typing.proofs.ScopeLemmas.{opened}
use Rattle.c_typing.proofs.scopes.Scopes.open.Goals as goal

pub returns-in-Ok-clause-ok : goal.returns-in-Ok-clause-ok
returns-in-Ok-clause-ok c =
    opened c.replace-inner.new.dest c.self.inside.inner c.self.inside.outer.items c.push.new.self.items (cc) (cc) ∙ ap (λ l. [] ∷ l) c.self.view_is
