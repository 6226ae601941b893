use Rattle.std.proofs.Common.{◌≡◌, map}
use Rattle.toml.specs.View.{members_view}
use Rattle.board_table.specs.Steps.{first_other}
use Rattle.board_table.proofs.others.first_other.Given as goal

-- the first other key is among the members that are left
abbrev pub invariant-members : goal.invariant-members
invariant-members l = first_other (map (λ s. s.now) l.keys) (members_view l.key-iterator) ≡ first_other (map (λ s. s.now) l.keys) (members_view l.table.entries)
