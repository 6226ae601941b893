use Rattle.std.proofs.Common.{◌≡◌, ◌+◌, ◌≤◌, length}
use Rattle.c_lex.specs.Cut.{first_place, place_behind}
use Rattle.c_parse.proofs.parsing.end_of.Given as goal

abbrev pub invariant-loop-rest : goal.invariant-loop-rest
invariant-loop-rest l = record {
  passed : place_behind l.place l.rest ≡ place_behind first_place l.text;
  small : l.place.line + l.place.column + length l.rest ≤ 65538;
  column : 1 ≤ l.place.column;
}

abbrev pub decreases-loop-rest : goal.decreases-loop-rest
decreases-loop-rest l = length l.rest
