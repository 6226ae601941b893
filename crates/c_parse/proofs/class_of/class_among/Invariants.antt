use Rattle.std.proofs.Common.{◌≡◌, length, map}
use Rattle.c_parse.specs.Classes.{class_among}
use Rattle.c_parse.proofs.class_of.class_among.Given as goal

abbrev pub invariant-loop-rest : goal.invariant-loop-rest
invariant-loop-rest l = class_among (map (λ row. (row.0.now, row.1)) l.rest) l.bytes ≡ class_among (map (λ row. (row.0.now, row.1)) l.rows) l.bytes

abbrev pub decreases-loop-rest : goal.decreases-loop-rest
decreases-loop-rest l = length l.rest
