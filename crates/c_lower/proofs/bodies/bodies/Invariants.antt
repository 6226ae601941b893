use Rattle.std.proofs.Common.{◌≡◌, ◌++◌, length}
use Rattle.lowered_graphs.specs.GraphOf.{bodies, bodies_from}
use Rattle.c_lower.proofs.bodies.bodies.Given as goal

abbrev pub invariant-loop-f : goal.invariant-loop-f
invariant-loop-f l = record {
  functions : l.functions ++ (bodies_from l.p l.homes l.n l.op l.m l.left).functions ≡ (bodies l.p).functions;
  ops : (bodies_from l.p l.homes l.n l.op l.m l.left).ops ≡ (bodies l.p).ops;
}

abbrev pub decreases-loop-f : goal.decreases-loop-f
decreases-loop-f l = length l.left
