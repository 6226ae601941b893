use Rattle.std.proofs.Common.{◌++◌, refl, take, arith}
use Rattle.std.proofs.lemmas.Grind.{common_steps}
use Rattle.base_io.proofs.StreamLemmas.{consumes_more}
use Rattle.base_io.proofs.streams.read_within.Goals as goal

pub returns-then-count-limit : goal.returns-then-count-limit
returns-then-count-limit g c = (refl, (c.loop.bytes.items ++ take c.in-Ok.count c.read.new.buf, consumes_more _ _ _ _ _ c.loop.invariant.1 c.in-Ok.ensures.bytes.0, grind (arith, common_steps, c.in-Ok.ensures.bound, c.loop.bytes.ok.0)))

pub returns-then-is_err : goal.returns-then-is_err
returns-then-is_err g c = (c.loop.bytes.items ++ take c.in-Ok.count c.read.new.buf, consumes_more _ _ _ _ _ c.loop.invariant.1 c.in-Ok.ensures.bytes.0, grind (arith, common_steps, c.in-Ok.ensures.bound, c.loop.bytes.ok.0))
