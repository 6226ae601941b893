use Rattle.std.proofs.Common.{◌≡◌, ℕ, get_or}
use Rattle.msp430_machine.proofs.Loading.{laid}
use Rattle.msp430_machine.proofs.load.write_segment.Given as goal

abbrev pub invariant-loop-i : goal.invariant-loop-i
invariant-loop-i l = (a : ℕ) → get_or l.bytes a 0 ≡ laid l.start l.segment.bytes.items l.i l.initial.bytes a
