use Rattle.std.proofs.Common.{arith}
use Rattle.ti_txt.proofs.Placed.{small_address}
use Rattle.ti_txt.proofs.spot.longer.Goals as goal

pub overflow_mul-result : goal.overflow_mul-result
overflow_mul-result c = omega (arith, small_address _ _ c.requires.short c.requires.small)

pub overflow_add-result-2 : goal.overflow_add-result-2
overflow_add-result-2 c = omega (arith, small_address _ _ c.requires.short c.requires.small, c.ranges.address, c.from-digit.ensures, c.in_ok-digit_of.ensures)
