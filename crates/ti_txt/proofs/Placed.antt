-- The numbers of a spot stay within their types.
use Rattle.std.proofs.Common.{ℕ, zero, suc, ◌^◌, ◌<◌, ◌≤◌, arith}

pub small_address : (n a : ℕ) → n < 4 → a < 16 ^ n → a < 4096
small_address zero a few small = omega (arith, small)
small_address (suc zero) a few small = omega (arith, small)
small_address (suc (suc zero)) a few small = omega (arith, small)
small_address (suc (suc (suc zero))) a few small = small
small_address (suc (suc (suc (suc n)))) a few small = absurd (omega (arith, few))

pub whole_address : (n a : ℕ) → n ≤ 4 → a < 16 ^ n → a ≤ 0x10000
whole_address zero a few small = omega (arith, small)
whole_address (suc zero) a few small = omega (arith, small)
whole_address (suc (suc zero)) a few small = omega (arith, small)
whole_address (suc (suc (suc zero))) a few small = omega (arith, small)
whole_address (suc (suc (suc (suc zero)))) a few small = omega (arith, small)
whole_address (suc (suc (suc (suc (suc n))))) a few small = absurd (omega (arith, few))
