-- The fields of a first word, there and back.
use Rattle.std.proofs.Common.{◌≡◌, ℕ, ◌+◌, ◌*◌, ◌/◌, ◌%◌, ◌<◌, arith}

-- two operands
pub record TwoFields (w op r m b s d : ℕ) : Type 0 where
  pub opcode : w / 4096 ≡ op
  pub source : w / 256 % 16 ≡ r
  pub indexed : w / 128 % 2 ≡ m
  pub width : w / 64 % 2 ≡ b
  pub mode : w / 16 % 4 ≡ s
  pub destination : w % 16 ≡ d

pub two_fields : (op r m b s d : ℕ) → r < 16 → m < 2 → b < 2 → s < 4 → d < 16 → TwoFields (op * 4096 + r * 256 + m * 128 + b * 64 + s * 16 + d) op r m b s d
two_fields op r m b s d hr hm hb hs hd = record { opcode = omega arith; source = omega arith; indexed = omega arith; width = omega arith; mode = omega arith; destination = omega arith }

pub two_sum : (w : ℕ) → w ≡ w / 4096 * 4096 + w / 256 % 16 * 256 + w / 128 % 2 * 128 + w / 64 % 2 * 64 + w / 16 % 4 * 16 + w % 16
two_sum w = omega arith

pub record OneFields (w op b s r : ℕ) : Type 0 where
  pub format : w / 1024 ≡ 4
  pub opcode : w / 128 % 8 ≡ op
  pub width : w / 64 % 2 ≡ b
  pub mode : w / 16 % 4 ≡ s
  pub register : w % 16 ≡ r

pub one_fields : (op b s r : ℕ) → op < 8 → b < 2 → s < 4 → r < 16 → OneFields (4096 + op * 128 + b * 64 + s * 16 + r) op b s r
one_fields op b s r ho hb hs hr = record { format = omega arith; opcode = omega arith; width = omega arith; mode = omega arith; register = omega arith }

pub one_sum : (w : ℕ) → w / 1024 ≡ 4 → w ≡ 4096 + w / 128 % 8 * 128 + w / 64 % 2 * 64 + w / 16 % 4 * 16 + w % 16
one_sum w h = omega arith

pub record JumpFields (w c f : ℕ) : Type 0 where
  pub format : w / 8192 ≡ 1
  pub condition : w / 1024 % 8 ≡ c
  pub offset : w % 1024 ≡ f

pub jump_fields : (c f : ℕ) → c < 8 → f < 1024 → JumpFields (8192 + c * 1024 + f) c f
jump_fields c f hc hf = record { format = omega arith; condition = omega arith; offset = omega arith }

pub jump_sum : (w : ℕ) → w / 8192 ≡ 1 → w ≡ 8192 + w / 1024 % 8 * 1024 + w % 1024
jump_sum w h = omega arith
