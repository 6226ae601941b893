-- Where the instructions of code stand, and what a part of it costs.
use Rattle.std.proofs.Common.{◌≡◌, ℕ, zero, suc, ◌+◌, ◌*◌, ◌≤◌, ◌<◌, List, [], ◌∷◌, map, take, drop, refl, ap, ◌∙◌, arith}
use Rattle.std.proofs.lemmas.Nat.{mul-le}
use Rattle.msp430_isa.specs.Encoding.{length_of}
use Rattle.op_cost.specs.Templates.{code_of}
use Rattle.cert_pieces.specs.Pieces.{address_in}
use Rattle.cert_templates.specs.Frames.{bytes_of_code}
use Rattle.emit_certs.specs.Timed.{code_in}
use Rattle.emit_certs.specs.declared.code.Timed.{Timed}

pub code_take : (n : ℕ) (code : List Timed) → code_in (take n code) ≡ take n (code_in code)
code_take zero code = refl
code_take (suc n) [] = refl
code_take (suc n) (t ∷ code) = ap (λ cs. record { instr = t.instr; times = t.times } ∷ cs) (code_take n code)

pub code_drop : (n : ℕ) (code : List Timed) → code_in (drop n code) ≡ drop n (code_in code)
code_drop zero code = refl
code_drop (suc n) [] = refl
code_drop (suc n) (t ∷ code) = code_drop n code

pub address_is : (a n : ℕ) (code : List Timed) → address_in a (code_of (code_in code)) n ≡ a + bytes_of_code (code_of (code_in (take n code)))
address_is a zero [] = omega arith
address_is a (suc n) [] = omega arith
address_is a zero (t ∷ code) = omega arith
address_is a (suc n) (t ∷ code) = let h = address_is (a + 2 * length_of t.instr) n code in omega (arith, h)

pub turns_small : (n c : ℕ) → n < 256 → c ≤ 672000000 → n * c ≤ 171360000000
turns_small n c few small = mul-le n c 255 672000000 (omega (arith, few)) small

pub bytes_take : (n : ℕ) (code : List Timed) → bytes_of_code (code_of (code_in (take n code))) ≤ bytes_of_code (code_of (code_in code))
bytes_take zero code = omega arith
bytes_take (suc n) [] = omega arith
bytes_take (suc n) (t ∷ code) = let h = bytes_take n code in omega (arith, h)
