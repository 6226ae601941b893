-- Every sweep ends.
use Rattle.std.proofs.Common.{◌≡◌, ℕ, zero, suc, ◌+◌, ◌<◌, ◌≤◌, true, false, Option, Some, None, length, refl, sym, ap, ◌∙◌, arith, inl, inr}
use Rattle.std.specs.Option.{option_or}
use Rattle.std.specs.Prelude.{◌⊎◌}
use Rattle.msp430_isa.specs.declared.instr.Instr.{Instr}
use Rattle.msp430_isa.specs.declared.instr.Instr.TheVariants.{Two, One, Jump}
use Rattle.msp430_isa.specs.declared.instr.Src.{Src}
use Rattle.msp430_isa.specs.declared.instr.Src.TheVariants.{Reg as FromReg, Index as FromIndex, Abs as FromAbs, At, AtPlus, Imm, Short}
use Rattle.msp430_isa.specs.declared.instr.Dst.{Dst}
use Rattle.msp430_isa.specs.declared.instr.Dst.TheVariants.{Reg as ToReg, Index as ToIndex, Abs as ToAbs}
use Rattle.msp430_isa.specs.Fields.{source_words, destination_words}
use Rattle.msp430_isa.specs.Encoding.{length_of}
use Rattle.cert_rules.specs.Faults.{Fault}
use Rattle.cert_rules.specs.Words.{head_bytes}
use Rattle.cert_rules.specs.Known.{Known}
use Rattle.cert_rules.specs.Sheet.{Sheet, is_head}
use Rattle.cert_rules.specs.Standing.{Standing, ACopy, AnInstruction, Nothing, standing, bytes_of}
use Rattle.cert_rules.specs.Steps.{step_fault, step_leaves}
use Rattle.cert_rules.specs.Sweep.{Swept, end, head_fails, head, fails, step, head_step_fault, behind_head, known_here, entry, entry_fault, SweptFrom}

some_words : (i : Instr) → 1 ≤ length_of i
some_words (Two op byte src dst) = omega arith
some_words (One op byte src) = omega arith
some_words (Jump on words) = omega arith

pub some_bytes : (s : Standing) → 2 ≤ bytes_of s
some_bytes (ACopy c) = omega arith
some_bytes (AnInstruction i) = omega (arith, some_words i)
some_bytes Nothing = omega arith

few_source : (src : Src) → length (source_words src) ≤ 1
few_source (FromReg r) = omega arith
few_source (FromIndex r x) = omega arith
few_source (FromAbs a) = omega arith
few_source (At r) = omega arith
few_source (AtPlus r) = omega arith
few_source (Imm v) = omega arith
few_source (Short v) = omega arith

few_destination : (dst : Dst) → length (destination_words dst) ≤ 1
few_destination (ToReg r) = omega arith
few_destination (ToIndex r x) = omega arith
few_destination (ToAbs a) = omega arith

few_words : (i : Instr) → length_of i ≤ 3
few_words (Two op byte src dst) = omega (arith, few_source src, few_destination dst)
few_words (One op byte src) = omega (arith, few_source src)
few_words (Jump on words) = omega arith

pub few_bytes : (s : Standing) → bytes_of s ≤ 14
few_bytes (ACopy c) = omega arith
few_bytes (AnInstruction i) = omega (arith, few_words i)
few_bytes Nothing = omega arith

below_or_not : (a b : ℕ) → (a < b) ⊎ (b ≤ a)
below_or_not a b = grind arith

Ends : Sheet → ℕ → Option Known → Type 0
Ends t a incoming = (verdict : Option Fault) × Swept t a incoming verdict

by_head : (t : Sheet) (a : ℕ) (incoming : Option Known) → a < t.here.end → is_head t a ≡ true → Ends t (a + head_bytes) (Some (behind_head t a)) → Ends t a incoming
unfolding Ends
by_head t a incoming low h rest = elim (head_step_fault t a) as (λ o. head_step_fault t a ≡ o → Ends t a incoming) [
  | None ↦ λ e. (rest.0, head a incoming rest.0 low h e rest.1)
  | Some f ↦ λ e. (Some f, head_fails a incoming f low h e)
] refl

by_step : (t : Sheet) (a : ℕ) (incoming : Option Known) → a < t.here.end → is_head t a ≡ false → Ends t (a + bytes_of (standing t a)) (step_leaves t a (known_here t a incoming)) → Ends t a incoming
unfolding Ends
by_step t a incoming low h rest = elim (step_fault t a (known_here t a incoming)) as (λ o. step_fault t a (known_here t a incoming) ≡ o → Ends t a incoming) [
  | None ↦ λ e. (rest.0, step a incoming rest.0 low h e rest.1)
  | Some f ↦ λ e. (Some f, fails a incoming f low h e)
] refl

-- from an address on, by how far the end is
ends : (t : Sheet) (fuel a : ℕ) (incoming : Option Known) → t.here.end ≤ a + fuel → Ends t a incoming
unfolding Ends
ends t zero a incoming near = (None, end a incoming (omega arith))
ends t (suc fuel) a incoming near = elim (below_or_not a t.here.end) as (λ _. Ends t a incoming) [
  | inl low ↦ elim (is_head t a) as (λ h. is_head t a ≡ h → Ends t a incoming) [
    | true ↦ λ h. by_head t a incoming low h (ends t fuel (a + head_bytes) (Some (behind_head t a)) (omega arith))
    | false ↦ λ h. by_step t a incoming low h (ends t fuel (a + bytes_of (standing t a)) (step_leaves t a (known_here t a incoming)) (omega (arith, some_bytes (standing t a))))
  ] refl
  | inr high ↦ (None, end a incoming high)
]

pub total : (t : Sheet) (a : ℕ) (incoming : Option Known) → (verdict : Option Fault) × Swept t a incoming verdict
unfolding Ends
total t a incoming = ends t t.here.end a incoming (omega arith)

-- the first point's fault stands before what the sweep finds
pub swept_with : (t : Sheet) (first rest verdict : Option Fault) → entry_fault t (entry t.here t.here.flat) ≡ first → Swept t t.here.start (entry t.here t.here.flat) rest → verdict ≡ option_or first rest → SweptFrom t verdict
swept_with t first rest verdict e swept is = record { rest = rest; swept = swept; is = is ∙ ap (λ o. option_or o rest) (sym e) }

pub from_total : (t : Sheet) → (verdict : Option Fault) × SweptFrom t verdict
from_total t =
    let swept = total t t.here.start (entry t.here t.here.flat) in
    (option_or (entry_fault t (entry t.here t.here.flat)) swept.0, record { rest = swept.0; swept = swept.1; is = refl })
