-- Return addresses on the call stack, and what stays where it alone changes.
use Rattle.std.proofs.Common.{◌≡◌, ℕ, ◌-◌, ◌*◌, ◌/◌, ◌%◌, ◌<◌, ◌≤◌, true, false, List, [], ◌∷◌, length, refl, sym, ap, ◌∙◌, arith}
use Rattle.std.specs.Prelude.{if◌then◌else◌, ◌==◌, ◌&&◌}
use Rattle.std.proofs.lemmas.Bool.Decides.{nat_tests}
use Rattle.certificate.specs.declared.cert.Slot.{Slot}
use Rattle.certificate.specs.declared.cert.Slot.TheVariants.{Reg, Word}
use Rattle.msp430_isa.specs.declared.instr.Instr.{Instr}
use Rattle.msp430_machine.specs.declared.addresses.Region.TheVariants.{Fram}
use Rattle.msp430_machine.specs.Addresses.{region}
use Rattle.msp430_machine.specs.State.{State, set_at}
use Rattle.msp430_machine.specs.Memory.{word_at, word_in}
use Rattle.msp430_machine.specs.Steps.{begun}
use Rattle.cert_rules.specs.Slots.{is_memory}
use Rattle.cert_rules.specs.Forms.{is_general}
use Rattle.cert_effects.specs.Knows.{value_of}
use Rattle.cert_effects.proofs.Values.{Lies, in_sram, in_data, where_lies, not_special}

-- ---- The call stack

-- Return addresses, the last pushed first, each in its word of FRAM: the first pushed at 0x7FFE.
abbrev pub StackHolds : (ℕ → ℕ) → List ℕ → Type 0
StackHolds fram [] = Unit {0}
StackHolds fram (r ∷ rs) = (fram (0x4000 - length (r ∷ rs)) ≡ r) × StackHolds fram rs

-- SP is at the last of them, and they are there
pub record Stacked (s : State) (rs : List ℕ) : Type 0 where
  pub sp : s.reg 1 ≡ 0x8000 - 2 * length rs
  pub words : StackHolds s.fram rs

pub stack_same : (f g : ℕ → ℕ) (rs : List ℕ) → length rs ≤ 64 → ((k : ℕ) → 0x4000 - length rs ≤ k → k < 0x4000 → g k ≡ f k) → StackHolds f rs → StackHolds g rs
stack_same f g [] few same h = tt
stack_same f g (r ∷ rs) few same h = (
  same (0x4000 - length (r ∷ rs)) (omega arith) (omega (arith, few)) ∙ h.0,
  stack_same f g rs (omega (arith, few)) (λ k low high. same k (omega (arith, low)) high) h.1,
)

pub stacked_same : (s t : State) (rs : List ℕ) → length rs ≤ 64 → t.reg 1 ≡ s.reg 1 → ((k : ℕ) → 0x3F80 ≤ k → t.fram k ≡ s.fram k) → Stacked s rs → Stacked t rs
stacked_same s t rs few sp same h = record { sp = sp ∙ h.sp; words = stack_same s.fram t.fram rs few (λ k low high. same k (omega (arith, low, few))) h.words }

-- ---- Values that stay where the words of data do

data_same : (s t : State) (a : ℕ) → t.sram ≡ s.sram → ((k : ℕ) → 0x2200 ≤ k → k < 0x3F80 → t.fram k ≡ s.fram k) → Lies a → word_at t a ≡ word_at s a
data_same s t a sram fram (in_sram low high r sr d) = ap (λ q. word_in q t a) r ∙ ap (λ f. f ((a - 0x1C00) / 2)) sram ∙ sym (ap (λ q. word_in q s a) r)
data_same s t a sram fram (in_data low high r sr d) = ap (λ q. word_in q t a) r ∙ fram (a / 2) (omega (arith, low)) (omega (arith, high)) ∙ sym (ap (λ q. word_in q s a) r)

pub values_stay : (s t : State) (x : Slot) → ((r : ℕ) → is_general r ≡ true → t.reg r ≡ s.reg r) → t.sram ≡ s.sram → ((k : ℕ) → 0x2200 ≤ k → k < 0x3F80 → t.fram k ≡ s.fram k) → value_of t x ≡ value_of s x
values_stay s t (Reg r) regs sram fram = elim (is_general r) as (λ c. is_general r ≡ c → (if c then t.reg r else 0) ≡ (if c then s.reg r else 0)) [ true ↦ λ g. regs r g | false ↦ λ g. refl ] refl
values_stay s t (Word a) regs sram fram = elim (is_memory a) as (λ c. is_memory a ≡ c → (if c && a % 2 == 0 then word_at t a else 0) ≡ (if c && a % 2 == 0 then word_at s a else 0)) [
  | true ↦ λ e. ap (λ w. if a % 2 == 0 then w else 0) (data_same s t a sram fram (where_lies a e))
  | false ↦ λ e. refl
] refl

-- ---- Numbers

pub itself : (n : ℕ) → (n == n) ≡ true
itself n = grind (arith, nat_tests)

pub above : (k n : ℕ) → n < k → (k == n) ≡ false
above k n lt = grind (arith, nat_tests)

pub under : (k n : ℕ) → k < n → (k == n) ≡ false
under k n lt = grind (arith, nat_tests)

pub stack_region : (a : ℕ) → 0x7F00 ≤ a → a < 0x8000 → region a ≡ Fram
stack_region a low high = grind (arith, nat_tests)

pub no_odd : (a : ℕ) → a % 2 ≡ 0 → (a % 2 == 1) ≡ false
no_odd a e = ap (λ n. n == 1) e

-- values behind a jump, and behind an instruction that only moves PC on
pub jump_values : (s : State) (c pc : ℕ) (i : Instr) (z : Slot) → value_of (record (begun c i s) { reg = set_at (begun c i s).reg 0 pc }) z ≡ value_of s z
jump_values s c pc i z =
    values_stay s (record (begun c i s) { reg = set_at (begun c i s).reg 0 pc }) z
    (λ r g. ap (λ e. if e then pc else (begun c i s).reg r) (not_special r 0 g (omega arith)) ∙ ap (λ e. if e then (begun c i s).reg 0 else s.reg r) (not_special r 0 g (omega arith)))
    refl (λ k low high. refl)

pub fall_values : (s : State) (c : ℕ) (i : Instr) (z : Slot) → value_of (begun c i s) z ≡ value_of s z
fall_values s c i z = values_stay s (begun c i s) z (λ r g. ap (λ e. if e then (begun c i s).reg 0 else s.reg r) (not_special r 0 g (omega arith))) refl (λ k low high. refl)
