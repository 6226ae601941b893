-- The values of slots behind changes of the state.
use Rattle.std.proofs.Common.{◌≡◌, ℕ, ◌-◌, ◌/◌, ◌%◌, ◌<◌, ◌≤◌, Bool, true, false, refl, sym, ap, ◌∙◌, arith}
use Rattle.std.specs.Prelude.{if◌then◌else◌, ◌==◌, ◌&&◌, ◌||◌}
use Rattle.std.proofs.lemmas.Bool.{and_parts}
use Rattle.std.proofs.lemmas.Bool.Decides.{nat_tests}
use Rattle.certificate.specs.declared.cert.Slot.{Slot}
use Rattle.certificate.specs.declared.cert.Slot.TheVariants.{Reg, Word}
use Rattle.msp430_machine.specs.declared.addresses.Region.{Region}
use Rattle.msp430_machine.specs.declared.addresses.Region.TheVariants.{Ports, Sram, Fram, Code, Empty}
use Rattle.msp430_machine.specs.Addresses.{region}
use Rattle.msp430_machine.specs.State.{State, set_at, with_register, with_status, register, status_word}
use Rattle.msp430_machine.specs.Memory.{word_at, word_in}
use Rattle.cert_rules.specs.Slots.{is_memory, is_sram, is_data, same_slot}
use Rattle.cert_rules.specs.Forms.{is_general}
use Rattle.cert_effects.specs.Knows.{value_of}

-- ---- Addresses

-- where a word of memory lies
pub data Lies (a : ℕ) : Type 0 where
  in_sram : 0x1C00 ≤ a → a ≤ 0x23FF → region a ≡ Sram → is_sram a ≡ true → is_data a ≡ false → Lies a
  in_data : 0x4400 ≤ a → a ≤ 0x7EFF → region a ≡ Fram → is_sram a ≡ false → is_data a ≡ true → Lies a

region_sram : (a : ℕ) → 0x1C00 ≤ a → a ≤ 0x23FF → region a ≡ Sram
region_sram a low high = grind (arith, nat_tests)

region_data : (a : ℕ) → 0x4400 ≤ a → a ≤ 0x7EFF → region a ≡ Fram
region_data a low high = grind (arith, nat_tests)

sram_is : (a : ℕ) → 0x1C00 ≤ a → a ≤ 0x23FF → is_sram a ≡ true
sram_is a low high = grind (arith, nat_tests)

sram_not : (a : ℕ) → 0x4400 ≤ a → is_sram a ≡ false
sram_not a low = grind (arith, nat_tests)

data_is : (a : ℕ) → 0x4400 ≤ a → a ≤ 0x7EFF → is_data a ≡ true
data_is a low high = grind (arith, nat_tests)

data_not : (a : ℕ) → a ≤ 0x23FF → is_data a ≡ false
data_not a high = grind (arith, nat_tests)

pub lies_sram : (a : ℕ) → 0x1C00 ≤ a → a ≤ 0x23FF → Lies a
lies_sram a low high = in_sram low high (region_sram a low high) (sram_is a low high) (data_not a high)

pub lies_data : (a : ℕ) → 0x4400 ≤ a → a ≤ 0x7EFF → Lies a
lies_data a low high = in_data low high (region_data a low high) (sram_not a low) (data_is a low high)

pub memory_of : (a : ℕ) → Lies a → is_memory a ≡ true
memory_of a (in_sram low high r s d) = ap (λ c. c || is_data a) s
memory_of a (in_data low high r s d) = ap (λ c. c || is_data a) s ∙ d

-- ---- A value

pub value_register : (s : State) (r : ℕ) → is_general r ≡ true → value_of s (Reg r) ≡ s.reg r
value_register s r g = ap (λ c. if c then s.reg r else 0) g

even_test : (a : ℕ) → a % 2 ≡ 0 → (a % 2 == 0) ≡ true
even_test a e = ap (λ n. n == 0) e

pub value_word : (s : State) (a : ℕ) → Lies a → a % 2 ≡ 0 → value_of s (Word a) ≡ word_at s a
value_word s a l e = ap (λ c. if c && a % 2 == 0 then word_at s a else 0) (memory_of a l) ∙ ap (λ c. if c then word_at s a else 0) (even_test a e)

-- ---- States that have the same values

-- general registers, SRAM and FRAM are as before
pub record SameValues (s t : State) : Type 0 where
  pub registers : (r : ℕ) → is_general r ≡ true → t.reg r ≡ s.reg r
  pub sram : t.sram ≡ s.sram
  pub fram : t.fram ≡ s.fram
  pub code : t.code ≡ s.code

word_same : (r : Region) (s t : State) (a : ℕ) → SameValues s t → word_in r t a ≡ word_in r s a
word_same Sram s t a h = ap (λ f. f ((a - 0x1C00) / 2)) h.sram
word_same Fram s t a h = ap (λ f. f (a / 2)) h.fram
word_same Code s t a h = ap (λ f. f ((a - 0x8000) / 2)) h.code
word_same Ports s t a h = refl
word_same Empty s t a h = refl

pub word_at_same : (s t : State) (a : ℕ) → SameValues s t → word_at t a ≡ word_at s a
word_at_same s t a h = word_same (region a) s t a h

pub same_values : (s t : State) (x : Slot) → SameValues s t → value_of t x ≡ value_of s x
same_values s t (Reg r) h =
    elim (is_general r) as (λ c. is_general r ≡ c → (if c then t.reg r else 0) ≡ (if c then s.reg r else 0)) [ true ↦ λ g. h.registers r g | false ↦ λ g. refl ] refl
same_values s t (Word a) h = ap (λ w. if is_memory a && a % 2 == 0 then w else 0) (word_at_same s t a h)

-- ---- A register is written

regs_in : (r : Region) (s : State) (f : ℕ → ℕ) (a : ℕ) → word_in r (record s { reg = f }) a ≡ word_in r s a
regs_in Sram s f a = refl
regs_in Fram s f a = refl
regs_in Code s f a = refl
regs_in Ports s f a = refl
regs_in Empty s f a = refl

pub regs_word : (s : State) (f : ℕ → ℕ) (a : ℕ) → word_at (record s { reg = f }) a ≡ word_at s a
regs_word s f a = regs_in (region a) s f a

general_low : (r : ℕ) → is_general r ≡ true → 4 ≤ r
general_low r g = grind (arith, nat_tests)

pub general_high : (r : ℕ) → is_general r ≡ true → r < 16
general_high r g = grind (arith, nat_tests)

pub general_least : (r : ℕ) → is_general r ≡ true → 4 ≤ r
general_least r g = general_low r g

not_number : (r n : ℕ) → 4 ≤ r → n < 4 → (r == n) ≡ false
not_number r n low h = grind (arith, nat_tests)

pub not_special : (r n : ℕ) → is_general r ≡ true → n < 4 → (r == n) ≡ false
not_special r n g h = not_number r n (general_low r g) h

pub register_general : (s : State) (r : ℕ) → is_general r ≡ true → register s r ≡ s.reg r
register_general s r g = ap (λ c. if c then status_word s else s.reg r) (not_special r 2 g (omega arith))

pub with_general : (s : State) (r v : ℕ) → is_general r ≡ true → with_register s r v ≡ record s { reg = set_at s.reg r v }
with_general s r v g =
    ap (λ c. if c then with_status s v else if r == 3 then s else record s { reg = set_at s.reg r v }) (not_special r 2 g (omega arith))
    ∙ ap (λ c. if c then s else record s { reg = set_at s.reg r v }) (not_special r 3 g (omega arith))

-- ---- What a change of one slot leaves

-- one slot has this value, and the others are as before
pub record Sets (s t : State) (w : Slot) (v : ℕ) : Type 0 where
  pub here : (x : Slot) → same_slot x w ≡ true → value_of t x ≡ v
  pub there : (x : Slot) → same_slot x w ≡ false → value_of t x ≡ value_of s x

pub equal_numbers : (a b : ℕ) → (a == b) ≡ true → a ≡ b
equal_numbers a b h = grind (arith, nat_tests)

chosen : (c : Bool) (v w : ℕ) → c ≡ true → (if c then v else w) ≡ v
chosen c v w e = ap (λ d. if d then v else w) e

other : (c : Bool) (v w : ℕ) → c ≡ false → (if c then v else w) ≡ w
other c v w e = ap (λ d. if d then v else w) e

pub sets_register : (s : State) (r v : ℕ) → is_general r ≡ true → Sets s (record s { reg = set_at s.reg r v }) (Reg r) v
sets_register s r v g = record { here = here; there = there }
  where
    t : State
    t = record s { reg = set_at s.reg r v }

    here : (x : Slot) → same_slot x (Reg r) ≡ true → value_of t x ≡ v
    here (Reg q) e = ap (λ c. if c then t.reg q else 0) (ap is_general (equal_numbers q r e) ∙ g) ∙ chosen (q == r) v (s.reg q) e
    here (Word a) e = absurd (let no : false ≡ true = e in cc)

    there : (x : Slot) → same_slot x (Reg r) ≡ false → value_of t x ≡ value_of s x
    there (Reg q) e = ap (λ n. if is_general q then n else 0) (other (q == r) v (s.reg q) e)
    there (Word a) e = ap (λ w. if is_memory a && a % 2 == 0 then w else 0) (regs_word s (set_at s.reg r v) a)

-- words at different even addresses have different numbers
sram_apart : (a b : ℕ) → 0x1C00 ≤ a → a % 2 ≡ 0 → 0x1C00 ≤ b → b % 2 ≡ 0 → (b == a) ≡ false → ((b - 0x1C00) / 2 == (a - 0x1C00) / 2) ≡ false
sram_apart a b la ea lb eb ne = grind (arith, nat_tests)

fram_apart : (a b : ℕ) → a % 2 ≡ 0 → b % 2 ≡ 0 → (b == a) ≡ false → (b / 2 == a / 2) ≡ false
fram_apart a b ea eb ne = grind (arith, nat_tests)

itself : (n : ℕ) → (n == n) ≡ true
itself n = grind (arith, nat_tests)

pub where_lies : (a : ℕ) → is_memory a ≡ true → Lies a
where_lies a h = elim (is_sram a) as (λ c. is_sram a ≡ c → (c || is_data a) ≡ true → Lies a) [
  | true ↦ λ e d. lies_sram a (sram_low a e) (sram_high a e)
  | false ↦ λ e d. lies_data a (data_low a d) (data_high a d)
] refl h
  where
    sram_low : (a : ℕ) → is_sram a ≡ true → 0x1C00 ≤ a
    sram_low a e = grind (arith, nat_tests)

    sram_high : (a : ℕ) → is_sram a ≡ true → a ≤ 0x23FF
    sram_high a e = grind (arith, nat_tests)

    data_low : (a : ℕ) → is_data a ≡ true → 0x4400 ≤ a
    data_low a e = grind (arith, nat_tests)

    data_high : (a : ℕ) → is_data a ≡ true → a ≤ 0x7EFF
    data_high a e = grind (arith, nat_tests)

is_even : (a : ℕ) → (a % 2 == 0) ≡ true → a % 2 ≡ 0
is_even a h = equal_numbers (a % 2) 0 h

in_sram_word : (s : State) (f : ℕ → ℕ) (b : ℕ) → 0x1C00 ≤ b → b ≤ 0x23FF → word_at (record s { sram = f }) b ≡ f ((b - 0x1C00) / 2)
in_sram_word s f b low high = ap (λ r. word_in r (record s { sram = f }) b) (region_sram b low high)

in_fram_word : (s : State) (f : ℕ → ℕ) (b : ℕ) → 0x4400 ≤ b → b ≤ 0x7EFF → word_at (record s { fram = f }) b ≡ f (b / 2)
in_fram_word s f b low high = ap (λ r. word_in r (record s { fram = f }) b) (region_data b low high)

pub sets_sram : (s : State) (a v : ℕ) → 0x1C00 ≤ a → a ≤ 0x23FF → a % 2 ≡ 0 → Sets s (record s { sram = set_at s.sram ((a - 0x1C00) / 2) v }) (Word a) v
sets_sram s a v low high even = record { here = here; there = there }
  where
    t : State
    t = record s { sram = set_at s.sram ((a - 0x1C00) / 2) v }

    here : (x : Slot) → same_slot x (Word a) ≡ true → value_of t x ≡ v
    here (Reg q) e = absurd (let no : false ≡ true = e in cc)
    here (Word b) e =
        ap (λ x. value_of t (Word x)) (equal_numbers b a e)
        ∙ value_word t a (lies_sram a low high) even
        ∙ in_sram_word s t.sram a low high
        ∙ chosen ((a - 0x1C00) / 2 == (a - 0x1C00) / 2) v (s.sram ((a - 0x1C00) / 2)) (itself ((a - 0x1C00) / 2))

    there : (x : Slot) → same_slot x (Word a) ≡ false → value_of t x ≡ value_of s x
    there (Reg q) e = refl
    there (Word b) e = elim (is_memory b && b % 2 == 0) as (λ c. (is_memory b && b % 2 == 0) ≡ c → (if c then word_at t b else 0) ≡ (if c then word_at s b else 0)) [
      | true ↦ λ h. (let p = and_parts (is_memory b) (b % 2 == 0) h in by_place b e (where_lies b p.0) (is_even b p.1))
      | false ↦ λ h. refl
    ] refl
      where
        by_place : (b : ℕ) → (b == a) ≡ false → Lies b → b % 2 ≡ 0 → word_at t b ≡ word_at s b
        by_place b e (in_sram lb hb r sr d) eb =
            in_sram_word s t.sram b lb hb
            ∙ other ((b - 0x1C00) / 2 == (a - 0x1C00) / 2) v (s.sram ((b - 0x1C00) / 2)) (sram_apart a b low even lb eb e)
            ∙ sym (ap (λ q. word_in q s b) r)
        by_place b e (in_data lb hb r sr d) eb = ap (λ q. word_in q t b) r ∙ sym (ap (λ q. word_in q s b) r)

pub sets_data : (s : State) (a v : ℕ) → 0x4400 ≤ a → a ≤ 0x7EFF → a % 2 ≡ 0 → Sets s (record s { fram = set_at s.fram (a / 2) v }) (Word a) v
sets_data s a v low high even = record { here = here; there = there }
  where
    t : State
    t = record s { fram = set_at s.fram (a / 2) v }

    here : (x : Slot) → same_slot x (Word a) ≡ true → value_of t x ≡ v
    here (Reg q) e = absurd (let no : false ≡ true = e in cc)
    here (Word b) e =
        ap (λ x. value_of t (Word x)) (equal_numbers b a e)
        ∙ value_word t a (lies_data a low high) even
        ∙ in_fram_word s t.fram a low high
        ∙ chosen (a / 2 == a / 2) v (s.fram (a / 2)) (itself (a / 2))

    there : (x : Slot) → same_slot x (Word a) ≡ false → value_of t x ≡ value_of s x
    there (Reg q) e = refl
    there (Word b) e = elim (is_memory b && b % 2 == 0) as (λ c. (is_memory b && b % 2 == 0) ≡ c → (if c then word_at t b else 0) ≡ (if c then word_at s b else 0)) [
      | true ↦ λ h. (let p = and_parts (is_memory b) (b % 2 == 0) h in by_place b e (where_lies b p.0) (is_even b p.1))
      | false ↦ λ h. refl
    ] refl
      where
        by_place : (b : ℕ) → (b == a) ≡ false → Lies b → b % 2 ≡ 0 → word_at t b ≡ word_at s b
        by_place b e (in_sram lb hb r sr d) eb = ap (λ q. word_in q t b) r ∙ sym (ap (λ q. word_in q s b) r)
        by_place b e (in_data lb hb r sr d) eb =
            in_fram_word s t.fram b lb hb
            ∙ other (b / 2 == a / 2) v (s.fram (b / 2)) (fram_apart a b even eb e)
            ∙ sym (ap (λ q. word_in q s b) r)

-- a word below the code
pub code_free : (a : ℕ) → Lies a → a < 0x8000
code_free a (in_sram low high r s d) = omega (arith, high)
code_free a (in_data low high r s d) = omega (arith, high)
