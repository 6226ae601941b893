-- Words of SRAM and FRAM that instructions may read and write: where they lie, and what an access of one finds.
use Rattle.std.proofs.Common.{◌≡◌, ℕ, ◌+◌, ◌-◌, ◌*◌, ◌/◌, ◌%◌, ◌<◌, ◌≤◌, ◌⊎◌, Bool, true, false, List, Some, None, refl, sym, ap, ◌∙◌, subst, arith, inl, inr}
use Rattle.std.specs.Prelude.{◌==◌, nat_lt, if◌then◌else◌}
use Rattle.std.proofs.lemmas.Bool.Decides.{nat_tests}
use Rattle.msp430_machine.specs.declared.answer.Why.TheVariants.{Odd}
use Rattle.msp430_machine.specs.Addresses.{Region, Ports, Sram, Fram, Code, Empty, region}
use Rattle.msp430_machine.specs.State.{State}
use Rattle.msp430_machine.specs.Memory.{half, word_in, word_at, byte_at, value_at, read_in, read, after_read_in, after_read, put_in, put_at}
use Rattle.msp430_machine.specs.Access.{Purpose, fault_in, fault_at}

-- ---- Where addresses lie

pub in_ports : (a : ℕ) → 0x0F00 ≤ a → a < 0x0F08 → region a ≡ Ports
in_ports a low high = grind (arith, nat_tests)

pub in_info : (a : ℕ) → 0x1800 ≤ a → a < 0x1A00 → region a ≡ Fram
in_info a low high = grind (arith, nat_tests)

pub in_sram : (a : ℕ) → 0x1C00 ≤ a → a < 0x2400 → region a ≡ Sram
in_sram a low high = grind (arith, nat_tests)

pub in_fram : (a : ℕ) → 0x4400 ≤ a → a < 0x8000 → region a ≡ Fram
in_fram a low high = grind (arith, nat_tests)

pub in_code : (a : ℕ) → 0x8000 ≤ a → region a ≡ Code
in_code a low = grind (arith, nat_tests)

-- an address of a memory that instructions may write
pub record IsIn (a : ℕ) (g : Region) : Type 0 where
  pub lies : region a ≡ g
  pub writable : (g ≡ Sram) ⊎ (g ≡ Fram)
  pub low : 0x1800 ≤ a
  pub high : a < 0x8000

-- that of a word
pub record IsAt (a : ℕ) (g : Region) : Type 0 where
  pub inside : IsIn a g
  pub even : a % 2 ≡ 0

pub is_sram : (a : ℕ) → 0x1C00 ≤ a → a < 0x2400 → IsIn a Sram
is_sram a low high = record { lies = in_sram a low high; writable = inl refl; low = omega (arith, low); high = omega (arith, high) }

pub is_fram : (a : ℕ) → 0x4400 ≤ a → a < 0x8000 → IsIn a Fram
is_fram a low high = record { lies = in_fram a low high; writable = inr refl; low = omega (arith, low); high = high }

pub is_info : (a : ℕ) → 0x1800 ≤ a → a < 0x1A00 → IsIn a Fram
is_info a low high = record { lies = in_info a low high; writable = inr refl; low = low; high = omega (arith, high) }

-- n words from a on lie in one memory that instructions may write
pub record IsRun (a n : ℕ) : Type 0 where
  pub even : a % 2 ≡ 0
  pub inside : ((0x1C00 ≤ a) × (a + 2 * n ≤ 0x2400)) ⊎ ((0x4400 ≤ a) × (a + 2 * n ≤ 0x8000))

-- the memory of the first is that of each
pub word_of_run : (a n k : ℕ) → IsRun a n → k < n → (g : Region) × IsAt (a + 2 * k) g × (region a ≡ g)
word_of_run a n k run below =
    elim run.inside [
      | inl s ↦ (Sram, record { inside = is_sram (a + 2 * k) (omega (arith, s.0)) (omega (arith, s.1, below)); even = omega (arith, run.even) }, in_sram a s.0 (omega (arith, s.1, below)))
      | inr s ↦ (Fram, record { inside = is_fram (a + 2 * k) (omega (arith, s.0)) (omega (arith, s.1, below)); even = omega (arith, run.even) }, in_fram a s.0 (omega (arith, s.1, below)))
    ]

pub first_of_run : (a n : ℕ) → IsRun a n → 0 < n → (g : Region) × IsAt a g
first_of_run a n run some =
    let e : a + 2 * 0 ≡ a = omega arith in
    let x = word_of_run a n 0 run some in (x.0, subst (λ v. IsAt v x.0) e x.1)

-- ---- What an access finds

pub is_word : (a : ℕ) → a < 65536 → nat_lt a 65536 ≡ true
is_word a h = grind (arith, nat_tests)

pub is_even : (a : ℕ) → a % 2 ≡ 0 → (a % 2 == 1) ≡ false
is_even a h = grind (arith, nat_tests)

-- what holds of both memories holds of one of them
pub either_memory : (P : Region → Type 0) (g : Region) → (g ≡ Sram) ⊎ (g ≡ Fram) → P Sram → P Fram → P g
either_memory P g (inl e) s f = subst P (sym e) s
either_memory P g (inr e) s f = subst P (sym e) f

no_fault : (p : Purpose) (byte : Bool) (a : ℕ) (g : Region) → (g ≡ Sram) ⊎ (g ≡ Fram) → fault_in g p byte a ≡ None
no_fault p byte a g h = either_memory (λ x. fault_in x p byte a ≡ None) g h refl refl

-- each access of a word is allowed, and each of a byte
pub word_allowed : (p : Purpose) (a : ℕ) (g : Region) → IsAt a g → fault_at p false a ≡ None
word_allowed p a g h =
    ap (λ c. if c then Some Odd else fault_in (region a) p false a) (is_even a h.even)
    ∙ ap (λ x. fault_in x p false a) h.inside.lies ∙ no_fault p false a g h.inside.writable

pub byte_allowed : (p : Purpose) (a : ℕ) (g : Region) → IsIn a g → fault_at p true a ≡ None
byte_allowed p a g h = ap (λ x. fault_in x p true a) h.lies ∙ no_fault p true a g h.writable

-- reading gives what stands there, and takes no input
pub read_at : (input : List ℕ) (byte : Bool) (s : State) (a : ℕ) (g : Region) → IsIn a g → read input byte s a ≡ value_at byte s a
read_at input byte s a g h =
    ap (λ x. read_in x input byte s a) h.lies ∙ either_memory (λ x. read_in x input byte s a ≡ value_at byte s a) g h.writable refl refl

pub after_read_at : (s : State) (a : ℕ) (g : Region) → IsIn a g → after_read s a ≡ s
after_read_at s a g h = ap (λ x. after_read_in x s) h.lies ∙ either_memory (λ x. after_read_in x s ≡ s) g h.writable refl refl

-- a write puts nothing
pub puts_none_at : (a v : ℕ) (g : Region) → IsIn a g → put_at a v ≡ None
puts_none_at a v g h = ap (λ x. put_in x a v) h.lies ∙ either_memory (λ x. put_in x a v ≡ None) g h.writable refl refl

-- ---- States with the same memories

pub record SameMemories (s t : State) : Type 0 where
  pub has_sram : t.sram ≡ s.sram
  pub has_fram : t.fram ≡ s.fram
  pub has_code : t.code ≡ s.code

pub memories_same : (s : State) → SameMemories s s
memories_same s = record { has_sram = refl; has_fram = refl; has_code = refl }

pub memories_then : (s t u : State) → SameMemories s t → SameMemories t u → SameMemories s u
memories_then s t u h k = record { has_sram = k.has_sram ∙ h.has_sram; has_fram = k.has_fram ∙ h.has_fram; has_code = k.has_code ∙ h.has_code }

pub memories_back : (s t : State) → SameMemories s t → SameMemories t s
memories_back s t h = record { has_sram = sym h.has_sram; has_fram = sym h.has_fram; has_code = sym h.has_code }

word_in_same : (r : Region) (s t : State) (a : ℕ) → SameMemories s t → word_in r t a ≡ word_in r s a
word_in_same Sram s t a h = ap (λ f. f ((a - 0x1C00) / 2)) h.has_sram
word_in_same Fram s t a h = ap (λ f. f (a / 2)) h.has_fram
word_in_same Code s t a h = ap (λ f. f ((a - 0x8000) / 2)) h.has_code
word_in_same Ports s t a h = refl
word_in_same Empty s t a h = refl

-- have the same word at each address, and the same byte
pub word_same : (s t : State) (a : ℕ) → SameMemories s t → word_at t a ≡ word_at s a
word_same s t a h = word_in_same (region a) s t a h

pub byte_same : (s t : State) (a : ℕ) → SameMemories s t → byte_at t a ≡ byte_at s a
byte_same s t a h = ap (λ w. half a w) (word_same s t a h)

pub value_same : (byte : Bool) (s t : State) (a : ℕ) → SameMemories s t → value_at byte t a ≡ value_at byte s a
value_same true s t a h = byte_same s t a h
value_same false s t a h = word_same s t a h

-- SRAM and FRAM alone decide the words there.
pub word_at_same : (s t : State) (a : ℕ) (g : Region) → IsIn a g → t.sram ≡ s.sram → t.fram ≡ s.fram → word_at t a ≡ word_at s a
word_at_same s t a g h sram fram =
    ap (λ x. word_in x t a) h.lies
    ∙ either_memory (λ x. word_in x t a ≡ word_in x s a) g h.writable (ap (λ f. f ((a - 0x1C00) / 2)) sram) (ap (λ f. f (a / 2)) fram)
    ∙ sym (ap (λ x. word_in x s a) h.lies)
