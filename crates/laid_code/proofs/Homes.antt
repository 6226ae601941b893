-- Where the words of objects stand.
use Rattle.std.proofs.Common.{◌≡◌, ◌≢◌, ◌⊎◌, ℕ, ◌+◌, ◌-◌, ◌*◌, ◌<◌, ◌≤◌, List, [], ◌∷◌, length, ap, ◌∙◌, arith, inl, inr}
use Rattle.msp430_machine.specs.State.{State, set_at}
use Rattle.msp430_machine.proofs.Writes.{set_at_same, set_at_other}

-- from this word of SRAM or of FRAM on, counted as the machine counts them
pub data Home : Type 0 where
  InSram : ℕ → Home
  InFram : ℕ → Home

abbrev pub word_of : State → Home → ℕ → ℕ
word_of s (InSram w) i = s.sram (w + i)
word_of s (InFram w) i = s.fram (w + i)

-- n words stand between the words of boot and heads, which lie below 0x4400, and the call stack, which begins at 0x7F00
abbrev pub IsClear : Home → ℕ → Type 0
IsClear (InSram w) n = Unit {0}
IsClear (InFram w) n = (0x2200 ≤ w) × (w + n ≤ 0x3F80)

-- n words of one home and m of another have none in common
abbrev pub Apart : Home → ℕ → Home → ℕ → Type 0
Apart (InSram v) n (InSram w) m = (v + n ≤ w) ⊎ (w + m ≤ v)
Apart (InFram v) n (InFram w) m = (v + n ≤ w) ⊎ (w + m ≤ v)
Apart (InSram v) n (InFram w) m = Unit {0}
Apart (InFram v) n (InSram w) m = Unit {0}

-- the state u has the memories of s, but for the word i of the home, which is v
abbrev pub Changes : Home → ℕ → ℕ → State → State → Type 0
Changes (InSram w) i v s u = (u.sram ≡ set_at s.sram (w + i) v) × (u.fram ≡ s.fram)
Changes (InFram w) i v s u = (u.sram ≡ s.sram) × (u.fram ≡ set_at s.fram (w + i) v)

abbrev pub Keeps : State → State → Type 0
Keeps s u = (u.sram ≡ s.sram) × (u.fram ≡ s.fram)

-- ---- Words after a change

pub change_same : (h : Home) (i v : ℕ) (s u : State) → Changes h i v s u → word_of u h i ≡ v
change_same (InSram w) i v s u c = ap (λ f. f (w + i)) c.0 ∙ set_at_same s.sram (w + i) v
change_same (InFram w) i v s u c = ap (λ f. f (w + i)) c.1 ∙ set_at_same s.fram (w + i) v

pub change_other : (h : Home) (i j v : ℕ) (s u : State) → j ≢ i → Changes h i v s u → word_of u h j ≡ word_of s h j
change_other (InSram w) i j v s u apart c = ap (λ f. f (w + j)) c.0 ∙ set_at_other s.sram (w + i) v (w + j) (λ e. apart (omega (arith, e)))
change_other (InFram w) i j v s u apart c = ap (λ f. f (w + j)) c.1 ∙ set_at_other s.fram (w + i) v (w + j) (λ e. apart (omega (arith, e)))

pub change_apart : (h : Home) (n i v : ℕ) (o : Home) (m j : ℕ) (s u : State) → Apart h n o m → i < n → j < m → Changes h i v s u → word_of u o j ≡ word_of s o j
change_apart (InSram w) n i v (InSram x) m j s u apart in_first in_second c = ap (λ f. f (x + j)) c.0 ∙ set_at_other s.sram (w + i) v (x + j) (λ e. elim (apart) [ inl a ↦ omega (arith, e, a, in_first) | inr a ↦ omega (arith, e, a, in_second) ])
change_apart (InFram w) n i v (InFram x) m j s u apart in_first in_second c = ap (λ f. f (x + j)) c.1 ∙ set_at_other s.fram (w + i) v (x + j) (λ e. elim (apart) [ inl a ↦ omega (arith, e, a, in_first) | inr a ↦ omega (arith, e, a, in_second) ])
change_apart (InSram w) n i v (InFram x) m j s u apart in_first in_second c = ap (λ f. f (x + j)) c.1
change_apart (InFram w) n i v (InSram x) m j s u apart in_first in_second c = ap (λ f. f (x + j)) c.0

-- what stands below objects stays, and so does the stack
pub change_clear : (h : Home) (n i v k : ℕ) (s u : State) → IsClear h n → i < n → (k < 0x2200) ⊎ (0x3F80 ≤ k) → Changes h i v s u → u.fram k ≡ s.fram k
change_clear (InSram w) n i v k s u clear within away c = ap (λ f. f k) c.1
change_clear (InFram w) n i v k s u clear within away c =
    ap (λ f. f k) c.1 ∙ set_at_other s.fram (w + i) v k (λ e. elim (away) [ inl low ↦ omega (arith, e, clear.0, low) | inr high ↦ omega (arith, e, clear.1, within, high) ])

-- ---- The call stack: the last word of FRAM below the code is the bottom. A frame is the word of the code that is returned to.

abbrev pub Stacked : (ℕ → ℕ) → List ℕ → Type 0
Stacked f [] = Unit {0}
Stacked f (k ∷ frames) = (f (0x4000 - (1 + length frames)) ≡ 0x8000 + 2 * k) × Stacked f frames

abbrev pub stack_top : List ℕ → ℕ
stack_top frames = 0x8000 - 2 * length frames

pub stacked_same : (frames : List ℕ) (f f' : ℕ → ℕ) → length frames ≤ 64 → ((k : ℕ) → 0x3F80 ≤ k → f' k ≡ f k) → Stacked f frames → Stacked f' frames
stacked_same [] f f' few same h = tt
stacked_same (k ∷ frames) f f' few same h = (same (0x4000 - (1 + length frames)) (omega (arith, few)) ∙ h.0, stacked_same frames f f' (omega (arith, few)) same h.1)
