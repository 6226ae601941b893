-- What a write leaves as it was, and what is read behind it: a write of a word or a byte to SRAM or FRAM, to a port, and to a register.
use Rattle.std.proofs.Common.{◌≡◌, ℕ, ◌+◌, ◌-◌, ◌*◌, ◌/◌, ◌%◌, ◌<◌, ◌≤◌, ◌⊎◌, Bool, true, false, refl, sym, ap, ◌∙◌, subst, arith, inl, inr}
use Rattle.std.specs.Prelude.{◌==◌, nat_lt, if◌then◌else◌}
use Rattle.std.proofs.lemmas.Bool.{cases_eq, cases_lt}
use Rattle.std.proofs.lemmas.Bool.Decides.{nat_tests}
use Rattle.msp430_machine.specs.Addresses.{Region, Ports, Sram, Fram, Code, Empty, region, out_port, end_port}
use Rattle.msp430_machine.specs.State.{Ended, Trapped, State, set_at, register, with_register, status_word, with_status}
use Rattle.msp430_machine.specs.Memory.{half, with_half, word_in, word_at, byte_at, sent_to, written_in, written}
use Rattle.msp430_machine.proofs.Memories.{IsIn, IsAt, either_memory, SameMemories, memories_same, word_same}

-- ---- Where addresses of one word lie

not_ports : (Ports ≡ Sram) ⊎ (Ports ≡ Fram) → ⊥
not_ports (inl e) = let no : Ports ≡ Sram = e in cc
not_ports (inr e) = let no : Ports ≡ Fram = e in cc

is_under : (x n : ℕ) → x < n → nat_lt x n ≡ true
is_under x n h = grind (arith, nat_tests)

is_over : (x n : ℕ) → n ≤ x → nat_lt x n ≡ false
is_over x n h = grind (arith, nat_tests)

-- the two addresses of a word pass the same tests
test_pair : (a x c : ℕ) → x / 2 ≡ a / 2 → nat_lt x (2 * c) ≡ nat_lt a (2 * c)
test_pair a x c pair = elim (cases_lt a (2 * c)) [
  | inl under ↦ (let h : x < 2 * c = omega (arith, under, pair) in is_under x (2 * c) h ∙ sym (is_under a (2 * c) under))
  | inr over ↦ (let h : 2 * c ≤ x = omega (arith, over, pair) in is_over x (2 * c) h ∙ sym (is_over a (2 * c) over))
]

abbrev by_tests : Bool → Bool → Bool → Bool → Bool → Bool → Bool → Bool → Region
by_tests c d e f g h i j =
    if c then Empty else if d then Ports else if e then Empty else if f then Fram else if g then Empty else if h then Sram else if i then Empty else if j then Fram else Code

abbrev below : ℕ → ℕ → Bool
below n x = nat_lt x n

low_tests : (c d e f h i j : Bool) → by_tests c d e f true h i j ≡ Sram → ⊥
low_tests true d e f h i j is = let no : Empty ≡ Sram = is in cc
low_tests false true e f h i j is = let no : Ports ≡ Sram = is in cc
low_tests false false true f h i j is = let no : Empty ≡ Sram = is in cc
low_tests false false false true h i j is = let no : Fram ≡ Sram = is in cc
low_tests false false false false h i j is = let no : Empty ≡ Sram = is in cc

pub sram_low : (x : ℕ) → region x ≡ Sram → 0x1C00 ≤ x
sram_low x is = elim (cases_lt x 0x1C00) [
  | inl under ↦ absurd (low_tests (below 0x0F00 x) (below 0x0F08 x) (below 0x1800 x) (below 0x1A00 x) (below 0x2400 x) (below 0x4400 x) (below 0x8000 x)
      (sym (ap (λ t. by_tests (below 0x0F00 x) (below 0x0F08 x) (below 0x1800 x) (below 0x1A00 x) t (below 0x2400 x) (below 0x4400 x) (below 0x8000 x)) (is_under x 0x1C00 under)) ∙ is))
  | inr over ↦ over
]

pub region_pair : (a x : ℕ) → x / 2 ≡ a / 2 → region x ≡ region a
region_pair a x pair =
    ap (λ t. by_tests t (below 0x0F08 x) (below 0x1800 x) (below 0x1A00 x) (below 0x1C00 x) (below 0x2400 x) (below 0x4400 x) (below 0x8000 x)) (test_pair a x 0x780 pair)
    ∙ ap (λ t. by_tests (below 0x0F00 a) t (below 0x1800 x) (below 0x1A00 x) (below 0x1C00 x) (below 0x2400 x) (below 0x4400 x) (below 0x8000 x)) (test_pair a x 0x784 pair)
    ∙ ap (λ t. by_tests (below 0x0F00 a) (below 0x0F08 a) t (below 0x1A00 x) (below 0x1C00 x) (below 0x2400 x) (below 0x4400 x) (below 0x8000 x)) (test_pair a x 0xC00 pair)
    ∙ ap (λ t. by_tests (below 0x0F00 a) (below 0x0F08 a) (below 0x1800 a) t (below 0x1C00 x) (below 0x2400 x) (below 0x4400 x) (below 0x8000 x)) (test_pair a x 0xD00 pair)
    ∙ ap (λ t. by_tests (below 0x0F00 a) (below 0x0F08 a) (below 0x1800 a) (below 0x1A00 a) t (below 0x2400 x) (below 0x4400 x) (below 0x8000 x)) (test_pair a x 0xE00 pair)
    ∙ ap (λ t. by_tests (below 0x0F00 a) (below 0x0F08 a) (below 0x1800 a) (below 0x1A00 a) (below 0x1C00 a) t (below 0x4400 x) (below 0x8000 x)) (test_pair a x 0x1200 pair)
    ∙ ap (λ t. by_tests (below 0x0F00 a) (below 0x0F08 a) (below 0x1800 a) (below 0x1A00 a) (below 0x1C00 a) (below 0x2400 a) t (below 0x8000 x)) (test_pair a x 0x2200 pair)
    ∙ ap (λ t. by_tests (below 0x0F00 a) (below 0x0F08 a) (below 0x1800 a) (below 0x1A00 a) (below 0x1C00 a) (below 0x2400 a) (below 0x4400 a) t) (test_pair a x 0x4000 pair)

-- and have one word
word_in_pair : (r : Region) (s : State) (a x : ℕ) → x / 2 ≡ a / 2 → word_in r s x ≡ word_in r s a
word_in_pair Sram s a x pair = ap (λ k. s.sram k) (let e : (x - 0x1C00) / 2 ≡ (a - 0x1C00) / 2 = omega (arith, pair) in e)
word_in_pair Fram s a x pair = ap (λ k. s.fram k) pair
word_in_pair Code s a x pair = ap (λ k. s.code k) (let e : (x - 0x8000) / 2 ≡ (a - 0x8000) / 2 = omega (arith, pair) in e)
word_in_pair Ports s a x pair = refl
word_in_pair Empty s a x pair = refl

pub word_pair : (s : State) (a x : ℕ) → x / 2 ≡ a / 2 → word_at s x ≡ word_at s a
word_pair s a x pair = ap (λ r. word_in r s x) (region_pair a x pair) ∙ word_in_pair (region a) s a x pair

-- ---- A function with one value set

not_equal : (x k : ℕ) → (x ≡ k → ⊥) → (x == k) ≡ false
not_equal x k h = elim (cases_eq x k) [
  | inl e ↦ absurd (h e)
  | inr other ↦ grind (arith, nat_tests)
]

pub set_at_same : (f : ℕ → ℕ) (k v : ℕ) → set_at f k v k ≡ v
set_at_same f k v = let e : (k == k) ≡ true = grind (arith, nat_tests) in ap (λ c. if c then v else f k) e

pub set_at_other : (f : ℕ → ℕ) (k v x : ℕ) → (x ≡ k → ⊥) → set_at f k v x ≡ f x
set_at_other f k v x h = ap (λ c. if c then v else f x) (not_equal x k h)

-- ---- A write to SRAM or FRAM

pub written_by : (s : State) (a v : ℕ) (g : Region) → IsIn a g → written false s a v ≡ written_in g s a v
written_by s a v g h = ap (λ x. written_in x s a v) h.lies

-- The new state is the old one with one word set.
pub written_in_sram : (s : State) (a v : ℕ) → IsIn a Sram → written false s a v ≡ record s { sram = set_at s.sram ((a - 0x1C00) / 2) v }
written_in_sram s a v h = written_by s a v Sram h

pub written_in_fram : (s : State) (a v : ℕ) → IsIn a Fram → written false s a v ≡ record s { fram = set_at s.fram (a / 2) v }
written_in_fram s a v h = written_by s a v Fram h

-- A byte is written as the word that has it for this half.
pub byte_is_word : (s : State) (a v : ℕ) → written true s a v ≡ written false s a (with_half a (word_at s a) v)
byte_is_word s a v = refl

-- all but the memories
pub record SameCore (s t : State) : Type 0 where
  pub phase : t.phase ≡ s.phase
  pub charge : t.charge ≡ s.charge
  pub reg : t.reg ≡ s.reg
  pub flags : t.flags ≡ s.flags
  pub other_bits : t.other_bits ≡ s.other_bits
  pub has_code : t.code ≡ s.code
  pub has_taken : t.taken ≡ s.taken

word_leaves : (s : State) (a v : ℕ) (g : Region) → IsIn a g → SameCore s (written false s a v)
word_leaves s a v g h =
    subst (λ x. SameCore s (written_in x s a v)) (sym h.lies)
    (either_memory (λ x. SameCore s (written_in x s a v)) g h.writable
    (record { phase = refl; charge = refl; reg = refl; flags = refl; other_bits = refl; has_code = refl; has_taken = refl })
    (record { phase = refl; charge = refl; reg = refl; flags = refl; other_bits = refl; has_code = refl; has_taken = refl }))

pub written_leaves : (byte : Bool) (s : State) (a v : ℕ) (g : Region) → IsIn a g → SameCore s (written byte s a v)
written_leaves true s a v g h = word_leaves s a (with_half a (word_at s a) v) g h
written_leaves false s a v g h = word_leaves s a v g h

-- the other of the two memories
pub sram_leaves_fram : (s : State) (a v : ℕ) → IsIn a Sram → (written false s a v).fram ≡ s.fram
sram_leaves_fram s a v h = ap (λ x. (written_in x s a v).fram) h.lies

pub fram_leaves_sram : (s : State) (a v : ℕ) → IsIn a Fram → (written false s a v).sram ≡ s.sram
fram_leaves_sram s a v h = ap (λ x. (written_in x s a v).sram) h.lies

-- ---- What is read behind it

pub word_by : (s : State) (a : ℕ) (g : Region) → region a ≡ g → word_at s a ≡ word_in g s a
word_by s a g e = ap (λ x. word_in x s a) e

pub word_written : (s : State) (a v : ℕ) (g : Region) → IsIn a g → word_at (written false s a v) a ≡ v
word_written s a v g h =
    ap (λ t. word_at t a) (written_by s a v g h) ∙ word_by (written_in g s a v) a g h.lies
    ∙ either_memory (λ x. word_in x (written_in x s a v) a ≡ v) g h.writable (set_at_same s.sram ((a - 0x1C00) / 2) v) (set_at_same s.fram (a / 2) v)

-- Another word is as it was, wherever it stands.
apart : (s : State) (a v x : ℕ) (g r : Region) → IsIn a g → (g ≡ Sram) ⊎ (g ≡ Fram) → region x ≡ r → (x / 2 ≡ a / 2 → ⊥) → word_in r (written_in g s a v) x ≡ word_in r s x
apart s a v x Sram Sram h w e differ =
    set_at_other s.sram ((a - 0x1C00) / 2) v ((x - 0x1C00) / 2) (λ same. differ (omega (arith, same, sram_low a h.lies, sram_low x e)))
apart s a v x Sram Fram h w e differ = refl
apart s a v x Sram Code h w e differ = refl
apart s a v x Sram Ports h w e differ = refl
apart s a v x Sram Empty h w e differ = refl
apart s a v x Fram Sram h w e differ = refl
apart s a v x Fram Fram h w e differ = set_at_other s.fram (a / 2) v (x / 2) differ
apart s a v x Fram Code h w e differ = refl
apart s a v x Fram Ports h w e differ = refl
apart s a v x Fram Empty h w e differ = refl
apart s a v x Code r h w e differ = refl
apart s a v x Empty r h w e differ = refl
apart s a v x Ports r h w e differ = absurd (not_ports w)

pub word_written_other : (s : State) (a v x : ℕ) (g : Region) → IsIn a g → (x / 2 ≡ a / 2 → ⊥) → word_at (written false s a v) x ≡ word_at s x
word_written_other s a v x g h differ = ap (λ t. word_at t x) (written_by s a v g h) ∙ apart s a v x g (region x) h h.writable refl differ

-- words at distinct even addresses
pub word_written_apart : (s : State) (a v x : ℕ) (g : Region) → IsAt a g → x % 2 ≡ 0 → (x ≡ a → ⊥) → word_at (written false s a v) x ≡ word_at s x
word_written_apart s a v x g h even differ = word_written_other s a v x g h.inside (λ e. differ (omega (arith, e, even, h.even)))

-- ---- The same of bytes

half_written : (a w v : ℕ) → v < 256 → half a (with_half a w v) ≡ v
half_written a w v small = elim (a % 2 == 0) as (λ c. (if c then (if c then w / 256 * 256 + v else w % 256 + 256 * v) % 256 else (if c then w / 256 * 256 + v else w % 256 + 256 * v) / 256) ≡ v) [
  | true ↦ omega (arith, small)
  | false ↦ omega (arith, small)
]

test_true : (n : ℕ) → n ≡ 0 → (n == 0) ≡ true
test_true n e = grind (arith, nat_tests)

test_false : (n : ℕ) → (n ≡ 0 → ⊥) → (n == 0) ≡ false
test_false n e = not_equal n 0 e

even_of : (a x : ℕ) → x / 2 ≡ a / 2 → (a % 2 ≡ 0 → ⊥) → (x ≡ a → ⊥) → x % 2 ≡ 0
even_of a x pair odd differ = elim (cases_eq (x % 2) 0) [
  | inl e ↦ e
  | inr e ↦ absurd (differ (let p : a % 2 ≡ 1 = odd_is a odd in let q : x % 2 ≡ 1 = odd_is x e in omega (arith, p, q, pair)))
]
  where
    odd_is : (n : ℕ) → (n % 2 ≡ 0 → ⊥) → n % 2 ≡ 1
    odd_is n h = elim (cases_lt (n % 2) 1) [ inl under ↦ absurd (h (omega (arith, under))) | inr over ↦ omega (arith, over) ]

half_other : (a x w v : ℕ) → v < 256 → x / 2 ≡ a / 2 → (x ≡ a → ⊥) → half x (with_half a w v) ≡ half x w
half_other a x w v small pair differ = elim (cases_eq (a % 2) 0) [
  | inl e ↦
      (let x_odd = test_false (x % 2) (λ f. differ (omega (arith, e, f, pair))) in
      let a_even = test_true (a % 2) e in
      ap (λ c. half x (if c then w / 256 * 256 + v else w % 256 + 256 * v)) a_even
      ∙ ap (λ c. if c then (w / 256 * 256 + v) % 256 else (w / 256 * 256 + v) / 256) x_odd
      ∙ (let same : (w / 256 * 256 + v) / 256 ≡ w / 256 = omega (arith, small) in same)
      ∙ sym (ap (λ c. if c then w % 256 else w / 256) x_odd))
  | inr e ↦
      (let x_even = test_true (x % 2) (even_of a x pair e differ) in
      let a_odd = test_false (a % 2) e in
      ap (λ c. half x (if c then w / 256 * 256 + v else w % 256 + 256 * v)) a_odd
      ∙ ap (λ c. if c then (w % 256 + 256 * v) % 256 else (w % 256 + 256 * v) / 256) x_even
      ∙ (let same : (w % 256 + 256 * v) % 256 ≡ w % 256 = omega (arith, small) in same)
      ∙ sym (ap (λ c. if c then w % 256 else w / 256) x_even))
]

pub byte_written : (s : State) (a v : ℕ) (g : Region) → IsIn a g → v < 256 → byte_at (written true s a v) a ≡ v
byte_written s a v g h small = ap (λ w. half a w) (word_written s a (with_half a (word_at s a) v) g h) ∙ half_written a (word_at s a) v small

-- Each other byte is as it was, that of the same word too.
pub byte_written_other : (s : State) (a v x : ℕ) (g : Region) → IsIn a g → v < 256 → (x ≡ a → ⊥) → byte_at (written true s a v) x ≡ byte_at s x
byte_written_other s a v x g h small differ = elim (cases_eq (x / 2) (a / 2)) [
  | inl pair ↦
      (let w : ℕ = word_at s a in
      ap (λ n. half x n) (word_pair (written true s a v) a x pair ∙ word_written s a (with_half a w v) g h)
      ∙ half_other a x w v small pair differ
      ∙ sym (ap (λ n. half x n) (word_pair s a x pair)))
  | inr other ↦ ap (λ n. half x n) (word_written_other s a (with_half a (word_at s a) v) x g h other)
]

-- ---- A write to a port, to code, and where nothing stands: the memories are as they were.

sent_leaves : (s : State) (a v : ℕ) → SameMemories s (sent_to s a v)
sent_leaves s a v = by_port (a == out_port) (a == end_port)
  where
    by_port : (o e : Bool) → SameMemories s (if o then s else if e then record s { phase = Ended v } else record s { phase = Trapped v })
    by_port true e = memories_same s
    by_port false true = record { has_sram = refl; has_fram = refl; has_code = refl }
    by_port false false = record { has_sram = refl; has_fram = refl; has_code = refl }

pub port_leaves : (byte : Bool) (s : State) (a v : ℕ) → region a ≡ Ports → SameMemories s (written byte s a v)
port_leaves true s a v e = subst (λ r. SameMemories s (written_in r s a (with_half a (word_at s a) v))) (sym e) (sent_leaves s a (with_half a (word_at s a) v))
port_leaves false s a v e = subst (λ r. SameMemories s (written_in r s a v)) (sym e) (sent_leaves s a v)

pub code_leaves : (byte : Bool) (s : State) (a v : ℕ) → region a ≡ Code → written byte s a v ≡ s
code_leaves true s a v e = ap (λ r. written_in r s a (with_half a (word_at s a) v)) e
code_leaves false s a v e = ap (λ r. written_in r s a v) e

pub empty_leaves : (byte : Bool) (s : State) (a v : ℕ) → region a ≡ Empty → written byte s a v ≡ s
empty_leaves true s a v e = ap (λ r. written_in r s a (with_half a (word_at s a) v)) e
empty_leaves false s a v e = ap (λ r. written_in r s a v) e

-- ---- A write to a register

pub register_leaves : (s : State) (r v : ℕ) → SameMemories s (with_register s r v)
register_leaves s r v = by_number (r == 2) (r == 3)
  where
    by_number : (status none : Bool) → SameMemories s (if status then with_status s v else if none then s else record s { reg = set_at s.reg r v })
    by_number true none = record { has_sram = refl; has_fram = refl; has_code = refl }
    by_number false true = memories_same s
    by_number false false = record { has_sram = refl; has_fram = refl; has_code = refl }

-- PC, SP and R4 to R15: the new state is the old one with this register set.
pub general_set : (s : State) (r v : ℕ) → (r ≡ 2 → ⊥) → (r ≡ 3 → ⊥) → with_register s r v ≡ record s { reg = set_at s.reg r v }
general_set s r v two three =
    ap (λ c. if c then with_status s v else if r == 3 then s else record s { reg = set_at s.reg r v }) (not_equal r 2 two)
    ∙ ap (λ c. if c then s else record s { reg = set_at s.reg r v }) (not_equal r 3 three)

pub register_read : (s : State) (r v : ℕ) → (r ≡ 2 → ⊥) → (r ≡ 3 → ⊥) → register (with_register s r v) r ≡ v
register_read s r v two three =
    ap (λ t. register t r) (general_set s r v two three)
    ∙ ap (λ c. if c then status_word s else set_at s.reg r v r) (not_equal r 2 two)
    ∙ set_at_same s.reg r v

-- A general register's write leaves each other register, SR's flags included.
pub register_read_other : (s : State) (r v x : ℕ) → (r ≡ 2 → ⊥) → (x ≡ r → ⊥) → register (with_register s r v) x ≡ register s x
register_read_other s r v x two differ =
    ap (λ c. register (if c then with_status s v else if r == 3 then s else record s { reg = set_at s.reg r v }) x) (not_equal r 2 two)
    ∙ by_number (r == 3)
  where
    by_number : (none : Bool) → register (if none then s else record s { reg = set_at s.reg r v }) x ≡ register s x
    by_number true = refl
    by_number false = ap (λ n. if x == 2 then status_word s else n) (set_at_other s.reg r v x differ)

-- ---- The memory is the old memory with one word written.

-- the memories of t are those of s with this word at a
pub record Writes (s : State) (a v : ℕ) (t : State) : Type 0 where
  pub sram : t.sram ≡ (written false s a v).sram
  pub fram : t.fram ≡ (written false s a v).fram
  pub code : t.code ≡ s.code

pub written_writes : (s : State) (a v : ℕ) (g : Region) → IsIn a g → Writes s a v (written false s a v)
written_writes s a v g h = record { sram = refl; fram = refl; code = (word_leaves s a v g h).has_code }

written_same_sram : (s t : State) (a v : ℕ) (g : Region) → IsIn a g → SameMemories s t → (written false t a v).sram ≡ (written false s a v).sram
written_same_sram s t a v g h same =
    ap (λ x. (written_in x t a v).sram) h.lies
    ∙ either_memory (λ x. (written_in x t a v).sram ≡ (written_in x s a v).sram) g h.writable (ap (λ f. set_at f ((a - 0x1C00) / 2) v) same.has_sram) same.has_sram
    ∙ sym (ap (λ x. (written_in x s a v).sram) h.lies)

written_same_fram : (s t : State) (a v : ℕ) (g : Region) → IsIn a g → SameMemories s t → (written false t a v).fram ≡ (written false s a v).fram
written_same_fram s t a v g h same =
    ap (λ x. (written_in x t a v).fram) h.lies
    ∙ either_memory (λ x. (written_in x t a v).fram ≡ (written_in x s a v).fram) g h.writable same.has_fram (ap (λ f. set_at f (a / 2) v) same.has_fram)
    ∙ sym (ap (λ x. (written_in x s a v).fram) h.lies)

-- The memories before decide those behind a write,
pub writes_from : (s s' : State) (a v : ℕ) (t : State) (g : Region) → IsIn a g → SameMemories s s' → Writes s' a v t → Writes s a v t
writes_from s s' a v t g h same w = record {
  sram = w.sram ∙ written_same_sram s s' a v g h same;
  fram = w.fram ∙ written_same_fram s s' a v g h same;
  code = w.code ∙ same.has_code;
}

-- and what goes on with the memories behind it has it written too.
pub writes_on : (s : State) (a v : ℕ) (t u : State) → Writes s a v t → SameMemories t u → Writes s a v u
writes_on s a v t u w same = record { sram = same.has_sram ∙ w.sram; fram = same.has_fram ∙ w.fram; code = same.has_code ∙ w.code }

-- the memories of t are those of the state that the write leaves
pub writes_same : (s : State) (a v : ℕ) (t : State) (g : Region) → IsIn a g → Writes s a v t → SameMemories (written false s a v) t
writes_same s a v t g h w = record { has_sram = w.sram; has_fram = w.fram; has_code = w.code ∙ sym (word_leaves s a v g h).has_code }

pub writes_word : (s : State) (a v : ℕ) (t : State) (g : Region) → IsIn a g → Writes s a v t → word_at t a ≡ v
writes_word s a v t g h w = word_same (written false s a v) t a (writes_same s a v t g h w) ∙ word_written s a v g h

pub writes_other : (s : State) (a v : ℕ) (t : State) (x : ℕ) (g : Region) → IsIn a g → Writes s a v t → (x / 2 ≡ a / 2 → ⊥) → word_at t x ≡ word_at s x
writes_other s a v t x g h w differ = word_same (written false s a v) t x (writes_same s a v t g h w) ∙ word_written_other s a v x g h differ

pub writes_apart : (s : State) (a v : ℕ) (t : State) (x : ℕ) (g : Region) → IsAt a g → Writes s a v t → x % 2 ≡ 0 → (x ≡ a → ⊥) → word_at t x ≡ word_at s x
writes_apart s a v t x g h w even differ = writes_other s a v t x g h.inside w (λ e. differ (omega (arith, e, even, h.even)))
