-- What FRAM holds in a first state: the words that objects begin with.
use Rattle.std.proofs.Common.{◌≡◌, ◌⊎◌, ℕ, suc, zero, ◌+◌, ◌*◌, ◌/◌, ◌%◌, ◌^◌, ◌<◌, ◌≤◌, Bool, true, false, Some, List, [], ◌∷◌, ◌++◌, length, refl, sym, ap, ◌∙◌, subst, arith, inl, inr}
use Rattle.std.specs.Prelude.{◌==◌, if◌then◌else◌, All, slice_get, slice_index_or}
use Rattle.std.proofs.lemmas.Bool.{eqb-true}
use Rattle.std.proofs.lemmas.Bool.Decides.{nat_tests}
use Rattle.std.proofs.lemmas.List.Elements.{All-nil, All-cons}
use Rattle.ti_txt.specs.Image.{Block}
use Rattle.msp430_machine.specs.State.{State}
use Rattle.msp430_machine.specs.Memory.{word_in, word_at, byte_at}
use Rattle.msp430_machine.specs.First.{HoldsBytes, HoldsBlocks, IsFirst}
use Rattle.msp430_machine.proofs.Memories.{in_fram}
use Rattle.flow_graph.specs.declared.graph.Object.{Object}
use Rattle.flow_graph.specs.declared.graph.Graph.{Graph}
use Rattle.flow_graph.specs.Operations.{Words, words_of}
use Rattle.flow_graph.specs.Operations as operations
use Rattle.flow_graph.specs.Flow.{Begin, BeginsOne}
use Rattle.flow_graph.specs.Rules.{IsGraph, ObjectFits}
use Rattle.power_core.proofs.Stands.{WordsAt}
use Rattle.resumed_runs.specs.Bytes.{bytes_of}
use Rattle.graph_flow.specs.GraphFlow.{size_of, sizes}
use Rattle.graph_code.specs.Homes.{HaveHomes, first_word, words_before}
use Rattle.each_image.specs.Image.{blocks_from, data_blocks, joined}

-- ---- Bytes of FRAM

lower_byte : (s : State) (k : ℕ) → 0x2200 ≤ k → k < 0x4000 → byte_at s (2 * k) ≡ s.fram k % 256
lower_byte s k low high =
    let even : (2 * k % 2 == 0) ≡ true = (let e : 2 * k % 2 ≡ 0 = omega arith in grind (arith, nat_tests)) in
    let half : 2 * k / 2 ≡ k = omega arith in
    ap (λ c. if c then word_at s (2 * k) % 256 else word_at s (2 * k) / 256) even
    ∙ ap (λ r. word_in r s (2 * k) % 256) (in_fram (2 * k) (omega (arith, low)) (omega (arith, high))) ∙ ap (λ h. s.fram h % 256) half

upper_byte : (s : State) (k : ℕ) → 0x2200 ≤ k → k < 0x4000 → byte_at s (2 * k + 1) ≡ s.fram k / 256
upper_byte s k low high =
    let odd : ((2 * k + 1) % 2 == 0) ≡ false = (let e : (2 * k + 1) % 2 ≡ 1 = omega arith in grind (arith, nat_tests)) in
    let half : (2 * k + 1) / 2 ≡ k = omega arith in
    ap (λ c. if c then word_at s (2 * k + 1) % 256 else word_at s (2 * k + 1) / 256) odd
    ∙ ap (λ r. word_in r s (2 * k + 1) / 256) (in_fram (2 * k + 1) (omega (arith, low)) (omega (arith, high))) ∙ ap (λ h. s.fram h / 256) half

word_from_bytes : (s : State) (k v : ℕ) → 0x2200 ≤ k → k < 0x4000 → byte_at s (2 * k) ≡ v % 256 → byte_at s (2 * k + 1) ≡ v / 256 → s.fram k ≡ v
word_from_bytes s k v low high first second =
    let lower : s.fram k % 256 ≡ v % 256 = sym (lower_byte s k low high) ∙ first in
    let upper : s.fram k / 256 ≡ v / 256 = sym (upper_byte s k low high) ∙ second in
    omega (arith, lower, upper)

words_from_bytes : (s : State) (k : ℕ) (ws : List ℕ) → 0x2200 ≤ k → k + length ws ≤ 0x4000 → HoldsBytes s (2 * k) (bytes_of ws) → WordsAt s.fram k ws
words_from_bytes s k [] low high h = tt
words_from_bytes s k (w ∷ ws) low high h =
    let e : 2 * k + 1 + 1 ≡ 2 * (k + 1) = omega arith in
    (word_from_bytes s k w low (omega (arith, high)) h.0 h.1.0, words_from_bytes s (k + 1) ws (omega (arith, low)) (omega (arith, high)) (subst (λ a. HoldsBytes s a (bytes_of ws)) e h.1.1))

-- ---- Blocks

bytes_front : (s : State) (a : ℕ) (xs ys : List ℕ) → HoldsBytes s a (xs ++ ys) → HoldsBytes s a xs
bytes_front s a [] ys h = tt
bytes_front s a (x ∷ xs) ys h = (h.0, bytes_front s (a + 1) xs ys h.1)

bytes_back : (s : State) (a : ℕ) (xs ys : List ℕ) → HoldsBytes s a (xs ++ ys) → HoldsBytes s (a + length xs) ys
bytes_back s a [] ys h = let e : a ≡ a + 0 = omega arith in subst (λ n. HoldsBytes s n ys) e h
bytes_back s a (x ∷ xs) ys h = let e : a + 1 + length xs ≡ a + length (x ∷ xs) = omega arith in subst (λ n. HoldsBytes s n ys) e (bytes_back s (a + 1) xs ys h.1)

pub bytes-length : (ws : List ℕ) → length (bytes_of ws) ≡ 2 * length ws
bytes-length [] = refl
bytes-length (w ∷ ws) = let h = bytes-length ws in omega (arith, h)

joined_holds : (s : State) (k : ℕ) (ws : List ℕ) (blocks : List Block) → HoldsBlocks s (joined k ws blocks) → HoldsBytes s (2 * k) (bytes_of ws) × HoldsBlocks s blocks
joined_holds s k [] blocks h = (tt, h)
joined_holds s k (w ∷ ws) [] h = (h.0, tt)
joined_holds s k (w ∷ ws) (x ∷ blocks) h = by_test (x.start == 2 * (k + length (w ∷ ws))) refl h
  where
    by_test : (c : Bool) → (x.start == 2 * (k + length (w ∷ ws))) ≡ c
        → HoldsBlocks s (if c then record { start = 2 * k; bytes = bytes_of (w ∷ ws) ++ x.bytes } ∷ blocks else record { start = 2 * k; bytes = bytes_of (w ∷ ws) } ∷ x ∷ blocks)
        → HoldsBytes s (2 * k) (bytes_of (w ∷ ws)) × HoldsBlocks s (x ∷ blocks)
    by_test true e held =
        let at : x.start ≡ 2 * (k + length (w ∷ ws)) = eqb-true x.start (2 * (k + length (w ∷ ws))) e in
        let long = bytes-length (w ∷ ws) in
        let place : 2 * k + length (bytes_of (w ∷ ws)) ≡ x.start = omega (arith, at, long) in
        (bytes_front s (2 * k) (bytes_of (w ∷ ws)) x.bytes held.0, (subst (λ a. HoldsBytes s a x.bytes) place (bytes_back s (2 * k) (bytes_of (w ∷ ws)) x.bytes held.0), held.1))
    by_test false e held = held

pub blocks_front : (s : State) (xs ys : List Block) → HoldsBlocks s (xs ++ ys) → HoldsBlocks s xs
blocks_front s [] ys h = tt
blocks_front s (x ∷ xs) ys h = (h.0, blocks_front s xs ys h.1)

-- ---- The words that FRAM holds

abbrev pub words_from : (ℕ → ℕ) → ℕ → ℕ → List ℕ
words_from f k zero = []
words_from f k (suc n) = f k ∷ words_from f (k + 1) n

abbrev pub objects_from : (ℕ → ℕ) → ℕ → List Object → Words
objects_from f k [] = []
objects_from f k (x ∷ xs) = words_from f k x.words ∷ objects_from f (k + x.words) xs

-- of all objects
abbrev pub objects_in : Graph → State → Words
objects_in g s = objects_from s.fram 0x2200 g.objects

words_from-length : (f : ℕ → ℕ) (k n : ℕ) → length (words_from f k n) ≡ n
words_from-length f k zero = refl
words_from-length f k (suc n) = ap (λ m. suc m) (words_from-length f (k + 1) n)

word_from : (f : ℕ → ℕ) (k n i : ℕ) → i < n → slice_index_or (words_from f k n) i 0 ≡ f (k + i)
word_from f k zero i low = absurd (omega (arith, low))
word_from f k (suc n) zero low = let e : k ≡ k + 0 = omega arith in ap f e
word_from f k (suc n) (suc i) low = let e : k + 1 + i ≡ k + suc i = omega arith in word_from f (k + 1) n i (omega (arith, low)) ∙ ap f e

object_from : (f : ℕ → ℕ) (k : ℕ) (xs : List Object) (o i : ℕ) → i < size_of (slice_get xs o) → operations.word_at (objects_from f k xs) o i ≡ f (k + words_before xs o + i)
object_from f k [] o i low = absurd (omega (arith, low))
object_from f k (x ∷ xs) zero i low = let e : k + i ≡ k + 0 + i = omega arith in word_from f k x.words i low ∙ ap f e
object_from f k (x ∷ xs) (suc o) i low = let e : k + x.words + words_before xs o + i ≡ k + (x.words + words_before xs o) + i = omega arith in object_from f (k + x.words) xs o i low ∙ ap f e

pub word_in_fram : (g : Graph) (s : State) (o i : ℕ) → i < sizes g o → operations.word_at (objects_in g s) o i ≡ s.fram (first_word g o + i)
word_in_fram g s o i low = object_from s.fram 0x2200 g.objects o i low

-- ---- They begin so

words_small : (f : ℕ → ℕ) (k n : ℕ) → ((j : ℕ) → j < 16384 → f j < 65536) → k + n ≤ 16384 → All (λ w. w < 2 ^ 16) (words_from f k n)
words_small f k zero small room = All-nil (λ w. w < 2 ^ 16)
words_small f k (suc n) small room = All-cons (λ w. w < 2 ^ 16) (f k) (words_from f (k + 1) n) (small k (omega (arith, room))) (words_small f (k + 1) n small (omega (arith, room)))

words_are : (f : ℕ → ℕ) (k : ℕ) (ws : List ℕ) → WordsAt f k ws → words_from f k (length ws) ≡ ws
words_are f k [] h = refl
words_are f k (w ∷ ws) h = ap (λ x. x ∷ words_from f (k + 1) (length ws)) h.0 ∙ ap (λ l. w ∷ l) (words_are f (k + 1) ws h.1)

begins_one : (f : ℕ → ℕ) (k n : ℕ) (first : List ℕ) → ((j : ℕ) → j < 16384 → f j < 65536) → k + n ≤ 16384 → (first ≡ []) ⊎ (length first ≡ n) → WordsAt f k first → BeginsOne first n (words_from f k n)
begins_one f k n [] small room all h = (words_from-length f k n, words_small f k n small room)
begins_one f k n (w ∷ more) small room (inl none) h = absurd (cc)
begins_one f k n (w ∷ more) small room (inr same) h = subst (λ m. words_from f k m ≡ w ∷ more) same (words_are f k (w ∷ more) h)

pub few_first : (n : ℕ) (first : List ℕ) → (first ≡ []) ⊎ (length first ≡ n) → length first ≤ n
few_first n first (inl none) = let e : length first ≡ 0 = ap (λ (l : List ℕ). length l) none in omega (arith, e)
few_first n first (inr same) = omega (arith, same)

begins_from : (s : State) (k : ℕ) (xs : List Object) → ((j : ℕ) → j < 16384 → s.fram j < 65536) → 0x2200 ≤ k → ((o : ℕ) → k + words_before xs o + size_of (slice_get xs o) ≤ 0x3F80)
    → ((o : ℕ) (x : Object) → slice_get xs o ≡ Some x → ObjectFits x) → HoldsBlocks s (blocks_from k xs) → Begin xs (objects_from s.fram k xs)
begins_from s k [] small low room fits h = tt
begins_from s k (x ∷ xs) small low room fits h =
    let held = joined_holds s k x.first (blocks_from (k + x.words) xs) h in
    let fit = fits 0 x refl in
    let r : k + 0 + x.words ≤ 0x3F80 = room 0 in
    let few = few_first x.words x.first fit.all in (
      begins_one s.fram k x.words x.first small (omega (arith, r)) fit.all (words_from_bytes s k x.first low (omega (arith, r, few)) held.0),
      begins_from s (k + x.words) xs small (omega (arith, low))
          (λ o. let q : k + (x.words + words_before xs o) + size_of (slice_get xs o) ≤ 0x3F80 = room (suc o) in omega (arith, q))
          (λ o y e. fits (suc o) y e) held.1,
    )

pub begins_in : (g : Graph) (s : State) → IsGraph g → HaveHomes g → IsFirst s → HoldsBlocks s (data_blocks g) → Begin g.objects (objects_in g s)
begins_in g s rules homes first held = begins_from s 0x2200 g.objects first.fram (omega arith) (λ o. homes.room o) rules.objects held
