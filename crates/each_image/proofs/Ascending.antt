-- The blocks of a graph's image ascend, don't touch, and lie where an image may.
use Rattle.std.proofs.Common.{◌≡◌, ◌≢◌, ℕ, suc, ◌+◌, ◌*◌, ◌<◌, ◌≤◌, Bool, true, false, Some, List, [], ◌∷◌, ◌++◌, length, flat_map, refl, sym, ◌∙◌, subst, arith, length-append}
use Rattle.std.specs.Prelude.{◌==◌, ⊤, if◌then◌else◌, slice_get, sum_by}
use Rattle.std.proofs.lemmas.Bool.{eqb-true, eq-eqb, false≢true}
use Rattle.std.proofs.lemmas.List.Sums.{sum_by-cons}
use Rattle.ti_txt.specs.Image.{Ascend, Block, end_of}
use Rattle.msp430_isa.specs.Encoding.{words_of}
use Rattle.flow_graph.specs.declared.graph.Object.{Object}
use Rattle.flow_graph.specs.Rules.{ObjectFits}
use Rattle.resumed_runs.specs.Bytes.{bytes_of}
use Rattle.resumed_runs.specs.Code.{boot}
use Rattle.laid_code.specs.Chosen.{chosen_code}
use Rattle.graph_code.specs.Pieces.{pieces}
use Rattle.each_image.specs.Image.{blocks_from, data_blocks, fram_template, joined}
use Rattle.each_image.specs.Laws.{AreEachImages}
use Rattle.each_image.proofs.Loaded.{bytes-length, few_first}
use Rattle.each_image.proofs.Places.{size-append, size_is}

-- from low on, between the words of boot and the call stack
abbrev Rises : ℕ → List Block → Type 0
Rises low [] = ⊤
Rises low (x ∷ blocks) = (low ≤ x.start) × (0 < length x.bytes) × (0x4400 ≤ x.start) × (end_of x ≤ 0x7F00) × Rises (end_of x + 1) blocks

rises_below : (low high : ℕ) (blocks : List Block) → low ≤ high → Rises high blocks → Rises low blocks
rises_below low high [] le h = tt
rises_below low high (x ∷ blocks) le h = (let a = h.0 in omega (arith, a, le), h.1, h.2, h.3, h.4)

differs : (a b : ℕ) → (a == b) ≡ false → a ≢ b
differs a b e same = false≢true (sym e ∙ eq-eqb a b same)

joined_rises : (k n : ℕ) (ws : List ℕ) (blocks : List Block) → 0x2200 ≤ k → length ws ≤ n → 2 * (k + n) ≤ 0x7F00 → Rises (2 * (k + n)) blocks → Rises (2 * k) (joined k ws blocks)
joined_rises k n [] blocks low few room h = rises_below (2 * k) (2 * (k + n)) blocks (omega arith) h
joined_rises k n (w ∷ ws) [] low few room h =
    let long = bytes-length (w ∷ ws) in
    (omega arith, omega (arith, long), omega (arith, low), omega (arith, long, few, room), tt)
joined_rises k n (w ∷ ws) (x ∷ blocks) low few room h = by_test (x.start == 2 * (k + length (w ∷ ws))) refl
  where
    by_test : (c : Bool) → (x.start == 2 * (k + length (w ∷ ws))) ≡ c
        → Rises (2 * k) (if c then record { start = 2 * k; bytes = bytes_of (w ∷ ws) ++ x.bytes } ∷ blocks else record { start = 2 * k; bytes = bytes_of (w ∷ ws) } ∷ x ∷ blocks)
    by_test true e =
        let at : x.start ≡ 2 * (k + length (w ∷ ws)) = eqb-true x.start (2 * (k + length (w ∷ ws))) e in
        let long = bytes-length (w ∷ ws) in
        let both = length-append (bytes_of (w ∷ ws)) x.bytes in
        let end = h.3 in
        let ends : x.start + length x.bytes + 1 ≡ 2 * k + length (bytes_of (w ∷ ws) ++ x.bytes) + 1 = omega (arith, at, long, both) in
        (omega arith, omega (arith, both, long), omega (arith, low), omega (arith, at, long, both, end), subst (λ m. Rises m blocks) ends h.4)
    by_test false e =
        let apart = differs x.start (2 * (k + length (w ∷ ws))) e in
        let long = bytes-length (w ∷ ws) in
        let above = h.0 in
        (omega arith, omega (arith, long), omega (arith, low), omega (arith, long, few, room), (omega (arith, long, few, above, apart), h.1, h.2, h.3, h.4))

blocks_rise : (k : ℕ) (xs : List Object) → 0x2200 ≤ k → 2 * k + 2 * sum_by (λ x. x.words) xs ≤ 0x7F00 → ((o : ℕ) (x : Object) → slice_get xs o ≡ Some x → ObjectFits x) → Rises (2 * k) (blocks_from k xs)
blocks_rise k [] low room fits = tt
blocks_rise k (x ∷ xs) low room fits =
    let total = sum_by-cons (λ (y : Object). y.words) x xs in
    let few = few_first x.words x.first (fits 0 x refl).all in
    joined_rises k x.words x.first (blocks_from (k + x.words) xs) low few (omega (arith, room, total))
    (blocks_rise (k + x.words) xs (omega (arith, low)) (omega (arith, room, total)) (λ o y e. fits (suc o) y e))

rises_ascend : (low : ℕ) (xs ys : List Block) → low ≤ 0x7F01 → Rises low xs → Ascend 0x7F01 ys → Ascend low (xs ++ ys)
rises_ascend low [] ys le h k = below ys le k
  where
    below : (zs : List Block) → low ≤ 0x7F01 → Ascend 0x7F01 zs → Ascend low zs
    below [] l a = tt
    below (z ∷ zs) l a = (let s = a.0 in omega (arith, s, l), a.1, a.2, a.3)
rises_ascend low (x ∷ xs) ys le h k =
    let end = h.3 in
    let start = h.2 in
    (h.0, h.1, (omega (arith, start), omega (arith, end), λ small. absurd (omega (arith, small, start))), rises_ascend (end_of x + 1) xs ys (omega (arith, end)) h.4 k)

pub are_images : AreEachImages
are_images heads g rules few room =
    let words = boot ++ chosen_code 9 (pieces (fram_template g) heads g) in
    let sized = size_is words in
    let both = size-append boot (chosen_code 9 (pieces (fram_template g) heads g)) in
    let long = bytes-length (flat_map words_of words) in (
      omega arith,
      omega arith,
      (omega arith, omega arith, λ small. omega arith),
      rises_ascend 0x1807 (data_blocks g) _ (omega arith) (rises_below 0x1807 0x4400 (data_blocks g) (omega arith) (blocks_rise 0x2200 g.objects (omega arith) (omega (arith, few)) rules.objects)) (
        omega arith,
        omega (arith, long, sized, both),
        (omega arith, omega (arith, long, sized, both, room), λ small. absurd (omega (arith, small))),
        (omega (arith, long, sized, both, room), omega arith, (omega arith, omega arith, λ small. absurd (omega (arith, small))), tt),
      ),
    )
