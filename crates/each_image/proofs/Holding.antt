-- Some first state holds the image of a graph.
use Rattle.std.proofs.Common.{◌≡◌, ℕ, suc, ◌+◌, ◌*◌, ◌/◌, ◌%◌, ◌<◌, true, false, Some, List, [], ◌∷◌, ◌++◌, length, flat_map, refl, arith}
use Rattle.std.specs.Prelude.{◌==◌, if◌then◌else◌, IsTrue, All, slice_get}
use Rattle.std.proofs.lemmas.List.Elements.{All-nil, All-cons, All-append, All-head, All-tail, All-from_recursion}
use Rattle.ti_txt.specs.Image.{Block}
use Rattle.msp430_isa.specs.declared.instr.Instr.{Instr}
use Rattle.msp430_isa.specs.Encoding.{words_of}
use Rattle.msp430_isa.specs.Profile.{in_profile}
use Rattle.msp430_isa.proofs.Spelling.{has_words}
use Rattle.flow_graph.specs.declared.graph.Object.{Object}
use Rattle.flow_graph.specs.Rules.{ObjectFits}
use Rattle.resumed_runs.specs.Bytes.{bytes_of}
use Rattle.resumed_runs.specs.Code.{boot}
use Rattle.laid_code.specs.Chosen.{chosen_code}
use Rattle.graph_code.specs.Pieces.{pieces}
use Rattle.graph_code.proofs.HomeLemmas.{objects_have_homes}
use Rattle.each_image.specs.Image.{blocks_from, data_blocks, fram_template, graph_blocks, joined}
use Rattle.each_image.specs.Laws.{AreEachHeld}
use Rattle.each_image.proofs.Ascending.{are_images}
use Rattle.each_image.proofs.FirstStates.{AreBytes, is_held}
use Rattle.each_image.proofs.Profile.{code_allowed}

abbrev Byte : ℕ → Type 0
Byte v = v < 256

abbrev Low : ℕ → Type 0
Low w = w < 65536

bytes_are : (ws : List ℕ) → All Low ws → All Byte (bytes_of ws)
bytes_are [] low = All-nil Byte
bytes_are (w ∷ ws) low =
    let here = All-head Low w ws low in
    All-cons Byte (w % 256) (w / 256 ∷ bytes_of ws) (omega arith) (All-cons Byte (w / 256) (bytes_of ws) (omega (arith, here)) (bytes_are ws (All-tail Low w ws low)))

words_are : (is : List Instr) → All (λ i. IsTrue (in_profile i)) is → All Low (flat_map words_of is)
words_are [] fit = All-nil Low
words_are (i ∷ is) fit = All-append Low (words_of i) (flat_map words_of is) (has_words i (All-head (λ j. IsTrue (in_profile j)) i is fit)) (words_are is (All-tail (λ j. IsTrue (in_profile j)) i is fit))

-- ---- Blocks

joined_bytes : (k : ℕ) (ws : List ℕ) (blocks : List Block) → All Low ws → AreBytes blocks → AreBytes (joined k ws blocks)
joined_bytes k [] blocks low h = h
joined_bytes k (w ∷ ws) [] low h = (bytes_are (w ∷ ws) low, tt)
joined_bytes k (w ∷ ws) (x ∷ blocks) low h =
    elim (x.start == 2 * (k + length (w ∷ ws)))
    as (λ c. AreBytes (if c then record { start = 2 * k; bytes = bytes_of (w ∷ ws) ++ x.bytes } ∷ blocks else record { start = 2 * k; bytes = bytes_of (w ∷ ws) } ∷ x ∷ blocks)) [
      | true ↦ (All-append Byte (bytes_of (w ∷ ws)) x.bytes (bytes_are (w ∷ ws) low) h.0, h.1)
      | false ↦ (bytes_are (w ∷ ws) low, h)
    ]

objects_bytes : (k : ℕ) (xs : List Object) → ((o : ℕ) (x : Object) → slice_get xs o ≡ Some x → ObjectFits x) → AreBytes (blocks_from k xs)
objects_bytes k [] fits = tt
objects_bytes k (x ∷ xs) fits = joined_bytes k x.first (blocks_from (k + x.words) xs) (fits 0 x refl).words (objects_bytes (k + x.words) xs (λ o y e. fits (suc o) y e))

blocks_append : (xs ys : List Block) → AreBytes xs → AreBytes ys → AreBytes (xs ++ ys)
blocks_append [] ys h k = k
blocks_append (x ∷ xs) ys h k = (h.0, blocks_append xs ys h.1 k)

pub are_held : AreEachHeld
are_held heads g rules few room =
    is_held (graph_blocks heads g) (are_images heads g rules few room) (
      bytes_are (1 ∷ 0x8024 ∷ 0x8000 ∷ []) (All-from_recursion Low (1 ∷ 0x8024 ∷ 0x8000 ∷ []) (omega arith, (omega arith, (omega arith, tt)))),
      blocks_append (data_blocks g) _ (objects_bytes 0x2200 g.objects rules.objects) (
        bytes_are (flat_map words_of (boot ++ chosen_code 9 (pieces (fram_template g) heads g)))
            (words_are (boot ++ chosen_code 9 (pieces (fram_template g) heads g)) (code_allowed g heads rules (objects_have_homes g few) room)),
        (bytes_are (0x8000 ∷ []) (All-from_recursion Low (0x8000 ∷ []) (omega arith, tt)), tt),
      ),
    )
