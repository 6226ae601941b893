-- The code of a graph's image, as the rules of its certificate see it.
use Rattle.std.proofs.Common.{◌≡◌, ℕ, suc, ◌+◌, ◌*◌, ◌≤◌, Bool, true, false, Some, None, List, [], ◌∷◌, ◌++◌, flat_map, refl, ap, ◌∙◌, subst, arith}
use Rattle.std.specs.Prelude.{IsTrue, All, slice_get}
use Rattle.std.proofs.lemmas.List.Elements.{All-head, All-tail}
use Rattle.board_table.specs.declared.board.Board.{Board}
use Rattle.ti_txt.specs.Image.{Block}
use Rattle.certificate.specs.Rows.{Function}
use Rattle.msp430_isa.specs.declared.instr.Instr.{Instr}
use Rattle.msp430_isa.specs.Encoding.{length_of, words_of}
use Rattle.msp430_isa.specs.Profile.{in_profile}
use Rattle.flow_graph.specs.declared.graph.Graph.{Graph}
use Rattle.flow_graph.specs.Nodes.{graph_nodes}
use Rattle.flow_graph.specs.Rules.{IsGraph}
use Rattle.resumed_runs.specs.Bytes.{bytes_of}
use Rattle.resumed_runs.specs.Code.{boot, head, size_of}
use Rattle.laid_code.specs.Chosen.{chosen_code}
use Rattle.graph_code.specs.Homes.{data_bytes, most_data}
use Rattle.graph_code.specs.Pieces.{address_of, pieces}
use Rattle.graph_code.proofs.HomeLemmas.{objects_have_homes}
use Rattle.op_cost.specs.Templates.{Homes, code_of}
use Rattle.each_image.specs.Image.{code_words, data_blocks, fram_homes, fram_template, graph_blocks}
use Rattle.each_image.proofs.Ascending.{are_images}
use Rattle.each_image.proofs.Profile.{code_allowed}
use Rattle.cert_rules.specs.Sheet.{Sheet}
use Rattle.cert_rules.specs.Sweep.{sheet}
use Rattle.cert_pieces.specs.Pieces.{behind}
use Rattle.cert_templates.specs.Frames.{Position, bytes_at, bytes_of_all, code_at, head_bytes_of}
use Rattle.cert_images.specs.Images.{graph_certificate, positions}
use Rattle.cert_images.proofs.Coding.{AllFine, CodeStands, HoldsCode, holds_next, is_double}
use Rattle.cert_images.proofs.Forming.{formed, kind_forms}
use Rattle.cert_images.proofs.Laying.{behind_is, code_from, head_at_start}
use Rattle.cert_images.proofs.Placing.{code_same, twice_size}
use Rattle.cert_images.proofs.Wording.{word_of_block}

-- ---- Parts of code

holds_behind : (blocks : List Block) (a : ℕ) (is js : List Instr) → HoldsCode blocks a (is ++ js) → HoldsCode blocks (behind a is) js
holds_behind blocks a [] js h = h
holds_behind blocks a (i ∷ is) js h = holds_behind blocks (a + 2 * length_of i) is js (holds_next blocks a i (is ++ js) h)

abbrev Is : Instr → Type 0
Is i = IsTrue (in_profile i)

all_after : (xs ys : List Instr) → All Is (xs ++ ys) → All Is ys
all_after [] ys h = h
all_after (x ∷ xs) ys h = all_after xs ys (All-tail Is x (xs ++ ys) h)

abbrev AllSingle : List Instr → Type 0
AllSingle [] = Unit {0}
AllSingle (i ∷ is) = (is_double i ≡ false) × AllSingle is

single_append : (xs ys : List Instr) → AllSingle xs → AllSingle ys → AllSingle (xs ++ ys)
single_append [] ys h k = k
single_append (x ∷ xs) ys h k = (h.0, single_append xs ys h.1 k)

single_by : (xs : List Instr) → ((k : ℕ) (i : Instr) → slice_get xs k ≡ Some i → is_double i ≡ false) → AllSingle xs
single_by [] h = tt
single_by (x ∷ xs) h = (h 0 x refl, single_by xs (λ k i e. h (suc k) i e))

fine_by : (xs : List Instr) → All Is xs → AllSingle xs → AllFine xs
fine_by [] h k = tt
fine_by (x ∷ xs) h k = (record { allowed = All-head Is x xs h; single = k.0 }, fine_by xs (All-tail Is x xs h) k.1)

head_single : (c : Bool) (a : ℕ) → AllSingle (head_at_start c a)
head_single true a = (refl, (refl, (refl, (refl, (refl, tt)))))
head_single false a = tt

code_single : (homes : Homes) (a : ℕ) (ps : List Position) → AllSingle (code_from homes a ps)
code_single homes a [] = tt
code_single homes a (p ∷ ps) =
    single_append (head_at_start p.has_head a) _ (head_single p.has_head a)
    (single_append (code_of (code_at homes p)) _ (single_by (code_of (code_at homes p)) (λ k i e. (formed _ (kind_forms homes p.target p.op p.op.kind) k i e).1)) (code_single homes (a + bytes_at homes p) ps))

behind_append : (a : ℕ) (xs ys : List Instr) → behind a (xs ++ ys) ≡ behind (behind a xs) ys
behind_append a [] ys = refl
behind_append a (x ∷ xs) ys = behind_append (a + 2 * length_of x) xs ys

head_ends : (c : Bool) (a : ℕ) → behind a (head_at_start c a) ≡ a + head_bytes_of c
head_ends true a = behind_is a (head (a + 18))
head_ends false a = let e : a ≡ a + 0 = omega arith in e

sums : (a h c r : ℕ) → a + h + c ≡ a + (h + c)
sums a h c r = omega arith

pub code_ends_at : (homes : Homes) (a : ℕ) (ps : List Position) → behind a (code_from homes a ps) ≡ a + bytes_of_all homes ps
code_ends_at homes a [] = let e : a ≡ a + 0 = omega arith in e
code_ends_at homes a (p ∷ ps) =
    let is = code_of (code_at homes p) in
    behind_append a (head_at_start p.has_head a) _ ∙ behind_append (behind a (head_at_start p.has_head a)) is _
    ∙ ap (λ x. behind x (code_from homes (a + bytes_at homes p) ps)) (ap (λ x. behind x is) (head_ends p.has_head a) ∙ behind_is (a + head_bytes_of p.has_head) is ∙ sums a (head_bytes_of p.has_head) _ 0)
    ∙ code_ends_at homes (a + bytes_at homes p) ps ∙ sums a (bytes_at homes p) _ 0

-- ---- The image of a graph

module _ (b : Board) (heads : ℕ → Bool) (g : Graph) (rules : IsGraph g) (few : data_bytes g ≤ most_data) (room : code_words heads g ≤ 0x3FC0) where
  abbrev pub whole : Function
  whole = record { start = 0x8012; end = 0x8012 + bytes_of_all (fram_homes g) (positions heads g); height = 1; flat = None }

  abbrev pub sheet_of : Sheet
  sheet_of = sheet (graph_blocks heads g) (graph_certificate b heads g) b true whole

  pub all_words : HoldsCode (graph_blocks heads g) 0x8000 (boot ++ chosen_code 9 (pieces (fram_template g) heads g))
  all_words = λ k w e. word_of_block 0 (record { start = 0x1800; bytes = bytes_of (1 ∷ 0x8024 ∷ 0x8000 ∷ []) } ∷ data_blocks g) 0x8000 (flat_map words_of (boot ++ chosen_code 9 (pieces (fram_template g) heads g)))
      (record { start = 0xFFFE; bytes = bytes_of (0x8000 ∷ []) } ∷ []) (are_images heads g rules few room) k w e

  pub code_is : chosen_code 9 (pieces (fram_template g) heads g) ≡ code_from (fram_homes g) 0x8012 (positions heads g)
  code_is = code_same g heads (address_of (fram_template g) heads g) 9 (graph_nodes g)

  is_low : 0x8012 + bytes_of_all (fram_homes g) (positions heads g) ≤ 0xFF80
  is_low =
      let ends = code_ends_at (fram_homes g) 0x8012 (positions heads g) in
      let bytes = behind_is 0x8012 (code_from (fram_homes g) 0x8012 (positions heads g)) in
      let twice = twice_size (code_from (fram_homes g) 0x8012 (positions heads g)) in
      let same = ap (λ is. size_of is) code_is in
      omega (arith, ends, bytes, twice, same, room)

  pub code_stands : CodeStands sheet_of 0x8012 (code_from (fram_homes g) 0x8012 (positions heads g))
  code_stands = record {
    holds = subst (λ is. HoldsCode (graph_blocks heads g) 0x8012 is) code_is (holds_behind (graph_blocks heads g) 0x8000 boot (chosen_code 9 (pieces (fram_template g) heads g)) all_words);
    fine = fine_by (code_from (fram_homes g) 0x8012 (positions heads g))
        (subst (λ is. All Is is) code_is (all_after boot (chosen_code 9 (pieces (fram_template g) heads g)) (code_allowed g heads rules (objects_have_homes g few) room)))
        (code_single (fram_homes g) 0x8012 (positions heads g));
    even = refl;
    ends = code_ends_at (fram_homes g) 0x8012 (positions heads g);
    low = is_low;
  }
