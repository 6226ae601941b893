-- The rules on tables hold of a graph's image and its certificate.
use Rattle.std.proofs.Common.{◌≡◌, ℕ, suc, ◌+◌, ◌*◌, ◌≤◌, ◌<◌, ◌%◌, Bool, true, false, not, Some, None, List, [], ◌∷◌, ◌++◌, length, flat_map, refl, sym, ap, ◌∙◌, subst, arith}
use Rattle.std.specs.Prelude.{pos, ◌&&◌, ◌||◌, nat_le, nat_lt, is_none, is_some, slice_get}
use Rattle.std.specs.Option.{option_or}
use Rattle.board_table.specs.declared.board.Board.{Board}
use Rattle.ti_txt.specs.Image.{Ascend, Block, end_of}
use Rattle.certificate.specs.declared.cert.StretchRow.{StretchRow}
use Rattle.certificate.specs.Rows.{Function}
use Rattle.msp430_isa.specs.declared.instr.Instr.{Instr}
use Rattle.msp430_isa.specs.Encoding.{words_of}
use Rattle.flow_graph.specs.declared.graph.Graph.{Graph}
use Rattle.flow_graph.specs.Rules.{IsGraph}
use Rattle.resumed_runs.specs.Bytes.{bytes_of}
use Rattle.resumed_runs.specs.Code.{boot, head, size_of}
use Rattle.laid_code.specs.Chosen.{chosen_code}
use Rattle.graph_code.specs.Homes.{data_bytes, most_data}
use Rattle.graph_code.specs.Pieces.{pieces}
use Rattle.op_cost.specs.Templates.{Homes, code_of, weight_of}
use Rattle.each_image.specs.Image.{code_words, data_blocks, fram_homes, fram_template, graph_blocks}
use Rattle.each_image.proofs.Ascending.{are_images}
use Rattle.each_image.proofs.Loaded.{bytes-length}
use Rattle.each_image.proofs.Places.{size-append, size_is}
use Rattle.cert_rules.specs.declared.Rule.{Rule}
use Rattle.cert_rules.specs.declared.Rule.TheVariants.{Boot, Head, Order}
use Rattle.cert_rules.specs.Faults.{first_of, unless}
use Rattle.cert_rules.specs.Overhead.{sleep_cost}
use Rattle.cert_rules.specs.Words.{boot_words, head_bytes, head_words, shown, word_in}
use Rattle.cert_rules.specs.Tables.{boot_fault, code_end, functions_fault, head_at, head_fault, is_number, lies_in, start_fault, word_fault, words_fault}
use Rattle.cert_rules.specs.Sheet.{Sheet}
use Rattle.cert_pieces.specs.Pieces.{behind}
use Rattle.cert_pieces.proofs.Stepping.{both}
use Rattle.cert_templates.specs.Frames.{Position, bytes_at, bytes_of_all, code_at, cost_to_head, goes_through, stretch_rows}
use Rattle.cert_images.specs.Images.{positions}
use Rattle.cert_images.proofs.Walking.{behind_above, row_first}
use Rattle.cert_images.proofs.Coding.{CodeStands, eq_is, get_first, le_is, stands_behind, three_and}
use Rattle.cert_images.proofs.Laying.{Suffix, behind_is, code_from}
use Rattle.cert_images.proofs.Forming.{kind_first}
use Rattle.cert_images.proofs.Folding.{Static, next, row_of, spent_before, stretch_of}
use Rattle.cert_images.proofs.Placing.{twice_size}
use Rattle.cert_images.proofs.Wording.{code_ends, word_of_block}
use Rattle.cert_images.proofs.Sheeting.{all_words, code_ends_at, code_is, whole}

-- ---- Words

word_stands : (blocks : List Block) (rule : Rule) (a w : ℕ) → word_in blocks a ≡ Some w → word_fault blocks rule a w ≡ None
word_stands blocks rule a w e = ap (λ o. unless (is_number o w) rule a (shown o) (pos w)) e ∙ ap (λ c. unless c rule a (pos w) (pos w)) (eq_is w w refl)

-- words stand from an address on
abbrev HoldsWords : List Block → ℕ → List ℕ → Type 0
HoldsWords blocks a ws = (k w : ℕ) → slice_get ws k ≡ Some w → word_in blocks (a + 2 * k) ≡ Some w

words_stand : (blocks : List Block) (rule : Rule) (a : ℕ) (ws : List ℕ) → HoldsWords blocks a ws → words_fault blocks rule a ws ≡ None
words_stand blocks rule a [] h = refl
words_stand blocks rule a (w ∷ ws) h =
    both _ _ (word_stands blocks rule a w (ap (λ x. word_in blocks x) (first a) ∙ h 0 w refl))
    (words_stand blocks rule (a + 2) ws (λ k v e. ap (λ x. word_in blocks x) (later a k) ∙ h (suc k) v e))
  where
    first : (n : ℕ) → n ≡ n + 2 * 0
    first n = omega arith

    later : (n k : ℕ) → n + 2 + 2 * k ≡ n + 2 * suc k
    later n k = omega arith

-- ---- Heads

lies : (f : Function) (a : ℕ) → f.flat ≡ None → a % 2 ≡ 0 → f.start ≤ a → a + head_bytes ≤ f.end → lies_in (f ∷ []) a ≡ true
lies f a split even begun ends =
    let inside : Bool = is_none f.flat && nat_le f.start a && nat_le (a + head_bytes) f.end in
    ap (λ c. c && (inside || false)) (eq_is (a % 2) 0 even)
    ∙ ap (λ c. c || false) (three_and (is_none f.flat) (nat_le f.start a) (nat_le (a + head_bytes) f.end) (ap (λ o. is_none o) split) (le_is f.start a begun) (le_is (a + head_bytes) f.end ends))

-- a head holds its words
head_fine : (t : Sheet) (row : StretchRow) (js : List Instr) → t.here.flat ≡ None → t.here.start ≤ row.head → CodeStands t row.head (head (row.head + 18) ++ js) → head_fault t.blocks (t.here ∷ []) row ≡ None
head_fine t row js split begun st =
    let later = stands_behind t row.head (head (row.head + 18)) js st in
    let bytes = behind_is row.head (head (row.head + 18)) in
    let above = behind_above (behind row.head (head (row.head + 18))) js in
    let ends = later.ends in
    both _ _ (ap (λ c. unless c Head row.head (pos row.head) (pos 0)) (lies t.here row.head split st.even begun (omega (arith, bytes, above, ends))))
    (both _ _ (words_stand t.blocks Head row.head (head_words row.head) (λ k w e. st.holds k w (get_first (head_words row.head) (flat_map words_of js) k w e))) refl)

pub heads_fine : (t : Sheet) (homes : Homes) → Static t → (ps : List Position) (a st n : ℕ) (falls : Bool) → Suffix t homes ps a st n falls → first_of (head_fault t.blocks (t.here ∷ [])) (stretch_rows t.board homes a ps) ≡ None
heads_fine t homes static [] a st n falls s = refl
heads_fine t homes static (p ∷ ps) a st n falls s =
    let first = kind_first homes p.target p.op p.op.kind in
    by p.has_head s (heads_fine t homes static ps (a + bytes_at homes p) (stretch_of p a st) (spent_before t p n + weight_of t.board (code_at homes p)) (goes_through p.op.kind)
    (next t homes static p.op p.target ps a st n falls p.has_head s first.0 first.1))
  where
    with_head : Bool → Position
    with_head c = record { op = p.op; target = p.target; has_head = c }

    by : (c : Bool) → Suffix t homes (with_head c ∷ ps) a st n falls → first_of (head_fault t.blocks (t.here ∷ [])) (stretch_rows t.board homes (a + bytes_at homes (with_head c)) ps) ≡ None
        → first_of (head_fault t.blocks (t.here ∷ [])) (stretch_rows t.board homes a (with_head c ∷ ps)) ≡ None
    by true u rest = both _ _ (head_fine t (row_of t homes (with_head true) ps a) (code_of (code_at homes (with_head true)) ++ code_from homes (a + bytes_at homes (with_head true)) ps) static.split u.begun u.code) rest
    by false u rest = rest

-- ---- The first head

-- the first position has a head
abbrev pub FirstHas : List Position → Type 0
FirstHas [] = ⊥
FirstHas (p ∷ ps) = p.has_head ≡ true

pub record FirstRow (t : Sheet) (homes : Homes) (a : ℕ) (ps : List Position) : Type 0 where
  pub row : StretchRow
  pub at : head_at (stretch_rows t.board homes a ps) a ≡ Some row
  pub pays : 0 + cost_to_head t.board homes ps + sleep_cost t.board ≤ row.cost

pub first_row : (t : Sheet) (homes : Homes) (a : ℕ) (ps : List Position) → FirstHas ps → FirstRow t homes a ps
first_row t homes a [] h = absurd h
first_row t homes a (p ∷ ps) h = by p.has_head h
  where
    with_head : Bool → Position
    with_head c = record { op = p.op; target = p.target; has_head = c }

    by : (c : Bool) → c ≡ true → FirstRow t homes a (with_head c ∷ ps)
    by true e = record {
      row = row_of t homes (with_head true) ps a;
      at = row_first (λ (r : StretchRow). r.head) (row_of t homes (with_head true) ps a) (stretch_rows t.board homes (a + bytes_at homes (with_head true)) ps) a refl;
      pays = omega arith;
    }
    by false e = absurd (let no : false ≡ true = e in cc)

-- the function begins with it
pub start_fine : (rows : List StretchRow) (f : Function) (row : StretchRow) → f.flat ≡ None → head_at rows f.start ≡ Some row → first_of (start_fault rows) (f ∷ []) ≡ None
start_fine rows f row split at =
    both _ _ (ap (λ o. unless (not (is_none o) || is_some (head_at rows f.start)) Head f.start (pos f.start) (pos 0)) split ∙ ap (λ o. unless (is_some o) Head f.start (pos f.start) (pos 0)) at) refl

-- ---- The image of a graph

grouped : (xs : List Block) (y z : Block) → (xs ++ y ∷ []) ++ z ∷ [] ≡ xs ++ y ∷ z ∷ []
grouped [] y z = refl
grouped (x ∷ xs) y z = ap (λ l. x ∷ l) (grouped xs y z)

module _ (b : Board) (heads : ℕ → Bool) (g : Graph) (rules : IsGraph g) (few : data_bytes g ≤ most_data) (room : code_words heads g ≤ 0x3FC0) where
  abbrev code : List Instr
  code = chosen_code 9 (pieces (fram_template g) heads g)

  abbrev gate_block : Block
  gate_block = record { start = 0x1800; bytes = bytes_of (1 ∷ 0x8024 ∷ 0x8000 ∷ []) }

  abbrev code_block : Block
  code_block = record { start = 0x8000; bytes = bytes_of (flat_map words_of (boot ++ code)) }

  abbrev vector_block : Block
  vector_block = record { start = 0xFFFE; bytes = bytes_of (0x8000 ∷ []) }

  ascends : Ascend 0 (graph_blocks heads g)
  ascends = are_images heads g rules few room

  gate_words : HoldsWords (graph_blocks heads g) 0x1800 (1 ∷ 0x8024 ∷ 0x8000 ∷ [])
  gate_words k w e = word_of_block 0 [] 0x1800 (1 ∷ 0x8024 ∷ 0x8000 ∷ []) (data_blocks g ++ code_block ∷ vector_block ∷ []) ascends k w e

  vector_word : word_in (graph_blocks heads g) 0xFFFE ≡ Some 0x8000
  vector_word =
      let same = grouped (data_blocks g) code_block vector_block in
      subst (λ xs. word_in (gate_block ∷ xs) 0xFFFE ≡ Some 0x8000) same
      (word_of_block 0 (gate_block ∷ (data_blocks g ++ code_block ∷ [])) 0xFFFE (0x8000 ∷ []) [] (subst (λ xs. Ascend 0 (gate_block ∷ xs)) (sym same) ascends) 0 0x8000 refl)

  boot_holds : HoldsWords (graph_blocks heads g) 0x8000 boot_words
  boot_holds k w e = all_words b heads g rules few room k w (get_first boot_words (flat_map words_of code) k w e)

  pub boot_fine : boot_fault (graph_blocks heads g) (whole b heads g rules few room ∷ []) ≡ None
  boot_fine =
      both _ _ (words_stand (graph_blocks heads g) Boot 0x8000 boot_words boot_holds)
      (both _ _ (word_stands (graph_blocks heads g) Boot 0xFFFE 0x8000 vector_word)
      (both _ _ (word_stands (graph_blocks heads g) Boot 0x1800 1 (gate_words 0 1 refl))
      (both _ _ (word_stands (graph_blocks heads g) Boot 0x1802 0x8024 (gate_words 1 0x8024 refl))
      (both _ _ (word_stands (graph_blocks heads g) Boot 0x1804 0x8000 (gate_words 2 0x8000 refl)) refl))))

  ends_there : end_of code_block ≡ 0x8012 + bytes_of_all (fram_homes g) (positions heads g)
  ends_there =
      let long = bytes-length (flat_map words_of (boot ++ code)) in
      let sized = size_is (boot ++ code) in
      let parts = size-append boot code in
      let same = ap (λ is. size_of is) (code_is b heads g rules few room) in
      let bytes = behind_is 0x8012 (code_from (fram_homes g) 0x8012 (positions heads g)) in
      let twice = twice_size (code_from (fram_homes g) 0x8012 (positions heads g)) in
      let ends = code_ends_at (fram_homes g) 0x8012 (positions heads g) in
      omega (arith, long, sized, parts, same, bytes, twice, ends)

  some_code : 0 < length (bytes_of (flat_map words_of (boot ++ code)))
  some_code =
      let long = bytes-length (flat_map words_of (boot ++ code)) in
      let sized = size_is (boot ++ code) in
      let parts = size-append boot code in
      omega (arith, long, sized, parts)

  ends_code : code_end (graph_blocks heads g) ≡ Some (0x8012 + bytes_of_all (fram_homes g) (positions heads g))
  ends_code = code_ends 0 (gate_block ∷ data_blocks g) code_block (vector_block ∷ []) ascends refl some_code ∙ ap (λ n. Some n) ends_there

  pub functions_fine : nat_lt 0x8012 (0x8012 + bytes_of_all (fram_homes g) (positions heads g)) ≡ true → functions_fault (code_end (graph_blocks heads g)) (whole b heads g rules few room ∷ []) ≡ None
  functions_fine some =
      let end' = 0x8012 + bytes_of_all (fram_homes g) (positions heads g) in
      both _ _ (ap (λ c. option_or (unless c Order 0x8012 (pos 0x8012) (pos end')) None) some)
      (both _ _ refl (both _ _ (ap (λ o. unless (is_number o end') Order 0x8012 (pos end') (shown o)) ends_code ∙ ap (λ c. unless c Order 0x8012 (pos end') (pos end')) (eq_is end' end' refl)) refl))
