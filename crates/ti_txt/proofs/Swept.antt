-- The blocks of a row of cells are those of an image, and hold what the cells do.
use Rattle.std.proofs.Common.{◌≡◌, ℕ, zero, suc, ◌+◌, ◌-◌, ◌≤◌, ◌<◌, ◌⊎◌, inl, inr, ⊎_elim, List, [], ◌∷◌, ◌++◌, length, map, length-append, append-nil, Option, Some, None, refl, sym, ap, ◌∙◌, arith, true, subst}
use Rattle.std.specs.Prelude.{◌&&◌, IsSome, nat_le, nat_lt, slice_get, if◌then◌else◌}
use Rattle.std.proofs.lemmas.Bool.{and_from, and_left, and_right, and_parts, or_cases, leb-true, le-leb, lt-leb, lt-ltb, le-ltb, cases_lt}
use Rattle.ti_txt.specs.Bytes.{byte_in}
use Rattle.ti_txt.specs.Grammar.{is_mapped}
use Rattle.ti_txt.specs.Image.{Ascend, Block, IsLoadable, end_of}
use Rattle.ti_txt.specs.Spots.{Cells, cell_of}
use Rattle.ti_txt.specs.Sweep.{closed, sweep}

-- within and outside of the first block
pub in_block : (b : Block) (rest : List Block) (a : ℕ) → b.start ≤ a → a < end_of b → byte_in (b ∷ rest) a ≡ slice_get b.bytes (a - b.start)
in_block b rest a low high =
    let t : (nat_le b.start a && nat_lt a (end_of b)) ≡ true = and_from (nat_le b.start a) (nat_lt a (end_of b)) (le-leb b.start a low) (lt-ltb a (end_of b) high) in
    ap (λ c. if c then slice_get b.bytes (a - b.start) else byte_in rest a) t

pub below_block : (b : Block) (rest : List Block) (a : ℕ) → a < b.start → byte_in (b ∷ rest) a ≡ byte_in rest a
below_block b rest a low =
    ap (λ c. if c then slice_get b.bytes (a - b.start) else byte_in rest a) (and_left (nat_le b.start a) (nat_lt a (end_of b)) (lt-leb b.start a low))

pub above_block : (b : Block) (rest : List Block) (a : ℕ) → end_of b ≤ a → byte_in (b ∷ rest) a ≡ byte_in rest a
above_block b rest a high =
    ap (λ c. if c then slice_get b.bytes (a - b.start) else byte_in rest a) (and_right (nat_le b.start a) (nat_lt a (end_of b)) (le-ltb a (end_of b) high))

abbrev pub Mapped : ℕ → Type 0
Mapped a = ((0x1800 ≤ a) × (a ≤ 0x19FF)) ⊎ ((0x4400 ≤ a) × (a ≤ 0xFFFF))

pub mapped : (a : ℕ) → is_mapped a ≡ true → Mapped a
mapped a e = ⊎_elim
    (λ h. let p = and_parts (nat_le 0x1800 a) (nat_le a 0x19FF) h in inl (leb-true 0x1800 a p.0, leb-true a 0x19FF p.1))
    (λ h. let p = and_parts (nat_le 0x4400 a) (nat_le a 0xFFFF) h in inr (leb-true 0x4400 a p.0, leb-true a 0xFFFF p.1))
    (or_cases (nat_le 0x1800 a && nat_le a 0x19FF) (nat_le 0x4400 a && nat_le a 0xFFFF) e)

first_loadable : (a : ℕ) → Mapped a → IsLoadable a (a + 1)
first_loadable a m = ⊎_elim {C = IsLoadable a (a + 1)} (λ h. (omega (arith, h), omega (arith, h), λ k. omega (arith, h))) (λ h. (omega (arith, h), omega (arith, h), λ k. omega (arith, h, k))) m

more_loadable : (start a : ℕ) → start < a → IsLoadable start a → Mapped a → IsLoadable start (a + 1)
more_loadable start a some l m = ⊎_elim {C = IsLoadable start (a + 1)}
    (λ h. (l.0, omega (arith, h), λ k. omega (arith, h)))
    (λ h. (l.0, omega (arith, h), λ k. let low : a ≤ 0x1A00 = l.2 k in omega (arith, h, low))) m

-- what holds of the bytes before an address that are still to be closed
abbrev Opened : ℕ → ℕ → List ℕ → Type 0
Opened start address bytes = (address ≡ start + length bytes) × (start < address → IsLoadable start address)

opened_more : (start address b : ℕ) (bytes : List ℕ) → Opened start address bytes → Mapped address → Opened start (address + 1) (bytes ++ b ∷ [])
opened_more start address b bytes h m = (
  omega (arith, h.0, length-append bytes (b ∷ [])),
  λ some. ⊎_elim {C = IsLoadable start (address + 1)}
      (λ l. more_loadable start address l (h.1 l) m)
      (λ g. let same : start ≡ address = omega (arith, h.0, g) in subst (λ s. IsLoadable s (address + 1)) (sym same) (first_loadable address m)) (cases_lt start address),
)

closed_ascends : (low start address : ℕ) (bytes : List ℕ) (more : List Block) → low ≤ start → Opened start address bytes
    → ((next : ℕ) → next ≤ address + 1 → Ascend next more) → Ascend low (closed address bytes ++ more)
closed_ascends low start address [] more h o rest = rest low (omega (arith, h, o.0))
closed_ascends low start address (b ∷ bytes) more h o rest =
    let same : address - length (b ∷ bytes) ≡ start = omega (arith, o.0) in
    let some : start < address = omega (arith, o.0) in
    let end : start + length (b ∷ bytes) ≡ address = omega (arith, o.0) in (
      omega (arith, h, same),
      omega arith,
      subst (λ s. IsLoadable s (s + length (b ∷ bytes))) (sym same) (subst (IsLoadable start) (sym end) (o.1 some)),
      rest (address - length (b ∷ bytes) + length (b ∷ bytes) + 1) (omega (arith, same, end)),
    )

mapped_on : (address : ℕ) (c : Option ℕ) (rest : Cells) → ((k : ℕ) → IsSome (cell_of (c ∷ rest) k) → Mapped (address + k)) → (k : ℕ) → IsSome (cell_of rest k) → Mapped (address + 1 + k)
mapped_on address c rest m k s = let e : address + suc k ≡ address + 1 + k = omega arith in subst Mapped e (m (suc k) s)

pub ascends : (cells : Cells) (low start address : ℕ) (bytes : List ℕ) → low ≤ start → Opened start address bytes
    → ((k : ℕ) → IsSome (cell_of cells k) → Mapped (address + k)) → Ascend low (sweep address bytes cells)
ascends [] low start address bytes h o m = subst (Ascend low) (append-nil (closed address bytes)) (closed_ascends low start address bytes [] h o (λ next g. tt))
ascends (None ∷ rest) low start address bytes h o m =
    closed_ascends low start address bytes (sweep (address + 1) [] rest) h o
    (λ next g. ascends rest next (address + 1) (address + 1) [] g (omega arith, λ none. absurd (omega (arith, none))) (mapped_on address None rest m))
ascends (Some b ∷ rest) low start address bytes h o m =
    let e : address + 0 ≡ address = omega arith in
    ascends rest low start (address + 1) (bytes ++ b ∷ []) h (opened_more start address b bytes o (subst Mapped e (m 0 refl))) (mapped_on address (Some b) rest m)

abbrev block_before : ℕ → List ℕ → Block
block_before address bytes = record { start = address - length bytes; bytes = bytes }

-- below the bytes that are open
closed_below : (start address : ℕ) (bytes : List ℕ) (more : List Block) (a : ℕ) → address ≡ start + length bytes → a < start → byte_in (closed address bytes ++ more) a ≡ byte_in more a
closed_below start address [] more a e h = refl
closed_below start address (b ∷ bytes) more a e h = below_block (block_before address (b ∷ bytes)) more a (omega (arith, e, h))

closed_within : (start address : ℕ) (bytes : List ℕ) (more : List Block) (k : ℕ) → address ≡ start + length bytes → k < length bytes → byte_in (closed address bytes ++ more) (start + k) ≡ slice_get bytes k
closed_within start address [] more k e h = absurd (omega (arith, h))
closed_within start address (b ∷ bytes) more k e h =
    let same : start + k - (address - length (b ∷ bytes)) ≡ k = omega (arith, e) in
    in_block (block_before address (b ∷ bytes)) more (start + k) (omega (arith, e)) (omega (arith, e, h)) ∙ ap (slice_get (b ∷ bytes)) same

closed_above : (start address : ℕ) (bytes : List ℕ) (more : List Block) (k : ℕ) → address ≡ start + length bytes → length bytes ≤ k → byte_in (closed address bytes ++ more) (start + k) ≡ byte_in more (start + k)
closed_above start address [] more k e h = refl
closed_above start address (b ∷ bytes) more k e h = above_block (block_before address (b ∷ bytes)) more (start + k) (omega (arith, e, h))

nothing_below : (cells : Cells) (start address : ℕ) (bytes : List ℕ) (a : ℕ) → address ≡ start + length bytes → a < start → byte_in (sweep address bytes cells) a ≡ None
nothing_below [] start address bytes a e h = ap (λ bs. byte_in bs a) (sym (append-nil (closed address bytes))) ∙ closed_below start address bytes [] a e h
nothing_below (None ∷ rest) start address bytes a e h =
    closed_below start address bytes (sweep (address + 1) [] rest) a e h ∙ nothing_below rest (address + 1) (address + 1) [] a (omega arith) (omega (arith, e, h))
nothing_below (Some b ∷ rest) start address bytes a e h = nothing_below rest start (address + 1) (bytes ++ b ∷ []) a (omega (arith, e, length-append bytes (b ∷ []))) h

front_cell : (bytes : List ℕ) (cells : Cells) (k : ℕ) → k < length bytes → slice_get bytes k ≡ cell_of (map Some bytes ++ cells) k
front_cell [] cells k h = absurd (omega (arith, h))
front_cell (b ∷ bytes) cells zero h = refl
front_cell (b ∷ bytes) cells (suc k) h = front_cell bytes cells k (omega (arith, h))

later_cell : (bytes : List ℕ) (cells : Cells) (j : ℕ) → cell_of cells j ≡ cell_of (map Some bytes ++ cells) (length bytes + j)
later_cell [] cells j = let e : j ≡ 0 + j = omega arith in ap (cell_of cells) e
later_cell (b ∷ bytes) cells j = let e : suc (length bytes + j) ≡ length (b ∷ bytes) + j = omega arith in later_cell bytes cells j ∙ ap (cell_of (Some b ∷ map Some bytes ++ cells)) e

cell_none : (j : ℕ) → None ≡ cell_of [] j
cell_none j = refl

gone_on : (bytes : List ℕ) (b : ℕ) (rest : Cells) → map Some (bytes ++ b ∷ []) ++ rest ≡ map Some bytes ++ Some b ∷ rest
gone_on [] b rest = refl
gone_on (x ∷ bytes) b rest = ap (λ cs. Some x ∷ cs) (gone_on bytes b rest)

-- behind the bytes that are open, at a cell that may have a byte
at_gap : (rest : Cells) (start address : ℕ) (bytes : List ℕ) (k j : ℕ) → address ≡ start + length bytes → k ≡ length bytes + j
    → ((i : ℕ) → byte_in (sweep (address + 1) [] rest) (address + 1 + i) ≡ cell_of rest i)
    → byte_in (sweep (address + 1) [] rest) (start + k) ≡ cell_of (None ∷ rest) j
at_gap rest start address bytes k zero e f ih = nothing_below rest (address + 1) (address + 1) [] (start + k) (omega arith) (omega (arith, e, f))
at_gap rest start address bytes k (suc i) e f ih =
    let g : start + k ≡ address + 1 + i = omega (arith, e, f) in ap (byte_in (sweep (address + 1) [] rest)) g ∙ ih i

-- Each byte of a swept row is that of its cell.
pub swept : (cells : Cells) (start address : ℕ) (bytes : List ℕ) (k : ℕ) → address ≡ start + length bytes → byte_in (sweep address bytes cells) (start + k) ≡ cell_of (map Some bytes ++ cells) k
swept [] start address bytes k e = ap (λ bs. byte_in bs (start + k)) (sym (append-nil (closed address bytes))) ∙ ⊎_elim
    (λ h. closed_within start address bytes [] k e h ∙ front_cell bytes [] k h)
    (λ h. let f : length bytes + (k - length bytes) ≡ k = omega (arith, h) in
    closed_above start address bytes [] k e h ∙ (later_cell bytes [] (k - length bytes) ∙ ap (cell_of (map Some bytes ++ [])) f))
    (cases_lt k (length bytes))
swept (None ∷ rest) start address bytes k e = ⊎_elim
    (λ h. closed_within start address bytes (sweep (address + 1) [] rest) k e h ∙ front_cell bytes (None ∷ rest) k h)
    (λ h. let f : length bytes + (k - length bytes) ≡ k = omega (arith, h) in
    closed_above start address bytes (sweep (address + 1) [] rest) k e h
    ∙ (at_gap rest start address bytes k (k - length bytes) e (sym f) (λ i. swept rest (address + 1) (address + 1) [] i (omega arith))
    ∙ (later_cell bytes (None ∷ rest) (k - length bytes) ∙ ap (cell_of (map Some bytes ++ None ∷ rest)) f)))
    (cases_lt k (length bytes))
swept (Some b ∷ rest) start address bytes k e =
    swept rest start (address + 1) (bytes ++ b ∷ []) k (omega (arith, e, length-append bytes (b ∷ []))) ∙ ap (λ cs. cell_of cs k) (gone_on bytes b rest)
