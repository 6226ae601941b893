-- Supplies that are read one behind another.
use Rattle.std.proofs.Common.{◌≡◌, ◌≤◌, ◌<◌, ◌+◌, ◌*◌, ◌++◌, ℕ, List, [], ◌∷◌, length, length-append, map, refl, sym, ap, subst, append-nil, arith, Option, Some, None}
use Rattle.std.specs.List.{cons_option}
use Rattle.std.proofs.lemmas.List.{length-map}
use Rattle.std.proofs.lemmas.List.Splits.{length-slice_split}
use Rattle.std.proofs.lemmas.List.Sums.{count_by-le-length}
use Rattle.msp430_machine.specs.declared.answer.Refill.{Refill}
use Rattle.supply_trace.specs.Rows.{SpellsRows, is_feed, lines_of, row_of, rows_of}
use Rattle.job_files.specs.Text.{Text}
use Rattle.run_job.specs.Opening.{AreFew, AreShort, joined}
use Rattle.run_job.specs.Running.{IsBadSupply, SpellEach}

-- Of all the texts the first were read as these rows, and the rest is still to be read.
pub record IsSpelled (names texts names_left texts_left : List Text) (rows : List (List Refill)) : Type 0 where
  pub spells : (more : List (List Refill)) → SpellEach texts_left more → SpellEach texts (rows ++ more)
  pub bad : (name : Text) (at : ℕ) → IsBadSupply names_left texts_left name at → IsBadSupply names texts name at
  pub number : length names_left ≡ length texts_left

pub spelled_all : (names texts names_left texts_left : List Text) (rows : List (List Refill)) → IsSpelled names texts names_left texts_left rows → texts_left ≡ [] → SpellEach texts rows
spelled_all names texts names_left texts_left rows g e =
    subst (SpellEach texts) (append-nil rows) (g.spells [] (subst (λ l. SpellEach l []) (sym e) tt))

-- ---- Few rows

one_more_at_most : (o : Option Refill) (rows : List Refill) (n : ℕ) → length rows ≤ n → length (cons_option o rows) ≤ n + 1
one_more_at_most None rows n h = omega (arith, h)
one_more_at_most (Some row) rows n h = omega (arith, h)

filtered_most : (lines : List (List ℕ)) → length (rows_of lines) ≤ length lines
filtered_most [] = omega arith
filtered_most (l ∷ lines) = let more = one_more_at_most (row_of l) (rows_of lines) (length lines) (filtered_most lines) in omega (arith, more)

pub rows_few : (text : Text) (rows : List Refill) → SpellsRows text rows → length rows ≤ length text + 1
rows_few text rows h =
    let most = filtered_most (lines_of text) in
    let lines = length-slice_split is_feed text in
    let feeds = count_by-le-length is_feed text in
    let same = ap length h.1 in
    omega (arith, most, lines, feeds, same)

pub all_few : (texts : List Text) (rows : List (List Refill)) → AreShort texts → SpellEach texts rows → AreFew rows
all_few [] [] short h = tt
all_few (text ∷ texts) (r ∷ rows) short h =
    (let most = rows_few text r h.0 in let len = short.0 in omega (arith, most, len), all_few texts rows short.1 h.1)
all_few [] (r ∷ rows) short h = absurd h
all_few (text ∷ texts) [] short h = absurd h

pub joined_few : (rows : List (List Refill)) → AreFew rows → length (joined rows) ≤ 4194305 * length rows
joined_few [] h = omega arith
joined_few (r ∷ rows) h =
    let more = joined_few rows h.1 in
    let here = h.0 in
    let both = length-append r (joined rows) in
    omega (arith, more, here, both)

-- ---- Names and texts in slices

module _ {S V R : Type 0} (now : S → Text) (items : V → Text) (rows : R → List Refill) (names texts : List Text) where
  -- no text is left
  pub spelled_texts : (ns : List S) (ts : List V) (all : List R) → length ts < 1 → IsSpelled names texts (map now ns) (map items ts) (map rows all) → SpellEach texts (map rows all)
  spelled_texts ns [] all none g = spelled_all names texts (map now ns) [] (map rows all) g refl
  spelled_texts ns (t ∷ ts) all none g = absurd (omega (arith, none))

  -- nor a name
  pub spelled_names : (ns : List S) (ts : List V) (all : List R) → length ns < 1 → IsSpelled names texts (map now ns) (map items ts) (map rows all) → SpellEach texts (map rows all)
  spelled_names ns ts all none g =
      let ns_number = length-map ns now in
      let ts_number = length-map ts items in
      let same = g.number in
      spelled_texts ns ts all (omega (arith, none, ns_number, ts_number, same)) g
