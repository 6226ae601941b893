-- Boxes that supplies were loaded into, and what a run leaves of them.
use Rattle.std.proofs.Common.{◌≡◌, ◌≢◌, ◌∙◌, ◌+◌, ◌≤◌, ◌++◌, ℕ, List, [], ◌∷◌, Option, Result, Ok, Err, MatchResult, true, false, refl, sym, ap, ap₂, length, length-append, append-nil, map, take, drop, get_or, set, zero, suc, arith}
use Rattle.std.specs.List.{flat_map}
use Rattle.std.specs.Result.{is_err}
use Rattle.std.proofs.Math.Seq.{map-set_same, take-append_seam}
use Rattle.std.proofs.lemmas.Grind.{flat_map-append}
use Rattle.std.proofs.lemmas.List.{length-map, map-append, map-set, take-map}
use Rattle.msp430_machine.specs.declared.answer.Refill.{Refill}
use Rattle.msp430_machine.specs.State.{State}
use Rattle.supply_trace.specs.Boxes.{all_rows}
use Rattle.supplied_run.specs.Shown.{AreLeft, FrontCounts, Shows}
use Rattle.supplied_run.specs.declared.end.End.TheVariants as end
use Rattle.job_files.specs.Stores.{Seen}
use Rattle.job_files.specs.Text.{Text}
use Rattle.run_job.specs.Boxes.{Box, BoxRose, box_of, boxes_seen, faults_of, loaded, rows_left}
use Rattle.run_job.specs.Ends.{IsOpened}
use Rattle.run_job.specs.Opening.{joined}
use Rattle.run_job.specs.Run.{Run}
use Rattle.run_job.specs.Running.{RunHolds, SpellEach}

-- ---- As many rows as supplies

pub spell_number : (texts : List Text) (rows : List (List Refill)) → SpellEach texts rows → length rows ≡ length texts
spell_number [] [] h = refl
spell_number (text ∷ texts) (r ∷ rows) h = let more = spell_number texts rows h.1 in omega (arith, more)
spell_number [] (r ∷ rows) h = absurd h
spell_number (text ∷ texts) [] h = absurd h

pub supplies_number : (job : Run) (old new : Seen) (before : List Box) (held : RunHolds) (first : State) → IsOpened job old new before held first → length held.rows ≡ length job.supplies
supplies_number job old new before held first h = spell_number h.texts.supplies held.rows h.are_held.rows ∙ h.number

-- ---- Counts

-- loading changes no count
pub loaded_faults : (boxes : List Box) (rows : List (List Refill)) → map faults_of (loaded boxes rows) ≡ map faults_of (take (length rows) boxes)
loaded_faults boxes [] = refl
loaded_faults [] (r ∷ rows) = refl
loaded_faults (b ∷ boxes) (r ∷ rows) = ap (λ l. b.faults ∷ l) (loaded_faults boxes rows)

map_join : (xs : List Box) (y : Box) (ys : List Box) → map faults_of (xs ++ y ∷ ys) ≡ map faults_of xs ++ y.faults ∷ map faults_of ys
map_join [] y ys = refl
map_join (x ∷ xs) y ys = ap (λ l. x.faults ∷ l) (map_join xs y ys)

pub front_rose : (count : ℕ) (before : List Box) (rows : List (List Refill)) (left : List Box) → length rows ≡ count → left ≢ []
    → AreLeft faults_of (FrontCounts (Ok end.SupplyFault)) (loaded before rows) left → BoxRose count before left
front_rose count before rows [] n some h = absurd (some refl)
front_rose count before rows (front ∷ behind) n some h = record {
  dropped = map faults_of h.dropped;
  entry = h.entry.faults;
  is =
      ap (λ k. map faults_of (take k before)) (sym n)
      ∙ sym (loaded_faults before rows)
      ∙ ap (map faults_of) h.is
      ∙ map_join h.dropped h.entry behind;
  rose = h.count.1;
}

-- a run that a supply stopped leaves a box
pub left_some : (limit : ℕ) (before : List Box) (held : RunHolds) (left : List Box) {rows : List Refill} {first : State} {old new : Option Text}
    → Shows held.board held.input limit first rows (all_rows rows_left left) (Ok end.SupplyFault) old new → left ≢ []
left_some limit before held left h = λ none. h.puts.0.1 (ap (all_rows rows_left) none)

-- a box that holds no rows changes nothing of the rows
pub same_rows : {B R : Type 0} (xs ys : List B) (b : B) (rows : B → List R) → ys ≡ xs ++ b ∷ [] → rows b ≡ [] → flat_map rows ys ≡ flat_map rows xs
same_rows xs ys b rows e none = ap (flat_map rows) e ∙ flat_map-append rows xs (b ∷ []) ∙ ap (λ l. flat_map rows xs ++ (l ++ [])) none ∙ append-nil (flat_map rows xs)

-- ---- Loading one box after another

abbrev pub with_rows : List Refill → Box → Box
with_rows more b = box_of (b.rows ++ more) b.faults

-- the rows of one more supply are loaded
pub loaded_next : (boxes : List Box) (rows : List (List Refill)) (more : List Refill) (d : Box)
    → set (loaded boxes rows ++ drop (length rows) boxes) (length rows) (with_rows more (get_or (loaded boxes rows ++ drop (length rows) boxes) (length rows) d))
    ≡ loaded boxes (rows ++ more ∷ []) ++ drop (suc (length rows)) boxes
loaded_next [] [] more d = refl
loaded_next [] (r ∷ rows) more d = refl
loaded_next (b ∷ boxes) [] more d = refl
loaded_next (b ∷ boxes) (r ∷ rows) more d = ap (λ l. box_of (b.rows ++ r) b.faults ∷ l) (loaded_next boxes rows more d)

pub nothing_loaded : (boxes : List Box) → boxes ≡ loaded boxes [] ++ drop 0 boxes
nothing_loaded boxes = refl

-- what was loaded of the boxes, where the further ones are dropped
pub all_loaded : (boxes now : List Box) (rows : List (List Refill)) (n : ℕ) → n ≡ length rows → length rows ≤ length boxes
    → now ≡ loaded boxes rows ++ drop n boxes → take n now ≡ loaded boxes rows
all_loaded boxes now rows n e most is =
    ap (λ l. take n l) is ∙ ap (λ k. take k (loaded boxes rows ++ drop n boxes)) (e ∙ sym (loaded_number boxes rows most)) ∙ take-append_seam (loaded boxes rows) (drop n boxes)
  where
    loaded_number : (boxes : List Box) (rows : List (List Refill)) → length rows ≤ length boxes → length (loaded boxes rows) ≡ length rows
    loaded_number boxes [] h = refl
    loaded_number [] (r ∷ rows) h = absurd (omega (arith, h))
    loaded_number (b ∷ boxes) (r ∷ rows) h = let more = loaded_number boxes rows (omega (arith, h)) in omega (arith, more)

-- ---- Boxes as they are seen

module _ {B : Type 0} (rows : B → List Refill) (faults : B → ℕ) where
  pub seen_rows : (boxes : List B) → all_rows rows_left (boxes_seen rows faults boxes) ≡ all_rows rows boxes
  seen_rows [] = refl
  seen_rows (b ∷ boxes) = ap (λ l. rows b ++ l) (seen_rows boxes)

  seen_join : (xs : List B) (y : B) (ys : List B) → boxes_seen rows faults (xs ++ y ∷ ys) ≡ boxes_seen rows faults xs ++ box_of (rows y) (faults y) ∷ boxes_seen rows faults ys
  seen_join [] y ys = refl
  seen_join (x ∷ xs) y ys = ap (λ l. box_of (rows x) (faults x) ∷ l) (seen_join xs y ys)

  pub seen_left : (Counts : ℕ → ℕ → Type 0) (before left : List B) → AreLeft faults Counts before left
      → AreLeft faults_of Counts (boxes_seen rows faults before) (boxes_seen rows faults left)
  seen_left Counts before [] h = tt
  seen_left Counts before (front ∷ behind) h = record {
    dropped = boxes_seen rows faults h.dropped;
    entry = box_of (rows h.entry) (faults h.entry);
    is = ap (boxes_seen rows faults) h.is ∙ seen_join h.dropped h.entry behind;
    count = h.count;
  }

  view_same : (b c : B) → rows c ≡ rows b → faults c ≡ faults b → box_of (rows c) (faults c) ≡ box_of (rows b) (faults b)
  view_same b c r f = ap₂ box_of r f

  seen_at : (boxes : List B) (i : ℕ) (d : B) → get_or (boxes_seen rows faults boxes) i (box_of (rows d) (faults d)) ≡ box_of (rows (get_or boxes i d)) (faults (get_or boxes i d))
  seen_at [] zero d = refl
  seen_at [] (suc i) d = refl
  seen_at (b ∷ boxes) zero d = refl
  seen_at (b ∷ boxes) (suc i) d = seen_at boxes i d

  -- one more box was loaded
  pub next_loaded : (entry mid : List B) (b c : B) (i : ℕ) (done : List (List Refill)) (more : List Refill) → i ≡ length done
      → b ≡ get_or mid i b → rows c ≡ rows b ++ more → faults c ≡ faults b
      → boxes_seen rows faults mid ≡ loaded (boxes_seen rows faults entry) done ++ drop (length done) (boxes_seen rows faults entry)
      → boxes_seen rows faults (set mid i c) ≡ loaded (boxes_seen rows faults entry) (done ++ more ∷ []) ++ drop (suc (length done)) (boxes_seen rows faults entry)
  next_loaded entry mid b c i done more e is r f so_far =
      let view = λ (x : B). box_of (rows x) (faults x) in
      let boxes : List Box = boxes_seen rows faults entry in
      let here : get_or (boxes_seen rows faults mid) i (view b) ≡ view b = seen_at mid i b ∙ ap view (sym is) in
      let new : view c ≡ with_rows more (get_or (boxes_seen rows faults mid) i (view b)) = ap₂ box_of r f ∙ ap (with_rows more) (sym here) in
      map-set view mid i c
      ∙ ap (λ x. set (boxes_seen rows faults mid) i x) new
      ∙ ap (λ l. set l i (with_rows more (get_or l i (view b)))) so_far
      ∙ ap (λ k. set (loaded boxes done ++ drop (length done) boxes) k (with_rows more (get_or (loaded boxes done ++ drop (length done) boxes) k (view b)))) e
      ∙ loaded_next boxes done more (view b)

  -- a box that couldn't be loaded holds what it held
  pub not_loaded : (mid : List B) (b c : B) (i : ℕ) → b ≡ get_or mid i b → rows c ≡ rows b → faults c ≡ faults b → boxes_seen rows faults (set mid i c) ≡ boxes_seen rows faults mid
  not_loaded mid b c i is r f =
      let view = λ (x : B). box_of (rows x) (faults x) in
      map-set_same view mid i c b (ap₂ box_of r f ∙ ap view is)

  -- the boxes that supplies were loaded into, where those behind them were dropped
  pub kept_loaded : {V : Type 0} (before mid now : List B) (given : List V) (f : V → List Refill) (n : ℕ) → n ≡ length given → length given ≤ length before
      → boxes_seen rows faults mid ≡ loaded (boxes_seen rows faults before) (map f given) ++ drop (length given) (boxes_seen rows faults before)
      → now ≡ take n mid → boxes_seen rows faults now ≡ loaded (boxes_seen rows faults before) (map f given)
  kept_loaded before mid now given f n e most is cut =
      let view = λ (x : B). box_of (rows x) (faults x) in
      let boxes : List Box = boxes_seen rows faults before in
      let number = length-map given f in
      let seen = length-map before view in
      ap (boxes_seen rows faults) cut
      ∙ sym (take-map view n mid)
      ∙ all_loaded boxes (boxes_seen rows faults mid) (map f given) n (e ∙ sym number) (omega (arith, most, number, seen))
      (is ∙ ap (λ k. loaded boxes (map f given) ++ drop k boxes) (sym e))

-- ---- Few rows

pub rows_number : (boxes : List Box) (rows : List (List Refill)) → length (all_rows rows_left (loaded boxes rows)) ≤ length (all_rows rows_left boxes) + length (joined rows)
rows_number boxes [] = omega arith
rows_number [] (r ∷ rows) = omega arith
rows_number (b ∷ boxes) (r ∷ rows) =
    let more = rows_number boxes rows in
    let left = length-append (b.rows ++ r) (all_rows rows_left (loaded boxes rows)) in
    let here = length-append b.rows r in
    let all = length-append b.rows (all_rows rows_left boxes) in
    let both = length-append r (joined rows) in
    omega (arith, more, left, here, all, both)

-- ---- Loops

pub ok_of : {T E : Type 0} (r : Result T E) (P Q : Type 0) → is_err r ≡ false → MatchResult r (λ x. P) (λ x. Q) → P
ok_of (Ok x) P Q e h = h
ok_of (Err y) P Q e h = absurd (let no : true ≡ false = e in cc)

pub err_of : {T E : Type 0} (r : Result T E) (P Q : Type 0) → is_err r ≡ true → MatchResult r (λ x. P) (λ x. Q) → Q
err_of (Ok x) P Q e h = absurd (let no : false ≡ true = e in cc)
err_of (Err y) P Q e h = h

-- the rows so far are those that were yielded
pub as_yielded : {V : Type 0} (boxes : List Box) (yielded : List V) (x : V) (f : V → List Refill) (l : List Box)
    → l ≡ loaded boxes (map f yielded ++ f x ∷ []) ++ drop (suc (length (map f yielded))) boxes
    → l ≡ loaded boxes (map f (yielded ++ x ∷ [])) ++ drop (length (map f (yielded ++ x ∷ []))) boxes
as_yielded boxes yielded x f l e =
    let both = length-append (map f yielded) (f x ∷ []) in
    let more : map f (yielded ++ x ∷ []) ≡ map f yielded ++ f x ∷ [] = map-append f yielded (x ∷ []) in
    let count : suc (length (map f yielded)) ≡ length (map f (yielded ++ x ∷ [])) = (let n = ap length more in omega (arith, n, both)) in
    e ∙ ap₂ (λ r n. loaded boxes r ++ drop n boxes) (sym more) count
