-- The boxes of a run: what they hold, and hold with the rows of the supplies behind.
use Rattle.std.specs.Prelude.{◌≡◌, ◌≤◌, ◌++◌, ℕ, List, [], ◌∷◌, length, map, take, drop}
use Rattle.base_io.specs.Counts.{Rose}
use Rattle.msp430_machine.specs.declared.answer.Refill.{Refill}
use Rattle.supply_trace.specs.Boxes.{all_rows}
use Rattle.job_files.specs.Answers.{Answer, no_memory}
use Rattle.job_files.specs.Text.{Text}

-- what a box holds, and its count of faults
pub record Box : Type 0 where
  pub rows : List Refill
  pub faults : ℕ

abbrev pub box_of : List Refill → ℕ → Box
box_of rows faults = record { rows = rows; faults = faults }

abbrev pub boxes_seen : {B : Type 0} → (B → List Refill) → (B → ℕ) → List B → List Box
boxes_seen rows faults boxes = map (λ b. box_of (rows b) (faults b)) boxes

abbrev pub rows_left : Box → List Refill
rows_left b = b.rows

-- The rows of each supply stand behind those that the box of its place holds; further boxes are dropped.
abbrev pub loaded : List Box → List (List Refill) → List Box
loaded boxes [] = []
loaded [] (rows ∷ more) = []
loaded (b ∷ boxes) (rows ∷ more) = box_of (b.rows ++ rows) b.faults ∷ loaded boxes more

-- the rows of a run
abbrev pub rows_with : List Box → List (List Refill) → List Refill
rows_with boxes rows = all_rows rows_left (loaded boxes rows)

-- each supply has a box, and they are 256 at most
pub record FitBoxes (supplies : List Text) (count : ℕ) : Type 0 where
  pub has_box : length supplies ≤ count
  pub few : length supplies ≤ 256

-- Rows may stand behind those that the boxes hold from the first on; each box behind these is as it was.
pub record IsPartlyLoaded (before now : List Box) : Type 0 where
  pub rows : List (List Refill)
  pub are : now ≡ loaded before rows ++ drop (length rows) before

-- what a refused run leaves of the boxes
abbrev pub LeavesBoxes : List Box → List Box → Answer → Type 0
LeavesBoxes before now no_memory = IsPartlyLoaded before now
LeavesBoxes before now a = now ≡ before

-- ---- Faults

abbrev pub faults_of : Box → ℕ
faults_of b = b.faults

-- The count of the box in front rose. The boxes at entry that are no longer there were dropped from the front.
pub record FrontRose (before : List Box) (front : Box) (behind : List Box) : Type 0 where
  pub dropped : List ℕ
  pub entry : ℕ
  pub is : map faults_of before ≡ dropped ++ entry ∷ map faults_of behind
  pub rose : Rose entry front.faults

-- The first of the boxes that are left is one of these many at entry, and its count rose.
abbrev pub BoxRose : ℕ → List Box → List Box → Type 0
BoxRose count before [] = ⊥
BoxRose count before (front ∷ behind) = FrontRose (take count before) front behind
