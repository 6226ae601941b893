-- Boxes of supplies, asked one behind another. A box is anything that has rows left and a count of faults.
use Rattle.std.specs.Prelude.{◌≡◌, ℕ, List, [], ◌∷◌, Option, Some, None, Result, Ok, Err}
use Rattle.std.specs.Global.{Global}
use Rattle.std.specs.List.{flat_map}
use Rattle.std.specs.declared.dyn_box.DynBox.{DynBox}
use Rattle.msp430_machine.specs.declared.answer.Refill.{Refill}
use Rattle.supply_trace.specs.declared.bench.Bench.{Bench}
use Rattle.supply_trace.specs.declared.supply.Given.{Given}
use Rattle.supply_trace.specs.declared.supply.Given.TheVariants.{Ended}
use Rattle.supply_trace.specs.Supplies.{CountsFault, TakesRow}

-- the boxes of a bench, the front one first
abbrev pub boxes_of : {V : Type 0} {Held : V → Type 0} → Bench V Held → List (DynBox V Global Held)
boxes_of bench = bench.boxes.items

-- The front box is taken out, if there is one.
abbrev pub TakesFront : {B : Type 0} → Option B → List B → List B → Type 0
TakesFront taken [] now = (taken ≡ None) × (now ≡ [])
TakesFront taken (front ∷ behind) now = (taken ≡ Some front) × (now ≡ behind)

-- A box takes the place of the front one, which is given back; where there is none, the box itself is.
abbrev pub ReplacesFront : {B : Type 0} → B → Result B B → List B → List B → Type 0
ReplacesFront b given [] now = (given ≡ Err b) × (now ≡ [])
ReplacesFront b given (front ∷ behind) now = (given ≡ Ok front) × (now ≡ b ∷ behind)

module _ {B : Type 0} (rows : B → List Refill) where
  -- the rows of the boxes, one box behind another
  abbrev pub all_rows : List B → List Refill
  all_rows boxes = flat_map rows boxes

  abbrev pub unended_or : List Refill → List B → List B → List B
  unended_or [] here behind = behind
  unended_or (row ∷ more) here behind = here

  -- the boxes from the first on that has a row left
  abbrev pub unended : List B → List B
  unended [] = []
  unended (b ∷ behind) = unended_or (rows b) (b ∷ behind) (unended behind)

  -- The front box is asked, and it alone changes. Where there is no box, none has a row left.
  abbrev pub AsksFront : (faults : B → ℕ) → Given → List B → List B → Type 0
  AsksFront faults given [] now = (given ≡ Ended) × (now ≡ [])
  AsksFront faults given (b ∷ behind) [] = ⊥
  AsksFront faults given (b ∷ behind) (c ∷ behind_now) =
      (behind_now ≡ behind) × TakesRow given (rows b) (rows c) × CountsFault given (faults b) (faults c)
