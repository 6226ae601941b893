-- What asking one box after another comes to.
use Rattle.std.proofs.Common.{◌≡◌, ◌∙◌, ◌++◌, ℕ, List, [], ◌∷◌, Option, Some, None, option_to_list, refl, sym, ap, length, arith, suc}
use Rattle.msp430_machine.specs.declared.answer.Refill.{Refill}
use Rattle.supply_trace.specs.declared.supply.Given.{Given}
use Rattle.supply_trace.specs.declared.supply.Given.TheVariants.{Row, Ended, Failed}
use Rattle.supply_trace.specs.Supplies.{TakesRow}
use Rattle.supply_trace.specs.Boxes.{AsksFront, all_rows, unended, unended_or}

pub nothing : {B : Type 0} (boxes : List B) → length boxes ≡ 0 → boxes ≡ []
nothing [] e = refl
nothing (b ∷ behind) e = absurd (let more : suc (length behind) ≡ 0 = e in omega (arith, more))

-- rows behind those of the box that is asked
behind_too : (given : Given) (row : Refill) (rows now more : List Refill)
    → TakesRow given (row ∷ rows) now → TakesRow given ((row ∷ rows) ++ more) (now ++ more)
behind_too (Row r) row rows now more h = ap (λ l. l ++ more) h
behind_too Ended row rows now more h = absurd (let e : row ∷ rows ≡ [] = h.0 in cc)
behind_too Failed row rows now more h = ap (λ l. l ++ more) h

-- where no row is left, only the end is answered
ended_only : (given : Given) (now : List Refill) → TakesRow given [] now → given ≡ Ended
ended_only (Row r) now h = absurd (let e : [] ≡ r ∷ now = h in cc)
ended_only Ended now h = refl
ended_only Failed now h = absurd h

module _ {B : Type 0} (rows : B → List Refill) (faults : B → ℕ) where
  taken_here : (given : Given) (b : B) (behind : List B) (left : List Refill) → rows b ≡ left → (now : List B)
      → ((now : List B) → AsksFront rows faults given (unended rows behind) now → TakesRow given (all_rows rows behind) (all_rows rows now))
      → AsksFront rows faults given (unended_or rows left (b ∷ behind) (unended rows behind)) now
      → TakesRow given (left ++ all_rows rows behind) (all_rows rows now)
  taken_here given b behind [] e now later h = later now h
  taken_here given b behind (row ∷ more) e [] later h = absurd h
  taken_here given b behind (row ∷ more) e (c ∷ others) later h =
      let first : TakesRow given (row ∷ more) (rows c) = rw e at h.1 in
      rw h.0 (behind_too given row more (rows c) (all_rows rows behind) first)

  -- a bench takes the first of all rows left
  pub taken : (given : Given) (before now : List B)
      → AsksFront rows faults given (unended rows before) now → TakesRow given (all_rows rows before) (all_rows rows now)
  taken given [] now h = rw (h.0, h.1) (refl, refl)
  taken given (b ∷ behind) now h = taken_here given b behind (rows b) refl now (taken given behind) h

  none_here : (b : B) (behind : List B) (left : List Refill) → left ≡ [] → unended_or rows left (b ∷ behind) (unended rows behind) ≡ unended rows behind
  none_here b behind left e = rw e refl

  -- a box that has ended may be dropped
  pub dropped : (before now rest : List B) (front : Option B) → AsksFront rows faults Ended before now → now ≡ option_to_list front ++ rest → unended rows rest ≡ unended rows before
  dropped [] now rest None h e = ap (unended rows) (sym e ∙ h.1)
  dropped [] now rest (Some x) h e = absurd (let no : [] ≡ x ∷ rest = sym h.1 ∙ e in cc)
  dropped (b ∷ behind) [] rest front h e = absurd h
  dropped (b ∷ behind) (c ∷ others) rest None h e =
      ap (unended rows) (sym e) ∙ none_here c others (rows c) h.1.1 ∙ ap (unended rows) h.0 ∙ sym (none_here b behind (rows b) h.1.0)
  dropped (b ∷ behind) (c ∷ others) rest (Some x) h e =
      let same : others ≡ rest = cc in
      ap (unended rows) (sym same ∙ h.0) ∙ sym (none_here b behind (rows b) h.1.0)

  asked_here : (given : Given) (b : B) (behind now : List B) (left : List Refill) → rows b ≡ left → (given ≡ Ended → ⊥)
      → AsksFront rows faults given (b ∷ behind) now → AsksFront rows faults given (unended_or rows left (b ∷ behind) (unended rows behind)) now
  asked_here given b behind [] [] e n h = absurd h
  asked_here given b behind (c ∷ others) [] e n h =
      let none : TakesRow given [] (rows c) = rw e at h.1 in
      absurd (n (ended_only given (rows c) none))
  asked_here given b behind now (row ∷ more) e n h = h

  -- a box that hasn't ended is the first that has a row left
  pub asked : (given : Given) (before now : List B) → (given ≡ Ended → ⊥)
      → AsksFront rows faults given before now → AsksFront rows faults given (unended rows before) now
  asked given [] now n h = absurd (n h.0)
  asked given (b ∷ behind) now n h = asked_here given b behind now (rows b) refl n h

  -- no box is left
  pub all_ended : (before now : List B) → unended rows now ≡ unended rows before → now ≡ [] → AsksFront rows faults Ended (unended rows before) now
  all_ended before now same none =
      let empty : unended rows before ≡ [] = sym same ∙ ap (unended rows) none in
      rw (empty, none) (refl, refl)
