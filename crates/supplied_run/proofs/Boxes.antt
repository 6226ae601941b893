-- Boxes that are asked, one behind another.
use Rattle.std.proofs.Common.{◌≡◌, ◌∙◌, ◌≤◌, ◌++◌, ℕ, List, [], ◌∷◌, refl, sym, ap, subst, append_assoc, arith}
use Rattle.msp430_machine.specs.declared.answer.Refill.{Refill}
use Rattle.supply_trace.specs.declared.supply.Given.{Given}
use Rattle.supply_trace.specs.Supplies.{CountsFault}
use Rattle.supply_trace.specs.Boxes.{AsksFront, unended, unended_or}
use Rattle.supplied_run.specs.Shown.{AreLast, AreLeft}

module _ {B : Type 0} (faults : B → ℕ) where
  -- nothing was asked
  pub same_boxes : (boxes : List B) → AreLeft faults (λ a b. b ≡ a) boxes boxes
  same_boxes [] = tt
  same_boxes (b ∷ behind) = record { dropped = []; entry = b; is = refl; count = refl }

  -- boxes that were left of those that were left
  pub left_on : (Counts : ℕ → ℕ → Type 0) (before mid now : List B) → AreLeft faults (λ a b. b ≡ a) before mid → AreLeft faults Counts mid now → AreLeft faults Counts before now
  left_on Counts before mid [] first second = tt
  left_on Counts before [] (c ∷ behind) first second = absurd (none second.dropped second.is)
    where
      none : (dropped : List B) → [] ≡ dropped ++ second.entry ∷ behind → ⊥
      none [] e = cc
      none (d ∷ ds) e = cc
  left_on Counts before (m ∷ others) (c ∷ behind) first second = by second.dropped second.is
    where
      by : (dropped : List B) → m ∷ others ≡ dropped ++ second.entry ∷ behind → AreLast faults Counts before c behind
      by [] e =
          let front : m ≡ second.entry = cc in
          let rest : others ≡ behind = cc in
          record {
            dropped = first.dropped;
            entry = first.entry;
            is = first.is ∙ ap (λ l. first.dropped ++ first.entry ∷ l) rest;
            count = subst (λ (n : ℕ). Counts n (faults c)) (ap faults (sym front) ∙ first.count) second.count;
          }
      by (d ∷ ds) e =
          let rest : others ≡ ds ++ second.entry ∷ behind = cc in
          record {
            dropped = first.dropped ++ first.entry ∷ ds;
            entry = second.entry;
            is = first.is ∙ ap (λ l. first.dropped ++ first.entry ∷ l) rest ∙ sym (append_assoc first.dropped (first.entry ∷ ds) (second.entry ∷ behind));
            count = second.count;
          }

  pub left_as : (Counts Others : ℕ → ℕ → Type 0) → ((a b : ℕ) → Counts a b → Others a b) → (before now : List B) → AreLeft faults Counts before now → AreLeft faults Others before now
  left_as Counts Others f before [] h = tt
  left_as Counts Others f before (c ∷ behind) h = record { dropped = h.dropped; entry = h.entry; is = h.is; count = f _ _ h.count }

  module _ (rows : B → List Refill) where
    behind_more : (Counts : ℕ → ℕ → Type 0) (b : B) (before now : List B) → AreLeft faults Counts before now → AreLeft faults Counts (b ∷ before) now
    behind_more Counts b before [] h = tt
    behind_more Counts b before (c ∷ behind) h = record { dropped = b ∷ h.dropped; entry = h.entry; is = ap (λ l. b ∷ l) h.is; count = h.count }

    asked_here : (given : Given) (b : B) (behind : List B) (left : List Refill) (now : List B)
        → ((now : List B) → AsksFront rows faults given (unended rows behind) now → AreLeft faults (λ x y. CountsFault given x y) behind now)
        → AsksFront rows faults given (unended_or rows left (b ∷ behind) (unended rows behind)) now → AreLeft faults (λ x y. CountsFault given x y) (b ∷ behind) now
    asked_here given b behind [] now later h = behind_more (λ x y. CountsFault given x y) b behind now (later now h)
    asked_here given b behind (row ∷ more) [] later h = tt
    asked_here given b behind (row ∷ more) (c ∷ others) later h = record { dropped = []; entry = b; is = ap (λ l. b ∷ l) (sym h.0); count = h.2 }

    -- The front box that has a row left was asked.
    pub asked_left : (given : Given) (before now : List B) → AsksFront rows faults given (unended rows before) now → AreLeft faults (λ x y. CountsFault given x y) before now
    asked_left given [] now h = rw h.1 tt
    asked_left given (b ∷ behind) now h = asked_here given b behind (rows b) now (asked_left given behind) h
