-- What cells hold behind a text, and why a reader stops in one.
use Rattle.std.proofs.Common.{◌≡◌, ℕ, ◌+◌, ◌≤◌, ◌<◌, ⊎_elim, List, [], ◌∷◌, length, get_or, Some, None, Err, sym, ap, ◌∙◌, arith, subst}
use Rattle.std.specs.Option.{option_or}
use Rattle.ti_txt.specs.Grammar.{EndsEarly, Faulty}
use Rattle.ti_txt.specs.Spots.{Cells, Keeps, Loaded, advanced}
use Rattle.ti_txt.specs.declared.fault.TxtFault.{TxtFault}
use Rattle.ti_txt.specs.declared.spot.Spot.{Spot}
use Rattle.ti_txt.specs.declared.spot.Spot.TheVariants.{Before, Ended}
use Rattle.ti_txt.proofs.Lex.{lex, stands}
use Rattle.ti_txt.proofs.Run.{go_on, run}
use Rattle.ti_txt.proofs.Simulates.{Simulates, Stood, Stopped, simulates}
use Rattle.ti_txt.proofs.Sound.{done_of, is_text}
use Rattle.ti_txt.proofs.Verdict.{end_fault, ends_early, faulty_from, verdict_of}

pub stopped_verdict : (text : List ℕ) (f : TxtFault) → Stopped [] (lex 0 Before text) f → verdict_of text ≡ Some f
stopped_verdict text f h = ⊎_elim (λ e. ap (λ o. option_or o (end_fault (length text) (lex 0 Before text).ending)) e)
    (λ e. ap (λ o. option_or o (end_fault (length text) (lex 0 Before text).ending)) e.3 ∙ (ap (end_fault (length text)) e.2 ∙ ap Some (sym e.1))) h

-- A reader that stops within a text answers its fault.
pub stops_within : (text rest : List ℕ) (start cells : Cells) (at : ℕ) (spot : Spot) (f : TxtFault) → Keeps start [] → 1 ≤ length rest
    → run at spot cells rest ≡ run 0 Before start text → advanced at spot (get_or rest 0 0) cells ≡ Err f → Faulty text f
stops_within text [] start cells at spot f k some way e = absurd (omega (arith, some))
stops_within text (b ∷ rest) start cells at spot f k some way e =
    let all : run 0 Before start text ≡ Err f = sym way ∙ ap (go_on (λ s c. run (at + 1) s c rest)) e in
    faulty_from text f (stopped_verdict text f (subst (Simulates [] (lex 0 Before text)) all (simulates text 0 Before start [] k)))

-- A reader that comes to the end of a text.
pub comes_through : (text rest : List ℕ) (start cells : Cells) (at : ℕ) (spot : Spot) → Keeps start [] → length rest < 1
    → run at spot cells rest ≡ run 0 Before start text → Stood [] (lex 0 Before text) spot cells
comes_through text [] start cells at spot k none way = subst (Simulates [] (lex 0 Before text)) (sym way) (simulates text 0 Before start [] k)
comes_through text (b ∷ rest) start cells at spot k none way = absurd (omega (arith, none))

pub loads : (text : List ℕ) (cells : Cells) (spot : Spot) → Stood [] (lex 0 Before text) spot cells → spot ≡ Ended → Loaded text cells
loads text cells spot h e = record {
  puts = (lex 0 Before text).puts;
  written = is_text 0 None text (lex 0 Before text).puts (done_of (lex 0 Before text) (h.ending ∙ ap stands e));
  good = h.good;
  keeps = h.keeps;
}

pub too_short : (text : List ℕ) (cells : Cells) (spot : Spot) (at : ℕ) → Stood [] (lex 0 Before text) spot cells → (spot ≡ Ended → ⊥) → at ≡ length text → EndsEarly text at
too_short text cells spot at h going place = subst (EndsEarly text) (sym place) (ends_early text spot going h.ending h.good)
