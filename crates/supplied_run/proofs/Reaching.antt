-- How a run on rows goes on by one event.
use Rattle.std.proofs.Common.{◌≡◌, ◌∙◌, ◌+◌, ◌<◌, ◌++◌, ℕ, List, [], ◌∷◌, refl, sym, ap, subst, append_assoc, append-nil, length, drop, arith}
use Rattle.std.proofs.lemmas.Grind.{common_steps}
use Rattle.board_table.specs.declared.board.Board.{Board}
use Rattle.msp430_machine.specs.declared.answer.Did.{Did}
use Rattle.msp430_machine.specs.declared.answer.Did.TheVariants.{Ran, Out, Slept, Ended as DidEnd, Trapped as DidTrap, Short, Fault}
use Rattle.msp430_machine.specs.declared.answer.Refill.{Refill}
use Rattle.msp430_machine.specs.State.{State}
use Rattle.msp430_machine.specs.Steps.{stepped}
use Rattle.msp430_machine.specs.Views.{state_of}
use Rattle.power_core.specs.declared.device.Event.{Event as Asked}
use Rattle.power_core.specs.declared.device.Event.TheVariants.{Go as AskGo, Wake as AskWake}
use Rattle.power_core.specs.declared.device.Seen.{Seen}
use Rattle.power_core.specs.Runs.{Trail, start, Step, with_answer, after_go}
use Rattle.power_core.specs.Cores.{CoreView, WasPossible, StepsOn, event_of, counts_of, words_told}
use Rattle.supplied_run.specs.Rows.{LeavesJunk, Emulates, rows_in, Reaches}
use Rattle.supplied_run.specs.Turns.{Stands}

rows_append : (xs ys : List Asked) → rows_in (xs ++ ys) ≡ rows_in xs ++ rows_in ys
rows_append [] ys = refl
rows_append (AskGo ∷ xs) ys = rows_append xs ys
rows_append (AskWake row ∷ xs) ys = ap (λ l. row ∷ l) (rows_append xs ys)

emulates_more : (b : Board) (input : List ℕ) (limit : ℕ) (events : List Asked) (asked : Asked) (t m u : Trail) → Emulates b input limit t events m
    → m.instructions < limit → Step b input m (event_of asked) u → LeavesJunk asked m.state u.state → Emulates b input limit t (events ++ asked ∷ []) u
emulates_more b input limit [] asked t m u first below step junk =
    subst (λ (x : Trail). (x.instructions < limit) × ((mid : Trail) × Step b input x (event_of asked) mid × LeavesJunk asked x.state mid.state × (u ≡ mid))) first
    (below, (u, step, junk, refl))
emulates_more b input limit (e ∷ events) asked t m u first below step junk =
    (first.0, (first.1.0, first.1.1, first.1.2, emulates_more b input limit events asked first.1.0 m u first.1.3 below step junk))

-- the run goes on by this event, which takes these rows
pub stand_on : (b : Board) (input : List ℕ) (limit : ℕ) (asked : Asked) (told : Seen) (old new : CoreView) (rows left : List Refill)
    → StepsOn b input asked told old new → WasPossible told → old.counts.instructions < limit
    → LeavesJunk asked (state_of old.machine) (state_of new.machine) → rows ≡ rows_in (asked ∷ []) ++ left
    → (first : State) (all : List Refill) (put : List ℕ) → Stands b input limit first all rows put old → Stands b input limit first all left (put ++ words_told told) new
stand_on b input limit asked told old new rows left on possible below junk takes first all put at =
    let t = at.trail in
    let s = on t at.state at.counts possible in
    let below_here : t.instructions < limit = subst (λ (k : ℕ). k < limit) (sym (ap (λ c. c.instructions) at.counts)) below in
    let junk_here : LeavesJunk asked t.state s.trail.state =
    subst (λ (x : State). LeavesJunk asked x s.trail.state) (sym at.state) (subst (λ (x : State). LeavesJunk asked (state_of old.machine) x) (sym s.state) junk) in
    record {
      trail = s.trail;
      reaches = record {
        events = at.reaches.events ++ asked ∷ [];
        taken =
            at.reaches.taken
            ∙ ap (λ l. rows_in at.reaches.events ++ l) takes
            ∙ sym (append_assoc (rows_in at.reaches.events) (rows_in (asked ∷ [])) left)
            ∙ ap (λ l. l ++ left) (sym (rows_append at.reaches.events (asked ∷ [])));
        run = emulates_more b input limit at.reaches.events asked (start first) t s.trail at.reaches.run below_here s.step junk_here;
      };
      state = s.state;
      words = s.words ∙ ap (λ p. p ++ words_told told) at.words;
      counts = s.counts;
    }

-- ---- A run has as many wakes as it took rows.

answer_wakes : (did : Did) (c : ℕ) (s : State) (t : Trail) → (with_answer did c s t).wakes ≡ t.wakes
answer_wakes (Ran n) c s t = refl
answer_wakes (Out v) c s t = refl
answer_wakes Slept c s t = refl
answer_wakes (DidEnd v) c s t = refl
answer_wakes (DidTrap v) c s t = refl
answer_wakes (Short n k) c s t = refl
answer_wakes (Fault pc why) c s t = refl

go_wakes : (b : Board) (input : List ℕ) (t : Trail) → (after_go b input t).wakes ≡ t.wakes
go_wakes b input t = let o = stepped b input t.state in answer_wakes o.answer o.spent o.state t

wakes_taken : (b : Board) (input : List ℕ) (limit : ℕ) (events : List Asked) (t u : Trail) → Emulates b input limit t events u → u.wakes ≡ t.wakes + length (rows_in events)
wakes_taken b input limit [] t u run = let e : u.wakes ≡ t.wakes = ap (λ (x : Trail). x.wakes) run in omega (arith, e)
wakes_taken b input limit (AskGo ∷ events) t u run =
    let here : run.1.0.wakes ≡ t.wakes = ap (λ (x : Trail). x.wakes) run.1.1.1 ∙ go_wakes b input t in
    let rest = wakes_taken b input limit events run.1.0 u run.1.3 in
    omega (arith, here, rest)
wakes_taken b input limit (AskWake row ∷ events) t u run =
    let here : run.1.0.wakes ≡ t.wakes + 1 = ap (λ (x : Trail). x.wakes) run.1.1.1 in
    let rest = wakes_taken b input limit events run.1.0 u run.1.3 in
    omega (arith, here, rest)

drop_front : (xs ys : List Refill) (n : ℕ) → n ≡ length xs → ys ≡ drop n (xs ++ ys)
drop_front xs ys n e = grind (arith, common_steps, e)

-- the rows left are all but those of the wakes
pub left_over : (b : Board) (input : List ℕ) (limit : ℕ) (first : State) (rows left : List Refill) (t : Trail) → Reaches b input limit first rows left t → left ≡ drop t.wakes rows
left_over b input limit first rows left t r =
    let n : t.wakes ≡ length (rows_in r.events) = (let e = wakes_taken b input limit r.events (start first) t r.run in omega (arith, e)) in
    drop_front (rows_in r.events) left t.wakes n ∙ ap (λ l. drop t.wakes l) (sym r.taken)
