-- What one event comes to, in a run that stands at a core.
use Rattle.std.proofs.Common.{◌≡◌, ◌≢◌, ◌∙◌, ◌+◌, ◌-◌, ◌*◌, ◌<◌, ◌≤◌, ◌++◌, ℕ, Bool, true, false, List, [], ◌∷◌, refl, sym, ap, subst, append-nil, length, arith, replicate}
use Rattle.std.specs.Prelude.{◌==◌, if◌then◌else◌, slice_index, slice_set}
use Rattle.std.proofs.lemmas.Bool.Decides.{Decides-eqb}
use Rattle.std.proofs.lemmas.Bool.{cases_Bool}
use Rattle.std.proofs.lemmas.List.{get_or-replicate, get_or-set_other, get_or_past, length-replicate}
use Rattle.board_table.specs.declared.board.Board.{Board}
use Rattle.msp430_machine.specs.declared.answer.Did.{Did}
use Rattle.msp430_machine.specs.declared.answer.Did.TheVariants.{Ran, Out, Slept, Ended as DidEnd, Trapped as DidTrap, Short, Fault}
use Rattle.msp430_machine.specs.declared.answer.Refill.{Refill}
use Rattle.msp430_machine.specs.State.{Phase, Off, Awake, Asleep, Ended, Trapped, Faulted, State}
use Rattle.msp430_machine.specs.Steps.{stepped}
use Rattle.msp430_machine.specs.Views.{Cells, state_of, refilled, refilled_from, cold_cells}
use Rattle.msp430_machine.specs.Wakes.{CanWake}
use Rattle.power_core.specs.declared.device.Event.{Event as Asked}
use Rattle.power_core.specs.declared.device.Event.TheVariants.{Go as AskGo, Wake as AskWake}
use Rattle.power_core.specs.declared.device.Seen.{Seen}
use Rattle.power_core.specs.declared.device.Seen.TheVariants.{Done, Woke, NotNow}
use Rattle.power_core.specs.Cores.{CoreView, Counts, StepsOn, WasPossible, went, woke, seen, gone_on, left as left_by, counted, counted_if, is_executed, words_of_step, words_told}
use Rattle.supplied_run.specs.declared.end.End.{End}
use Rattle.supplied_run.specs.declared.end.End.TheVariants as end
use Rattle.supplied_run.specs.declared.turn.Turn.{Turn}
use Rattle.supplied_run.specs.declared.turn.Turn.TheVariants.{On, Puts, Stops}
use Rattle.supplied_run.specs.Rows.{HoldsJunk, LeavesJunk, IsRunning, IsDue, EndsAs}
use Rattle.supplied_run.specs.Turns.{Stands, Then, TurnCounts, Turns, one_if_awake, turn_by_trap, turn_of, words_of, work}
use Rattle.supplied_run.proofs.Phases.{Tells, step_tells}
use Rattle.supplied_run.proofs.Reaching.{stand_on}

-- ---- A step

words_by_trap : (c : Bool) (n : ℕ) → [] ≡ words_of (if c then Stops end.PowerFault else Stops (end.Trapped n))
words_by_trap true n = refl
words_by_trap false n = refl

told_words : (did : Did) → words_of_step did ≡ words_of (turn_of did)
told_words (Ran n) = refl
told_words (Out v) = refl
told_words Slept = refl
told_words (DidEnd v) = refl
told_words (DidTrap v) = words_by_trap (v == 4) v
told_words (Short n k) = refl
told_words (Fault pc why) = refl

awake_most : (p : Phase) → one_if_awake p ≤ 1
awake_most Off = omega arith
awake_most Awake = omega arith
awake_most Asleep = omega arith
awake_most (Ended w) = omega arith
awake_most (Trapped n) = omega arith
awake_most (Faulted why) = omega arith

-- an instruction more
less_by_one : (limit i j : ℕ) (rows : List Refill) (p q : Phase) → i < limit → j ≡ i + 1 → p ≡ Awake
    → (limit - j) + 2 * length rows + one_if_awake q < (limit - i) + 2 * length rows + one_if_awake p
less_by_one limit i j rows p q below e awake =
    let one : one_if_awake p ≡ 1 = ap one_if_awake awake in
    omega (arith, below, e, one, awake_most q)

-- a cut
less_by_cut : (limit i j : ℕ) (rows : List Refill) (p q : Phase) → j ≡ i → p ≡ Awake → q ≡ Off
    → (limit - j) + 2 * length rows + one_if_awake q < (limit - i) + 2 * length rows + one_if_awake p
less_by_cut limit i j rows p q e awake off =
    let one : one_if_awake p ≡ 1 = ap one_if_awake awake in
    let none : one_if_awake q ≡ 0 = ap one_if_awake off in
    omega (arith, e, one, none)

trap_ends : (limit : ℕ) (n : ℕ) (c : Bool) (rows : List Refill) (old new : CoreView) → (n == 4) ≡ c → new.machine.phase ≡ Trapped n
    → Then limit (if c then Stops end.PowerFault else Stops (end.Trapped n)) rows old rows new
trap_ends limit n true rows old new is trapped = trapped ∙ ap (λ (m : ℕ). Trapped m) ((Decides-eqb n 4).0 is)
trap_ends limit n false rows old new is trapped = (trapped, (λ (e : n ≡ 4). let same : (n == 4) ≡ true = (Decides-eqb n 4).1 e in cc))

step_then : (limit : ℕ) (did : Did) (spent : ℕ) (rows : List Refill) (old new : CoreView) → old.machine.phase ≡ Awake → old.counts.instructions < limit
    → new.counts ≡ counted (Done did) spent old.counts → Tells did (state_of new.machine) → Then limit (turn_of did) rows old rows new
step_then limit (Ran n) spent rows old new awake below counts tells =
    (tells, less_by_one limit old.counts.instructions new.counts.instructions rows old.machine.phase new.machine.phase below (ap (λ c. c.instructions) counts) awake)
step_then limit (Out v) spent rows old new awake below counts tells =
    (tells, less_by_one limit old.counts.instructions new.counts.instructions rows old.machine.phase new.machine.phase below (ap (λ c. c.instructions) counts) awake)
step_then limit Slept spent rows old new awake below counts tells = (
  subst (λ (p : Phase). IsRunning p) (sym tells) tt,
  less_by_one limit old.counts.instructions new.counts.instructions rows old.machine.phase new.machine.phase below (ap (λ c. c.instructions) counts) awake,
)
step_then limit (Short n k) spent rows old new awake below counts tells = (
  subst (λ (p : Phase). IsRunning p) (sym tells) tt,
  less_by_cut limit old.counts.instructions new.counts.instructions rows old.machine.phase new.machine.phase (ap (λ c. c.instructions) counts) awake tells,
)
step_then limit (DidEnd v) spent rows old new awake below counts tells = tells
step_then limit (DidTrap v) spent rows old new awake below counts tells = trap_ends limit v (v == 4) rows old new refl tells
step_then limit (Fault pc why) spent rows old new awake below counts tells = tells

counted_charges : (e : Bool) (spent : ℕ) (c : Counts) → (counted_if e spent c).charges ≡ c.charges
counted_charges true spent c = refl
counted_charges false spent c = refl

counted_most : (e : Bool) (spent : ℕ) (c : Counts) → (counted_if e spent c).instructions ≤ c.instructions + 1
counted_most true spent c = omega arith
counted_most false spent c = omega arith

stepped_turn : (b : Board) (input : List ℕ) (limit : ℕ) (rows : List Refill) (old new : CoreView) (did : Did)
    → did ≡ (stepped b input (state_of old.machine)).answer
    → old.machine.phase ≡ Awake → old.counts.instructions < limit → state_of new.machine ≡ (stepped b input (state_of old.machine)).state
    → new.counts ≡ counted (Done did) (stepped b input (state_of old.machine)).spent old.counts
    → StepsOn b input AskGo (Done did) old new → Turns b input limit (turn_of did) rows old rows new
stepped_turn b input limit rows old new did is awake below state counts on =
    let o = stepped b input (state_of old.machine) in
    let told : Tells o.answer o.state = step_tells b input (state_of old.machine) awake in
    let tells : Tells did (state_of new.machine) = subst (λ (s : State). Tells did s) (sym state) (subst (λ (d : Did). Tells d o.state) (sym is) told) in
    let charges : new.counts.charges ≡ old.counts.charges = ap (λ c. c.charges) counts ∙ counted_charges (is_executed did) o.spent old.counts in
    let most = counted_most (is_executed did) o.spent old.counts in
    let same : new.counts.instructions ≡ (counted_if (is_executed did) o.spent old.counts).instructions = ap (λ c. c.instructions) counts in
    record {
      goes = λ first all put at. subst (λ (ws : List ℕ). Stands b input limit first all rows (put ++ ws) new) (told_words did)
          (stand_on b input limit AskGo (Done did) old new rows rows on tt below tt refl first all put at);
      behind = step_then limit did o.spent rows old new awake below counts tells;
      charges = omega (arith, charges);
      within = omega (arith, most, same, below);
    }

awake_of : (p : Phase) (did answer : Did) → Done did ≡ went p answer → (p ≡ Awake) × (did ≡ answer)
awake_of Awake did answer e = (refl, cc)
awake_of Off did answer e = cc
awake_of Asleep did answer e = cc
awake_of (Ended v) did answer e = cc
awake_of (Trapped v) did answer e = cc
awake_of (Faulted why) did answer e = cc

gone_awake : (b : Board) (input : List ℕ) (p : Phase) (s : State) → p ≡ Awake → gone_on b input p s ≡ (stepped b input s).state
gone_awake b input p s e = subst (λ (q : Phase). gone_on b input q s ≡ (stepped b input s).state) (sym e) refl

-- a step was taken
pub go_turn : (b : Board) (input : List ℕ) (limit : ℕ) (rows : List Refill) (old new : CoreView) (told : Seen) (did : Did) → told ≡ Done did
    → old.counts.instructions < limit → told ≡ seen b input AskGo (state_of old.machine) → state_of new.machine ≡ left_by b input AskGo old.machine
    → new.counts ≡ counted told (stepped b input (state_of old.machine)).spent old.counts → StepsOn b input AskGo told old new
    → Turns b input limit (turn_of did) rows old rows new
go_turn b input limit rows old new told did is below says state counts on =
    let s = state_of old.machine in
    let both = awake_of old.machine.phase did (stepped b input s).answer (sym is ∙ says) in
    stepped_turn b input limit rows old new did both.1 both.0 below (state ∙ gone_awake b input old.machine.phase s both.0)
    (subst (λ (x : Seen). new.counts ≡ counted x (stepped b input s).spent old.counts) is counts)
    (subst (λ (x : Seen). StepsOn b input AskGo x old new) is on)

-- ---- No step could be taken: a wake is due.

waits_by : (p : Phase) (answer : Did) (told : Seen) → IsRunning p → told ≡ went p answer → ((did : Did) → told ≢ Done did) → CanWake p
waits_by Off answer told runs is none = tt
waits_by Asleep answer told runs is none = tt
waits_by Awake answer told runs is none = none answer is
waits_by (Ended v) answer told runs is none = runs
waits_by (Trapped v) answer told runs is none = runs
waits_by (Faulted why) answer told runs is none = runs

pub waits : (b : Board) (input : List ℕ) (old : CoreView) (told : Seen) → IsRunning old.machine.phase → told ≡ seen b input AskGo (state_of old.machine)
    → ((did : Did) → told ≢ Done did) → CanWake old.machine.phase
waits b input old told runs is none = waits_by old.machine.phase (stepped b input (state_of old.machine)).answer told runs is none

not_now_by : (p : Phase) (answer : Did) → CanWake p → went p answer ≡ NotNow
not_now_by Off answer can = refl
not_now_by Asleep answer can = refl
not_now_by Awake answer can = absurd can
not_now_by (Ended v) answer can = absurd can
not_now_by (Trapped v) answer can = absurd can
not_now_by (Faulted why) answer can = absurd can

pub not_now : (b : Board) (input : List ℕ) (old : CoreView) (told : Seen) → told ≡ seen b input AskGo (state_of old.machine) → CanWake old.machine.phase → told ≡ NotNow
not_now b input old told is can = is ∙ not_now_by old.machine.phase (stepped b input (state_of old.machine)).answer can

still : (b : Board) (input : List ℕ) (limit : ℕ) (first : State) (all rows : List Refill) (put : List ℕ) (core : CoreView)
    → Stands b input limit first all rows put core → Stands b input limit first all rows (put ++ []) core
still b input limit first all rows put core at = subst (λ (p : List ℕ). Stands b input limit first all rows p core) (sym (append-nil put)) at

-- no event: the run ends here
pub stops : (b : Board) (input : List ℕ) (limit : ℕ) (e : End) (rows : List Refill) (core : CoreView)
    → EndsAs limit (state_of core.machine) core.counts.instructions rows e → core.counts.instructions ≤ limit → Turns b input limit (Stops e) rows core rows core
stops b input limit e rows core ends within = record {
  goes = λ first all put at. still b input limit first all rows put core at;
  behind = ends;
  charges = refl;
  within = within;
}

-- the same, where the rows are those that an asked bench left
pub stops_at : (b : Board) (input : List ℕ) (limit : ℕ) (e : End) (rows left : List Refill) (core : CoreView) → left ≡ rows
    → EndsAs limit (state_of core.machine) core.counts.instructions left e → core.counts.instructions ≤ limit → Turns b input limit (Stops e) rows core left core
stops_at b input limit e rows left core same ends within =
    subst (λ (l : List Refill). Turns b input limit (Stops e) l core left core) same (stops b input limit e left core ends within)

-- ---- A wake

woken_awake : (p : Phase) (row : Refill) (m : Cells) → CanWake p → (refilled_from p row m).phase ≡ Awake
woken_awake Off row m can = refl
woken_awake Asleep row m can = pick row.keep
  where
    pick : (k : Bool) → (if k then record m { phase = Awake; charge = row.amount } else cold_cells row m).phase ≡ Awake
    pick true = refl
    pick false = refl
woken_awake Awake row m can = absurd can
woken_awake (Ended v) row m can = absurd can
woken_awake (Trapped v) row m can = absurd can
woken_awake (Faulted why) row m can = absurd can

junk_register : (junk v r : ℕ) → 0 < r → r < 16 → slice_index (slice_set (replicate 16 junk) 0 v) r ≡ junk
junk_register junk v r above below =
    let other : r ≢ 0 = omega (arith, above) in
    get_or-set_other (replicate 16 junk) 0 r v 0 other ∙ get_or-replicate 16 r junk 0 below

junk_word : (junk k : ℕ) → k < 1024 → slice_index (replicate 1024 junk) k ≡ junk
junk_word junk k below = get_or-replicate 1024 k junk 0 below

no_register : (junk v r : ℕ) → 16 ≤ r → slice_index (slice_set (replicate 16 junk) 0 v) r ≡ 0
no_register junk v r above =
    let other : r ≢ 0 = omega (arith, above) in
    get_or-set_other (replicate 16 junk) 0 r v 0 other ∙ get_or_past (replicate 16 junk) r 0 (omega (arith, above, length-replicate 16 junk))

cold_junk : (row : Refill) (m : Cells) → HoldsJunk row.junk (state_of (cold_cells row m))
cold_junk row m = record {
  registers = λ r above below. junk_register row.junk (slice_index m.code 16383) r above below;
  sram = λ k below. junk_word row.junk k below;
  no_more_registers = λ r above. no_register row.junk (slice_index m.code 16383) r above;
  no_more_sram = λ k above. get_or_past (replicate 1024 row.junk) k 0 (omega (arith, above, length-replicate 1024 row.junk));
}

wake_junk : (p : Phase) (k : Bool) (row : Refill) (m : Cells) → row.keep ≡ k → woke p k ≡ Woke true → HoldsJunk row.junk (state_of (refilled_from p row m))
wake_junk Off k row m is cold = cold_junk row m
wake_junk Asleep true row m is cold = absurd (let no : Woke false ≡ Woke true = cold in cc)
wake_junk Asleep false row m is cold =
    subst (λ (c : Bool). HoldsJunk row.junk (state_of (if c then record m { phase = Awake; charge = row.amount } else cold_cells row m))) (sym is) (cold_junk row m)
wake_junk Awake k row m is cold = absurd (let no : NotNow ≡ Woke true = cold in cc)
wake_junk (Ended v) k row m is cold = absurd (let no : NotNow ≡ Woke true = cold in cc)
wake_junk (Trapped v) k row m is cold = absurd (let no : NotNow ≡ Woke true = cold in cc)
wake_junk (Faulted why) k row m is cold = absurd (let no : NotNow ≡ Woke true = cold in cc)

woke_by : (p : Phase) (k : Bool) → CanWake p → (cold : Bool) × (woke p k ≡ Woke cold)
woke_by Off k can = (true, refl)
woke_by Asleep true can = (false, refl)
woke_by Asleep false can = (true, refl)
woke_by Awake k can = absurd can
woke_by (Ended v) k can = absurd can
woke_by (Trapped v) k can = absurd can
woke_by (Faulted why) k can = absurd can

not_awake : (p : Phase) → CanWake p → one_if_awake p ≡ 0
not_awake Off can = refl
not_awake Asleep can = refl
not_awake Awake can = absurd can
not_awake (Ended v) can = absurd can
not_awake (Trapped v) can = absurd can
not_awake (Faulted why) can = absurd can

-- a wake by the first row
pub wake_turn : (b : Board) (input : List ℕ) (limit : ℕ) (row : Refill) (rows left : List Refill) (old new : CoreView) (told : Seen)
    → CanWake old.machine.phase → old.counts.instructions < limit → rows ≡ row ∷ left
    → told ≡ seen b input (AskWake row) (state_of old.machine) → state_of new.machine ≡ left_by b input (AskWake row) old.machine
    → new.counts ≡ counted told (stepped b input (state_of old.machine)).spent old.counts → StepsOn b input (AskWake row) told old new
    → Turns b input limit On rows old left new
wake_turn b input limit row rows left old new told can below takes says state counts on =
    let w = woke_by old.machine.phase row.keep can in
    let is : told ≡ Woke w.0 = says ∙ w.1 in
    let counts_now : new.counts ≡ counted (Woke w.0) (stepped b input (state_of old.machine)).spent old.counts =
    subst (λ (x : Seen). new.counts ≡ counted x (stepped b input (state_of old.machine)).spent old.counts) is counts in
    let on_now = subst (λ (x : Seen). StepsOn b input (AskWake row) x old new) is on in
    let awake : new.machine.phase ≡ Awake = ap (λ (s : State). s.phase) state ∙ woken_awake old.machine.phase row old.machine can in
    let junk : LeavesJunk (AskWake row) (state_of old.machine) (state_of new.machine) =
    (λ (cold : woke old.machine.phase row.keep ≡ Woke true). subst (λ (s : State). HoldsJunk row.junk s) (sym state) (wake_junk old.machine.phase row.keep row old.machine refl cold)) in
    let charges : new.counts.charges ≡ old.counts.charges + 1 = ap (λ c. c.charges) counts_now in
    let instructions : new.counts.instructions ≡ old.counts.instructions = ap (λ c. c.instructions) counts_now in
    let count : length rows ≡ length left + 1 = (let e = ap (λ (l : List Refill). length l) takes in omega (arith, e)) in
    let one : one_if_awake new.machine.phase ≡ 1 = ap one_if_awake awake in
    let none = not_awake old.machine.phase can in
    record {
      goes = λ first all put at. stand_on b input limit (AskWake row) (Woke w.0) old new rows left on_now tt below junk takes first all put at;
      behind = (subst (λ (p : Phase). IsRunning p) (sym awake) tt, omega (arith, instructions, count, one, none));
      charges = omega (arith, charges, count);
      within = omega (arith, instructions, below);
    }

-- what is left where a row is left
pub some_left : (rows left : List Refill) (row : Refill) → rows ≡ row ∷ left → rows ≢ []
some_left rows left row e = λ (none : rows ≡ []). let no : row ∷ left ≡ [] = sym e ∙ none in cc

-- the same at an equal turn, and at an equal core
pub turns_as : (b : Board) (input : List ℕ) (limit : ℕ) (turn same : Turn) (rows left : List Refill) (old new : CoreView) → turn ≡ same
    → Turns b input limit same rows old left new → Turns b input limit turn rows old left new
turns_as b input limit turn same rows left old new e h = subst (λ (t : Turn). Turns b input limit t rows old left new) (sym e) h

pub turns_from : (b : Board) (input : List ℕ) (limit : ℕ) (turn : Turn) (rows left : List Refill) (old mid new : CoreView) → mid ≡ old
    → Turns b input limit turn rows mid left new → Turns b input limit turn rows old left new
turns_from b input limit turn rows left old mid new e h = subst (λ (k : CoreView). Turns b input limit turn rows k left new) e h

quiet_by_trap : (c : Bool) (n x y : ℕ) → y ≡ x → TurnCounts (if c then Stops end.PowerFault else Stops (end.Trapped n)) x y
quiet_by_trap true n x y e = e
quiet_by_trap false n x y e = e

-- no step asks a box
pub quiet : (did : Did) (turn : Turn) → turn ≡ turn_of did → (x y : ℕ) → y ≡ x → TurnCounts turn x y
quiet did turn is x y e = subst (λ (t : Turn). TurnCounts t x y) (sym is) (here did)
  where
    here : (did : Did) → TurnCounts (turn_of did) x y
    here (Ran n) = e
    here (Out v) = e
    here Slept = e
    here (DidEnd v) = e
    here (DidTrap v) = quiet_by_trap (v == 4) v x y e
    here (Short n k) = e
    here (Fault pc why) = e
