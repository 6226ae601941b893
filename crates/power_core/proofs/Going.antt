-- A run goes on with what a core did.
use Rattle.std.proofs.Common.{◌≡◌, ℕ, Bool, true, false, List, [], ◌∷◌, ◌++◌, refl, sym, ap, ◌∙◌, subst, append-nil}
use Rattle.board_table.specs.declared.board.Board.{Board}
use Rattle.msp430_machine.specs.declared.answer.Did.{Did}
use Rattle.msp430_machine.specs.declared.answer.Did.TheVariants.{Ran, Out, Slept, Ended as DidEnd, Trapped as DidTrap, Short, Fault}
use Rattle.msp430_machine.specs.State.{Phase, Off, Awake, Asleep, Ended, Trapped, Faulted, State}
use Rattle.msp430_machine.specs.Steps.{stepped}
use Rattle.msp430_machine.specs.Views.{state_of}
use Rattle.msp430_machine.specs.Wakes.{CanWake, Wakes}
use Rattle.msp430_machine.specs.declared.answer.Refill.{Refill}
use Rattle.power_core.specs.declared.device.Event.{Event as Asked}
use Rattle.power_core.specs.declared.device.Event.TheVariants.{Go as AskGo, Wake as AskWake}
use Rattle.power_core.specs.declared.device.Seen.{Seen}
use Rattle.power_core.specs.declared.device.Seen.TheVariants.{Done, Woke, NotNow}
use Rattle.power_core.specs.Runs.{Go, Wake, Trail, start, Run, with_answer, after_go, after_wake}
use Rattle.power_core.specs.Cores.{CoreView, WasPossible, StepsOn, went, woke, seen, gone_on, left, counts_of, counted, counted_if, is_executed, words_of_step, GoesOn}
use Rattle.power_core.proofs.Covers.{run_append}

answer_state : (did : Did) (c : ℕ) (s : State) (t : Trail) → (with_answer did c s t).state ≡ s
answer_state (Ran n) c s t = refl
answer_state (Out v) c s t = refl
answer_state Slept c s t = refl
answer_state (DidEnd v) c s t = refl
answer_state (DidTrap v) c s t = refl
answer_state (Short n k) c s t = refl
answer_state (Fault pc why) c s t = refl

answer_put : (did : Did) (c : ℕ) (s : State) (t : Trail) → (with_answer did c s t).put ≡ t.put ++ words_of_step did
answer_put (Ran n) c s t = sym (append-nil t.put)
answer_put (Out v) c s t = refl
answer_put Slept c s t = sym (append-nil t.put)
answer_put (DidEnd v) c s t = sym (append-nil t.put)
answer_put (DidTrap v) c s t = sym (append-nil t.put)
answer_put (Short n k) c s t = sym (append-nil t.put)
answer_put (Fault pc why) c s t = sym (append-nil t.put)

answer_counts : (did : Did) (c : ℕ) (s : State) (t : Trail) → counts_of (with_answer did c s t) ≡ counted_if (is_executed did) c (counts_of t)
answer_counts (Ran n) c s t = refl
answer_counts (Out v) c s t = refl
answer_counts Slept c s t = refl
answer_counts (DidEnd v) c s t = refl
answer_counts (DidTrap v) c s t = refl
answer_counts (Short n k) c s t = refl
answer_counts (Fault pc why) c s t = refl

-- ---- One event

-- nothing happened
still : (b : Board) (input : List ℕ) (asked : Asked) (told : Seen) (old new : CoreView) → told ≡ NotNow → (told ≡ NotNow → new ≡ old) → GoesOn b input asked told old new
still b input asked told old new none same =
    subst (λ x. GoesOn b input asked x old new) (sym none) (subst (λ x. GoesOn b input asked NotNow old x) (sym (same none)) (λ first events put h. record {
      trail = h.trail;
      run = subst (λ e. Run b input (start first) e h.trail) (sym (append-nil events)) h.run;
      state = h.state;
      words = h.words ∙ sym (append-nil put);
      counts = h.counts;
    }))

stepped_on : (b : Board) (input : List ℕ) (old new : CoreView) → old.machine.phase ≡ Awake → state_of new.machine ≡ (stepped b input (state_of old.machine)).state
    → new.counts ≡ counted (Done (stepped b input (state_of old.machine)).answer) (stepped b input (state_of old.machine)).spent old.counts
    → GoesOn b input AskGo (Done (stepped b input (state_of old.machine)).answer) old new
stepped_on b input old new awake state counts = λ first events put h.
    let t = h.trail in
    let o = stepped b input t.state in
    record {
      trail = after_go b input t;
      run = run_append b input events (Go ∷ []) (start first) t _ h.run (after_go b input t, (ap (λ s. s.phase) h.state ∙ awake, refl), refl);
      state = answer_state o.answer o.spent o.state t ∙ ap (λ s. (stepped b input s).state) h.state ∙ sym state;
      words =
          answer_put o.answer o.spent o.state t
          ∙ ap (λ p. p ++ words_of_step o.answer) h.words
          ∙ ap (λ s. put ++ words_of_step (stepped b input s).answer) h.state;
      counts =
          answer_counts o.answer o.spent o.state t
          ∙ ap (λ k. counted_if (is_executed o.answer) o.spent k) h.counts
          ∙ ap (λ s. counted_if (is_executed (stepped b input s).answer) (stepped b input s).spent old.counts) h.state
          ∙ sym counts;
    }

woken_on : (b : Board) (input : List ℕ) (refill : Refill) (told : Seen) (cold : Bool) (cost : ℕ) (old new : CoreView) → told ≡ Woke cold
    → Wakes refill.amount refill.keep (state_of old.machine) (state_of new.machine)
    → new.counts ≡ counted told cost old.counts
    → GoesOn b input (AskWake refill) told old new
woken_on b input refill told cold cost old new is wakes counts =
    subst (λ x. GoesOn b input (AskWake refill) x old new) (sym is) (λ first events put h.
    (let t = h.trail in
    let u = after_wake (state_of new.machine) t in
    record {
      trail = u;
      run = run_append b input events (Wake refill.amount refill.keep ∷ []) (start first) t u h.run
          (u, (subst (λ s. Wakes refill.amount refill.keep s (state_of new.machine)) (sym h.state) wakes, refl), refl);
      state = refl;
      words = h.words ∙ sym (append-nil put);
      counts = ap (λ k. counted (Woke cold) cost k) h.counts ∙ ap (λ x. counted x cost old.counts) (sym is) ∙ sym counts;
    }))

go_by : (b : Board) (input : List ℕ) (told : Seen) (old new : CoreView) (p : Phase) → old.machine.phase ≡ p
    → told ≡ went p (stepped b input (state_of old.machine)).answer
    → state_of new.machine ≡ gone_on b input p (state_of old.machine)
    → new.counts ≡ counted told (stepped b input (state_of old.machine)).spent old.counts
    → (told ≡ NotNow → new ≡ old)
    → GoesOn b input AskGo told old new
go_by b input told old new Awake is says state counts same =
    subst (λ x. GoesOn b input AskGo x old new) (sym says)
    (stepped_on b input old new is state (counts ∙ ap (λ x. counted x (stepped b input (state_of old.machine)).spent old.counts) says))
go_by b input told old new Off is says state counts same = still b input AskGo told old new says same
go_by b input told old new Asleep is says state counts same = still b input AskGo told old new says same
go_by b input told old new (Ended v) is says state counts same = still b input AskGo told old new says same
go_by b input told old new (Trapped v) is says state counts same = still b input AskGo told old new says same
go_by b input told old new (Faulted why) is says state counts same = still b input AskGo told old new says same

pub go_goes_on : (b : Board) (input : List ℕ) (told : Seen) (old new : CoreView)
    → told ≡ seen b input AskGo (state_of old.machine)
    → state_of new.machine ≡ left b input AskGo old.machine
    → new.counts ≡ counted told (stepped b input (state_of old.machine)).spent old.counts
    → (told ≡ NotNow → new ≡ old)
    → GoesOn b input AskGo told old new
go_goes_on b input told old new says state counts same = go_by b input told old new old.machine.phase refl says state counts same

wake_by : (b : Board) (input : List ℕ) (refill : Refill) (cost : ℕ) (told : Seen) (old new : CoreView) (p : Phase) (keep : Bool)
    → told ≡ woke p keep
    → (CanWake p → Wakes refill.amount refill.keep (state_of old.machine) (state_of new.machine))
    → new.counts ≡ counted told cost old.counts
    → (told ≡ NotNow → new ≡ old)
    → GoesOn b input (AskWake refill) told old new
wake_by b input refill cost told old new Off keep says wakes counts same = woken_on b input refill told true cost old new says (wakes tt) counts
wake_by b input refill cost told old new Asleep true says wakes counts same = woken_on b input refill told false cost old new says (wakes tt) counts
wake_by b input refill cost told old new Asleep false says wakes counts same = woken_on b input refill told true cost old new says (wakes tt) counts
wake_by b input refill cost told old new Awake keep says wakes counts same = still b input (AskWake refill) told old new says same
wake_by b input refill cost told old new (Ended v) keep says wakes counts same = still b input (AskWake refill) told old new says same
wake_by b input refill cost told old new (Trapped v) keep says wakes counts same = still b input (AskWake refill) told old new says same
wake_by b input refill cost told old new (Faulted why) keep says wakes counts same = still b input (AskWake refill) told old new says same

pub wake_goes_on : (b : Board) (input : List ℕ) (refill : Refill) (cost : ℕ) (told : Seen) (old new : CoreView)
    → told ≡ seen b input (AskWake refill) (state_of old.machine)
    → (CanWake old.machine.phase → Wakes refill.amount refill.keep (state_of old.machine) (state_of new.machine))
    → new.counts ≡ counted told cost old.counts
    → (told ≡ NotNow → new ≡ old)
    → GoesOn b input (AskWake refill) told old new
wake_goes_on b input refill cost told old new says wakes counts same = wake_by b input refill cost told old new old.machine.phase refill.keep says wakes counts same

-- ---- One step of any run

still_none : (b : Board) (input : List ℕ) (asked : Asked) (told : Seen) (old new : CoreView) → told ≡ NotNow → StepsOn b input asked told old new
still_none b input asked told old new none = λ t at k possible. absurd (subst (λ x. WasPossible x) none possible)

step_to : (b : Board) (input : List ℕ) (old new : CoreView) → old.machine.phase ≡ Awake → state_of new.machine ≡ (stepped b input (state_of old.machine)).state
    → new.counts ≡ counted (Done (stepped b input (state_of old.machine)).answer) (stepped b input (state_of old.machine)).spent old.counts
    → StepsOn b input AskGo (Done (stepped b input (state_of old.machine)).answer) old new
step_to b input old new awake state counts = λ t at k possible.
    let o = stepped b input t.state in
    record {
      trail = after_go b input t;
      step = (ap (λ s. s.phase) at ∙ awake, refl);
      state = answer_state o.answer o.spent o.state t ∙ ap (λ s. (stepped b input s).state) at ∙ sym state;
      words = answer_put o.answer o.spent o.state t ∙ ap (λ s. t.put ++ words_of_step (stepped b input s).answer) at;
      counts =
          answer_counts o.answer o.spent o.state t
          ∙ ap (λ c. counted_if (is_executed o.answer) o.spent c) k
          ∙ ap (λ s. counted_if (is_executed (stepped b input s).answer) (stepped b input s).spent old.counts) at
          ∙ sym counts;
    }

wake_to : (b : Board) (input : List ℕ) (refill : Refill) (told : Seen) (cold : Bool) (cost : ℕ) (old new : CoreView) → told ≡ Woke cold
    → Wakes refill.amount refill.keep (state_of old.machine) (state_of new.machine)
    → new.counts ≡ counted told cost old.counts
    → StepsOn b input (AskWake refill) told old new
wake_to b input refill told cold cost old new is wakes counts =
    subst (λ x. StepsOn b input (AskWake refill) x old new) (sym is) (λ t at k possible. record {
      trail = after_wake (state_of new.machine) t;
      step = (subst (λ s. Wakes refill.amount refill.keep s (state_of new.machine)) (sym at) wakes, refl);
      state = refl;
      words = sym (append-nil t.put);
      counts = ap (λ c. counted (Woke cold) cost c) k ∙ ap (λ x. counted x cost old.counts) (sym is) ∙ sym counts;
    })

go_to : (b : Board) (input : List ℕ) (told : Seen) (old new : CoreView) (p : Phase) → old.machine.phase ≡ p
    → told ≡ went p (stepped b input (state_of old.machine)).answer
    → state_of new.machine ≡ gone_on b input p (state_of old.machine)
    → new.counts ≡ counted told (stepped b input (state_of old.machine)).spent old.counts
    → StepsOn b input AskGo told old new
go_to b input told old new Awake is says state counts =
    subst (λ x. StepsOn b input AskGo x old new) (sym says)
    (step_to b input old new is state (counts ∙ ap (λ x. counted x (stepped b input (state_of old.machine)).spent old.counts) says))
go_to b input told old new Off is says state counts = still_none b input AskGo told old new says
go_to b input told old new Asleep is says state counts = still_none b input AskGo told old new says
go_to b input told old new (Ended v) is says state counts = still_none b input AskGo told old new says
go_to b input told old new (Trapped v) is says state counts = still_none b input AskGo told old new says
go_to b input told old new (Faulted why) is says state counts = still_none b input AskGo told old new says

pub go_steps_on : (b : Board) (input : List ℕ) (told : Seen) (old new : CoreView)
    → told ≡ seen b input AskGo (state_of old.machine)
    → state_of new.machine ≡ left b input AskGo old.machine
    → new.counts ≡ counted told (stepped b input (state_of old.machine)).spent old.counts
    → StepsOn b input AskGo told old new
go_steps_on b input told old new says state counts = go_to b input told old new old.machine.phase refl says state counts

wake_to_by : (b : Board) (input : List ℕ) (refill : Refill) (cost : ℕ) (told : Seen) (old new : CoreView) (p : Phase) (keep : Bool)
    → told ≡ woke p keep
    → (CanWake p → Wakes refill.amount refill.keep (state_of old.machine) (state_of new.machine))
    → new.counts ≡ counted told cost old.counts
    → StepsOn b input (AskWake refill) told old new
wake_to_by b input refill cost told old new Off keep says wakes counts = wake_to b input refill told true cost old new says (wakes tt) counts
wake_to_by b input refill cost told old new Asleep true says wakes counts = wake_to b input refill told false cost old new says (wakes tt) counts
wake_to_by b input refill cost told old new Asleep false says wakes counts = wake_to b input refill told true cost old new says (wakes tt) counts
wake_to_by b input refill cost told old new Awake keep says wakes counts = still_none b input (AskWake refill) told old new says
wake_to_by b input refill cost told old new (Ended v) keep says wakes counts = still_none b input (AskWake refill) told old new says
wake_to_by b input refill cost told old new (Trapped v) keep says wakes counts = still_none b input (AskWake refill) told old new says
wake_to_by b input refill cost told old new (Faulted why) keep says wakes counts = still_none b input (AskWake refill) told old new says

pub wake_steps_on : (b : Board) (input : List ℕ) (refill : Refill) (cost : ℕ) (told : Seen) (old new : CoreView)
    → told ≡ seen b input (AskWake refill) (state_of old.machine)
    → (CanWake old.machine.phase → Wakes refill.amount refill.keep (state_of old.machine) (state_of new.machine))
    → new.counts ≡ counted told cost old.counts
    → StepsOn b input (AskWake refill) told old new
wake_steps_on b input refill cost told old new says wakes counts = wake_to_by b input refill cost told old new old.machine.phase refill.keep says wakes counts
