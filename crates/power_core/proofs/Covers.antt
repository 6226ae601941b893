-- What holds at the end of every run, by continuations: here alone a list of events is matched.
use Rattle.std.proofs.Common.{◌≡◌, ℕ, suc, ◌+◌, ◌<◌, ◌≤◌, Bool, true, false, List, [], ◌∷◌, ◌++◌, length, Option, Some, None, refl, sym, ap, ◌∙◌, subst, arith, append_assoc, append-nil, inl, inr}
use Rattle.std.specs.Prelude.{nat_lt, ◌==◌, if◌then◌else◌}
use Rattle.std.proofs.lemmas.Bool.{cases_lt}
use Rattle.std.proofs.lemmas.Bool.Decides.{nat_tests}
use Rattle.board_table.specs.declared.board.Board.{Board}
use Rattle.ti_txt.specs.Image.{Block}
use Rattle.msp430_isa.specs.declared.instr.Instr.{Instr}
use Rattle.msp430_machine.specs.State.{Phase, Off, Awake, Asleep, Ended, Trapped, Faulted, State}
use Rattle.msp430_machine.specs.Cost.{cost}
use Rattle.msp430_machine.specs.Execution.{done, put_by}
use Rattle.msp430_machine.specs.declared.answer.Did.{Did}
use Rattle.msp430_machine.specs.declared.answer.Did.TheVariants.{Ran, Out, Slept, Ended as DidEnd, Trapped as DidTrap, Short, Fault}
use Rattle.msp430_machine.specs.Steps.{Next, Does, Faults, next, answer_by, answer_of, begun, cut_off, executed, stepped_by, stepped}
use Rattle.msp430_machine.specs.Wakes.{Wakes, WakesFrom, IsCold, warm}
use Rattle.power_core.specs.Runs.{Event, Go, Wake, Trail, one_if_closed, with_instruction, with_answer, with_outcome, after_go, after_wake, Run, RunOf, Generous}
use Rattle.power_core.specs.Agreement.{IsStopped}
use Rattle.power_core.specs.Enduring.{IsShort}

-- ---- Runs one after another

pub run_append : (b : Board) (input : List ℕ) (xs ys : List Event) (t m u : Trail) → Run b input t xs m → Run b input m ys u → Run b input t (xs ++ ys) u
run_append b input [] ys t m u first rest = subst (λ (x : Trail). Run b input x ys u) first rest
run_append b input (e ∷ xs) ys t m u first rest = (first.0, first.1, run_append b input xs ys first.0 m u first.2 rest)

pub run_go : (b : Board) (input : List ℕ) (image : List Block) (past : List Event) (t : Trail) → RunOf image b input past t → t.state.phase ≡ Awake → RunOf image b input (past ++ Go ∷ []) (after_go b input t)
run_go b input image past t run awake = (run.0, run.1, run.2, run_append b input past (Go ∷ []) _ t _ run.3 (after_go b input t, (awake, refl), refl))

pub run_wake : (b : Board) (input : List ℕ) (image : List Block) (past : List Event) (t : Trail) (amount : ℕ) (keep : Bool) (s : State) → RunOf image b input past t → Wakes amount keep t.state s → RunOf image b input (past ++ Wake amount keep ∷ []) (after_wake s t)
run_wake b input image past t amount keep s run wakes = (run.0, run.1, run.2, run_append b input past (Wake amount keep ∷ []) _ t _ run.3 (after_wake s t, (wakes, refl), refl))

pub generous_front : (budget : ℕ) (xs ys : List Event) → Generous budget (xs ++ ys) → Generous budget xs
generous_front budget [] ys h = tt
generous_front budget (Go ∷ xs) ys h = generous_front budget xs ys h
generous_front budget (Wake amount keep ∷ xs) ys h = (h.0, generous_front budget xs ys h.1)

pub generous_back : (budget : ℕ) (xs ys : List Event) → Generous budget (xs ++ ys) → Generous budget ys
generous_back budget [] ys h = h
generous_back budget (Go ∷ xs) ys h = generous_back budget xs ys h
generous_back budget (Wake amount keep ∷ xs) ys h = generous_back budget xs ys h.1

-- ---- What a step comes to

abbrev pub extended : List ℕ → Option ℕ → List ℕ
extended put None = put
extended put (Some v) = put ++ v ∷ []

-- the trail after an instruction that is executed
abbrev pub ran : Board → List ℕ → Instr → Trail → Trail
ran b input i t =
    let s = begun (cost b t.state i) i t.state in
    with_instruction (cost b t.state i) (extended t.put (put_by input i s)) (done input i s) t

-- the trail after a cut
abbrev pub cut : Trail → Trail
cut t =
    let s = record t.state { phase = Off } in
    record t { state = s; cuts = t.cuts + 1; closed_cuts = t.closed_cuts + one_if_closed s }

told_by : (c : ℕ) (p : Phase) (s : State) (t : Trail) → with_answer (answer_by c p) c s t ≡ with_instruction c t.put s t
told_by c Off s t = refl
told_by c Awake s t = refl
told_by c Asleep s t = refl
told_by c (Ended v) s t = refl
told_by c (Trapped v) s t = refl
told_by c (Faulted why) s t = refl

told_of : (c : ℕ) (o : Option ℕ) (p : Phase) (s : State) (t : Trail) → with_answer (answer_of c o p) c s t ≡ with_instruction c (extended t.put o) s t
told_of c None p s t = told_by c p s t
told_of c (Some v) p s t = refl

enough : (a c : ℕ) → c ≤ a → nat_lt a c ≡ false
enough a c le = grind (arith, nat_tests)

too_little : (a c : ℕ) → a < c → nat_lt a c ≡ true
too_little a c lt = grind (arith, nat_tests)

pub stepped_ran : (b : Board) (input : List ℕ) (s : State) (i : Instr) → next s ≡ Does i → cost b s i ≤ s.charge → stepped b input s ≡ executed input i (cost b s i) s
stepped_ran b input s i does le =
    ap (λ n. stepped_by b input s n) does
    ∙ ap (λ c. if c then cut_off (cost b s i) s else executed input i (cost b s i) s) (enough s.charge (cost b s i) le)

pub stepped_cut : (b : Board) (input : List ℕ) (s : State) (i : Instr) → next s ≡ Does i → s.charge < cost b s i → stepped b input s ≡ cut_off (cost b s i) s
stepped_cut b input s i does lt =
    ap (λ n. stepped_by b input s n) does
    ∙ ap (λ c. if c then cut_off (cost b s i) s else executed input i (cost b s i) s) (too_little s.charge (cost b s i) lt)

pub gone_ran : (b : Board) (input : List ℕ) (t : Trail) (i : Instr) → next t.state ≡ Does i → cost b t.state i ≤ t.state.charge → after_go b input t ≡ ran b input i t
gone_ran b input t i does le =
    let s = begun (cost b t.state i) i t.state in
    ap (λ o. with_outcome o t) (stepped_ran b input t.state i does le)
    ∙ told_of (cost b t.state i) (put_by input i s) (done input i s).phase (done input i s) t

pub gone_cut : (b : Board) (input : List ℕ) (t : Trail) (i : Instr) → next t.state ≡ Does i → t.state.charge < cost b t.state i → after_go b input t ≡ cut t
gone_cut b input t i does lt = ap (λ o. with_outcome o t) (stepped_cut b input t.state i does lt)

-- ---- Every run

-- P holds at the end of every run from here of at most n events, of all its events
abbrev pub Covers : ℕ → Board → List ℕ → (List Event → Trail → Type 0) → List Event → Trail → Type 0
Covers n b input P past t = (events : List Event) (u : Trail) → length events ≤ n → Run b input t events u → P (past ++ events) u

pub covers_less : (m n : ℕ) (b : Board) (input : List ℕ) (P : List Event → Trail → Type 0) (past : List Event) (t : Trail) → m ≤ n → Covers n b input P past t → Covers m b input P past t
covers_less m n b input P past t le h events u short run = h events u (omega (arith, short, le)) run

-- a run that goes no further
here : (P : List Event → Trail → Type 0) (past : List Event) (t u : Trail) → P past t → u ≡ t → P (past ++ []) u
here P past t u holds same = subst (λ x. P (past ++ []) x) (sym same) (subst (λ p. P p t) (sym (append-nil past)) holds)

-- a run after one more event
onward : (P : List Event → Trail → Type 0) (past : List Event) (e : Event) (events : List Event) (u : Trail) → P ((past ++ e ∷ []) ++ events) u → P (past ++ e ∷ events) u
onward P past e events u h = subst (λ p. P p u) (append_assoc past (e ∷ []) events) h

pub covers_none : (b : Board) (input : List ℕ) (P : List Event → Trail → Type 0) (past : List Event) (t : Trail) → P past t → Covers 0 b input P past t
covers_none b input P past t holds [] u short run = here P past t u holds run
covers_none b input P past t holds (e ∷ events) u short run = absurd (omega (arith, short))

-- one step that is followed by n events
pub covers_go_more : (n : ℕ) (b : Board) (input : List ℕ) (P : List Event → Trail → Type 0) (past : List Event) (t : Trail) → t.state.phase ≡ Awake → P past t
    → Covers n b input P (past ++ Go ∷ []) (after_go b input t) → Covers (suc n) b input P past t
covers_go_more n b input P past t awake holds rest [] u short run = here P past t u holds run
covers_go_more n b input P past t awake holds rest (Go ∷ events) u short run =
    onward P past Go events u (rest events u (omega (arith, short)) (subst (λ m. Run b input m events u) run.1.1 run.2))
covers_go_more n b input P past t awake holds rest (Wake amount keep ∷ events) u short run =
    absurd (subst (λ p. WakesFrom p keep amount t.state run.0.state) awake run.1.0)

-- an instruction that is next: it is paid, or cut
pub covers_ran_more : (n : ℕ) (b : Board) (input : List ℕ) (P : List Event → Trail → Type 0) (past : List Event) (t : Trail) (i : Instr) → t.state.phase ≡ Awake → P past t → next t.state ≡ Does i
    → (cost b t.state i ≤ t.state.charge → Covers n b input P (past ++ Go ∷ []) (ran b input i t))
    → (t.state.charge < cost b t.state i → Covers n b input P (past ++ Go ∷ []) (cut t))
    → Covers (suc n) b input P past t
covers_ran_more n b input P past t i awake holds does paid short =
    covers_go_more n b input P past t awake holds (elim (cases_lt t.state.charge (cost b t.state i)) [
      | inl lt ↦ subst (λ x. Covers n b input P (past ++ Go ∷ []) x) (sym (gone_cut b input t i does lt)) (short lt)
      | inr le ↦ subst (λ x. Covers n b input P (past ++ Go ∷ []) x) (sym (gone_ran b input t i does le)) (paid le)
    ])

pub covers_ran : (n : ℕ) (b : Board) (input : List ℕ) (P : List Event → Trail → Type 0) (past : List Event) (t : Trail) (i : Instr) → t.state.phase ≡ Awake → P past t → next t.state ≡ Does i
    → (cost b t.state i ≤ t.state.charge → Covers n b input P (past ++ Go ∷ []) (ran b input i t))
    → (t.state.charge < cost b t.state i → Covers n b input P (past ++ Go ∷ []) (cut t))
    → Covers n b input P past t
covers_ran n b input P past t i awake holds does paid short =
    covers_less n (suc n) b input P past t (omega arith) (covers_ran_more n b input P past t i awake holds does paid short)

-- off: a cold wake, that is followed by n events
pub covers_off_more : (n : ℕ) (b : Board) (input : List ℕ) (P : List Event → Trail → Type 0) (past : List Event) (t : Trail) → t.state.phase ≡ Off → P past t
    → ((amount : ℕ) (keep : Bool) (s : State) → IsCold t.state amount s → Wakes amount keep t.state s → Covers n b input P (past ++ Wake amount keep ∷ []) (after_wake s t))
    → Covers (suc n) b input P past t
covers_off_more n b input P past t off holds rest [] u short run = here P past t u holds run
covers_off_more n b input P past t off holds rest (Go ∷ events) u short run = let no : Off ≡ Awake = sym off ∙ run.1.0 in cc
covers_off_more n b input P past t off holds rest (Wake amount keep ∷ events) u short run =
    onward P past (Wake amount keep) events u
    (rest amount keep run.0.state (subst (λ p. WakesFrom p keep amount t.state run.0.state) off run.1.0) run.1.0 events u (omega (arith, short)) (subst (λ m. Run b input m events u) run.1.1 run.2))

pub covers_off : (n : ℕ) (b : Board) (input : List ℕ) (P : List Event → Trail → Type 0) (past : List Event) (t : Trail) → t.state.phase ≡ Off → P past t
    → ((amount : ℕ) (keep : Bool) (s : State) → IsCold t.state amount s → Wakes amount keep t.state s → Covers n b input P (past ++ Wake amount keep ∷ []) (after_wake s t))
    → Covers n b input P past t
covers_off n b input P past t off holds rest = covers_less n (suc n) b input P past t (omega arith) (covers_off_more n b input P past t off holds rest)

-- asleep: a cold wake, or a warm one
pub covers_asleep : (n : ℕ) (b : Board) (input : List ℕ) (P : List Event → Trail → Type 0) (past : List Event) (t : Trail) → t.state.phase ≡ Asleep → P past t
    → ((amount : ℕ) (s : State) → IsCold t.state amount s → Wakes amount false t.state s → Covers n b input P (past ++ Wake amount false ∷ []) (after_wake s t))
    → ((amount : ℕ) → Wakes amount true t.state (warm amount t.state) → Covers n b input P (past ++ Wake amount true ∷ []) (after_wake (warm amount t.state) t))
    → Covers (suc n) b input P past t
covers_asleep n b input P past t asleep holds cold warms [] u short run = here P past t u holds run
covers_asleep n b input P past t asleep holds cold warms (Go ∷ events) u short run = let no : Asleep ≡ Awake = sym asleep ∙ run.1.0 in cc
covers_asleep n b input P past t asleep holds cold warms (Wake amount false ∷ events) u short run =
    onward P past (Wake amount false) events u
    (cold amount run.0.state (subst (λ p. WakesFrom p false amount t.state run.0.state) asleep run.1.0) run.1.0 events u (omega (arith, short)) (subst (λ m. Run b input m events u) run.1.1 run.2))
covers_asleep n b input P past t asleep holds cold warms (Wake amount true ∷ events) u short run =
    let same : run.0.state ≡ warm amount t.state = subst (λ p. WakesFrom p true amount t.state run.0.state) asleep run.1.0 in
    onward P past (Wake amount true) events u
    (warms amount (subst (λ s. Wakes amount true t.state s) same run.1.0) events u (omega (arith, short)) (subst (λ m. Run b input m events u) (run.1.1 ∙ ap (λ s. after_wake s t) same) run.2))

no_wake : (p : Phase) (keep : Bool) (amount : ℕ) (old new : State) → IsStopped p → WakesFrom p keep amount old new → ⊥
no_wake Off keep amount old new stopped w = stopped
no_wake Awake keep amount old new stopped w = stopped
no_wake Asleep keep amount old new stopped w = stopped
no_wake (Ended v) keep amount old new stopped w = w
no_wake (Trapped v) keep amount old new stopped w = w
no_wake (Faulted why) keep amount old new stopped w = w

-- nothing follows a stop
pub covers_stopped : (n : ℕ) (b : Board) (input : List ℕ) (P : List Event → Trail → Type 0) (past : List Event) (t : Trail) → IsStopped t.state.phase → P past t → Covers n b input P past t
covers_stopped n b input P past t stopped holds [] u short run = here P past t u holds run
covers_stopped n b input P past t stopped holds (Go ∷ events) u short run = absurd (subst IsStopped run.1.0 stopped)
covers_stopped n b input P past t stopped holds (Wake amount keep ∷ events) u short run = absurd (no_wake t.state.phase keep amount t.state run.0.state stopped run.1.0)

-- ---- A step that tells that the charge fell short

not_short : (c : ℕ) (p : Phase) → IsShort (answer_by c p) → ⊥
not_short c Off h = h
not_short c Awake h = h
not_short c Asleep h = h
not_short c (Ended v) h = h
not_short c (Trapped v) h = h
not_short c (Faulted why) h = h

not_short_of : (c : ℕ) (o : Option ℕ) (p : Phase) → IsShort (answer_of c o p) → ⊥
not_short_of c None p h = not_short c p h
not_short_of c (Some v) p h = h

cut_by : (b : Board) (input : List ℕ) (t : Trail) (n : Next) → IsShort (stepped_by b input t.state n).answer → with_outcome (stepped_by b input t.state n) t ≡ cut t
cut_by b input t (Faults why) h = absurd h
cut_by b input t (Does i) h =
    let c = cost b t.state i in
    let s = begun c i t.state in
    elim (nat_lt t.state.charge c) as (λ x. IsShort (if x then cut_off c t.state else executed input i c t.state).answer → with_outcome (if x then cut_off c t.state else executed input i c t.state) t ≡ cut t) [
      | true ↦ λ short. refl
      | false ↦ λ short. absurd (not_short_of c (put_by input i s) (done input i s).phase short)
    ] h

-- is a cut
pub short_cut : (b : Board) (input : List ℕ) (t : Trail) → IsShort (stepped b input t.state).answer → after_go b input t ≡ cut t
short_cut b input t h = cut_by b input t (next t.state) h

-- ---- The number of cuts with a closed gate

answer_keeps : (d : Did) (c : ℕ) (s : State) (t : Trail) → t.closed_cuts ≤ (with_answer d c s t).closed_cuts
answer_keeps (Fault pc why) c s t = omega arith
answer_keeps (Short need charge) c s t = omega arith
answer_keeps (Out v) c s t = omega arith
answer_keeps (Ran need) c s t = omega arith
answer_keeps Slept c s t = omega arith
answer_keeps (DidEnd v) c s t = omega arith
answer_keeps (DidTrap v) c s t = omega arith

go_keeps : (b : Board) (input : List ℕ) (t : Trail) → t.closed_cuts ≤ (after_go b input t).closed_cuts
go_keeps b input t = let o = stepped b input t.state in answer_keeps o.answer o.spent o.state t

-- it never falls
pub run_keeps : (b : Board) (input : List ℕ) (t : Trail) (events : List Event) (u : Trail) → Run b input t events u → t.closed_cuts ≤ u.closed_cuts
run_keeps b input t [] u run = omega (arith, ap (λ x. x.closed_cuts) run)
run_keeps b input t (Go ∷ events) u run =
    omega (arith, go_keeps b input t, ap (λ x. x.closed_cuts) run.1.1, run_keeps b input run.0 events u run.2)
run_keeps b input t (Wake amount keep ∷ events) u run =
    omega (arith, ap (λ x. x.closed_cuts) run.1.1, run_keeps b input run.0 events u run.2)

-- and rises at a cut where GATE is 0
pub cut_closed : (t : Trail) → t.state.fram 0xC00 ≡ 0 → 1 ≤ (cut t).closed_cuts
cut_closed t gate = let raised : one_if_closed (cut t).state ≡ 1 = ap (λ g. if g == 1 then 0 else 1) gate in omega (arith, raised)
