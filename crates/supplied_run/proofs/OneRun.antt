-- Two runs from one first state over the same rows are one run, if no box fails: they end alike.
use Rattle.std.proofs.Common.{◌≡◌, ◌≢◌, ◌∙◌, ◌+◌, ◌<◌, ◌≤◌, ◌++◌, ◌⊎◌, ℕ, zero, suc, Bool, true, false, List, [], ◌∷◌, refl, sym, ap, subst, arith, inl, inr, ⊎_elim}
use Rattle.std.specs.Prelude.{◌==◌}
use Rattle.std.proofs.lemmas.Bool.Decides.{Decides-eqb}
use Rattle.std.proofs.lemmas.Bool.{cases_Bool, cases_lt}
use Rattle.board_table.specs.declared.board.Board.{Board}
use Rattle.ti_txt.specs.Image.{Block}
use Rattle.msp430_machine.specs.declared.answer.Refill.{Refill}
use Rattle.msp430_machine.specs.Addresses.{reset_vector}
use Rattle.msp430_machine.specs.Loading.{IsLoaded}
use Rattle.msp430_machine.specs.Memory.{word_at}
use Rattle.msp430_machine.specs.State.{Phase, Off, Awake, Asleep, Ended, Trapped, Faulted, State, no_flags}
use Rattle.msp430_machine.specs.Wakes.{CanWake, IsCold, Wakes, WakesFrom, warm}
use Rattle.power_core.specs.declared.device.Event.{Event as Asked}
use Rattle.power_core.specs.declared.device.Event.TheVariants.{Go as AskGo, Wake as AskWake}
use Rattle.power_core.specs.declared.device.Seen.TheVariants.{Woke}
use Rattle.power_core.specs.Runs.{Trail, start, Step, after_go, after_wake}
use Rattle.power_core.specs.Cores.{event_of, woke}
use Rattle.supplied_run.specs.declared.end.End.{End}
use Rattle.supplied_run.specs.declared.end.End.TheVariants as end
use Rattle.supplied_run.specs.Rows.{Emulates, EndsAs, HoldsJunk, IsDue, IsRunning, LeavesJunk, Reaches, rows_in}

-- functions that agree at each number are one
pub same_function : (f g : ℕ → ℕ) → ((k : ℕ) → f k ≡ g k) → f ≡ g
same_function f g h = λ i x. h x i

-- ---- One first state

pub one_first : (blocks : List Block) (s t : State) → IsLoaded blocks s → IsLoaded blocks t → s ≡ t
one_first blocks s t h k =
    let reg : s.reg ≡ t.reg = same_function s.reg t.reg (λ r. h.registers r ∙ sym (k.registers r)) in
    let sram : s.sram ≡ t.sram = same_function s.sram t.sram (λ n. h.sram n ∙ sym (k.sram n)) in
    let fram : s.fram ≡ t.fram = same_function s.fram t.fram (λ n. h.fram n ∙ sym (k.fram n)) in
    let code : s.code ≡ t.code = same_function s.code t.code (λ n. h.code n ∙ sym (k.code n)) in
    let phase : s.phase ≡ t.phase = h.off ∙ sym k.off in
    let charge : s.charge ≡ t.charge = h.no_charge ∙ sym k.no_charge in
    let flags : s.flags ≡ t.flags = h.flags ∙ sym k.flags in
    let bits : s.other_bits ≡ t.other_bits = h.other_bits ∙ sym k.other_bits in
    let taken : s.taken ≡ t.taken = h.none_taken ∙ sym k.none_taken in
    λ i. record {
      phase = phase i;
      charge = charge i;
      reg = reg i;
      flags = flags i;
      other_bits = bits i;
      sram = sram i;
      fram = fram i;
      code = code i;
      taken = taken i;
    }

-- ---- One wake

junk_same : (n : ℕ) (f g : ℕ → ℕ) (junk : ℕ) → ((k : ℕ) → k < n → f k ≡ junk) → ((k : ℕ) → k < n → g k ≡ junk)
    → ((k : ℕ) → n ≤ k → f k ≡ 0) → ((k : ℕ) → n ≤ k → g k ≡ 0) → f ≡ g
junk_same n f g junk fs gs fo go =
    same_function f g (λ k. ⊎_elim (λ below. fs k below ∙ sym (gs k below)) (λ above. fo k above ∙ sym (go k above)) (cases_lt k n))

registers_same : (f g : ℕ → ℕ) (junk : ℕ) → f 0 ≡ g 0 → ((k : ℕ) → 0 < k → k < 16 → f k ≡ junk) → ((k : ℕ) → 0 < k → k < 16 → g k ≡ junk)
    → ((k : ℕ) → 16 ≤ k → f k ≡ 0) → ((k : ℕ) → 16 ≤ k → g k ≡ 0) → f ≡ g
registers_same f g junk first fs gs fo go = same_function f g each
  where
    each : (k : ℕ) → f k ≡ g k
    each zero = first
    each (suc k) =
        ⊎_elim
        (λ below. fs (suc k) (omega arith) below ∙ sym (gs (suc k) (omega arith) below))
        (λ above. fo (suc k) above ∙ sym (go (suc k) above))
        (cases_lt (suc k) 16)

cold_as : State → ℕ → (ℕ → ℕ) → (ℕ → ℕ) → State
cold_as old amount reg sram = record old { phase = Awake; charge = amount; reg = reg; flags = no_flags; other_bits = 0; sram = sram }

cold_same : (old s t : State) (amount junk : ℕ) → IsCold old amount s → IsCold old amount t → HoldsJunk junk s → HoldsJunk junk t → s ≡ t
unfolding cold_as
cold_same old s t amount junk h k p q =
    let reg : s.reg ≡ t.reg = registers_same s.reg t.reg junk (h.starts ∙ sym k.starts) p.registers q.registers p.no_more_registers q.no_more_registers in
    let sram : s.sram ≡ t.sram = junk_same 1024 s.sram t.sram junk p.sram q.sram p.no_more_sram q.no_more_sram in
    h.same ∙ ap (λ (f : ℕ → ℕ). cold_as old amount f s.sram) reg ∙ ap (λ (g : ℕ → ℕ). cold_as old amount t.reg g) sram ∙ sym k.same

wakes_same : (p : Phase) (keep : Bool) (old s t : State) (row : Refill) → WakesFrom p keep row.amount old s → WakesFrom p keep row.amount old t
    → (woke p keep ≡ Woke true → HoldsJunk row.junk s) → (woke p keep ≡ Woke true → HoldsJunk row.junk t) → s ≡ t
wakes_same Off keep old s t row h k f g = cold_same old s t row.amount row.junk h k (f refl) (g refl)
wakes_same Asleep false old s t row h k f g = cold_same old s t row.amount row.junk h k (f refl) (g refl)
wakes_same Asleep true old s t row h k f g = h ∙ sym k
wakes_same Awake keep old s t row h k f g = absurd h
wakes_same (Ended v) keep old s t row h k f g = absurd h
wakes_same (Trapped v) keep old s t row h k f g = absurd h
wakes_same (Faulted why) keep old s t row h k f g = absurd h

-- ---- One event

step_same : (b : Board) (input : List ℕ) (asked : Asked) (old m n : Trail) → Step b input old (event_of asked) m → Step b input old (event_of asked) n
    → LeavesJunk asked old.state m.state → LeavesJunk asked old.state n.state → m ≡ n
step_same b input AskGo old m n h k f g = h.1 ∙ sym k.1
step_same b input (AskWake row) old m n h k f g =
    let same = wakes_same old.state.phase row.keep old.state m.state n.state row h.0 k.0 f g in
    h.1 ∙ ap (λ (s : State). after_wake s old) same ∙ sym k.1

-- a wake finds no awake machine
wake_waits : (p : Phase) (keep : Bool) (amount : ℕ) (old new : State) → WakesFrom p keep amount old new → CanWake p
wake_waits Off keep amount old new h = tt
wake_waits Asleep keep amount old new h = tt
wake_waits Awake keep amount old new h = h
wake_waits (Ended v) keep amount old new h = h
wake_waits (Trapped v) keep amount old new h = h
wake_waits (Faulted why) keep amount old new h = h

awake_waits : (p : Phase) → p ≡ Awake → CanWake p → ⊥
awake_waits p e can = subst CanWake e can

stopped_waits : (p : Phase) → CanWake p → IsRunning p
stopped_waits Off can = tt
stopped_waits Asleep can = tt
stopped_waits Awake can = tt
stopped_waits (Ended v) can = can
stopped_waits (Trapped v) can = can
stopped_waits (Faulted why) can = can

-- an event finds a running machine
event_runs : (b : Board) (input : List ℕ) (asked : Asked) (old new : Trail) → Step b input old (event_of asked) new → IsRunning old.state.phase
event_runs b input AskGo old new h = subst IsRunning (sym h.0) tt
event_runs b input (AskWake row) old new h = stopped_waits old.state.phase (wake_waits old.state.phase row.keep row.amount old.state new.state h.0)

-- ---- One run

-- an end that no box decides
abbrev pub IsSure : End → Type 0
IsSure (end.Ended w) = Unit {0}
IsSure (end.Trapped n) = Unit {0}
IsSure end.PowerFault = Unit {0}
IsSure end.SupplyEnded = Unit {0}
IsSure end.StepLimit = Unit {0}
IsSure (end.MachineFault pc why) = Unit {0}
IsSure end.SupplyFault = ⊥

no_stop : (p q : Phase) → p ≡ q → IsRunning p → IsRunning q
no_stop p q e h = subst IsRunning e h

-- Where a run has ended, no event follows by the rows that are left.
over : (b : Board) (input : List ℕ) (limit : ℕ) (t u : Trail) (asked : Asked) (events : List Asked) (rows left : List Refill) (e : End)
    → IsSure e → EndsAs limit t.state t.instructions rows e → rows ≡ rows_in (asked ∷ events) ++ left → Emulates b input limit t (asked ∷ events) u → ⊥
over b input limit t u asked events rows left (end.Ended w) sure ends takes run = no_stop t.state.phase (Ended w) ends (event_runs b input asked t run.1.0 run.1.1)
over b input limit t u asked events rows left (end.Trapped n) sure ends takes run = no_stop t.state.phase (Trapped n) ends.0 (event_runs b input asked t run.1.0 run.1.1)
over b input limit t u asked events rows left end.PowerFault sure ends takes run = no_stop t.state.phase (Trapped 4) ends (event_runs b input asked t run.1.0 run.1.1)
over b input limit t u asked events rows left (end.MachineFault pc why) sure ends takes run = no_stop t.state.phase (Faulted why) ends.0 (event_runs b input asked t run.1.0 run.1.1)
over b input limit t u asked events rows left end.StepLimit sure ends takes run = let below = run.0 in let at = ends.1 in omega (arith, below, at)
over b input limit t u AskGo events rows left end.SupplyEnded sure ends takes run = awake_waits t.state.phase run.1.1.0 ends.0.waits
over b input limit t u (AskWake row) events rows left end.SupplyEnded sure ends takes run =
    let some : rows ≡ row ∷ (rows_in events ++ left) = takes in
    let none : rows ≡ [] = ends.1 in
    cc
over b input limit t u asked events rows left end.SupplyFault sure ends takes run = absurd sure

-- ---- Where a run stands decides how it ends there.

trap_end : Bool → ℕ → End
trap_end true n = end.PowerFault
trap_end false n = end.Trapped n

limit_end : Bool → End
limit_end true = end.StepLimit
limit_end false = end.SupplyEnded

verdict : Phase → ℕ → Bool → End
verdict (Ended w) pc full = end.Ended w
verdict (Trapped n) pc full = trap_end (n == 4) n
verdict (Faulted why) pc full = end.MachineFault pc why
verdict Off pc full = limit_end full
verdict Awake pc full = limit_end full
verdict Asleep pc full = limit_end full

by_trap : (n : ℕ) → n ≢ 4 → end.Trapped n ≡ trap_end (n == 4) n
unfolding trap_end
by_trap n other = elim (cases_Bool (n == 4)) [
  | inl is ↦ absurd (other ((Decides-eqb n 4).0 is))
  | inr isnt ↦ sym (ap (λ c. trap_end c n) isnt)
]

by_limit : (p : Phase) (pc : ℕ) → IsRunning p → end.StepLimit ≡ verdict p pc true
unfolding verdict limit_end
by_limit Off pc h = refl
by_limit Awake pc h = refl
by_limit Asleep pc h = refl
by_limit (Ended w) pc h = absurd h
by_limit (Trapped n) pc h = absurd h
by_limit (Faulted why) pc h = absurd h

by_rows : (p : Phase) (pc : ℕ) → CanWake p → end.SupplyEnded ≡ verdict p pc false
unfolding verdict limit_end
by_rows Off pc h = refl
by_rows Asleep pc h = refl
by_rows Awake pc h = absurd h
by_rows (Ended w) pc h = absurd h
by_rows (Trapped n) pc h = absurd h
by_rows (Faulted why) pc h = absurd h

is_full : (i limit : ℕ) → i ≡ limit → true ≡ (i == limit)
is_full i limit e = sym ((Decides-eqb i limit).1 e)

is_below : (i limit : ℕ) → i < limit → false ≡ (i == limit)
is_below i limit below = elim (cases_Bool (i == limit)) [
  | inl same ↦ absurd (let e : i ≡ limit = (Decides-eqb i limit).0 same in omega (arith, below, e))
  | inr other ↦ sym other
]

ends_by : (limit : ℕ) (s : State) (i : ℕ) (left : List Refill) (e : End) → IsSure e → EndsAs limit s i left e → e ≡ verdict s.phase (s.reg 0) (i == limit)
unfolding verdict trap_end
ends_by limit s i left (end.Ended w) sure h = sym (ap (λ p. verdict p (s.reg 0) (i == limit)) h)
ends_by limit s i left (end.Trapped n) sure h = by_trap n h.1 ∙ sym (ap (λ p. verdict p (s.reg 0) (i == limit)) h.0)
ends_by limit s i left end.PowerFault sure h = sym (ap (λ p. verdict p (s.reg 0) (i == limit)) h)
ends_by limit s i left (end.MachineFault pc why) sure h =
    ap (λ a. end.MachineFault a why) h.1 ∙ sym (ap (λ p. verdict p (s.reg 0) (i == limit)) h.0)
ends_by limit s i left end.StepLimit sure h = by_limit s.phase (s.reg 0) h.0 ∙ ap (λ c. verdict s.phase (s.reg 0) c) (is_full i limit h.1)
ends_by limit s i left end.SupplyEnded sure h = by_rows s.phase (s.reg 0) h.0.waits ∙ ap (λ c. verdict s.phase (s.reg 0) c) (is_below i limit h.0.below)
ends_by limit s i left end.SupplyFault sure h = absurd sure

same_end : (limit : ℕ) (u v : Trail) (left rest : List Refill) (e f : End) → u ≡ v → IsSure e → IsSure f
    → EndsAs limit u.state u.instructions left e → EndsAs limit v.state v.instructions rest f → e ≡ f
same_end limit u v left rest e f same d k h g =
    ends_by limit u.state u.instructions left e d h
    ∙ ap (λ (t : Trail). verdict t.state.phase (t.state.reg 0) (t.instructions == limit)) same
    ∙ sym (ends_by limit v.state v.instructions rest f k g)

at_trail : (limit : ℕ) (t u : Trail) (rows left : List Refill) (e : End) → u ≡ t → rows ≡ left → EndsAs limit u.state u.instructions left e → EndsAs limit t.state t.instructions rows e
at_trail limit t u rows left e same lines h =
    subst (λ (l : List Refill). EndsAs limit t.state t.instructions l e) (sym lines)
    (subst (λ (x : Trail). EndsAs limit x.state x.instructions left e) same h)

one_from : (b : Board) (input : List ℕ) (limit : ℕ) (t u v : Trail) (xs ys : List Asked) (rows left rest : List Refill) (e f : End)
    → IsSure e → IsSure f → rows ≡ rows_in xs ++ left → rows ≡ rows_in ys ++ rest
    → Emulates b input limit t xs u → Emulates b input limit t ys v
    → EndsAs limit u.state u.instructions left e → EndsAs limit v.state v.instructions rest f → e ≡ f
one_from b input limit t u v [] [] rows left rest e f d k p q run other h g = same_end limit u v left rest e f (run ∙ sym other) d k h g
one_from b input limit t u v [] (y ∷ ys) rows left rest e f d k p q run other h g =
    absurd (over b input limit t v y ys rows rest e d (at_trail limit t u rows left e run p h) q other)
one_from b input limit t u v (x ∷ xs) [] rows left rest e f d k p q run other h g =
    absurd (over b input limit t u x xs rows left f k (at_trail limit t v rows rest f other q g) p run)
one_from b input limit t u v (AskGo ∷ xs) (AskGo ∷ ys) rows left rest e f d k p q run other h g =
    let same : other.1.0 ≡ run.1.0 = step_same b input AskGo t other.1.0 run.1.0 other.1.1 run.1.1 tt tt in
    one_from b input limit run.1.0 u v xs ys rows left rest e f d k p q run.1.3 (subst (λ (m : Trail). Emulates b input limit m ys v) same other.1.3) h g
one_from b input limit t u v (AskGo ∷ xs) (AskWake r ∷ ys) rows left rest e f d k p q run other h g =
    absurd (awake_waits t.state.phase run.1.1.0 (wake_waits t.state.phase r.keep r.amount t.state other.1.0.state other.1.1.0))
one_from b input limit t u v (AskWake r ∷ xs) (AskGo ∷ ys) rows left rest e f d k p q run other h g =
    absurd (awake_waits t.state.phase other.1.1.0 (wake_waits t.state.phase r.keep r.amount t.state run.1.0.state run.1.1.0))
one_from b input limit t u v (AskWake r ∷ xs) (AskWake o ∷ ys) rows left rest e f d k p q run other h g =
    let both : r ∷ (rows_in xs ++ left) ≡ o ∷ (rows_in ys ++ rest) = sym p ∙ q in
    let row : o ≡ r = cc in
    let more : rows_in xs ++ left ≡ rows_in ys ++ rest = cc in
    let step : Step b input t (event_of (AskWake r)) other.1.0 = subst (λ (x : Refill). Step b input t (event_of (AskWake x)) other.1.0) row other.1.1 in
    let junk : LeavesJunk (AskWake r) t.state other.1.0.state = subst (λ (x : Refill). LeavesJunk (AskWake x) t.state other.1.0.state) row other.1.2 in
    let same : other.1.0 ≡ run.1.0 = step_same b input (AskWake r) t other.1.0 run.1.0 step run.1.1 junk run.1.2 in
    one_from b input limit run.1.0 u v xs ys (rows_in xs ++ left) left rest e f d k refl more run.1.3 (subst (λ (m : Trail). Emulates b input limit m ys v) same other.1.3) h g

-- Two runs from the states of one image over the same rows end alike, if no box fails.
pub ends_alike : (b : Board) (input : List ℕ) (limit : ℕ) (blocks : List Block) (s r : State) (rows left rest : List Refill) (u v : Trail) (e f : End)
    → IsSure e → IsSure f → IsLoaded blocks s → IsLoaded blocks r
    → Reaches b input limit s rows left u → Reaches b input limit r rows rest v
    → EndsAs limit u.state u.instructions left e → EndsAs limit v.state v.instructions rest f → e ≡ f
ends_alike b input limit blocks s r rows left rest u v e f d k h g p q m n =
    let same = one_first blocks r s g h in
    one_from b input limit (start s) u v p.events q.events rows left rest e f d k p.taken q.taken p.run
    (subst (λ (x : State). Emulates b input limit (start x) q.events v) same q.run) m n
