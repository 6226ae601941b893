-- Every run of an image whose code carries a flow is fine, whatever the charges: from point to point, through heads, boot and cuts.
use Rattle.std.proofs.Common.{◌≡◌, ◌⊎◌, ℕ, zero, suc, ◌+◌, ◌*◌, ◌-◌, ◌%◌, ◌<◌, ◌≤◌, Bool, true, false, List, [], ◌∷◌, ◌++◌, Option, None, flat_map, refl, sym, ap, ◌∙◌, subst, arith, inl, inr, w16}
use Rattle.std.specs.Prelude.{◌==◌, if◌then◌else◌}
use Rattle.std.proofs.lemmas.Bool.{cases_lt}
use Rattle.std.proofs.lemmas.Nat.Bits.{bit_at_set_same}
use Rattle.board_table.specs.declared.board.Board.{Board}
use Rattle.plain_meaning.specs.Behaviour.{Going, Behaviour}
use Rattle.msp430_isa.specs.declared.instr.Instr.{Instr}
use Rattle.msp430_isa.specs.Encoding.{words_of}
use Rattle.msp430_machine.specs.State.{Off, Awake, Asleep, State, set_at, status_word}
use Rattle.msp430_machine.specs.Cost.{cost, instruction_cost}
use Rattle.msp430_machine.specs.Execution.{done, put_by}
use Rattle.msp430_machine.specs.First.{IsFirst, HoldsBlocks}
use Rattle.msp430_machine.specs.declared.answer.Did.{Did}
use Rattle.msp430_machine.specs.declared.answer.Did.TheVariants.{Ran, Out, Slept, Ended as DidEnd, Trapped as DidTrap, Short, Fault}
use Rattle.msp430_machine.specs.Steps.{Does, next, begun, stepped}
use Rattle.msp430_machine.specs.Wakes.{IsCold, warm, Wakes}
use Rattle.power_core.specs.Runs.{Event, Go, Wake, Trail, start, with_instruction, with_answer, after_go, after_wake, Run, RunOf}
use Rattle.power_core.specs.Agreement.{StopsAs}
use Rattle.power_core.proofs.Covers.{Covers, covers_none, covers_off_more, covers_asleep, covers_ran, covers_ran_more, covers_stopped, ran, cut, extended, gone_ran, gone_cut, run_keeps, cut_closed, run_go, run_wake, generous_back}
use Rattle.power_core.proofs.Points.{Rich, Setting, Paid, rich_before}
use Rattle.power_core.proofs.Spending.{done_charge}
use Rattle.power_core.proofs.Stands.{WordsAt, next_is}
use Rattle.resumed_runs.specs.Code.{boot}
use Rattle.resumed_runs.specs.Need.{wake_cost}
use Rattle.resumed_runs.specs.Counts.{Counts, DoesAtMostOne, IsCounted, Begins, Steps, Refills}
use Rattle.resumed_runs.proofs.Instructions.{tests, jumps, stacks, resumes, keeps_stack, marks, opens, sleeps, closes, passes, marks_fits}
use Rattle.resumed_runs.proofs.Dead.{Dead, dead_stays}
use Rattle.resumed_runs.proofs.Paths.{Stand, Working, Takes, Path, Arrived, Through}
use Rattle.resumed_runs.proofs.Moments.{Fine, stops_stopped}
use Rattle.resumed_runs.proofs.Carrying.{Points, Resumed, asleep_fram, Leads, Moves, Stops, Sleeps, Carried, Tied, HasBoot, Begun}

-- ---- A run at a moment: what was put, and what its charge has, of a supply that is as it should be

pub record On (g : Setting) (flow : Behaviour) (Shows : ℕ → State → Type 0) (origin : State) (need wakes operations : ℕ) (put : List ℕ) (past : List Event) (t : Trail) : Type 0 where
  pub has_put : t.put ≡ put
  pub few : operations ≤ t.instructions
  pub reached : RunOf g.image g.board g.input past t
  pub rich : Rich g.board g.whole past → Paid g.board wakes need t
  pub counted : Rich g.board g.whole past → Counts g.board g.input flow Shows origin past t operations wakes

-- a cut comes only of a poor supply
poor : (g : Setting) (flow : Behaviour) (Shows : ℕ → State → Type 0) (origin : State) (c need wakes operations : ℕ) (put : List ℕ) (past : List Event) (t : Trail) → On g flow Shows origin (c + need) wakes operations put past t → t.state.charge < c → Rich g.board g.whole past → ⊥
poor g flow Shows origin c need wakes operations put past t on short r = (let p = on.rich r in omega (arith, p.paid, p.has, short))

pub less : (g : Setting) (flow : Behaviour) (Shows : ℕ → State → Type 0) (origin : State) (need need' wakes operations : ℕ) (put : List ℕ) (past : List Event) (t : Trail) → need' ≤ need → On g flow Shows origin need wakes operations put past t → On g flow Shows origin need' wakes operations put past t
less g flow Shows origin need need' wakes operations put past t le on = record {
  has_put = on.has_put;
  few = on.few;
  reached = on.reached;
  rich = λ r. let p = on.rich r in record { no_cut = p.no_cut; few_wakes = p.few_wakes; paid = omega (arith, p.paid, le); has = p.has };
  counted = on.counted;
}

-- the trail after an instruction, where its cost, what it puts and what it leaves are known
ran_is : (b : Board) (input : List ℕ) (i : Instr) (c : ℕ) (puts : Option ℕ) (t : Trail) (u : State) → cost b t.state i ≡ c → put_by input i (begun c i t.state) ≡ puts → done input i (begun c i t.state) ≡ u
    → ran b input i t ≡ with_instruction c (extended t.put puts) u t
ran_is b input i c puts t u costs put leaves =
    ap (λ v. with_instruction v (extended t.put (put_by input i (begun v i t.state))) (done input i (begun v i t.state)) t) costs
    ∙ ap (λ o. with_instruction c (extended t.put o) (done input i (begun c i t.state)) t) put
    ∙ ap (λ s. with_instruction c (extended t.put puts) s t) leaves

-- An instruction was executed: the run is on, with what is left to be spent.
ran_on : (g : Setting) (flow : Behaviour) (Shows : ℕ → State → Type 0) (origin : State) (need wakes operations more : ℕ) (put : List ℕ) (past : List Event) (t : Trail) (i : Instr) (c : ℕ) (puts : Option ℕ) (u : State)
    → t.state.phase ≡ Awake → Takes g.board g.input i c t.state puts u → cost g.board t.state i ≤ t.state.charge → DoesAtMostOne flow Shows g.input operations more u → extended put puts ≡ (flow g.input more).words → On g flow Shows origin (c + need) wakes operations put past t
    → On g flow Shows origin need wakes more (extended put puts) (past ++ Go ∷ []) (with_instruction c (extended t.put puts) u t)
ran_on g flow Shows origin need wakes operations more put past t i c puts u awake takes le does shows on = record {
  has_put = ap (λ p. extended p puts) on.has_put;
  few = (let f = few_does operations more u does in omega (arith, on.few, f));
  reached = subst (λ v. RunOf g.image g.board g.input (past ++ Go ∷ []) v) (gone_ran g.board g.input t i takes.does le ∙ ran_is g.board g.input i c puts t u takes.costs takes.put takes.leaves) (run_go g.board g.input g.image past t on.reached awake);
  rich = λ r. let p = on.rich (rich_before g.board g.whole past (Go ∷ []) r) in record {
    no_cut = p.no_cut;
    few_wakes = p.few_wakes;
    paid = omega (arith, p.paid);
    has = omega (arith, p.has, p.paid, pays);
  };
  counted = λ r. subst (λ v. Counts g.board g.input flow Shows origin (past ++ Go ∷ []) v more wakes) (gone_ran g.board g.input t i takes.does le ∙ ran_is g.board g.input i c puts t u takes.costs takes.put takes.leaves)
      (Steps past t operations wakes more (on.counted (rich_before g.board g.whole past (Go ∷ []) r))
      (subst (λ v. DoesAtMostOne flow Shows g.input operations more v.state) (sym (gone_ran g.board g.input t i takes.does le ∙ ran_is g.board g.input i c puts t u takes.costs takes.put takes.leaves)) does)
      (ap (λ v. v.put) (gone_ran g.board g.input t i takes.does le ∙ ran_is g.board g.input i c puts t u takes.costs takes.put takes.leaves) ∙ (ap (λ p. extended p puts) on.has_put ∙ shows)));
}
  where
    few_does : (done next : ℕ) (v : State) → DoesAtMostOne flow Shows g.input done next v → next ≤ done + 1
    few_does done next v (inl same) = omega (arith, same)
    few_does done next v (inr one) = (let e = one.0 in omega (arith, e))

    pays : u.charge ≡ t.state.charge - c
    pays = ap (λ s. s.charge) (sym takes.leaves) ∙ done_charge g.input i (begun c i t.state)

-- ---- The number of instructions never falls

answer_keeps : (d : Did) (c : ℕ) (s : State) (t : Trail) → t.instructions ≤ (with_answer d c s t).instructions
answer_keeps (Fault pc why) c s t = omega arith
answer_keeps (Short need charge) c s t = omega arith
answer_keeps (Out v) c s t = omega arith
answer_keeps (Ran need) c s t = omega arith
answer_keeps Slept c s t = omega arith
answer_keeps (DidEnd v) c s t = omega arith
answer_keeps (DidTrap v) c s t = omega arith

go_keeps : (b : Board) (input : List ℕ) (t : Trail) → t.instructions ≤ (after_go b input t).instructions
go_keeps b input t = let o = stepped b input t.state in answer_keeps o.answer o.spent o.state t

instructions_keep : (b : Board) (input : List ℕ) (t : Trail) (events : List Event) (u : Trail) → Run b input t events u → t.instructions ≤ u.instructions
instructions_keep b input t [] u run = omega (arith, ap (λ x. x.instructions) run)
instructions_keep b input t (Go ∷ events) u run = omega (arith, go_keeps b input t, ap (λ x. x.instructions) run.1.1, instructions_keep b input run.0 events u run.2)
instructions_keep b input t (Wake amount keep ∷ events) u run = omega (arith, ap (λ x. x.instructions) run.1.1, instructions_keep b input run.0 events u run.2)

-- ---- Points and rests

-- what holds of a point
record Told (g : Setting) (flow : Behaviour) (wakes operations : ℕ) (put : List ℕ) : Type 0 where
  pub shown : put ≡ (flow g.input operations).words
  pub going : (flow g.input operations).outcome ≡ Going
  pub timely : wakes ≤ operations + 1

-- Off or asleep, with an open gate, to go on at the last instruction of the head, which stands at k
record Rests (g : Setting) (flow : Behaviour) (Shows : ℕ → State → Type 0) (origin : State) (k sp taken : ℕ) (f : ℕ → ℕ) (wakes operations : ℕ) (put : List ℕ) (past : List Event) (t : Trail) : Type 0 where
  pub phase : (t.state.phase ≡ Off) ⊎ ((t.state.phase ≡ Asleep) × (t.state.reg 0 ≡ 0x8000 + 2 * k) × (t.state.reg 1 ≡ sp))
  pub has_code : t.state.code ≡ g.code
  pub has_fram : t.state.fram ≡ f
  pub has_taken : t.state.taken ≡ taken
  pub has_put : t.put ≡ put
  pub few : operations ≤ t.instructions
  pub reached : RunOf g.image g.board g.input past t
  pub unused : Rich g.board g.whole past → (t.cuts ≡ 0) × (t.wakes ≤ wakes) × (t.stretch ≤ g.board.budget)
  pub counted : Rich g.board g.whole past → Counts g.board g.input flow Shows origin past t operations wakes

-- what holds at each moment of a run
pub record Moment (g : Setting) (flow : Behaviour) (Shows : ℕ → State → Type 0) (origin : State) (past : List Event) (t : Trail) : Type 0 where
  pub fine : Fine g flow past t
  pub counted : Rich g.board g.whole past → IsCounted g.board g.input flow Shows origin past t

-- what stays through all wakes of such a rest
record Resting (g : Setting) (flow : Behaviour) (Point : Points) (left k sp taken : ℕ) (f : ℕ → ℕ) (wakes operations : ℕ) (put : List ℕ) : Type 0 where
  pub told : Told g flow wakes operations put
  pub busy : wakes ≤ operations
  pub opened : f 0xC00 ≡ 1
  pub resume : f 0xC01 ≡ 0x8000 + 2 * k
  pub stack : f 0xC02 ≡ sp
  pub stands : Stand g.code k (closes ∷ [])
  pub affords : wake_cost g.board + left ≤ g.whole
  pub leads : Leads g Point left k sp taken f wakes operations put

-- awake with an open gate, in boot or at the head's last instruction
record Opening (g : Setting) (flow : Behaviour) (Shows : ℕ → State → Type 0) (origin : State) (j need taken : ℕ) (f : ℕ → ℕ) (wakes operations : ℕ) (put : List ℕ) (past : List Event) (t : Trail) : Type 0 where
  pub awake : t.state.phase ≡ Awake
  pub pc : t.state.reg 0 ≡ 0x8000 + 2 * j
  pub has_code : t.state.code ≡ g.code
  pub has_fram : t.state.fram ≡ f
  pub has_taken : t.state.taken ≡ taken
  pub on : On g flow Shows origin need (operations + 1) operations put past t

module _ (g : Setting) (flow : Behaviour) (Point : Points) (carried : Carried g flow Point) (has : HasBoot g.code) (Shows : ℕ → State → Type 0) (tied : Tied g Point Shows) (origin : State) where
  abbrev P : List Event → Trail → Type 0
  P past t = Moment g flow Shows origin past t

  abbrev C : ℕ → List Event → Trail → Type 0
  C n past t = Covers n g.board g.input P past t

  -- ---- With a closed gate

  fine_closed : (need wakes operations : ℕ) (put : List ℕ) (past : List Event) (t : Trail) → Told g flow wakes operations put → Working g.code t.state → On g flow Shows origin need wakes operations put past t → P past t
  fine_closed need wakes operations put past t told working on = record {
    fine = record {
      has_code = working.has_code;
      sound = λ r. let p = on.rich r in record { no_cut = p.no_cut; stretch = omega (arith, p.paid) };
      progress = inl (record {
        operations = operations;
        few = on.few;
        shown = on.has_put ∙ told.shown;
        going = told.going;
        timely = λ r. let p = on.rich r in omega (arith, p.few_wakes, told.timely);
        stands = inr (record { gate = working.closed; awake = working.awake });
      });
    };
    counted = λ r. record { operations = operations; due = wakes; counts = on.counted r; shown = on.has_put ∙ told.shown };
  }

  -- a cut with a closed gate
  closed_cut : (n c need wakes operations : ℕ) (put : List ℕ) (past : List Event) (t : Trail) → Told g flow wakes operations put → Working g.code t.state → On g flow Shows origin (c + need) wakes operations put past t → t.state.charge < c → C n (past ++ Go ∷ []) (cut t)
  closed_cut n c need wakes operations put past t told working on lt events u short run =
      let d : Dead g.code t.put t.state.taken u = dead_stays g.board g.input g.code t.put t.state.taken has.text has.reset n [] (cut t) refl (record { has_code = working.has_code; closed = working.closed; has_taken = refl; has_put = refl; phase = inl refl }) events u short run in
      let none : Rich g.board g.whole ((past ++ Go ∷ []) ++ events) → ⊥ = λ r. poor g flow Shows origin c need wakes operations put past t on lt (rich_before g.board g.whole past (Go ∷ []) (rich_before g.board g.whole (past ++ Go ∷ []) events r)) in
      record {
        fine = record {
          has_code = d.has_code;
          sound = λ r. absurd (none r);
          progress = inr (inr (record {
            operations = operations;
            few = omega (arith, on.few, instructions_keep g.board g.input (cut t) events u run);
            shown = d.has_put ∙ on.has_put ∙ told.shown;
            poor = none;
            was_cut = omega (arith, cut_closed t working.closed, run_keeps g.board g.input (cut t) events u run);
            dead = subst (λ p. Dead g.code p u.state.taken u) (sym d.has_put) (subst (λ x. Dead g.code t.put x u) (sym d.has_taken) d);
          }));
        };
        counted = λ r. absurd (none r);
      }

  -- an instruction that puts nothing
  quiet_covers : (n c need wakes operations : ℕ) (put : List ℕ) (past : List Event) (t : Trail) (i : Instr) (v : State) → Told g flow wakes operations put → Working g.code t.state
      → Takes g.board g.input i c t.state None v → On g flow Shows origin (c + need) wakes operations put past t
      → ((past' : List Event) (t' : Trail) → t'.state ≡ v → On g flow Shows origin need wakes operations put past' t' → C n past' t')
      → C n past t
  quiet_covers n c need wakes operations put past t i v told working takes on next =
      covers_ran n g.board g.input P past t i working.awake (fine_closed (c + need) wakes operations put past t told working on) takes.does
      (λ le. subst (λ x. C n (past ++ Go ∷ []) x) (sym (ran_is g.board g.input i c None t v takes.costs takes.put takes.leaves))
      (next (past ++ Go ∷ []) (with_instruction c t.put v t) refl (ran_on g flow Shows origin need wakes operations operations put past t i c None v working.awake takes le (inl refl) told.shown on)))
      (λ lt. closed_cut n c need wakes operations put past t told working on (omega (arith, lt, takes.costs)))

  -- the same, of which at most n events follow, and which may put a word and do an operation
  last_covers : (n c need wakes operations more : ℕ) (put : List ℕ) (past : List Event) (t : Trail) (i : Instr) (puts : Option ℕ) (v : State) → Told g flow wakes operations put → Working g.code t.state
      → Takes g.board g.input i c t.state puts v → DoesAtMostOne flow Shows g.input operations more v → extended put puts ≡ (flow g.input more).words → On g flow Shows origin (c + need) wakes operations put past t
      → ((past' : List Event) (t' : Trail) → t'.state ≡ v → On g flow Shows origin need wakes more (extended put puts) past' t' → C n past' t')
      → C (suc n) past t
  last_covers n c need wakes operations more put past t i puts v told working takes does shows on next =
      covers_ran_more n g.board g.input P past t i working.awake (fine_closed (c + need) wakes operations put past t told working on) takes.does
      (λ le. subst (λ x. C n (past ++ Go ∷ []) x) (sym (ran_is g.board g.input i c puts t v takes.costs takes.put takes.leaves))
      (next (past ++ Go ∷ []) (with_instruction c (extended t.put puts) v t) refl (ran_on g flow Shows origin need wakes operations more put past t i c puts v working.awake takes le does shows on)))
      (λ lt. closed_cut n c need wakes operations put past t told working on (omega (arith, lt, takes.costs)))

  path_covers : (n wakes operations need : ℕ) (put : List ℕ) (mid : State) → Told g flow wakes operations put
      → ((past' : List Event) (t' : Trail) → t'.state ≡ mid → On g flow Shows origin need wakes operations put past' t' → C n past' t')
      → (c : ℕ) (s : State) → Path g.board g.input g.code mid c s → (past : List Event) (t : Trail) → t.state ≡ s → On g flow Shows origin (c + need) wakes operations put past t → C n past t
  path_covers n wakes operations need put mid told next c s path =
      elim path as (λ x y p. (past : List Event) (t : Trail) → t.state ≡ y → On g flow Shows origin (x + need) wakes operations put past t → C n past t) [
        | Arrived ↦ λ past t same on. next past t same (less g flow Shows origin (0 + need) need wakes operations put past t (omega arith) on)
        | Through i x rest y z working takes (p → on_path) ↦ λ past t same on.
            let sum : x + rest + need ≡ x + (rest + need) = omega arith in
            quiet_covers n x (rest + need) wakes operations put past t i z told (subst (λ w. Working g.code w) (sym same) working) (subst (λ w. Takes g.board g.input i x w None z) (sym same) takes)
            (subst (λ m. On g flow Shows origin m wakes operations put past t) sum on) on_path
      ]

  told : (need wakes operations : ℕ) (put : List ℕ) (s : State) → Point need wakes operations put s → Told g flow wakes operations put
  told need wakes operations put s p = record {
    shown = carried.shown need wakes operations put s p;
    going = carried.going need wakes operations put s p;
    timely = carried.timely need wakes operations put s p;
  }

  abbrev FromPoints : ℕ → Type 0
  FromPoints n = (need wakes operations : ℕ) (put : List ℕ) (past : List Event) (t : Trail) → Point need wakes operations put t.state → On g flow Shows origin need wakes operations put past t → C n past t

  abbrev FromRests : ℕ → Type 0
  FromRests n = (left k sp taken : ℕ) (f : ℕ → ℕ) (wakes operations : ℕ) (put : List ℕ) (past : List Event) (t : Trail) → Resting g flow Point left k sp taken f wakes operations put → Rests g flow Shows origin k sp taken f wakes operations put past t → C n past t

  moves_cover : (n : ℕ) → FromPoints n → (need wakes operations : ℕ) (put : List ℕ) (past : List Event) (t : Trail) → Told g flow wakes operations put → On g flow Shows origin need wakes operations put past t
      → Moves g Point need wakes operations put t.state → C (suc n) past t
  moves_cover n again need wakes operations put past t is on m =
      let split : m.first + (m.last + m.left) ≡ m.first + m.last + m.left = omega arith in
      path_covers (suc n) wakes operations (m.last + m.left) put m.mid is
      (λ past1 t1 same1 on1. last_covers n m.last m.left wakes operations m.done put past1 t1 m.instruction m.puts m.after is (subst (λ w. Working g.code w) (sym same1) m.working)
      (subst (λ w. Takes g.board g.input m.instruction m.last w m.puts m.after) (sym same1) m.takes) (does operations m.done m.after m.few m.least (tied.works m.left wakes m.done (extended put m.puts) m.after m.leads)) (carried.shown m.left wakes m.done (extended put m.puts) m.after m.leads) on1
      (λ past2 t2 same2 on2. again m.left wakes m.done (extended put m.puts) past2 t2 (subst (λ w. Point m.left wakes m.done (extended put m.puts) w) (sym same2) m.leads) on2))
      m.first t.state m.path past t refl (less g flow Shows origin need (m.first + (m.last + m.left)) wakes operations put past t (omega (arith, m.enough)) on)
    where
      does : (done more : ℕ) (u : State) → more ≤ done + 1 → done ≤ more → Shows more u → DoesAtMostOne flow Shows g.input done more u
      does done more u few least shows = elim (cases_lt done more) [
        | inl lt ↦ inr (omega (arith, lt, few), inl shows)
        | inr le ↦ inl (omega (arith, le, least))
      ]

  stops_cover : (n : ℕ) (need wakes operations : ℕ) (put : List ℕ) (past : List Event) (t : Trail) → Told g flow wakes operations put → On g flow Shows origin need wakes operations put past t
      → Stops g flow need operations put t.state → C (suc n) past t
  stops_cover n need wakes operations put past t is on m =
      path_covers (suc n) wakes operations (m.last + 0) put m.mid is
      (λ past1 t1 same1 on1. last_covers n m.last 0 wakes operations (operations + 1) put past1 t1 m.instruction m.puts m.after is (subst (λ w. Working g.code w) (sym same1) m.working)
      (subst (λ w. Takes g.board g.input m.instruction m.last w m.puts m.after) (sym same1) m.takes) (inr (refl, inr m.stopped)) m.shown on1
      (λ past2 t2 same2 on2. covers_stopped n g.board g.input P past2 t2 (stops_stopped _ t2.state.phase (stops t2 same2)) (record {
        fine = record {
          has_code = ap (λ w. w.code) same2 ∙ m.same_code;
          sound = λ r. let p = on2.rich r in record { no_cut = p.no_cut; stretch = omega (arith, p.paid) };
          progress = inr (inl (record {
            operations = operations + 1;
            few = on2.few;
            shown = on2.has_put ∙ m.shown;
            stopped = stops t2 same2;
            other = λ e. m.other (ap (λ w. w.phase) (sym same2) ∙ e);
            timely = λ r. let p = on2.rich r in omega (arith, p.few_wakes, is.timely);
          }));
        };
        counted = λ r. record { operations = operations + 1; due = wakes; counts = on2.counted r; shown = on2.has_put ∙ m.shown };
      })))
      m.first t.state m.path past t refl (less g flow Shows origin need (m.first + (m.last + 0)) wakes operations put past t (omega (arith, m.enough)) on)
    where
      stops : (u : Trail) → u.state ≡ m.after → StopsAs (flow g.input (operations + 1)).outcome u.state.phase
      stops u same = subst (λ w. StopsAs (flow g.input (operations + 1)).outcome w.phase) (sym same) m.stopped

  -- ---- With an open gate

  fine_open : (j need taken : ℕ) (f : ℕ → ℕ) (wakes operations : ℕ) (put : List ℕ) (past : List Event) (t : Trail) → Told g flow wakes operations put → wakes ≤ operations → f 0xC00 ≡ 1 → Opening g flow Shows origin j need taken f wakes operations put past t → P past t
  fine_open j need taken f wakes operations put past t is busy opened at = record {
    fine = record {
      has_code = at.has_code;
      sound = λ r. let p = at.on.rich r in record { no_cut = p.no_cut; stretch = omega (arith, p.paid) };
      progress = inl (record {
        operations = operations;
        few = at.on.few;
        shown = at.on.has_put ∙ is.shown;
        going = is.going;
        timely = λ r. let p = at.on.rich r in omega (arith, p.few_wakes, busy);
        stands = inl (record { gate = ap (λ x. x 0xC00) at.has_fram ∙ opened; phase = inr (inl at.awake) });
      });
    };
    counted = λ r. record { operations = operations; due = operations + 1; counts = at.on.counted r; shown = at.on.has_put ∙ is.shown };
  }

  module _ (left k sp taken : ℕ) (f : ℕ → ℕ) (wakes operations : ℕ) (put : List ℕ) (rest : Resting g flow Point left k sp taken f wakes operations put) where
    abbrev Rest : List Event → Trail → Type 0
    Rest past t = Rests g flow Shows origin k sp taken f wakes operations put past t

    abbrev Boots : ℕ → ℕ → List Event → Trail → Type 0
    Boots j need past t = Opening g flow Shows origin j need taken f wakes operations put past t

    fine_rests : (past : List Event) (t : Trail) → Rest past t → P past t
    fine_rests past t h = record {
      fine = record {
        has_code = h.has_code;
        sound = λ r. let u = h.unused r in record { no_cut = u.0; stretch = u.2 };
        progress = inl (record {
          operations = operations;
          few = h.few;
          shown = h.has_put ∙ rest.told.shown;
          going = rest.told.going;
          timely = λ r. let u = h.unused r in let b = rest.busy in omega (arith, u.1, b);
          stands = inl (record { gate = ap (λ x. x 0xC00) h.has_fram ∙ rest.opened; phase = elim (h.phase) [ inl off ↦ inl off | inr asleep ↦ inr (inr asleep.0) ] });
        });
      };
      counted = λ r. record { operations = operations; due = wakes; counts = h.counted r; shown = h.has_put ∙ rest.told.shown };
    }

    rests_cut : (j c need : ℕ) (i : Instr) (past : List Event) (t : Trail) → Boots j (c + need) past t → next t.state ≡ Does i → cost g.board t.state i ≡ c → t.state.charge < cost g.board t.state i → Rest (past ++ Go ∷ []) (cut t)
    rests_cut j c need i past t at does costs lt = record {
      phase = inl refl;
      has_code = at.has_code;
      has_fram = at.has_fram;
      has_taken = at.has_taken;
      has_put = at.on.has_put;
      few = at.on.few;
      reached = subst (λ x. RunOf g.image g.board g.input (past ++ Go ∷ []) x) (gone_cut g.board g.input t i does lt) (run_go g.board g.input g.image past t at.on.reached at.awake);
      unused = λ r. absurd (poor g flow Shows origin c need (operations + 1) operations put past t at.on (omega (arith, lt, costs)) (rich_before g.board g.whole past (Go ∷ []) r));
      counted = λ r. absurd (poor g flow Shows origin c need (operations + 1) operations put past t at.on (omega (arith, lt, costs)) (rich_before g.board g.whole past (Go ∷ []) r));
    }

    abbrev Again : ℕ → Type 0
    Again n = (past : List Event) (t : Trail) → Rest past t → C n past t

    -- an instruction of boot, that leaves FRAM as it is
    boot_step : (n : ℕ) → Again n → (j c need : ℕ) (i : Instr) (past : List Event) (t : Trail) (v : State) → Boots j (c + need) past t → Takes g.board g.input i c t.state None v
        → ((past' : List Event) (t' : Trail) → t'.state ≡ v → On g flow Shows origin need (operations + 1) operations put past' t' → C n past' t')
        → C n past t
    boot_step n again j c need i past t v at takes next =
        covers_ran n g.board g.input P past t i at.awake (fine_open j (c + need) taken f wakes operations put past t rest.told rest.busy rest.opened at) takes.does
        (λ le. subst (λ x. C n (past ++ Go ∷ []) x) (sym (ran_is g.board g.input i c None t v takes.costs takes.put takes.leaves))
        (next (past ++ Go ∷ []) (with_instruction c t.put v t) refl (ran_on g flow Shows origin need (operations + 1) operations operations put past t i c None v at.awake takes le (inl refl) rest.told.shown at.on)))
        (λ lt. again (past ++ Go ∷ []) (cut t) (rests_cut j c need i past t at takes.does takes.costs lt))

    abbrev at_close : ℕ
    at_close = instruction_cost g.board closes + left

    -- the head's last instruction, with the stack back
    closes_covers : (n : ℕ) → Again n → FromPoints n → (past : List Event) (t : Trail) → t.state.reg 1 ≡ sp → Boots k at_close past t → C n past t
    closes_covers n again points past t stack at =
        boot_step n again k (instruction_cost g.board closes) left closes past t u at
        (record { does = next_is g.code t.state k closes at.has_code at.pc rest.stands.1 refl rest.stands.0 refl; costs = refl; put = refl; leaves = refl })
        (λ past1 t1 same1 on1. points left (operations + 1) operations put past1 t1 (subst (λ w. Point left (operations + 1) operations put w) (sym same1) (rest.leads u resumed)) on1)
      where
        u : State
        u = done g.input closes (begun (instruction_cost g.board closes) closes t.state)

        resumed : Resumed g k sp taken f u
        resumed = record {
          awake = at.awake;
          pc = (let e = rest.stands.1 in omega (arith, at.pc, e));
          has_sp = stack;
          has_code = at.has_code;
          has_fram = ap (λ x. set_at x 0xC00 0) at.has_fram;
          has_taken = at.has_taken;
        }

    resumes_covers : (n : ℕ) → Again n → FromPoints n → (past : List Event) (t : Trail) → t.state.reg 1 ≡ sp → Boots 5 (instruction_cost g.board resumes + at_close) past t → C n past t
    resumes_covers n again points past t stack at =
        boot_step n again 5 (instruction_cost g.board resumes) at_close resumes past t u at
        (record { does = next_is g.code t.state 5 resumes at.has_code at.pc (omega arith) refl (w.1.1.1.1.1.0, (w.1.1.1.1.1.1.0, tt)) refl; costs = refl; put = refl; leaves = refl })
        (λ past1 t1 same1 on1. closes_covers n again points past1 t1 (ap (λ x. x.reg 1) same1 ∙ stack) (record {
          awake = ap (λ x. x.phase) same1 ∙ at.awake;
          pc = ap (λ x. x.reg 0) same1 ∙ ap (λ x. x 0xC01) at.has_fram ∙ rest.resume;
          has_code = ap (λ x. x.code) same1 ∙ at.has_code;
          has_fram = ap (λ x. x.fram) same1 ∙ at.has_fram;
          has_taken = ap (λ x. x.taken) same1 ∙ at.has_taken;
          on = on1;
        }))
      where
        w : WordsAt g.code 0 (flat_map words_of boot)
        w = has.text

        u : State
        u = done g.input resumes (begun (instruction_cost g.board resumes) resumes t.state)

    stacks_covers : (n : ℕ) → Again n → FromPoints n → (past : List Event) (t : Trail) → Boots 3 (instruction_cost g.board stacks + (instruction_cost g.board resumes + at_close)) past t → C n past t
    stacks_covers n again points past t at =
        boot_step n again 3 (instruction_cost g.board stacks) (instruction_cost g.board resumes + at_close) stacks past t u at
        (record { does = next_is g.code t.state 3 stacks at.has_code at.pc (omega arith) refl (w.1.1.1.0, (w.1.1.1.1.0, tt)) refl; costs = refl; put = refl; leaves = refl })
        (λ past1 t1 same1 on1. resumes_covers n again points past1 t1 (ap (λ x. x.reg 1) same1 ∙ ap (λ x. x 0xC02) at.has_fram ∙ rest.stack) (record {
          awake = ap (λ x. x.phase) same1 ∙ at.awake;
          pc = ap (λ x. x.reg 0) same1 ∙ ap (λ p. (p + 4) % 65536) at.pc;
          has_code = ap (λ x. x.code) same1 ∙ at.has_code;
          has_fram = ap (λ x. x.fram) same1 ∙ at.has_fram;
          has_taken = ap (λ x. x.taken) same1 ∙ at.has_taken;
          on = on1;
        }))
      where
        w : WordsAt g.code 0 (flat_map words_of boot)
        w = has.text

        u : State
        u = done g.input stacks (begun (instruction_cost g.board stacks) stacks t.state)

    jumps_covers : (n : ℕ) → Again n → FromPoints n → (past : List Event) (t : Trail) → t.state.flags.zero_flag ≡ true → Boots 2 (instruction_cost g.board jumps + (instruction_cost g.board stacks + (instruction_cost g.board resumes + at_close))) past t → C n past t
    jumps_covers n again points past t equal at =
        boot_step n again 2 (instruction_cost g.board jumps) (instruction_cost g.board stacks + (instruction_cost g.board resumes + at_close)) jumps past t u at
        (record { does = next_is g.code t.state 2 jumps at.has_code at.pc (omega arith) refl (w.1.1.0, tt) refl; costs = refl; put = refl; leaves = passes g.input u equal })
        (λ past1 t1 same1 on1. stacks_covers n again points past1 t1 (record {
          awake = ap (λ x. x.phase) same1 ∙ at.awake;
          pc = ap (λ x. x.reg 0) same1 ∙ ap (λ p. (p + 2) % 65536) at.pc;
          has_code = ap (λ x. x.code) same1 ∙ at.has_code;
          has_fram = ap (λ x. x.fram) same1 ∙ at.has_fram;
          has_taken = ap (λ x. x.taken) same1 ∙ at.has_taken;
          on = on1;
        }))
      where
        w : WordsAt g.code 0 (flat_map words_of boot)
        w = has.text

        u : State
        u = begun (instruction_cost g.board jumps) jumps t.state

    abbrev boot_cost : ℕ
    boot_cost = instruction_cost g.board tests + (instruction_cost g.board jumps + (instruction_cost g.board stacks + (instruction_cost g.board resumes + at_close)))

    boot_covers : (n : ℕ) → Again n → FromPoints n → (past : List Event) (t : Trail) → Boots 0 boot_cost past t → C n past t
    boot_covers n again points past t at =
        boot_step n again 0 (instruction_cost g.board tests) (instruction_cost g.board jumps + (instruction_cost g.board stacks + (instruction_cost g.board resumes + at_close))) tests past t u at
        (record { does = next_is g.code t.state 0 tests at.has_code at.pc (omega arith) refl (w.0, (w.1.0, tt)) refl; costs = refl; put = refl; leaves = refl })
        (λ past1 t1 same1 on1. jumps_covers n again points past1 t1
        (ap (λ x. x.flags.zero_flag) same1 ∙ ap (λ x. (x 0xC00 + 65534 + 1) % 65536 == 0) at.has_fram ∙ ap (λ x. (x + 65534 + 1) % 65536 == 0) rest.opened) (record {
          awake = ap (λ x. x.phase) same1 ∙ at.awake;
          pc = ap (λ x. x.reg 0) same1 ∙ ap (λ p. (p + 4) % 65536) at.pc;
          has_code = ap (λ x. x.code) same1 ∙ at.has_code;
          has_fram = ap (λ x. x.fram) same1 ∙ at.has_fram;
          has_taken = ap (λ x. x.taken) same1 ∙ at.has_taken;
          on = on1;
        }))
      where
        w : WordsAt g.code 0 (flat_map words_of boot)
        w = has.text

        u : State
        u = done g.input tests (begun (instruction_cost g.board tests) tests t.state)

    affords : boot_cost ≤ g.whole
    affords = let e = rest.affords in omega (arith, e)

    -- the state in which a wake of this rest leaves the head
    abbrev woken : State → State
    woken s = record s { phase = Awake; reg = set_at (set_at s.reg 1 sp) 0 (0x8000 + 2 * (k + 2)); fram = set_at f 0xC00 0; taken = taken }

    waits : (past : List Event) (t : Trail) → Rest past t → Shows operations t.state
    waits past t h =
        let resumed : Resumed g k sp taken f (woken t.state) = record { awake = refl; pc = refl; has_sp = refl; has_code = h.has_code; has_fram = refl; has_taken = refl } in
        tied.waits left k sp taken operations f put (woken t.state) t.state rest.opened rest.resume resumed (rest.leads (woken t.state) resumed) (elim (h.phase) [ inl off ↦ inl off | inr asleep ↦ inr asleep.0 ]) h.has_fram

    -- a wake behind which this is needed, from here
    woken_on : (need : ℕ) (past : List Event) (t : Trail) (amount : ℕ) (keep : Bool) (s : State) → Rest past t → Wakes amount keep t.state s → s.charge ≡ amount → need ≤ g.whole → On g flow Shows origin need (operations + 1) operations put (past ++ Wake amount keep ∷ []) (after_wake s t)
    woken_on need past t amount keep s h wakes_so charge le = record {
      has_put = h.has_put;
      few = h.few;
      reached = run_wake g.board g.input g.image past t amount keep s h.reached wakes_so;
      rich = λ r. let u = h.unused (rich_before g.board g.whole past (Wake amount keep ∷ []) r) in record {
        no_cut = u.0;
        few_wakes = (let b = rest.busy in omega (arith, u.1, b));
        paid = omega (arith, le, r.0);
        has = (let x = generous_back g.board.budget past (Wake amount keep ∷ []) r.1 in omega (arith, x.0, charge));
      };
      counted = λ r. Refills past t operations wakes amount keep s (h.counted (rich_before g.board g.whole past (Wake amount keep ∷ []) r)) wakes_so rest.busy (h.has_put ∙ rest.told.shown) rest.told.going (waits past t h);
    }

    cold_covers : (n : ℕ) → Again n → FromPoints n → (past : List Event) (t : Trail) → Rest past t → (amount : ℕ) (keep : Bool) (s : State) → IsCold t.state amount s → Wakes amount keep t.state s → C n (past ++ Wake amount keep ∷ []) (after_wake s t)
    cold_covers n again points past t h amount keep s cold wakes_so =
        boot_covers n again points (past ++ Wake amount keep ∷ []) (after_wake s t) (record {
          awake = ap (λ x. x.phase) cold.same;
          pc = cold.starts ∙ ap (λ x. x 16383) h.has_code ∙ has.reset;
          has_code = ap (λ x. x.code) cold.same ∙ h.has_code;
          has_fram = ap (λ x. x.fram) cold.same ∙ h.has_fram;
          has_taken = ap (λ x. x.taken) cold.same ∙ h.has_taken;
          on = woken_on boot_cost past t amount keep s h wakes_so (ap (λ x. x.charge) cold.same) affords;
        })

    warm_covers : (n : ℕ) → Again n → FromPoints n → (past : List Event) (t : Trail) → Rest past t → t.state.reg 0 ≡ 0x8000 + 2 * k → t.state.reg 1 ≡ sp → (amount : ℕ) → Wakes amount true t.state (warm amount t.state) → C n (past ++ Wake amount true ∷ []) (after_wake (warm amount t.state) t)
    warm_covers n again points past t h pc stack amount wakes_so =
        closes_covers n again points (past ++ Wake amount true ∷ []) (after_wake (warm amount t.state) t) stack (record {
          awake = refl;
          pc = pc;
          has_code = h.has_code;
          has_fram = h.has_fram;
          has_taken = h.has_taken;
          on = woken_on at_close past t amount true (warm amount t.state) h wakes_so refl (let e = affords in omega (arith, e));
        })

    rests_cover : (n : ℕ) → Again n → FromPoints n → (past : List Event) (t : Trail) → Rest past t → C (suc n) past t
    rests_cover n again points past t h = elim (h.phase) [
      | inl off ↦ covers_off_more n g.board g.input P past t off (fine_rests past t h) (cold_covers n again points past t h)
      | inr asleep ↦ covers_asleep n g.board g.input P past t asleep.0 (fine_rests past t h)
          (λ amount s cold wakes_so. cold_covers n again points past t h amount false s cold wakes_so)
          (warm_covers n again points past t h asleep.1 asleep.2)
    ]

    rests_none : (past : List Event) (t : Trail) → Rest past t → C 0 past t
    rests_none past t h = covers_none g.board g.input P past t (fine_rests past t h)

  -- ---- To sleep

  module _ (need wakes operations : ℕ) (put : List ℕ) (s : State) (is : Told g flow wakes operations put) (working : Working g.code s) (sl : Sleeps g Point need wakes operations put s) where
    abbrev r : ℕ
    r = 0x8000 + 2 * (sl.k + 9)

    abbrev b : Board
    b = g.board

    abbrev s1 : State
    s1 = done g.input keeps_stack (begun (instruction_cost g.board keeps_stack) keeps_stack s)

    abbrev s2 : State
    s2 = done g.input (marks r) (begun (instruction_cost g.board (marks r)) (marks r) s1)

    abbrev s3 : State
    s3 = done g.input opens (begun (instruction_cost g.board opens) opens s2)

    abbrev s4 : State
    s4 = done g.input sleeps (begun (instruction_cost g.board sleeps) sleeps s3)

    pc1 : s1.reg 0 ≡ 0x8000 + 2 * (sl.k + 2)
    pc1 = let e : (s.reg 0 + 4) % 65536 ≡ 0x8000 + 2 * (sl.k + 2) = (let x = sl.stands.1 in omega (arith, sl.pc, x)) in e

    pc2 : s2.reg 0 ≡ 0x8000 + 2 * (sl.k + 2 + 3)
    pc2 = let e : (s1.reg 0 + 6) % 65536 ≡ 0x8000 + 2 * (sl.k + 2 + 3) = (let x = sl.stands.2.1 in omega (arith, pc1, x)) in e

    pc3 : s3.reg 0 ≡ 0x8000 + 2 * (sl.k + 2 + 3 + 2)
    pc3 = let e : (s2.reg 0 + 4) % 65536 ≡ 0x8000 + 2 * (sl.k + 2 + 3 + 2) = (let x = sl.stands.2.2.1 in omega (arith, pc2, x)) in e

    pc4 : s4.reg 0 ≡ 0x8000 + 2 * (sl.k + 9)
    pc4 = let e : (s3.reg 0 + 4) % 65536 ≡ 0x8000 + 2 * (sl.k + 9) = (let x = sl.stands.2.2.2.1 in omega (arith, pc3, x)) in e

    low : r < 65536
    low = (let x = sl.stands.2.2.2.1 in omega (arith, x))

    falls_asleep : s4.phase ≡ Asleep
    falls_asleep = ap (λ x. if x == 1 then Asleep else s3.phase) (bit_at_set_same w16 (status_word s3) 4 (omega arith))

    takes1 : Takes g.board g.input keeps_stack (instruction_cost g.board keeps_stack) s None s1
    takes1 = record { does = next_is g.code s sl.k keeps_stack working.has_code sl.pc sl.stands.1 refl sl.stands.0 refl; costs = refl; put = refl; leaves = refl }

    takes2 : Takes g.board g.input (marks r) (instruction_cost g.board (marks r)) s1 None s2
    takes2 = record { does = next_is g.code s1 (sl.k + 2) (marks r) working.has_code pc1 sl.stands.2.1 (marks_fits r low) sl.stands.2.0 refl; costs = refl; put = refl; leaves = refl }

    takes3 : Takes g.board g.input opens (instruction_cost g.board opens) s2 None s3
    takes3 = record { does = next_is g.code s2 (sl.k + 2 + 3) opens working.has_code pc2 sl.stands.2.2.1 refl sl.stands.2.2.0 refl; costs = refl; put = refl; leaves = refl }

    takes4 : Takes g.board g.input sleeps (instruction_cost g.board sleeps) s3 None s4
    takes4 = record { does = next_is g.code s3 (sl.k + 2 + 3 + 2) sleeps working.has_code pc3 sl.stands.2.2.2.1 refl sl.stands.2.2.2.0 refl; costs = refl; put = refl; leaves = refl }

    abbrev f : ℕ → ℕ
    f = asleep_fram sl.k s

    last_stands : Stand g.code (sl.k + 9) (closes ∷ [])
    last_stands = let e : sl.k + 2 + 3 + 2 + 2 ≡ sl.k + 9 = omega arith in subst (λ j. Stand g.code j (closes ∷ [])) e sl.stands.2.2.2.2

    resting : Resting g flow Point sl.left (sl.k + 9) (s.reg 1) s.taken f wakes operations put
    resting = record {
      told = is;
      busy = sl.busy;
      opened = refl;
      resume = refl;
      stack = refl;
      stands = last_stands;
      affords = sl.affords;
      leads = sl.leads;
    }

    abbrev Sleeping : List Event → Trail → Type 0
    Sleeping past t = Rests g flow Shows origin (sl.k + 9) (s.reg 1) s.taken f wakes operations put past t

    -- the gate is open: asleep, or cut
    sleep_covers : (n : ℕ) → ((past : List Event) (t : Trail) → Sleeping past t → C n past t) → (past : List Event) (t : Trail) → t.state ≡ s3 → On g flow Shows origin (instruction_cost g.board sleeps + 0) wakes operations put past t → C n past t
    sleep_covers n rests past t same on =
        covers_ran n g.board g.input P past t sleeps awake fine takes.does
        (λ le. subst (λ x. C n (past ++ Go ∷ []) x) (sym (ran_is g.board g.input sleeps (instruction_cost g.board sleeps) None t s4 takes.costs takes.put takes.leaves))
        (let on' = ran_on g flow Shows origin 0 wakes operations operations put past t sleeps (instruction_cost g.board sleeps) None s4 awake takes le (inl refl) is.shown on in
        rests (past ++ Go ∷ []) (with_instruction (instruction_cost g.board sleeps) t.put s4 t) (record {
          phase = inr (falls_asleep, pc4, refl);
          has_code = working.has_code;
          has_fram = refl;
          has_taken = refl;
          has_put = on'.has_put;
          few = on'.few;
          reached = on'.reached;
          unused = λ x. let p = on'.rich x in (p.no_cut, p.few_wakes, omega (arith, p.paid));
          counted = on'.counted;
        })))
        (λ lt. rests (past ++ Go ∷ []) (cut t) (record {
          phase = inl refl;
          has_code = ap (λ x. x.code) same ∙ working.has_code;
          has_fram = ap (λ x. x.fram) same;
          has_taken = ap (λ x. x.taken) same;
          has_put = on.has_put;
          few = on.few;
          reached = subst (λ x. RunOf g.image g.board g.input (past ++ Go ∷ []) x) (gone_cut g.board g.input t sleeps takes.does lt) (run_go g.board g.input g.image past t on.reached awake);
          unused = λ x. absurd (poor g flow Shows origin (instruction_cost g.board sleeps) 0 wakes operations put past t on (omega (arith, lt, takes.costs)) (rich_before g.board g.whole past (Go ∷ []) x));
          counted = λ x. absurd (poor g flow Shows origin (instruction_cost g.board sleeps) 0 wakes operations put past t on (omega (arith, lt, takes.costs)) (rich_before g.board g.whole past (Go ∷ []) x));
        }))
      where
        awake : t.state.phase ≡ Awake
        awake = ap (λ x. x.phase) same ∙ working.awake

        takes : Takes g.board g.input sleeps (instruction_cost g.board sleeps) t.state None s4
        takes = subst (λ x. Takes g.board g.input sleeps (instruction_cost g.board sleeps) x None s4) (sym same) takes4

        fine : P past t
        fine = record {
          fine = record {
            has_code = ap (λ x. x.code) same ∙ working.has_code;
            sound = λ x. let p = on.rich x in record { no_cut = p.no_cut; stretch = omega (arith, p.paid) };
            progress = inl (record {
              operations = operations;
              few = on.few;
              shown = on.has_put ∙ is.shown;
              going = is.going;
              timely = λ x. let p = on.rich x in omega (arith, p.few_wakes, is.timely);
              stands = inl (record { gate = ap (λ x. x.fram 0xC00) same; phase = inr (inl awake) });
            });
          };
          counted = λ x. record { operations = operations; due = wakes; counts = on.counted x; shown = on.has_put ∙ is.shown };
        }

    sleeps_cover : (n : ℕ) → ((past : List Event) (t : Trail) → Sleeping past t → C n past t) → (past : List Event) (t : Trail) → t.state ≡ s → On g flow Shows origin need wakes operations put past t → C (suc n) past t
    sleeps_cover n rests past t same on =
        last_covers n c1 (c2 + (c3 + (c4 + 0))) wakes operations operations put past t keeps_stack None s1 is (subst (λ x. Working g.code x) (sym same) working)
        (subst (λ x. Takes g.board g.input keeps_stack c1 x None s1) (sym same) takes1) (inl refl) is.shown (less g flow Shows origin need (c1 + (c2 + (c3 + (c4 + 0)))) wakes operations put past t (let e = sl.enough in omega (arith, e)) on)
        (λ past1 t1 same1 on1. quiet_covers n c2 (c3 + (c4 + 0)) wakes operations put past1 t1 (marks r) s2 is (subst (λ x. Working g.code x) (sym same1) (record { awake = working.awake; closed = working.closed; has_code = working.has_code }))
        (subst (λ x. Takes g.board g.input (marks r) c2 x None s2) (sym same1) takes2) on1
        (λ past2 t2 same2 on2. quiet_covers n c3 (c4 + 0) wakes operations put past2 t2 opens s3 is (subst (λ x. Working g.code x) (sym same2) (record { awake = working.awake; closed = working.closed; has_code = working.has_code }))
        (subst (λ x. Takes g.board g.input opens c3 x None s3) (sym same2) takes3) on2
        (sleep_covers n rests)))
      where
        c1 : ℕ
        c1 = instruction_cost g.board keeps_stack

        c2 : ℕ
        c2 = instruction_cost g.board (marks r)

        c3 : ℕ
        c3 = instruction_cost g.board opens

        c4 : ℕ
        c4 = instruction_cost g.board sleeps

  -- ---- From all of them

  all_cover : (n : ℕ) → FromPoints n × FromRests n
  all_cover zero = (
    (λ need wakes operations put past t point on. covers_none g.board g.input P past t (fine_closed need wakes operations put past t (told need wakes operations put t.state point) (carried.working need wakes operations put t.state point) on)),
    (λ left k sp taken f wakes operations put past t resting h. rests_none left k sp taken f wakes operations put resting past t h),
  )
  all_cover (suc n) =
      let again = all_cover n in (
        (λ need wakes operations put past t point on.
            let is = told need wakes operations put t.state point in
            let working = carried.working need wakes operations put t.state point in
            elim (carried.goes_on need wakes operations put t.state point) [
              | inl m ↦ moves_cover n again.0 need wakes operations put past t is on m
              | inr (inl m) ↦ stops_cover n need wakes operations put past t is on m
              | inr (inr m) ↦ sleeps_cover need wakes operations put t.state is working m n
                  (λ past' t' h. again.1 m.left (m.k + 9) (t.state.reg 1) t.state.taken (asleep_fram m.k t.state) wakes operations put past' t' (resting need wakes operations put t.state is working m) h)
                  past t refl on
            ]),
        (λ left k sp taken f wakes operations put past t resting h. rests_cover left k sp taken f wakes operations put resting n
            (λ past' t' h'. again.1 left k sp taken f wakes operations put past' t' resting h') again.0 past t h),
      )

  pub starts_fine : IsFirst origin → HoldsBlocks origin g.image → origin.code ≡ g.code → Begun g flow Point origin → (n : ℕ) → C n [] (start origin)
  starts_fine first holds same starts n =
      (all_cover n).1 starts.left 18 (origin.fram 0xC02) 0 origin.fram 0 0 [] [] (start origin)
      (record {
        told = record { shown = sym starts.nothing; going = starts.going; timely = omega arith };
        busy = omega arith;
        opened = starts.gate;
        resume = starts.resume;
        stack = refl;
        stands = starts.stands.2.2.2.2;
        affords = starts.affords;
        leads = starts.leads;
      })
      (record {
        phase = inl first.off;
        has_code = same;
        has_fram = refl;
        has_taken = first.none_taken;
        has_put = refl;
        few = omega arith;
        reached = (origin, first, holds, refl);
        unused = λ r. (refl, omega arith, omega arith);
        counted = λ r. Begins;
      })
