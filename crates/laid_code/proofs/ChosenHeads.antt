-- Heads before chosen operations, and all objects in FRAM: each stretch is what lies between two heads, with branches and loops in it as
-- long as it fits a charge. With a head before each operation, or before the first alone, it is the code of programs without plans.
use Rattle.std.proofs.Common.{◌≡◌, ◌≢◌, ◌⊎◌, ℕ, ◌+◌, ◌*◌, ◌<◌, ◌≤◌, Bool, true, false, List, [], Option, Some, None, refl, sym, ap, ◌∙◌, subst, arith, inl, inr}
use Rattle.std.specs.Prelude.{◌==◌, if◌then◌else◌}
use Rattle.std.proofs.lemmas.Bool.{cases_Bool, eq-eqb, eqb-true}
use Rattle.msp430_machine.proofs.Writes.{set_at_other}
use Rattle.plain_meaning.specs.Behaviour.{Behaviour}
use Rattle.msp430_machine.specs.State.{Off, Asleep, State}
use Rattle.power_core.proofs.Points.{Setting}
use Rattle.resumed_runs.specs.Code.{head}
use Rattle.resumed_runs.specs.Need.{wake_cost, sleep_cost}
use Rattle.resumed_runs.proofs.Paths.{Stand}
use Rattle.resumed_runs.proofs.Carrying.{Carried, Tied, Resumed, Begun}
use Rattle.laid_code.specs.Chosen.{WorksAt, StandsAt}
use Rattle.laid_code.specs.Flows.{Memory, On, Away, Effect, Flow}
use Rattle.laid_code.proofs.Following.{Tracking, Follows}
use Rattle.laid_code.proofs.Homes.{Home, InFram, IsClear, Apart}
use Rattle.laid_code.proofs.Laid.{Layout, Here, effect_at, Performed, WroteAt, Spared, Leads, Operates, Rests, Line, Operation, Head}
use Rattle.laid_code.proofs.LaidRuns.{At, starts, laid_carries}

-- before the head of an operation, or behind it
pub data Position (Q : Type 0) : Type 0 where
  Before : Q → Position Q
  Behind : Q → Position Q

-- Where the code of an operation begins, which have a head, their weights, what is to be spent from each to the end of its stretch, the
-- word of FRAM from which each object stands, and which of the flow's places are operations of the code.
pub record Plan (Q : Type 0) : Type 1 where
  pub at : Q → ℕ
  pub has_head : Q → Bool
  pub weight : Q → ℕ
  pub left : Q → ℕ
  pub base : ℕ → ℕ
  pub is_there : Q → Type 0

abbrev pub spot_of : (Q : Type 0) → Position Q → Q
spot_of Q (Before q) = q
spot_of Q (Behind q) = q

module _ (Q : Type 0) (plan : Plan Q) (sleep : ℕ) where
  abbrev pub address : Position Q → ℕ
  address (Before q) = plan.at q
  address (Behind q) = if plan.has_head q then plan.at q + 11 else plan.at q

  abbrev pub budget : Position Q → ℕ
  budget (Before q) = sleep
  budget (Behind q) = plan.left q

  abbrev pub busy : Position Q → ℕ
  busy (Before q) = 1
  busy (Behind q) = if plan.has_head q then 0 else 1

  abbrev pub counts : Position Q → Type 0
  counts (Before q) = plan.is_there q × (plan.has_head q ≡ true)
  counts (Behind q) = plan.is_there q

  -- where it is gone to the operation
  abbrev pub landing : Q → Position Q
  landing q = if plan.has_head q then Before q else Behind q

  abbrev pub chosen_layout : Layout (Position Q) Q
  chosen_layout = record {
    address = address;
    spot = spot_of Q;
    place = λ x o. InFram (plan.base o);
    holds = λ x o h. h ≡ InFram (plan.base o);
    frames = λ x. [];
    counts = λ x m n. counts x;
    budget = λ x m n. budget x;
    busy = busy;
  }

module _ (Q : Type 0) (flow : Flow Q) (words : ℕ → ℕ) (plan : Plan Q) (g : Setting) (does : Behaviour) (Tracks : Tracking Q) where
  abbrev pub L : Layout (Position Q) Q
  L = chosen_layout Q plan (sleep_cost g.board)

  abbrev pub effect : Q → Memory → ℕ → Effect
  effect q m taken = effect_at (Position Q) Q flow words (chosen_layout Q plan (sleep_cost g.board)) g (Behind q) m taken

  abbrev pub lands : Q → Position Q
  lands q = landing Q plan (sleep_cost g.board) q

  abbrev pub costs : Position Q → ℕ
  costs x = budget Q plan (sleep_cost g.board) x

  -- what there is to show of the code
  pub record ChosenStands : Type 0 where
    pub heads : (q : Q) → plan.is_there q → plan.has_head q ≡ true → Stand g.code (plan.at q) (head (0x8000 + 2 * (plan.at q + 9)))
    -- each stretch fits a charge
    pub fits : (q : Q) → plan.is_there q → plan.has_head q ≡ true → wake_cost g.board + plan.left q ≤ g.whole
    pub clear : (o : ℕ) → IsClear (InFram (plan.base o)) (words o)
    pub apart : (o t : ℕ) → o ≢ t → Apart (InFram (plan.base t)) (words t) (InFram (plan.base o)) (words o)
    pub affords : (q : Q) → plan.is_there q → plan.weight q ≤ plan.left q
    pub on : (q : Q) (m : Memory) (taken : ℕ) → plan.is_there q → (effect q m taken).turn ≡ On → plan.is_there (flow.on q) × (plan.weight q + costs (lands (flow.on q)) ≤ plan.left q)
    pub away : (q : Q) (m : Memory) (taken : ℕ) → plan.is_there q → (effect q m taken).turn ≡ Away → plan.is_there (flow.away q) × (plan.weight q + costs (lands (flow.away q)) ≤ plan.left q)
    pub performs : (q : Q) (m : Memory) (s : State) → ((o i : ℕ) → i < words o → m o i < 65536) → Here (Position Q) Q flow words L g (Behind q) m s
        → Performed (Position Q) Q flow words L g (Behind q) (lands (flow.on q)) (lands (flow.away q)) (plan.weight q) (effect q m s.taken) s

  module _ (stands : ChosenStands) where
    abbrev LeadsTo : Q → Memory → ℕ → Q → Position Q → Type 0
    LeadsTo q m taken to x = Leads (Position Q) Q flow words L g (Behind q) (plan.weight q) m taken to x

    by_target : (q : Q) (o : ℕ) (h : Home) → h ≡ InFram (plan.base o) → (t : Option ℕ) → flow.target q ≡ t → WroteAt (Position Q) Q flow words L g (Behind q) o h ⊎ Spared (Position Q) Q flow words L g (Behind q) o h
    by_target q o h holds None e = inr (record { held = holds; apart = λ w is. let no : None ≡ Some w = sym e ∙ is in cc })
    by_target q o h holds (Some t) e = elim (cases_Bool (o == t)) [
      | inl same ↦ inl (record { target = e ∙ ap (λ y. Some y) (sym (eqb-true o t same)); there = holds; whole = inl holds })
      | inr other ↦
          let differs : o ≢ t = λ same. let no : true ≡ false = sym (eq-eqb o t same) ∙ other in cc in
          inr (record {
            held = holds;
            apart = λ w is.
                let both : Some t ≡ Some w = sym e ∙ is in
                let one : t ≡ w = cc in
                subst (λ y. (o ≢ y) × Apart (InFram (plan.base y)) (words y) h (words o)) one (differs, subst (λ y. Apart (InFram (plan.base t)) (words t) y (words o)) (sym holds) (stands.apart o t differs));
          })
    ]

    few_busy : (c : Bool) → (if c then 0 else 1) ≤ 1
    few_busy true = omega arith
    few_busy false = omega arith

    lead_by : (q : Q) (m : Memory) (taken : ℕ) (to : Q) (c : Bool) → plan.has_head to ≡ c → (plan.is_there q → plan.is_there to) → (plan.is_there q → plan.weight q + costs (if c then Before to else Behind to) ≤ plan.left q)
        → LeadsTo q m taken to (if c then Before to else Behind to)
    lead_by q m taken to true e there pays = record {
      spot = refl;
      holds = λ o h holds. by_target q o h holds (flow.target q) refl;
      frames = refl;
      counts = λ n is. (there is, e);
      pays = λ n is. pays is;
      busy = omega arith;
    }
    lead_by q m taken to false e there pays = record {
      spot = refl;
      holds = λ o h holds. by_target q o h holds (flow.target q) refl;
      frames = refl;
      counts = λ n is. there is;
      pays = λ n is. pays is;
      busy = few_busy (plan.has_head to);
    }

    operates : (q : Q) → Operates (Position Q) Q flow words L g (Behind q)
    operates q = record {
      on = lands (flow.on q);
      away = lands (flow.away q);
      weight = plan.weight q;
      clear = λ o t. stands.clear o;
      affords = λ m n is. stands.affords q is;
      leads_on = λ m taken turn. lead_by q m taken (flow.on q) (plan.has_head (flow.on q)) refl (λ is. (stands.on q m taken is turn).0) (λ is. (stands.on q m taken is turn).1);
      leads_away = λ m taken turn. lead_by q m taken (flow.away q) (plan.has_head (flow.away q)) refl (λ is. (stands.away q m taken is turn).0) (λ is. (stands.away q m taken is turn).1);
      performs = stands.performs q;
    }

    rests : (q : Q) → plan.is_there q → plan.has_head q ≡ true → Rests (Position Q) Q flow words L g (Before q)
    rests q is has = record {
      to = Behind q;
      stands = stands.heads q is has;
      behind = ap (λ c. if c then plan.at q + 11 else plan.at q) has;
      spot = refl;
      frames = refl;
      holds = λ o h holds. (holds, (plan.base o, holds, (stands.clear o).0));
      counts = λ m n n' y. y.0;
      pays = λ m n y. omega arith;
      left = plan.left q;
      within = λ m n y. omega arith;
      affords = stands.fits q is has;
      done = omega arith;
      fresh = ap (λ c. if c then 0 else 1) has;
    }

    line : (x : Position Q) (m : Memory) (s : State) → Here (Position Q) Q flow words L g x m s → Line (Position Q) Q flow words L g x
    line (Before q) m s here = Head (rests q here.counted.0 here.counted.1)
    line (Behind q) m s here = Operation (operates q)

    pub chosen_carries : Follows Q flow does g.input words Tracks → Carried g does (At (Position Q) Q flow words L g does Tracks)
    chosen_carries follows = laid_carries (Position Q) Q flow words L g does Tracks follows line

    -- from a first state whose FRAM the flow begins with
    pub chosen_begins : Follows Q flow does g.input words Tracks → (q : Q) → plan.is_there q → plan.has_head q ≡ true → plan.at q ≡ 9 → (s : State) → s.fram 0xC00 ≡ 1 → s.fram 0xC01 ≡ 0x8024 → s.fram 0xC02 ≡ 0x8000
        → Tracks 0 q (λ o i. s.fram (plan.base o + i)) 0 [] → Begun g does (At (Position Q) Q flow words L g does Tracks) s
    chosen_begins follows q is has first s gate resume stack tracks = starts (Position Q) Q flow words L g does Tracks follows line s (record {
      gate = gate;
      resume = resume;
      stands = subst (λ k. Stand g.code k (head (0x8000 + 2 * (k + 9)))) first (stands.heads q is has);
      to = Behind q;
      m = λ o i. s.fram (plan.base o + i);
      tracks = tracks;
      behind = ap (λ c. if c then plan.at q + 11 else plan.at q) has ∙ ap (λ k. k + 11) first;
      frames = refl;
      stack = stack;
      held = λ o h holds. (plan.base o, holds, (stands.clear o).0, λ i low. refl);
      counts = λ n. is;
      left = plan.left q;
      within = λ n. omega arith;
      affords = stands.fits q is has;
      fresh = ap (λ c. if c then 0 else 1) has;
    })

  -- ---- What states show of the flow

  -- The flow has come to this place in so many operations: the device stands there, and FRAM holds the words of objects.
  pub record Shown (operations : ℕ) (s : State) : Type 0 where
    pub q : Q
    pub m : Memory
    pub taken : ℕ
    pub put : List ℕ
    pub tracks : Tracks operations q m taken put
    pub there : plan.is_there q
    pub stands : StandsAt (0x8000 + 2 * plan.at q) (plan.has_head q) s
    pub held : (o i : ℕ) → i < words o → s.fram (plan.base o + i) ≡ m o i

  module _ (need wakes operations : ℕ) (put : List ℕ) (s : State) where
    abbrev Here' : Position Q → Memory → Type 0
    Here' x m = Here (Position Q) Q flow words L g x m s

    there_by : (x : Position Q) → counts Q plan (sleep_cost g.board) x → plan.is_there (spot_of Q x)
    there_by (Before q) is = is.0
    there_by (Behind q) is = is

    behind_by : (q : Q) (c : Bool) → plan.has_head q ≡ c → s.reg 0 ≡ 0x8000 + 2 * (if c then plan.at q + 11 else plan.at q) → (s.reg 0 ≡ 0x8000 + 2 * plan.at q) ⊎ ((plan.has_head q ≡ true) × (s.reg 0 ≡ 0x8000 + 2 * plan.at q + 22))
    behind_by q true has pc = inr (has, omega (arith, pc))
    behind_by q false has pc = inl pc

    works_by : (x : Position Q) (m : Memory) → Here' x m → WorksAt (0x8000 + 2 * plan.at (spot_of Q x)) (plan.has_head (spot_of Q x)) s
    works_by (Before q) m here = (here.working.awake, here.working.closed, inl here.pc)
    works_by (Behind q) m here = (here.working.awake, here.working.closed, behind_by q (plan.has_head q) refl here.pc)

    pub points_work : At (Position Q) Q flow words L g does Tracks need wakes operations put s → Shown operations s
    points_work at = record {
      q = spot_of Q at.x;
      m = at.m;
      taken = s.taken;
      put = put;
      tracks = at.tracks;
      there = there_by at.x at.here.counted;
      stands = inl (works_by at.x at.m at.here);
      held = λ o i low. at.here.held o (InFram (plan.base o)) refl i low;
    }

  -- behind the head alone no operation was done since the wake
  resumed_by : (x : Position Q) (k operations : ℕ) → operations + 1 + busy Q plan (sleep_cost g.board) x ≤ operations + 1 → 0x8000 + 2 * (k + 2) ≡ 0x8000 + 2 * address Q plan (sleep_cost g.board) x
      → (plan.has_head (spot_of Q x) ≡ true) × (0x8000 + 2 * k ≡ 0x8000 + 2 * plan.at (spot_of Q x) + 18)
  resumed_by (Before q) k operations few pc = absurd (omega (arith, few))
  resumed_by (Behind q) k operations few pc = by_head (plan.has_head q) few pc
    where
      by_head : (c : Bool) → operations + 1 + (if c then 0 else 1) ≤ operations + 1 → 0x8000 + 2 * (k + 2) ≡ 0x8000 + 2 * (if c then plan.at q + 11 else plan.at q) → (c ≡ true) × (0x8000 + 2 * k ≡ 0x8000 + 2 * plan.at q + 18)
      by_head true less behind = (refl, omega (arith, behind))
      by_head false less behind = absurd (omega (arith, less))

  pub rests_wait : ((o : ℕ) → IsClear (InFram (plan.base o)) (words o)) → (left k sp taken operations : ℕ) (f : ℕ → ℕ) (put : List ℕ) (u s : State) → f 0xC00 ≡ 1 → f 0xC01 ≡ 0x8000 + 2 * k → Resumed g k sp taken f u
      → At (Position Q) Q flow words L g does Tracks left (operations + 1) operations put u → (s.phase ≡ Off) ⊎ (s.phase ≡ Asleep) → s.fram ≡ f → Shown operations s
  rests_wait clear left k sp taken operations f put u s opened resume resumed at phase same =
      let behind = resumed_by at.x k operations at.timely (sym resumed.pc ∙ at.here.pc) in
      record {
        q = spot_of Q at.x;
        m = at.m;
        taken = u.taken;
        put = put;
        tracks = at.tracks;
        there = there_by left (operations + 1) operations put u at.x at.here.counted;
        stands = inr (phase, ap (λ h. h 0xC00) same ∙ opened, behind.0, ap (λ h. h 0xC01) same ∙ resume ∙ behind.1);
        held = λ o i low.
            ap (λ h. h (plan.base o + i)) same
            ∙ sym (set_at_other f 0xC00 0 (plan.base o + i) (λ e. let above = (clear o).0 in omega (arith, e, above)))
            ∙ sym (ap (λ h. h (plan.base o + i)) resumed.has_fram)
            ∙ at.here.held o (InFram (plan.base o)) refl i low;
      }

  pub chosen_ties : ((o : ℕ) → IsClear (InFram (plan.base o)) (words o)) → Tied g (At (Position Q) Q flow words L g does Tracks) Shown
  chosen_ties clear = record { works = points_work; waits = rests_wait clear }
