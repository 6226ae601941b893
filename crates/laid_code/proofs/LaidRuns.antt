-- Code of which each position is an operation, a move or a head carries its flow.
use Rattle.std.proofs.Common.{◌≡◌, ◌≢◌, ◌⊎◌, ℕ, ◌+◌, ◌-◌, ◌*◌, ◌<◌, ◌≤◌, true, false, List, [], ◌∷◌, length, Option, Some, None, refl, sym, ap, ◌∙◌, subst, arith, inl, inr}
use Rattle.std.specs.Prelude.{◌==◌, ◌&&◌, if◌then◌else◌}
use Rattle.std.proofs.lemmas.Bool.{ne_eqb, eq-eqb, eqb-true}
use Rattle.std.proofs.lemmas.Bool.{cases_Bool}
use Rattle.plain_meaning.specs.Behaviour.{Behaviour}
use Rattle.msp430_machine.specs.State.{Ended, Trapped, State, set_at}
use Rattle.power_core.specs.Agreement.{StopsAs}
use Rattle.power_core.proofs.Covers.{extended}
use Rattle.power_core.proofs.Points.{Setting}
use Rattle.resumed_runs.specs.Code.{head}
use Rattle.resumed_runs.specs.Need.{wake_cost}
use Rattle.msp430_isa.specs.declared.instr.Instr.{Instr}
use Rattle.resumed_runs.proofs.Paths.{Stand, Working, Takes, Path, Arrived}
use Rattle.resumed_runs.proofs.Carrying.{Moves, Stops, Sleeps, Carried, Begun, asleep_fram}
use Rattle.msp430_machine.proofs.Writes.{set_at_other}
use Rattle.laid_code.proofs.Homes.{Home, InSram, InFram, word_of, IsClear, Changes, change_same, change_other, change_apart, change_clear, Stacked, stack_top, stacked_same}
use Rattle.laid_code.specs.Flows.{Memory, Turn, On, Away, Ends, Traps, Change, Effect, Flow, written, with_put, taken_by}
use Rattle.laid_code.proofs.Following.{Tracking, Follows}
use Rattle.laid_code.proofs.Laid.{Layout, Held, Here, effect_at, Changed, Gone, Turned, Performed, Leads, Operates, MovesOn, Rests, Calls, Returns, Line, Operation, Move, Head, Call, Return}
use Rattle.laid_code.proofs.Calling.{calls_to, returns, call_cost, ret_cost, call_leads, ret_leads}

module _ (X Q : Type 0) (flow : Flow Q) (words : ℕ → ℕ) (L : Layout X Q) (g : Setting) (does : Behaviour) (Tracks : Tracking Q) where
  -- a point: a position at which the machine stands, with what the flow has come to
  pub record At (need wakes operations : ℕ) (put : List ℕ) (s : State) : Type 0 where
    pub x : X
    pub m : Memory
    pub tracks : Tracks operations (L.spot x) m s.taken put
    pub here : Here X Q flow words L g x m s
    pub enough : L.budget x m (s.reg 10) ≤ need
    pub timely : wakes + L.busy x ≤ operations + 1

  -- A first state: the head behind boot is to be resumed, and what the position behind it holds stands in FRAM.
  pub record Starts (s : State) : Type 0 where
    pub gate : s.fram 0xC00 ≡ 1
    pub resume : s.fram 0xC01 ≡ 0x8024
    pub stands : Stand g.code 9 (head 0x8024)
    pub to : X
    pub m : Memory
    pub tracks : Tracks 0 (L.spot to) m 0 []
    pub behind : L.address to ≡ 20
    pub frames : L.frames to ≡ []
    pub stack : s.fram 0xC02 ≡ 0x8000
    pub held : (o : ℕ) (h : Home) → L.holds to o h → (w : ℕ) × (h ≡ InFram w) × (0x2200 ≤ w) × ((i : ℕ) → i < words o → s.fram (w + i) ≡ m o i)
    pub counts : (n : ℕ) → L.counts to m n
    pub left : ℕ
    pub within : (n : ℕ) → L.budget to m n ≤ left
    pub affords : wake_cost g.board + left ≤ g.whole
    pub fresh : L.busy to ≡ 0

  module _ (follows : Follows Q flow does g.input words Tracks) (line : (x : X) (m : Memory) (s : State) → Here X Q flow words L g x m s → Line X Q flow words L g x) where
    same_put : (put : List ℕ) (puts : Option ℕ) → with_put put puts ≡ extended put puts
    same_put put None = refl
    same_put put (Some v) = refl

    -- ---- What is held behind a change

    write_same : (m : Memory) (c : Change) (o i : ℕ) → o ≡ c.object → i ≡ c.index → written m (Some c) o i ≡ c.value
    write_same m c o i e e' = ap (λ b. if b && i == c.index then c.value else m o i) (eq-eqb o c.object e) ∙ ap (λ b. if b then c.value else m o i) (eq-eqb i c.index e')

    write_object : (m : Memory) (c : Change) (o i : ℕ) → o ≢ c.object → written m (Some c) o i ≡ m o i
    write_object m c o i e = ap (λ b. if b && i == c.index then c.value else m o i) (ne_eqb o c.object e)

    write_index : (m : Memory) (c : Change) (o i : ℕ) → i ≢ c.index → written m (Some c) o i ≡ m o i
    write_index m c o i e = ap (λ b. if o == c.object && b then c.value else m o i) (ne_eqb i c.index e) ∙ elim (o == c.object) as (λ b. (if b && false then c.value else m o i) ≡ m o i) [ true ↦ refl | false ↦ refl ]

    same_target : (q : Q) (o o' : ℕ) → flow.target q ≡ Some o → flow.target q ≡ Some o' → o ≡ o'
    same_target q o o' a b = let e : Some o ≡ Some o' = sym a ∙ b in cc

    held_change : (x to : X) (weight taken : ℕ) (q : Q) (m : Memory) (s u : State) (c : Change) → Leads X Q flow words L g x weight m taken q to → Held X Q flow words L g x m s
        → flow.target (L.spot x) ≡ Some c.object → c.index < words c.object → Changes (L.place x c.object) c.index c.value s u → Held X Q flow words L g to (written m (Some c)) u
    held_change x to weight taken q m s u c leads held target within change o h holds i low = elim (leads.holds o h holds) [
      | inl wrote ↦
          let is : o ≡ c.object = same_target (L.spot x) o c.object wrote.target target in
          let home : h ≡ L.place x c.object = wrote.there ∙ ap (λ y. L.place x y) is in
          elim (cases_Bool (i == c.index)) [
            | inl e ↦
                let same : i ≡ c.index = eqb-true i c.index e in
                ap (λ y. word_of u h y) same ∙ ap (λ y. word_of u y c.index) home ∙ change_same (L.place x c.object) c.index c.value s u change ∙ sym (write_same m c o i is same)
            | inr e ↦
                let other : i ≢ c.index = λ same. let no : true ≡ false = sym (eq-eqb i c.index same) ∙ e in cc in
                elim (wrote.whole) [
                  | inl before ↦ ap (λ y. word_of u y i) home ∙ change_other (L.place x c.object) c.index i c.value s u other change ∙ ap (λ y. word_of s y i) (sym home) ∙ held o h before i low ∙ sym (write_index m c o i other)
                  | inr one ↦ absurd (other (omega (arith, low, one, within, ap words is)))
                ]
          ]
      | inr spared ↦
          let a = spared.apart c.object target in
          change_apart (L.place x c.object) (words c.object) c.index c.value h (words o) i s u a.1 within low change ∙ held o h spared.held i low ∙ sym (write_object m c o i a.0)
    ]

    word_same : (s u : State) → (u.sram ≡ s.sram) × (u.fram ≡ s.fram) → (h : Home) (i : ℕ) → word_of u h i ≡ word_of s h i
    word_same s u same (InSram w) i = ap (λ f. f (w + i)) same.0
    word_same s u same (InFram w) i = ap (λ f. f (w + i)) same.1

    held_by : (c : Option Change) (x to : X) (weight taken : ℕ) (q : Q) (m : Memory) (s u : State) → Leads X Q flow words L g x weight m taken q to → Held X Q flow words L g x m s
        → ((d : Change) → c ≡ Some d → (flow.target (L.spot x) ≡ Some d.object) × (d.index < words d.object)) → (c ≡ None → flow.target (L.spot x) ≡ None)
        → Changed X Q flow words L g x c s u → Held X Q flow words L g to (written m c) u
    held_by None x to weight taken q m s u leads held within idle same = λ o h holds i low. elim (leads.holds o h holds) [
      | inl wrote ↦ let no : None ≡ Some o = sym (idle refl) ∙ wrote.target in cc
      | inr spared ↦ word_same s u same h i ∙ held o h spared.held i low
    ]
    held_by (Some c) x to weight taken q m s u leads held within idle change =
        let d = within c refl in held_change x to weight taken q m s u c leads held d.0 d.1 change

    -- what stands below objects stays, and so does the stack
    away_by : (c : Option Change) (x : X) (s u : State) → ((o : ℕ) → flow.target (L.spot x) ≡ Some o → IsClear (L.place x o) (words o))
        → ((d : Change) → c ≡ Some d → (flow.target (L.spot x) ≡ Some d.object) × (d.index < words d.object)) → Changed X Q flow words L g x c s u → (k : ℕ) → (k < 0x2200) ⊎ (0x3F80 ≤ k) → u.fram k ≡ s.fram k
    away_by None x s u clear within same k away = ap (λ f. f k) same.1
    away_by (Some c) x s u clear within change k away = (let d = within c refl in change_clear (L.place x c.object) (words c.object) c.index c.value k s u (clear c.object d.0) d.1 away change)

    -- ---- An operation

    abbrev Next : ℕ → ℕ → ℕ → List ℕ → State → Type 0
    Next need wakes operations put s = Moves g At need wakes operations put s ⊎ Stops g does need operations put s ⊎ Sleeps g At need wakes operations put s

    module _ (need wakes operations : ℕ) (put : List ℕ) (s : State) (at : At need wakes operations put s) where
      abbrev x : X
      x = at.x

      abbrev e : Effect
      e = effect_at X Q flow words L g at.x at.m s.taken

      within : (d : Change) → e.change ≡ Some d → (flow.target (L.spot at.x) ≡ Some d.object) × (d.index < words d.object)
      within d is = follows.within operations (L.spot at.x) at.m s.taken put d at.tracks is

      goes : (o : Operates X Q flow words L g at.x) → (p : Performed X Q flow words L g at.x o.on o.away o.weight e s) → (to : X) (q : Q) → Leads X Q flow words L g at.x o.weight at.m s.taken q to → (e.turn ≡ On) ⊎ (e.turn ≡ Away)
          → Tracks (operations + 1) q (written at.m e.change) (taken_by s.taken e.takes) (with_put put e.puts) → Gone X Q flow words L g at.x (L.address to) e s p.after → Moves g At need wakes operations put s
      goes o p to q leads turn tracks gone = record {
        mid = p.mid;
        after = p.after;
        first = p.first;
        last = p.last;
        left = L.budget to (written at.m e.change) (p.after.reg 10);
        done = operations + 1;
        instruction = p.instruction;
        puts = e.puts;
        path = p.path;
        working = p.working;
        takes = p.takes;
        enough = (let pays = leads.pays (s.reg 10) at.here.counted in let same = ap (λ n. L.budget to (written at.m e.change) n) gone.same_count in let n = at.enough in omega (arith, p.cost, pays, same, n));
        few = omega arith;
        least = omega arith;
        leads = record {
          x = to;
          m = written at.m e.change;
          tracks = subst (λ y. Tracks (operations + 1) (L.spot to) (written at.m e.change) y (extended put e.puts)) (sym gone.has_taken)
              (subst (λ y. Tracks (operations + 1) y (written at.m e.change) (taken_by s.taken e.takes) (extended put e.puts)) (sym leads.spot)
              (subst (λ y. Tracks (operations + 1) q (written at.m e.change) (taken_by s.taken e.takes) y) (same_put put e.puts) tracks));
          here = record {
            working = record {
              awake = gone.awake;
              closed = away_by e.change at.x s p.after o.clear within gone.changed 0xC00 (inl (omega arith)) ∙ at.here.working.closed;
              has_code = p.same_code ∙ at.here.working.has_code;
            };
            pc = gone.pc;
            sp = gone.same_sp ∙ at.here.sp ∙ ap (λ y. stack_top y) (sym leads.frames);
            stacked = subst (λ y. Stacked p.after.fram y) (sym leads.frames) (stacked_same (L.frames at.x) s.fram p.after.fram at.here.few (λ k high. away_by e.change at.x s p.after o.clear within gone.changed k (inr high)) at.here.stacked);
            few = subst (λ y. length y ≤ 64) (sym leads.frames) at.here.few;
            counted = subst (λ n. L.counts to (written at.m e.change) n) (sym gone.same_count) (leads.counts (s.reg 10) at.here.counted);
            held = held_by e.change at.x to o.weight s.taken q at.m s p.after leads at.here.held within (λ none. follows.idle operations (L.spot at.x) at.m s.taken put at.tracks none turn) gone.changed;
          };
          enough = omega arith;
          timely = (let b = leads.busy in let n = at.timely in omega (arith, b, n));
        };
      }

      turns : (o : Operates X Q flow words L g at.x) → (p : Performed X Q flow words L g at.x o.on o.away o.weight e s) → (turn : Turn) → e.turn ≡ turn → Turned X Q flow words L g at.x o.on o.away e turn s p.after → Next need wakes operations put s
      turns o p On is gone = inl (goes o p o.on (flow.on (L.spot at.x)) (o.leads_on at.m s.taken is) (inl is) (follows.steps_on operations (L.spot at.x) at.m s.taken put at.tracks is) gone)
      turns o p Away is gone = inl (goes o p o.away (flow.away (L.spot at.x)) (o.leads_away at.m s.taken is) (inr is) (follows.steps_away operations (L.spot at.x) at.m s.taken put at.tracks is) gone)
      turns o p (Ends v) is ended =
          let done = follows.ends operations (L.spot at.x) at.m s.taken put v at.tracks is in
          inr (inl (record {
            mid = p.mid;
            after = p.after;
            first = p.first;
            last = p.last;
            instruction = p.instruction;
            puts = e.puts;
            path = p.path;
            working = p.working;
            takes = p.takes;
            same_code = p.same_code ∙ at.here.working.has_code;
            enough = (let pays = o.affords at.m (s.reg 10) at.here.counted in let n = at.enough in omega (arith, p.cost, pays, n));
            shown = sym (same_put put e.puts) ∙ sym (ap (λ y. y.words) done);
            stopped = subst (λ y. StopsAs y p.after.phase) (sym (ap (λ y. y.outcome) done)) ended;
            other = λ trapped. (let no : Ended v ≡ Trapped 4 = sym ended ∙ trapped in cc);
          }))
      turns o p (Traps v) is trapped =
          let done = follows.traps operations (L.spot at.x) at.m s.taken put v at.tracks is in
          inr (inl (record {
            mid = p.mid;
            after = p.after;
            first = p.first;
            last = p.last;
            instruction = p.instruction;
            puts = e.puts;
            path = p.path;
            working = p.working;
            takes = p.takes;
            same_code = p.same_code ∙ at.here.working.has_code;
            enough = (let pays = o.affords at.m (s.reg 10) at.here.counted in let n = at.enough in omega (arith, p.cost, pays, n));
            shown = sym (same_put put e.puts) ∙ sym (ap (λ y. y.words) done.1);
            stopped = subst (λ y. StopsAs y p.after.phase) (sym (ap (λ y. y.outcome) done.1)) trapped;
            other = λ four. (let same : Trapped v ≡ Trapped 4 = sym trapped ∙ four in done.0 cc);
          }))

      operates : Operates X Q flow words L g at.x → Next need wakes operations put s
      operates o =
          let p = o.performs at.m s (follows.small operations (L.spot at.x) at.m s.taken put at.tracks) at.here in
          turns o p e.turn refl p.turned

      -- ---- A move

      moves : MovesOn X Q flow words L g at.x → Next need wakes operations put s
      moves o =
          let p = o.moves at.m s at.here in
          inl (record {
            mid = p.mid;
            after = p.after;
            first = p.first;
            last = p.last;
            left = L.budget p.to at.m (p.after.reg 10);
            done = operations;
            instruction = p.instruction;
            puts = None;
            path = p.path;
            working = p.working;
            takes = p.takes;
            enough = (let pays = p.pays in let n = at.enough in omega (arith, pays, n));
            few = omega arith;
            least = omega arith;
            leads = record {
              x = p.to;
              m = at.m;
              tracks = subst (λ y. Tracks operations (L.spot p.to) at.m y put) (sym p.same_taken) (subst (λ y. Tracks operations y at.m s.taken put) (sym p.spot) at.tracks);
              here = p.here;
              enough = omega arith;
              timely = (let b = p.busy in let n = at.timely in omega (arith, b, n));
            };
          })

      -- ---- A head

      behind_same : (k j : ℕ) → 0x2200 ≤ j → set_at (asleep_fram k s) 0xC00 0 j ≡ s.fram j
      behind_same k j high =
          set_at_other (asleep_fram k s) 0xC00 0 j (λ y. omega (arith, y, high))
          ∙ set_at_other (set_at (set_at s.fram 0xC02 (s.reg 1)) 0xC01 (0x8000 + 2 * (k + 9))) 0xC00 1 j (λ y. omega (arith, y, high))
          ∙ set_at_other (set_at s.fram 0xC02 (s.reg 1)) 0xC01 (0x8000 + 2 * (k + 9)) j (λ y. omega (arith, y, high))
          ∙ set_at_other s.fram 0xC02 (s.reg 1) j (λ y. omega (arith, y, high))

      rests : Rests X Q flow words L g at.x → Next need wakes operations put s
      rests o = inr (inr (record {
        k = L.address at.x;
        pc = at.here.pc;
        stands = o.stands;
        enough = (let pays = o.pays at.m (s.reg 10) at.here.counted in let n = at.enough in omega (arith, pays, n));
        busy = (let d = o.done in let n = at.timely in omega (arith, d, n));
        left = o.left;
        affords = o.affords;
        leads = λ u r. record {
          x = o.to;
          m = at.m;
          tracks = subst (λ y. Tracks operations (L.spot o.to) at.m y put) (sym r.has_taken) (subst (λ y. Tracks operations y at.m s.taken put) (sym o.spot) at.tracks);
          here = record {
            working = record { awake = r.awake; closed = ap (λ f. f 0xC00) r.has_fram; has_code = r.has_code };
            pc = (let b = o.behind in omega (arith, r.pc, b));
            sp = r.has_sp ∙ at.here.sp ∙ ap (λ y. stack_top y) (sym o.frames);
            stacked = subst (λ y. Stacked u.fram y) (sym o.frames) (stacked_same (L.frames at.x) s.fram u.fram at.here.few (λ k high. ap (λ f. f k) r.has_fram ∙ behind_same (L.address at.x) k (omega (arith, high))) at.here.stacked);
            few = subst (λ y. length y ≤ 64) (sym o.frames) at.here.few;
            counted = o.counts at.m (s.reg 10) (u.reg 10) at.here.counted;
            held = λ y h holds i low.
                let there = o.holds y h holds in
                ap (λ z. word_of u z i) there.1.1 ∙ ap (λ f. f (there.1.0 + i)) r.has_fram ∙ behind_same (L.address at.x) (there.1.0 + i) (omega (arith, there.1.2)) ∙ ap (λ z. word_of s z i) (sym there.1.1) ∙ at.here.held y h there.0 i low;
          };
          enough = o.within at.m (u.reg 10) (o.counts at.m (s.reg 10) (u.reg 10) at.here.counted);
          timely = (let d = o.done in let z = o.fresh in let n = at.timely in omega (arith, d, z, n));
        };
      }))

      -- ---- A call and a return

      goes_idle : (to : X) (mid after : State) (first last : ℕ) (instruction : Instr) → Path g.board g.input g.code mid first s → Working g.code mid → Takes g.board g.input instruction last mid None after
          → (idle : e ≡ record { change = None; puts = None; takes = false; turn = On }) → L.spot to ≡ flow.on (L.spot at.x) → after.taken ≡ s.taken → Here X Q flow words L g to at.m after
          → first + last + L.budget to at.m (after.reg 10) ≤ need → L.busy to ≤ 1 → Moves g At need wakes operations put s
      goes_idle to mid after first last instruction path working takes idle spot same_taken here pays busy = record {
        mid = mid;
        after = after;
        first = first;
        last = last;
        left = L.budget to at.m (after.reg 10);
        done = operations + 1;
        instruction = instruction;
        puts = None;
        path = path;
        working = working;
        takes = takes;
        enough = pays;
        few = omega arith;
        least = omega arith;
        leads = record {
          x = to;
          m = at.m;
          tracks = subst (λ y. Tracks (operations + 1) (L.spot to) at.m y put) (sym same_taken) (subst (λ y. Tracks (operations + 1) y at.m s.taken put) (sym spot)
              (subst (λ y. Tracks (operations + 1) (flow.on (L.spot at.x)) (written at.m y.change) (taken_by s.taken y.takes) (with_put put y.puts)) idle
              (follows.steps_on operations (L.spot at.x) at.m s.taken put at.tracks (ap (λ y. y.turn) idle))));
          here = here;
          enough = omega arith;
          timely = (let n = at.timely in omega (arith, busy, n));
        };
      }

      word_called : (u : State) (w j : ℕ) → 0x3F80 ≤ w → u.sram ≡ s.sram → ((k : ℕ) → k ≢ w → u.fram k ≡ s.fram k) → (h : Home) (n : ℕ) → IsClear h n → j < n → word_of u h j ≡ word_of s h j
      word_called u w j high same others (InSram a) n clear low = ap (λ f. f (a + j)) same
      word_called u w j high same others (InFram a) n clear low = others (a + j) (λ y. omega (arith, y, high, clear.1, low))

      stacked_others : (frames : List ℕ) (f f' : ℕ → ℕ) (n : ℕ) → length frames ≤ n → n < 64 → ((k : ℕ) → k ≢ 0x4000 - (1 + n) → f' k ≡ f k) → Stacked f frames → Stacked f' frames
      stacked_others [] f f' n le few others h = tt
      stacked_others (k ∷ frames) f f' n le few others h =
          (others (0x4000 - (1 + length frames)) (λ y. omega (arith, y, le, few)) ∙ h.0, stacked_others frames f f' n (omega (arith, le)) few others h.1)

      calls : Calls X Q flow words L g at.x → Next need wakes operations put s
      calls o =
          let few : 1 + length (L.frames at.x) ≤ 64 = (let y = ap length o.frames in let z = o.few in omega (arith, y, z)) in
          let l = call_leads g.board g.input g.code (L.address at.x) (L.address o.to) (L.frames at.x) s few o.low o.stands at.here.working at.here.pc at.here.sp in
          inl (goes_idle o.to s l.after 0 (call_cost g.board) (calls_to (0x8000 + 2 * L.address o.to)) Arrived at.here.working l.takes (o.idle at.m s.taken) o.spot l.has_taken (record {
            working = record { awake = l.awake; closed = l.others 0xC00 (λ y. omega (arith, y, few)) ∙ at.here.working.closed; has_code = l.has_code };
            pc = l.pc;
            sp = l.sp ∙ ap (λ y. stack_top y) (sym o.frames);
            stacked = subst (λ y. Stacked l.after.fram y) (sym o.frames) (l.pushed, stacked_others (L.frames at.x) s.fram l.after.fram (length (L.frames at.x)) (omega arith) (omega (arith, few)) l.others at.here.stacked);
            few = o.few;
            counted = subst (λ n. L.counts o.to at.m n) (sym l.same_count) (o.counts at.m (s.reg 10) at.here.counted);
            held = λ y h holds i low.
                let before = o.holds y h holds in
                word_called l.after (0x4000 - (1 + length (L.frames at.x))) i (omega (arith, few)) l.same_sram l.others h (words y) before.1 low ∙ at.here.held y h before.0 i low;
          }) (let p = o.pays at.m (s.reg 10) at.here.counted in let n = at.enough in let same = ap (λ n. L.budget o.to at.m n) l.same_count in omega (arith, p, n, same)) o.busy)

      comes_back : Returns X Q flow words L g at.x → Next need wakes operations put s
      comes_back o =
          let few : 1 + length (L.frames o.to) ≤ 64 = (let y = ap length o.frames in let z = at.here.few in omega (arith, y, z)) in
          let l = ret_leads g.board g.input g.code (L.address at.x) (L.address o.to) (L.frames o.to) s few o.stands at.here.working at.here.pc (at.here.sp ∙ ap (λ y. stack_top y) o.frames) (subst (λ y. Stacked s.fram y) o.frames at.here.stacked) in
          inl (goes_idle o.to s l.after 0 (ret_cost g.board) returns Arrived at.here.working l.takes (o.idle at.m s.taken) o.spot l.has_taken (record {
            working = record { awake = l.awake; closed = ap (λ f. f 0xC00) l.same_fram ∙ at.here.working.closed; has_code = l.has_code };
            pc = l.pc;
            sp = l.sp;
            stacked = subst (λ f. Stacked f (L.frames o.to)) (sym l.same_fram) (subst (λ y. Stacked s.fram y) o.frames at.here.stacked).1;
            few = omega (arith, few);
            counted = subst (λ n. L.counts o.to at.m n) (sym l.same_count) (o.counts at.m (s.reg 10) at.here.counted);
            held = λ y h holds i low. word_same s l.after (l.same_sram, l.same_fram) h i ∙ at.here.held y h (o.holds y h holds) i low;
          }) (let p = o.pays at.m (s.reg 10) at.here.counted in let n = at.enough in let same = ap (λ n. L.budget o.to at.m n) l.same_count in omega (arith, p, n, same)) o.busy)

      goes_on : Next need wakes operations put s
      goes_on = elim (line at.x at.m s at.here) [
        | Operation o ↦ operates o
        | Move o ↦ moves o
        | Head o ↦ rests o
        | Call o ↦ calls o
        | Return o ↦ comes_back o
      ]

    -- ---- All points

    pub laid_carries : Carried g does At
    laid_carries = record {
      shown = λ need wakes operations put s at. sym (ap (λ y. y.words) (follows.shown operations (L.spot at.x) at.m s.taken put at.tracks));
      going = λ need wakes operations put s at. ap (λ y. y.outcome) (follows.shown operations (L.spot at.x) at.m s.taken put at.tracks);
      timely = λ need wakes operations put s at. (let n = at.timely in omega (arith, n));
      working = λ need wakes operations put s at. at.here.working;
      goes_on = goes_on;
    }

    pub starts : (s : State) → Starts s → Begun g does At s
    starts s o = record {
      gate = o.gate;
      resume = o.resume;
      stands = o.stands;
      nothing = ap (λ y. y.words) (follows.shown 0 (L.spot o.to) o.m 0 [] o.tracks);
      going = ap (λ y. y.outcome) (follows.shown 0 (L.spot o.to) o.m 0 [] o.tracks);
      left = o.left;
      affords = o.affords;
      leads = λ u r. record {
        x = o.to;
        m = o.m;
        tracks = subst (λ y. Tracks 0 (L.spot o.to) o.m y []) (sym r.has_taken) o.tracks;
        here = record {
          working = record { awake = r.awake; closed = ap (λ f. f 0xC00) r.has_fram; has_code = r.has_code };
          pc = (let b = o.behind in omega (arith, r.pc, b));
          sp = r.has_sp ∙ o.stack ∙ ap (λ y. stack_top y) (sym o.frames);
          stacked = subst (λ y. Stacked u.fram y) (sym o.frames) tt;
          few = subst (λ y. length y ≤ 64) (sym o.frames) (omega arith);
          counted = o.counts (u.reg 10);
          held = λ y h holds i low.
              let there = o.held y h holds in
              ap (λ z. word_of u z i) there.1 ∙ ap (λ f. f (there.0 + i)) r.has_fram ∙ set_at_other s.fram 0xC00 0 (there.0 + i) (λ z. omega (arith, z, there.2)) ∙ there.3 i low;
        };
        enough = o.within (u.reg 10);
        timely = (let z = o.fresh in omega (arith, z));
      };
    }
