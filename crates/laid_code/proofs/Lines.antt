-- Positions of code, from what instructions do: an operation by what its template leads to, and a move from home to home.
use Rattle.std.proofs.Common.{◌≡◌, ◌⊎◌, ℕ, ◌+◌, ◌*◌, ◌<◌, ◌≤◌, [], ◌∷◌, length, Option, sym, ap, ◌∙◌, subst, arith, inl, inr}
use Rattle.msp430_machine.specs.State.{State}
use Rattle.power_core.proofs.Points.{Setting}
use Rattle.msp430_machine.specs.Cost.{instruction_cost}
use Rattle.resumed_runs.proofs.Paths.{Stand}
use Rattle.laid_code.proofs.Homes.{Home, InSram, InFram, word_of, IsClear, Apart, Changes, change_same, change_apart, change_clear, Stacked, stack_top, stacked_same}
use Rattle.laid_code.specs.Flows.{Memory, Effect, Flow}
use Rattle.laid_code.proofs.Words.{IsRoom, carries}
use Rattle.laid_code.proofs.Leading.{Leading, carry_leads}
use Rattle.laid_code.proofs.Copying.{block_code, block_cost, Copied, block_leads}
use Rattle.laid_code.proofs.Laid.{Layout, Held, Here, Turned, Performed, Moved, MovesOn}

room_clear : (h : Home) → IsRoom h 1 → IsClear h 1
room_clear (InSram w) room = tt
room_clear (InFram w) room = room

module _ (X Q : Type 0) (flow : Flow Q) (words : ℕ → ℕ) (L : Layout X Q) (g : Setting) where
  pub performed : (x on away : X) (weight : ℕ) (e : Effect) (s : State) (puts : Option ℕ) (After : State → Type 0) → e.puts ≡ puts → Leading g.board g.input g.code s puts weight After
      → ((u : State) → After u → (u.code ≡ s.code) × Turned X Q flow words L g x on away e e.turn s u) → Performed X Q flow words L g x on away weight e s
  performed x on away weight e s puts After same l turns = record {
    mid = l.mid;
    after = l.after;
    first = l.first;
    last = l.last;
    instruction = l.instruction;
    path = l.path;
    working = l.working;
    takes = record { does = l.takes.does; costs = l.takes.costs; put = l.takes.put ∙ sym same; leaves = l.takes.leaves };
    cost = l.cost;
    same_code = (turns l.after l.holds).0;
    turned = (turns l.after l.holds).1;
  }

  -- ---- A word of an object is carried from one home to another

  pub record CarriesWord (x : X) : Type 0 where
    pub object : ℕ
    pub from : Home
    pub to : Home
    pub next : X
    pub room_from : IsRoom from 1
    pub room_to : IsRoom to 1
    pub stands : Stand g.code (L.address x) (carries from to 0 ∷ [])
    pub one : words object ≡ 1
    pub held : L.holds x object from
    pub behind : L.address next ≡ L.address x + 3
    pub spot : L.spot next ≡ L.spot x
    pub holds : (o : ℕ) (h : Home) → L.holds next o h → ((o ≡ object) × (h ≡ to)) ⊎ (L.holds x o h × Apart to 1 h (words o))
    pub frames : L.frames next ≡ L.frames x
    pub counts : (m : Memory) (n : ℕ) → L.counts x m n → L.counts next m n
    pub pays : (m : Memory) (n : ℕ) → L.counts x m n → instruction_cost g.board (carries from to 0) + L.budget next m n ≤ L.budget x m n
    pub busy : L.busy next ≤ L.busy x

  pub carry_moves : (x : X) → CarriesWord x → MovesOn X Q flow words L g x
  carry_moves x o = record { moves = λ m s here. moved m s here }
    where
      moved : (m : Memory) (s : State) → Here X Q flow words L g x m s → Moved X Q flow words L g x m s
      moved m s here =
          let l = carry_leads g.board g.input g.code (L.address x) o.from o.to s o.room_from o.room_to o.stands here.working here.pc in
          let u : State = l.after in
          record {
            to = o.next;
            mid = l.mid;
            after = l.after;
            first = l.first;
            last = l.last;
            instruction = l.instruction;
            path = l.path;
            working = l.working;
            takes = l.takes;
            pays = (let p = o.pays m (s.reg 10) here.counted in let c = l.cost in let same = ap (λ n. L.budget o.next m n) l.holds.same_count in omega (arith, p, c, same));
            here = record {
              working = record {
                awake = l.holds.awake;
                closed = change_clear o.to 1 0 (word_of s o.from 0) 0xC00 s u (room_clear o.to o.room_to) (omega arith) (inl (omega arith)) l.holds.changes ∙ here.working.closed;
                has_code = l.holds.has_code;
              };
              pc = l.holds.pc ∙ ap (λ n. 0x8000 + 2 * n) (sym o.behind);
              sp = l.holds.same_sp ∙ here.sp ∙ ap (λ y. stack_top y) (sym o.frames);
              stacked = subst (λ y. Stacked u.fram y) (sym o.frames) (stacked_same (L.frames x) s.fram u.fram here.few (λ k high. change_clear o.to 1 0 (word_of s o.from 0) k s u (room_clear o.to o.room_to) (omega arith) (inr high) l.holds.changes) here.stacked);
              few = subst (λ y. length y ≤ 64) (sym o.frames) here.few;
              counted = subst (λ n. L.counts o.next m n) (sym l.holds.same_count) (o.counts m (s.reg 10) here.counted);
              held = λ y h holds i low. held m s u here l.holds.changes y h holds i low;
            };
            same_taken = l.holds.has_taken;
            spot = o.spot;
            busy = o.busy;
          }
        where
          held : (m : Memory) (s u : State) → Here X Q flow words L g x m s → Changes o.to 0 (word_of s o.from 0) s u → Held X Q flow words L g o.next m u
          held m s u here changes y h holds i low = elim (o.holds y h holds) [
            | inl same ↦
                let zero_i : i ≡ 0 = (let e = ap words same.0 in let one = o.one in omega (arith, low, e, one)) in
                ap (λ z. word_of u z i) same.1 ∙ ap (λ z. word_of u o.to z) zero_i ∙ change_same o.to 0 (word_of s o.from 0) s u changes
                ∙ here.held o.object o.from o.held 0 (let one = o.one in omega (arith, one)) ∙ ap (λ z. m o.object z) (sym zero_i) ∙ ap (λ z. m z i) (sym same.0)
            | inr other ↦ change_apart o.to 1 0 (word_of s o.from 0) h (words y) i s u other.1 (omega arith) low changes ∙ here.held y h other.0 i low
          ]

  -- ---- All words of an object are carried, in a loop

  pub record CarriesArray (x : X) : Type 0 where
    pub object : ℕ
    pub count : ℕ
    pub from : Home
    pub to : Home
    pub next : X
    pub room_from : IsRoom from count
    pub room_to : IsRoom to count
    pub apart : Apart to count from count
    pub stands : Stand g.code (L.address x) (block_code from to count)
    pub some : (m : ℕ) × (count ≡ m + 1)
    pub whole : words object ≡ count
    pub held : L.holds x object from
    pub behind : L.address next ≡ L.address x + 7
    pub spot : L.spot next ≡ L.spot x
    pub holds : (o : ℕ) (h : Home) → L.holds next o h → ((o ≡ object) × (h ≡ to)) ⊎ (L.holds x o h × Apart to count h (words o))
    pub frames : L.frames next ≡ L.frames x
    pub counts : (m : Memory) (n : ℕ) → L.counts x m n → L.counts next m n
    pub pays : (m : Memory) (n : ℕ) → L.counts x m n → block_cost g.board from to count + L.budget next m n ≤ L.budget x m n
    pub busy : L.busy next ≤ L.busy x

  clear_of : (h : Home) (n : ℕ) → IsRoom h n → IsClear h n
  clear_of (InSram w) n room = tt
  clear_of (InFram w) n room = room

  pub array_moves : (x : X) → CarriesArray x → MovesOn X Q flow words L g x
  array_moves x o = record { moves = λ m s here. moved m s here }
    where
      held_by : (m : Memory) (s u : State) → Here X Q flow words L g x m s → Copied g.board g.input g.code o.from o.to o.count o.room_from o.room_to (L.address x + 7) s u → Held X Q flow words L g o.next m u
      held_by m s u here l y h holds i low = elim (o.holds y h holds) [
        | inl same ↦
            let in_range : i < o.count = (let e = ap words same.0 in let w = o.whole in omega (arith, low, e, w)) in
            ap (λ z. word_of u z i) same.1 ∙ l.copied i in_range ∙ here.held o.object o.from o.held i (let w = o.whole in omega (arith, w, in_range)) ∙ ap (λ z. m z i) (sym same.0)
        | inr other ↦ l.kept h (words y) i other.1 low ∙ here.held y h other.0 i low
      ]

      moved : (m : Memory) (s : State) → Here X Q flow words L g x m s → Moved X Q flow words L g x m s
      moved m s here =
          let l = block_leads g.board g.input g.code o.from o.to o.count o.room_from o.room_to (L.address x) o.some.0 s o.some.1 o.apart (clear_of o.to o.count o.room_to) o.stands here.working here.pc in
          record {
            to = o.next;
            mid = l.mid;
            after = l.after;
            first = l.first;
            last = l.last;
            instruction = l.instruction;
            path = l.path;
            working = l.working;
            takes = l.takes;
            pays = (let p = o.pays m (s.reg 10) here.counted in let c = l.cost in let same = ap (λ n. L.budget o.next m n) l.holds.same_count in omega (arith, p, c, same));
            here = record {
              working = record { awake = l.holds.awake; closed = l.holds.away 0xC00 (inl (omega arith)) ∙ here.working.closed; has_code = l.holds.has_code };
              pc = l.holds.pc ∙ ap (λ n. 0x8000 + 2 * n) (sym o.behind);
              sp = l.holds.same_sp ∙ here.sp ∙ ap (λ y. stack_top y) (sym o.frames);
              stacked = subst (λ y. Stacked l.after.fram y) (sym o.frames) (stacked_same (L.frames x) s.fram l.after.fram here.few (λ k high. l.holds.away k (inr high)) here.stacked);
              few = subst (λ y. length y ≤ 64) (sym o.frames) here.few;
              counted = subst (λ n. L.counts o.next m n) (sym l.holds.same_count) (o.counts m (s.reg 10) here.counted);
              held = held_by m s l.after here l.holds;
            };
            same_taken = l.holds.has_taken;
            spot = o.spot;
            busy = o.busy;
          }
