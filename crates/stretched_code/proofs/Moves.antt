-- Moves of code in stretches: an object is carried from one home to another, whether or not its words are held; and a turn ends.
use Rattle.std.proofs.Common.{◌≡◌, ◌≢◌, ◌⊎◌, ℕ, ◌+◌, ◌-◌, ◌*◌, ◌%◌, ◌<◌, ◌≤◌, true, false, [], ◌∷◌, length, None, refl, sym, ap, ◌∙◌, subst, arith, inl, inr}
use Rattle.std.specs.Prelude.{◌==◌, if◌then◌else◌}
use Rattle.std.proofs.lemmas.Bool.{cases_Bool, eqb-true, eq-eqb}
use Rattle.msp430_isa.specs.Results.{jump_target}
use Rattle.msp430_machine.specs.State.{Awake, State}
use Rattle.msp430_machine.specs.Execution.{done, gone_to}
use Rattle.msp430_machine.specs.Steps.{begun}
use Rattle.msp430_machine.specs.Cost.{instruction_cost}
use Rattle.std.proofs.Common.{pos}
use Rattle.power_core.proofs.Points.{Setting}
use Rattle.resumed_runs.proofs.Paths.{Stand, Working, Takes, Arrived, Through, takes_at}
use Rattle.laid_code.specs.Flows.{Memory, Flow}
use Rattle.laid_code.proofs.Homes.{Home, InSram, InFram, word_of, IsClear, Apart, Changes, change_same, change_apart, change_clear, Stacked, stack_top, stacked_same}
use Rattle.laid_code.proofs.Words.{IsRoom, carries}
use Rattle.laid_code.proofs.Leading.{behind, carry_leads}
use Rattle.laid_code.proofs.Copying.{block_code, block_cost, Copied, block_leads}
use Rattle.laid_code.proofs.Rounds.{lowers_count, leaves}
use Rattle.laid_code.proofs.Laid.{Layout, Held, Here, Moved, MovesOn}

clear_of : (h : Home) (n : ℕ) → IsRoom h n → IsClear h n
clear_of (InSram w) n room = tt
clear_of (InFram w) n room = room

module _ (X Q : Type 0) (flow : Flow Q) (words : ℕ → ℕ) (L : Layout X Q) (g : Setting) where
  -- ---- A word of an object is carried

  pub record BringsWord (x : X) : Type 0 where
    pub object : ℕ
    pub from : Home
    pub to : Home
    pub next : X
    pub room_from : IsRoom from 1
    pub room_to : IsRoom to 1
    pub stands : Stand g.code (L.address x) (carries from to 0 ∷ [])
    pub one : words object ≡ 1
    pub behind : L.address next ≡ L.address x + 3
    pub spot : L.spot next ≡ L.spot x
    -- what is held behind it: the object where it was held, and what it spares
    pub holds : (o : ℕ) (h : Home) → L.holds next o h → ((o ≡ object) × (h ≡ to) × L.holds x object from) ⊎ (L.holds x o h × Apart to 1 h (words o))
    pub frames : L.frames next ≡ L.frames x
    pub counts : (m : Memory) (n : ℕ) → L.counts x m n → L.counts next m n
    pub pays : (m : Memory) (n : ℕ) → L.counts x m n → instruction_cost g.board (carries from to 0) + L.budget next m n ≤ L.budget x m n
    pub busy : L.busy next ≤ L.busy x

  pub word_moves : (x : X) → BringsWord x → MovesOn X Q flow words L g x
  word_moves x o = record { moves = λ m s here. moved m s here }
    where
      held : (m : Memory) (s u : State) → Here X Q flow words L g x m s → Changes o.to 0 (word_of s o.from 0) s u → Held X Q flow words L g o.next m u
      held m s u here changes y h holds i low = elim (o.holds y h holds) [
        | inl same ↦
            let zero_i : i ≡ 0 = (let e = ap words same.0 in let one = o.one in omega (arith, low, e, one)) in
            ap (λ z. word_of u z i) same.1 ∙ ap (λ z. word_of u o.to z) zero_i ∙ change_same o.to 0 (word_of s o.from 0) s u changes
            ∙ here.held o.object o.from same.2 0 (let one = o.one in omega (arith, one)) ∙ ap (λ z. m o.object z) (sym zero_i) ∙ ap (λ z. m z i) (sym same.0)
        | inr other ↦ change_apart o.to 1 0 (word_of s o.from 0) h (words y) i s u other.1 (omega arith) low changes ∙ here.held y h other.0 i low
      ]

      moved : (m : Memory) (s : State) → Here X Q flow words L g x m s → Moved X Q flow words L g x m s
      moved m s here =
          let l = carry_leads g.board g.input g.code (L.address x) o.from o.to s o.room_from o.room_to o.stands here.working here.pc in
          let u : State = l.after in
          record {
            to = o.next;
            mid = l.mid;
            after = l.after;
            first = l.first;
            last = l.last;
            instruction = l.instruction;
            path = l.path;
            working = l.working;
            takes = l.takes;
            pays = (let p = o.pays m (s.reg 10) here.counted in let c = l.cost in let same = ap (λ n. L.budget o.next m n) l.holds.same_count in omega (arith, p, c, same));
            here = record {
              working = record {
                awake = l.holds.awake;
                closed = change_clear o.to 1 0 (word_of s o.from 0) 0xC00 s u (clear_of o.to 1 o.room_to) (omega arith) (inl (omega arith)) l.holds.changes ∙ here.working.closed;
                has_code = l.holds.has_code;
              };
              pc = l.holds.pc ∙ ap (λ n. 0x8000 + 2 * n) (sym o.behind);
              sp = l.holds.same_sp ∙ here.sp ∙ ap (λ y. stack_top y) (sym o.frames);
              stacked = subst (λ y. Stacked u.fram y) (sym o.frames) (stacked_same (L.frames x) s.fram u.fram here.few (λ k high. change_clear o.to 1 0 (word_of s o.from 0) k s u (clear_of o.to 1 o.room_to) (omega arith) (inr high) l.holds.changes) here.stacked);
              few = subst (λ y. length y ≤ 64) (sym o.frames) here.few;
              counted = subst (λ n. L.counts o.next m n) (sym l.holds.same_count) (o.counts m (s.reg 10) here.counted);
              held = held m s u here l.holds.changes;
            };
            same_taken = l.holds.has_taken;
            spot = o.spot;
            busy = o.busy;
          }

  -- ---- All words of an object are carried, in a loop

  pub record BringsArray (x : X) : Type 0 where
    pub object : ℕ
    pub count : ℕ
    pub from : Home
    pub to : Home
    pub next : X
    pub room_from : IsRoom from count
    pub room_to : IsRoom to count
    pub apart : Apart to count from count
    pub stands : Stand g.code (L.address x) (block_code from to count)
    pub some : (m : ℕ) × (count ≡ m + 1)
    pub whole : words object ≡ count
    pub behind : L.address next ≡ L.address x + 7
    pub spot : L.spot next ≡ L.spot x
    pub holds : (o : ℕ) (h : Home) → L.holds next o h → ((o ≡ object) × (h ≡ to) × L.holds x object from) ⊎ (L.holds x o h × Apart to count h (words o))
    pub frames : L.frames next ≡ L.frames x
    pub counts : (m : Memory) (n : ℕ) → L.counts x m n → L.counts next m n
    pub pays : (m : Memory) (n : ℕ) → L.counts x m n → block_cost g.board from to count + L.budget next m n ≤ L.budget x m n
    pub busy : L.busy next ≤ L.busy x

  pub array_moves : (x : X) → BringsArray x → MovesOn X Q flow words L g x
  array_moves x o = record { moves = λ m s here. moved m s here }
    where
      held_by : (m : Memory) (s u : State) → Here X Q flow words L g x m s → Copied g.board g.input g.code o.from o.to o.count o.room_from o.room_to (L.address x + 7) s u → Held X Q flow words L g o.next m u
      held_by m s u here l y h holds i low = elim (o.holds y h holds) [
        | inl same ↦
            let in_range : i < o.count = (let e = ap words same.0 in let w = o.whole in omega (arith, low, e, w)) in
            ap (λ z. word_of u z i) same.1 ∙ l.copied i in_range ∙ here.held o.object o.from same.2 i (let w = o.whole in omega (arith, w, in_range)) ∙ ap (λ z. m z i) (sym same.0)
        | inr other ↦ l.kept h (words y) i other.1 low ∙ here.held y h other.0 i low
      ]

      moved : (m : Memory) (s : State) → Here X Q flow words L g x m s → Moved X Q flow words L g x m s
      moved m s here =
          let l = block_leads g.board g.input g.code o.from o.to o.count o.room_from o.room_to (L.address x) o.some.0 s o.some.1 o.apart (clear_of o.to o.count o.room_to) o.stands here.working here.pc in
          record {
            to = o.next;
            mid = l.mid;
            after = l.after;
            first = l.first;
            last = l.last;
            instruction = l.instruction;
            path = l.path;
            working = l.working;
            takes = l.takes;
            pays = (let p = o.pays m (s.reg 10) here.counted in let c = l.cost in let same = ap (λ n. L.budget o.next m n) l.holds.same_count in omega (arith, p, c, same));
            here = record {
              working = record { awake = l.holds.awake; closed = l.holds.away 0xC00 (inl (omega arith)) ∙ here.working.closed; has_code = l.holds.has_code };
              pc = l.holds.pc ∙ ap (λ n. 0x8000 + 2 * n) (sym o.behind);
              sp = l.holds.same_sp ∙ here.sp ∙ ap (λ y. stack_top y) (sym o.frames);
              stacked = subst (λ y. Stacked l.after.fram y) (sym o.frames) (stacked_same (L.frames x) s.fram l.after.fram here.few (λ k high. l.holds.away k (inr high)) here.stacked);
              few = subst (λ y. length y ≤ 64) (sym o.frames) here.few;
              counted = subst (λ n. L.counts o.next m n) (sym l.holds.same_count) (o.counts m (s.reg 10) here.counted);
              held = held_by m s l.after here l.holds;
            };
            same_taken = l.holds.has_taken;
            spot = o.spot;
            busy = o.busy;
          }

  -- ---- A turn ends: R10 is lowered, and control leaves where it is 0

  -- memories, stack and code are those of s
  record Same (s u : State) : Type 0 where
    pub awake : u.phase ≡ Awake
    pub has_code : u.code ≡ g.code
    pub sram : u.sram ≡ s.sram
    pub fram : u.fram ≡ s.fram
    pub sp : u.reg 1 ≡ s.reg 1

  here_same : (x to : X) (m : Memory) (s u : State) → Here X Q flow words L g x m s → Same s u → u.reg 0 ≡ 0x8000 + 2 * L.address to → L.frames to ≡ L.frames x
      → ((o : ℕ) (h : Home) → L.holds to o h → L.holds x o h) → L.counts to m (u.reg 10) → Here X Q flow words L g to m u
  here_same x to m s u here same pc frames holds counted = record {
    working = record { awake = same.awake; closed = ap (λ f. f 0xC00) same.fram ∙ here.working.closed; has_code = same.has_code };
    pc = pc;
    sp = same.sp ∙ here.sp ∙ ap (λ y. stack_top y) (sym frames);
    stacked = subst (λ f. Stacked f (L.frames to)) (sym same.fram) (subst (λ y. Stacked s.fram y) (sym frames) here.stacked);
    few = subst (λ y. length y ≤ 64) (sym frames) here.few;
    counted = counted;
    held = λ o h held i low. word_same h i ∙ here.held o h (holds o h held) i low;
  }
    where
      word_same : (h : Home) (i : ℕ) → word_of u h i ≡ word_of s h i
      word_same (InSram w) i = ap (λ f. f (w + i)) same.sram
      word_same (InFram w) i = ap (λ f. f (w + i)) same.fram

  -- behind it another turn is begun, or there is none left and the two words behind it are skipped
  pub record LowersCount (x : X) : Type 0 where
    pub again : X
    pub out : X
    pub stands : Stand g.code (L.address x) (lowers_count ∷ leaves ∷ [])
    pub room : L.address x + 4 ≤ 0x3FC0
    pub behind_again : L.address again ≡ L.address x + 2
    pub behind_out : L.address out ≡ L.address x + 4
    pub spot_again : L.spot again ≡ L.spot x
    pub spot_out : L.spot out ≡ L.spot x
    pub frames_again : L.frames again ≡ L.frames x
    pub frames_out : L.frames out ≡ L.frames x
    pub holds_again : (o : ℕ) (h : Home) → L.holds again o h → L.holds x o h
    pub holds_out : (o : ℕ) (h : Home) → L.holds out o h → L.holds x o h
    pub some : (m : Memory) (n : ℕ) → L.counts x m n → (1 ≤ n) × (n < 65536)
    pub counts_again : (m : Memory) (n : ℕ) → L.counts x m (n + 1) → n ≢ 0 → L.counts again m n
    pub counts_out : (m : Memory) → L.counts x m 1 → L.counts out m 0
    pub pays_again : (m : Memory) (n : ℕ) → L.counts x m (n + 1) → n ≢ 0 → instruction_cost g.board lowers_count + (instruction_cost g.board leaves + L.budget again m n) ≤ L.budget x m (n + 1)
    pub pays_out : (m : Memory) → L.counts x m 1 → instruction_cost g.board lowers_count + (instruction_cost g.board leaves + L.budget out m 0) ≤ L.budget x m 1
    pub busy_again : L.busy again ≤ L.busy x
    pub busy_out : L.busy out ≤ L.busy x

  module _ (x : X) (o : LowersCount x) (m : Memory) (s : State) (here : Here X Q flow words L g x m s) where
    abbrev s1 : State
    s1 = done g.input lowers_count (begun (instruction_cost g.board lowers_count) lowers_count s)

    abbrev passed : State
    passed = begun (instruction_cost g.board leaves) leaves (done g.input lowers_count (begun (instruction_cost g.board lowers_count) lowers_count s))

    abbrev left : State
    left = let y = begun (instruction_cost g.board leaves) leaves (done g.input lowers_count (begun (instruction_cost g.board lowers_count) lowers_count s)) in gone_to y (jump_target (y.reg 0) (pos 2))

    abbrev n : ℕ
    n = s.reg 10 - 1

    range : (1 ≤ s.reg 10) × (s.reg 10 < 65536)
    range = o.some m (s.reg 10) here.counted

    was : s.reg 10 ≡ n + 1
    was = omega (arith, range.0)

    counted : L.counts x m (n + 1)
    counted = subst (λ y. L.counts x m y) was here.counted

    is_n : s1.reg 10 ≡ n
    is_n = (let e : (s.reg 10 + 65534 + 1) % 65536 ≡ s.reg 10 - 1 = omega (arith, range.0, range.1) in e)

    pc1 : s1.reg 0 ≡ 0x8000 + 2 * (L.address x + 1)
    pc1 = behind (L.address x) 1 s here.pc o.stands.1

    working1 : Working g.code s1
    working1 = record { awake = here.working.awake; closed = here.working.closed; has_code = here.working.has_code }

    takes1 : Takes g.board g.input lowers_count (instruction_cost g.board lowers_count) s None s1
    takes1 = takes_at g.board g.input g.code (L.address x) lowers_count (leaves ∷ []) (instruction_cost g.board lowers_count) s None s1 o.stands here.working.has_code here.pc refl refl refl refl refl

    takes_out : (n == 0) ≡ true → Takes g.board g.input leaves (instruction_cost g.board leaves) s1 None left
    takes_out e = takes_at g.board g.input g.code (L.address x + 1) leaves [] (instruction_cost g.board leaves) s1 None left o.stands.2 working1.has_code pc1 refl refl refl refl
        (ap (λ z. if z then left else passed) (ap (λ y. y == 0) is_n ∙ e))

    takes_on : (n == 0) ≡ false → Takes g.board g.input leaves (instruction_cost g.board leaves) s1 None passed
    takes_on e = takes_at g.board g.input g.code (L.address x + 1) leaves [] (instruction_cost g.board leaves) s1 None passed o.stands.2 working1.has_code pc1 refl refl refl refl
        (ap (λ z. if z then left else passed) (ap (λ y. y == 0) is_n ∙ e))

    pc2 : passed.reg 0 ≡ 0x8000 + 2 * L.address o.again
    pc2 = (let p = behind (L.address x + 1) 1 s1 pc1 o.stands.2.1 in let b = o.behind_again in omega (arith, p, b))

    goes_out : (n == 0) ≡ true → Moved X Q flow words L g x m s
    goes_out e =
        let zero_n : n ≡ 0 = eqb-true n 0 e in
        let one : L.counts x m 1 = subst (λ y. L.counts x m (y + 1)) zero_n counted in
        let end : left.reg 10 ≡ 0 = is_n ∙ zero_n in
        record {
          to = o.out;
          mid = s1;
          after = left;
          first = instruction_cost g.board lowers_count + 0;
          last = instruction_cost g.board leaves;
          instruction = leaves;
          path = Through lowers_count (instruction_cost g.board lowers_count) 0 s s1 here.working takes1 Arrived;
          working = working1;
          takes = takes_out e;
          pays = (let p = o.pays_out m one in let b = ap (λ y. L.budget o.out m y) end in let c = ap (λ y. L.budget x m y) was ∙ ap (λ y. L.budget x m (y + 1)) zero_n in omega (arith, p, b, c));
          here = here_same x o.out m s left here (record { awake = here.working.awake; has_code = here.working.has_code; sram = refl; fram = refl; sp = refl })
              (let room = o.room in let b = o.behind_out in let q : ((s1.reg 0 + 2 * 1) % 65536 + 2 * 2) % 65536 ≡ 0x8000 + 2 * L.address o.out = omega (arith, pc1, room, b) in q)
              o.frames_out o.holds_out (subst (λ y. L.counts o.out m y) (sym end) (o.counts_out m one));
          same_taken = refl;
          spot = o.spot_out;
          busy = o.busy_out;
        }

    goes_again : (n == 0) ≡ false → Moved X Q flow words L g x m s
    goes_again e =
        let some : n ≢ 0 = λ z. let no : true ≡ false = sym (eq-eqb n 0 z) ∙ e in cc in
        record {
          to = o.again;
          mid = s1;
          after = passed;
          first = instruction_cost g.board lowers_count + 0;
          last = instruction_cost g.board leaves;
          instruction = leaves;
          path = Through lowers_count (instruction_cost g.board lowers_count) 0 s s1 here.working takes1 Arrived;
          working = working1;
          takes = takes_on e;
          pays = (let p = o.pays_again m n counted some in let b = ap (λ y. L.budget o.again m y) is_n in let c = ap (λ y. L.budget x m y) was in omega (arith, p, b, c));
          here = here_same x o.again m s passed here (record { awake = here.working.awake; has_code = here.working.has_code; sram = refl; fram = refl; sp = refl }) pc2
              o.frames_again o.holds_again (subst (λ y. L.counts o.again m y) (sym is_n) (o.counts_again m n counted some));
          same_taken = refl;
          spot = o.spot_again;
          busy = o.busy_again;
        }

    ends : Moved X Q flow words L g x m s
    ends = elim (cases_Bool (n == 0)) [ inl e ↦ goes_out e | inr e ↦ goes_again e ]

  pub lower_moves : (x : X) → LowersCount x → MovesOn X Q flow words L g x
  lower_moves x o = record { moves = λ m s here. ends x o m s here }
