-- The moves of a loop that sleeps every so many turns: R10 is set, a turn ends, and a jump back to the head.
use Rattle.std.proofs.Common.{◌≡◌, ◌≢◌, ℕ, ◌+◌, ◌-◌, ◌*◌, ◌%◌, ◌<◌, ◌≤◌, true, false, List, [], ◌∷◌, length, None, refl, sym, ap, ◌∙◌, subst, arith, inl, inr, pos}
use Rattle.std.specs.Prelude.{◌==◌, nat_lt, if◌then◌else◌, ◌&&◌}
use Rattle.std.proofs.lemmas.Bool.{cases_Bool, eqb-true, eq-eqb}
use Rattle.std.proofs.lemmas.Bool.Decides.{nat_tests}
use Rattle.msp430_isa.specs.declared.instr.Src.TheVariants.{Imm, Short}
use Rattle.msp430_isa.specs.declared.instr.Dst.TheVariants.{Reg as ToReg}
use Rattle.msp430_isa.specs.declared.instr.TwoOp.TheVariants.{Sub as SUB}
use Rattle.msp430_isa.specs.declared.instr.Cond.TheVariants.{Jeq as JEQ}
use Rattle.msp430_isa.specs.declared.instr.Instr.{Instr}
use Rattle.msp430_isa.specs.declared.instr.Instr.TheVariants.{Two, Jump}
use Rattle.msp430_isa.specs.Results.{jump_target}
use Rattle.msp430_machine.specs.State.{Awake, State}
use Rattle.msp430_machine.specs.Execution.{done, gone_to}
use Rattle.msp430_machine.specs.Steps.{begun}
use Rattle.power_core.proofs.Points.{Setting}
use Rattle.resumed_runs.specs.Code.{move}
use Rattle.msp430_machine.specs.Cost.{instruction_cost}
use Rattle.resumed_runs.proofs.Paths.{Stand, Working, Takes, Arrived, Through, takes_at}
use Rattle.laid_code.specs.Flows.{Memory, Flow}
use Rattle.laid_code.proofs.Homes.{Home, InSram, InFram, word_of, Stacked, stack_top}
use Rattle.laid_code.proofs.Leading.{goes_to, behind}
use Rattle.laid_code.proofs.Laid.{Layout, Here, Moved, MovesOn}

abbrev pub sets_count : ℕ → Instr
sets_count k = move (Imm k) (ToReg 10)

abbrev pub lowers_count : Instr
lowers_count = Two SUB false (Short 1) (ToReg 10)

-- over the two words behind it
abbrev pub leaves : Instr
leaves = Jump JEQ (pos 2)

abbrev pub turn_end : ℕ → List Instr
turn_end again = lowers_count ∷ leaves ∷ goes_to (0x8000 + 2 * again) ∷ []

word_fits : (v : ℕ) → v < 65536 → nat_lt v 65536 ≡ true
word_fits v low = grind (arith, nat_tests)

module _ (X Q : Type 0) (flow : Flow Q) (words : ℕ → ℕ) (L : Layout X Q) (g : Setting) where
  -- memories, stack and code are those of s
  record Same (s u : State) : Type 0 where
    pub awake : u.phase ≡ Awake
    pub has_code : u.code ≡ g.code
    pub sram : u.sram ≡ s.sram
    pub fram : u.fram ≡ s.fram
    pub sp : u.reg 1 ≡ s.reg 1

  -- so the machine stands where it goes
  here_same : (x to : X) (m : Memory) (s u : State) → Here X Q flow words L g x m s → Same s u → u.reg 0 ≡ 0x8000 + 2 * L.address to → L.frames to ≡ L.frames x
      → ((o : ℕ) (h : Home) → L.holds to o h → L.holds x o h) → L.counts to m (u.reg 10) → Here X Q flow words L g to m u
  here_same x to m s u here same pc frames holds counted = record {
    working = record { awake = same.awake; closed = ap (λ f. f 0xC00) same.fram ∙ here.working.closed; has_code = same.has_code };
    pc = pc;
    sp = same.sp ∙ here.sp ∙ ap (λ y. stack_top y) (sym frames);
    stacked = subst (λ f. Stacked f (L.frames to)) (sym same.fram) (subst (λ y. Stacked s.fram y) (sym frames) here.stacked);
    few = subst (λ y. length y ≤ 64) (sym frames) here.few;
    counted = counted;
    held = λ o h held i low. word_same h i ∙ here.held o h (holds o h held) i low;
  }
    where
      word_same : (h : Home) (i : ℕ) → word_of u h i ≡ word_of s h i
      word_same (InSram w) i = ap (λ f. f (w + i)) same.sram
      word_same (InFram w) i = ap (λ f. f (w + i)) same.fram

  -- ---- R10 is set to the number of turns

  pub record SetsCount (x : X) : Type 0 where
    pub turns : ℕ
    pub next : X
    pub low : turns < 65536
    pub stands : Stand g.code (L.address x) (sets_count turns ∷ [])
    pub behind : L.address next ≡ L.address x + 2
    pub spot : L.spot next ≡ L.spot x
    pub frames : L.frames next ≡ L.frames x
    pub holds : (o : ℕ) (h : Home) → L.holds next o h → L.holds x o h
    pub counts : (m : Memory) (n : ℕ) → L.counts x m n → L.counts next m turns
    pub pays : (m : Memory) (n : ℕ) → L.counts x m n → instruction_cost g.board (sets_count 0) + L.budget next m turns ≤ L.budget x m n
    pub busy : L.busy next ≤ L.busy x

  pub count_moves : (x : X) → SetsCount x → MovesOn X Q flow words L g x
  count_moves x o = record { moves = λ m s here. moved m s here }
    where
      moved : (m : Memory) (s : State) → Here X Q flow words L g x m s → Moved X Q flow words L g x m s
      moved m s here =
          let i : Instr = sets_count o.turns in
          let u : State = done g.input (sets_count o.turns) (begun (instruction_cost g.board (sets_count o.turns)) (sets_count o.turns) s) in
          record {
            to = o.next;
            mid = s;
            after = u;
            first = 0;
            last = instruction_cost g.board i;
            instruction = i;
            path = Arrived;
            working = here.working;
            takes = takes_at g.board g.input g.code (L.address x) i [] (instruction_cost g.board i) s None u o.stands here.working.has_code here.pc (ap (λ c. c && true) (word_fits o.turns o.low)) refl refl refl refl;
            pays = (let p = o.pays m (s.reg 10) here.counted in omega (arith, p));
            here = here_same x o.next m s u here (record { awake = here.working.awake; has_code = here.working.has_code; sram = refl; fram = refl; sp = refl })
                (behind (L.address x) 2 s here.pc o.stands.1 ∙ ap (λ k. 0x8000 + 2 * k) (sym o.behind)) o.frames o.holds (o.counts m (s.reg 10) here.counted);
            same_taken = refl;
            spot = o.spot;
            busy = o.busy;
          }

  -- ---- A jump that is no operation

  pub record Jumps (x : X) : Type 0 where
    pub to : X
    pub low : L.address to < 0x4000
    pub stands : Stand g.code (L.address x) (goes_to (0x8000 + 2 * L.address to) ∷ [])
    pub spot : L.spot to ≡ L.spot x
    pub frames : L.frames to ≡ L.frames x
    pub holds : (o : ℕ) (h : Home) → L.holds to o h → L.holds x o h
    pub counts : (m : Memory) (n : ℕ) → L.counts x m n → L.counts to m n
    pub pays : (m : Memory) (n : ℕ) → L.counts x m n → instruction_cost g.board (goes_to 0) + L.budget to m n ≤ L.budget x m n
    pub busy : L.busy to ≤ L.busy x

  pub jump_moves : (x : X) → Jumps x → MovesOn X Q flow words L g x
  jump_moves x o = record { moves = λ m s here. moved m s here }
    where
      moved : (m : Memory) (s : State) → Here X Q flow words L g x m s → Moved X Q flow words L g x m s
      moved m s here =
          let i : Instr = goes_to (0x8000 + 2 * L.address o.to) in
          let u : State = done g.input (goes_to (0x8000 + 2 * L.address o.to)) (begun (instruction_cost g.board (goes_to (0x8000 + 2 * L.address o.to))) (goes_to (0x8000 + 2 * L.address o.to)) s) in
          record {
            to = o.to;
            mid = s;
            after = u;
            first = 0;
            last = instruction_cost g.board i;
            instruction = i;
            path = Arrived;
            working = here.working;
            takes = takes_at g.board g.input g.code (L.address x) i [] (instruction_cost g.board i) s None u o.stands here.working.has_code here.pc
                (ap (λ c. c && true) (word_fits (0x8000 + 2 * L.address o.to) (let l = o.low in omega (arith, l)))) refl refl refl refl;
            pays = (let p = o.pays m (s.reg 10) here.counted in omega (arith, p));
            here = here_same x o.to m s u here (record { awake = here.working.awake; has_code = here.working.has_code; sram = refl; fram = refl; sp = refl }) refl o.frames o.holds (o.counts m (s.reg 10) here.counted);
            same_taken = refl;
            spot = o.spot;
            busy = o.busy;
          }

  -- ---- A turn ends: another begins, or R10 is 0

  pub record EndsTurn (x : X) : Type 0 where
    pub again : X
    pub out : X
    pub low : L.address again < 0x4000
    pub stands : Stand g.code (L.address x) (turn_end (L.address again))
    pub behind : L.address out ≡ L.address x + 4
    pub spot_again : L.spot again ≡ L.spot x
    pub spot_out : L.spot out ≡ L.spot x
    pub frames_again : L.frames again ≡ L.frames x
    pub frames_out : L.frames out ≡ L.frames x
    pub holds_again : (o : ℕ) (h : Home) → L.holds again o h → L.holds x o h
    pub holds_out : (o : ℕ) (h : Home) → L.holds out o h → L.holds x o h
    pub some : (m : Memory) (n : ℕ) → L.counts x m n → (1 ≤ n) × (n < 65536)
    pub counts_again : (m : Memory) (n : ℕ) → L.counts x m (n + 1) → n ≢ 0 → L.counts again m n
    pub counts_out : (m : Memory) → L.counts x m 1 → L.counts out m 0
    pub pays_again : (m : Memory) (n : ℕ) → L.counts x m (n + 1) → n ≢ 0 → instruction_cost g.board lowers_count + (instruction_cost g.board leaves + (instruction_cost g.board (goes_to 0) + L.budget again m n)) ≤ L.budget x m (n + 1)
    pub pays_out : (m : Memory) → L.counts x m 1 → instruction_cost g.board lowers_count + (instruction_cost g.board leaves + L.budget out m 0) ≤ L.budget x m 1
    pub busy_again : L.busy again ≤ L.busy x
    pub busy_out : L.busy out ≤ L.busy x

  module _ (x : X) (o : EndsTurn x) (m : Memory) (s : State) (here : Here X Q flow words L g x m s) where
    abbrev s1 : State
    s1 = done g.input lowers_count (begun (instruction_cost g.board lowers_count) lowers_count s)

    abbrev passed : State
    passed = begun (instruction_cost g.board leaves) leaves (done g.input lowers_count (begun (instruction_cost g.board lowers_count) lowers_count s))

    abbrev left : State
    left = let y = begun (instruction_cost g.board leaves) leaves (done g.input lowers_count (begun (instruction_cost g.board lowers_count) lowers_count s)) in gone_to y (jump_target (y.reg 0) (pos 2))

    abbrev gone : State
    gone = let y = begun (instruction_cost g.board leaves) leaves (done g.input lowers_count (begun (instruction_cost g.board lowers_count) lowers_count s)) in
        done g.input (goes_to (0x8000 + 2 * L.address o.again)) (begun (instruction_cost g.board (goes_to (0x8000 + 2 * L.address o.again))) (goes_to (0x8000 + 2 * L.address o.again)) y)

    abbrev n : ℕ
    n = s.reg 10 - 1

    range : (1 ≤ s.reg 10) × (s.reg 10 < 65536)
    range = o.some m (s.reg 10) here.counted

    was : s.reg 10 ≡ n + 1
    was = omega (arith, range.0)

    counted : L.counts x m (n + 1)
    counted = subst (λ y. L.counts x m y) was here.counted

    is_n : s1.reg 10 ≡ n
    is_n = (let e : (s.reg 10 + 65534 + 1) % 65536 ≡ s.reg 10 - 1 = omega (arith, range.0, range.1) in e)

    pc1 : s1.reg 0 ≡ 0x8000 + 2 * (L.address x + 1)
    pc1 = behind (L.address x) 1 s here.pc o.stands.1

    working1 : Working g.code s1
    working1 = record { awake = here.working.awake; closed = here.working.closed; has_code = here.working.has_code }

    takes1 : Takes g.board g.input lowers_count (instruction_cost g.board lowers_count) s None s1
    takes1 = takes_at g.board g.input g.code (L.address x) lowers_count (leaves ∷ goes_to (0x8000 + 2 * L.address o.again) ∷ []) (instruction_cost g.board lowers_count) s None s1 o.stands here.working.has_code here.pc refl refl refl refl refl

    takes_out : (n == 0) ≡ true → Takes g.board g.input leaves (instruction_cost g.board leaves) s1 None left
    takes_out e = takes_at g.board g.input g.code (L.address x + 1) leaves (goes_to (0x8000 + 2 * L.address o.again) ∷ []) (instruction_cost g.board leaves) s1 None left o.stands.2 working1.has_code pc1 refl refl refl refl
        (ap (λ z. if z then left else passed) (ap (λ y. y == 0) is_n ∙ e))

    takes_on : (n == 0) ≡ false → Takes g.board g.input leaves (instruction_cost g.board leaves) s1 None passed
    takes_on e = takes_at g.board g.input g.code (L.address x + 1) leaves (goes_to (0x8000 + 2 * L.address o.again) ∷ []) (instruction_cost g.board leaves) s1 None passed o.stands.2 working1.has_code pc1 refl refl refl refl
        (ap (λ z. if z then left else passed) (ap (λ y. y == 0) is_n ∙ e))

    pc2 : passed.reg 0 ≡ 0x8000 + 2 * (L.address x + 1 + 1)
    pc2 = behind (L.address x + 1) 1 s1 pc1 o.stands.2.1

    takes3 : Takes g.board g.input (goes_to (0x8000 + 2 * L.address o.again)) (instruction_cost g.board (goes_to (0x8000 + 2 * L.address o.again))) passed None gone
    takes3 = takes_at g.board g.input g.code (L.address x + 1 + 1) (goes_to (0x8000 + 2 * L.address o.again)) [] (instruction_cost g.board (goes_to (0x8000 + 2 * L.address o.again))) passed None gone o.stands.2.2 working1.has_code pc2
        (ap (λ c. c && true) (word_fits (0x8000 + 2 * L.address o.again) (let l = o.low in omega (arith, l)))) refl refl refl refl

    goes_out : (n == 0) ≡ true → Moved X Q flow words L g x m s
    goes_out e =
        let zero_n : n ≡ 0 = eqb-true n 0 e in
        let one : L.counts x m 1 = subst (λ y. L.counts x m (y + 1)) zero_n counted in
        let end : left.reg 10 ≡ 0 = is_n ∙ zero_n in
        record {
          to = o.out;
          mid = s1;
          after = left;
          first = instruction_cost g.board lowers_count + 0;
          last = instruction_cost g.board leaves;
          instruction = leaves;
          path = Through lowers_count (instruction_cost g.board lowers_count) 0 s s1 here.working takes1 Arrived;
          working = working1;
          takes = takes_out e;
          pays = (let p = o.pays_out m one in let b = ap (λ y. L.budget o.out m y) end in let c = ap (λ y. L.budget x m y) was ∙ ap (λ y. L.budget x m (y + 1)) zero_n in omega (arith, p, b, c));
          here = here_same x o.out m s left here (record { awake = here.working.awake; has_code = here.working.has_code; sram = refl; fram = refl; sp = refl })
              (let room = o.stands.2.2.1 in let b = o.behind in let q : ((s1.reg 0 + 2 * 1) % 65536 + 2 * 2) % 65536 ≡ 0x8000 + 2 * L.address o.out = omega (arith, pc1, room, b) in q)
              o.frames_out o.holds_out (subst (λ y. L.counts o.out m y) (sym end) (o.counts_out m one));
          same_taken = refl;
          spot = o.spot_out;
          busy = o.busy_out;
        }

    goes_again : (n == 0) ≡ false → Moved X Q flow words L g x m s
    goes_again e =
        let some : n ≢ 0 = λ z. let no : true ≡ false = sym (eq-eqb n 0 z) ∙ e in cc in
        record {
          to = o.again;
          mid = passed;
          after = gone;
          first = instruction_cost g.board lowers_count + (instruction_cost g.board leaves + 0);
          last = instruction_cost g.board (goes_to (0x8000 + 2 * L.address o.again));
          instruction = goes_to (0x8000 + 2 * L.address o.again);
          path = Through lowers_count (instruction_cost g.board lowers_count) (instruction_cost g.board leaves + 0) s s1 here.working takes1 (Through leaves (instruction_cost g.board leaves) 0 s1 passed working1 (takes_on e) Arrived);
          working = record { awake = here.working.awake; closed = here.working.closed; has_code = here.working.has_code };
          takes = takes3;
          pays = (let p = o.pays_again m n counted some in let b = ap (λ y. L.budget o.again m y) is_n in let c = ap (λ y. L.budget x m y) was in omega (arith, p, b, c));
          here = here_same x o.again m s gone here (record { awake = here.working.awake; has_code = here.working.has_code; sram = refl; fram = refl; sp = refl }) refl
              o.frames_again o.holds_again (subst (λ y. L.counts o.again m y) (sym is_n) (o.counts_again m n counted some));
          same_taken = refl;
          spot = o.spot_again;
          busy = o.busy_again;
        }

    ends : Moved X Q flow words L g x m s
    ends = elim (cases_Bool (n == 0)) [ inl e ↦ goes_out e | inr e ↦ goes_again e ]

  pub turn_moves : (x : X) → EndsTurn x → MovesOn X Q flow words L g x
  turn_moves x o = record { moves = λ m s here. ends x o m s here }
