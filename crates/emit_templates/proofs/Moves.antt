-- Loads, stores, traps and ports: the instructions of a template at its ends.
use Rattle.std.proofs.Common.{◌≡◌, ℕ, ◌+◌, ◌<◌, Bool, true, false, List, ◌∷◌, None, refl, sym, ap, ◌∙◌, subst, arith}
use Rattle.std.specs.Prelude.{◌==◌, if◌then◌else◌, ◌&&◌}
use Rattle.std.proofs.lemmas.Bool.Decides.{nat_tests}
use Rattle.board_table.specs.declared.board.Board.{Board}
use Rattle.msp430_isa.specs.declared.instr.Src.TheVariants.{Imm, Short}
use Rattle.msp430_isa.specs.declared.instr.Dst.TheVariants.{Abs as ToAbs}
use Rattle.msp430_isa.specs.declared.instr.TwoOp.TheVariants.{Mov as MOV}
use Rattle.msp430_isa.specs.declared.instr.Instr.{Instr}
use Rattle.msp430_isa.specs.declared.instr.Instr.TheVariants.{Two}
use Rattle.msp430_isa.specs.Encoding.{length_of}
use Rattle.msp430_isa.specs.Profile.{in_profile, is_constant}
use Rattle.msp430_machine.specs.declared.addresses.Region.{Region}
use Rattle.msp430_machine.specs.State.{Phase, Trapped, State, register, with_register}
use Rattle.msp430_machine.specs.Memory.{read, written}
use Rattle.msp430_machine.specs.Access.{AsSource, ByMove, access_fault, first_of}
use Rattle.msp430_machine.specs.Cost.{cost, instruction_cost}
use Rattle.msp430_machine.specs.Execution.{done, put_by}
use Rattle.msp430_machine.specs.Steps.{begun}
use Rattle.flow_graph.specs.declared.graph.Operand.{Operand}
use Rattle.flow_graph.specs.declared.graph.Operand.TheVariants.{Const, Object}
use Rattle.op_cost.specs.Templates.{Homes, address, loads, stores, by, trap}
use Rattle.emit_templates.specs.Placed.{operand_at}
pub use Rattle.emit_templates.specs.Layer.{Stops}
use Rattle.msp430_machine.proofs.Memories.{IsAt, is_word, word_allowed, read_at, after_read_at, puts_none_at, word_at_same}
use Rattle.msp430_machine.proofs.Writes.{written_leaves, written_writes, writes_from}
use Rattle.emit_templates.proofs.Steps.{Steps, Now, Stand, stand_at, after, one, now_begun}

-- ---- Operands

pub at_small : (a : ℕ) (g : Region) → IsAt a g → a < 65536
at_small a g at = omega (arith, at.inside.high)

abbrev pub OperandFits : Homes → Operand → Type 0
OperandFits homes (Const v) = v < 65536
OperandFits homes (Object o) = (g : Region) × IsAt (address homes o) g

-- R15 or R14, which operands are loaded to
abbrev pub operand_register : Bool → ℕ
operand_register false = 15
operand_register true = 14

abbrev by_source : Bool → ℕ → ℕ → Instr
by_source c v r = by MOV (if c then Short v else Imm v) r

pub load_fits : (homes : Homes) (second : Bool) (a : Operand) → OperandFits homes a → in_profile (loads homes (operand_register second) a) ≡ true
load_fits homes false (Const v) low =
    elim (is_constant v) as (λ c. is_constant v ≡ c → in_profile (by_source c v 15) ≡ true) [
      | true ↦ λ e. ap (λ c. c && true && true && true && true && true && (true && true)) e
      | false ↦ λ e. ap (λ c. c && true) (is_word v low)
    ] refl
load_fits homes true (Const v) low =
    elim (is_constant v) as (λ c. is_constant v ≡ c → in_profile (by_source c v 14) ≡ true) [
      | true ↦ λ e. ap (λ c. c && true && true && true && true && true && (true && true)) e
      | false ↦ λ e. ap (λ c. c && true) (is_word v low)
    ] refl
load_fits homes false (Object o) run = let x = run in ap (λ c. c && true) (is_word (address homes o) (at_small (address homes o) x.0 x.1))
load_fits homes true (Object o) run = let x = run in ap (λ c. c && true) (is_word (address homes o) (at_small (address homes o) x.0 x.1))

load_allowed : (homes : Homes) (r : ℕ) (a : Operand) (s : State) → OperandFits homes a → access_fault s (loads homes r a) ≡ None
load_allowed homes r (Const v) s low = elim (is_constant v) as (λ c. access_fault s (by_source c v r) ≡ None) [ true ↦ refl | false ↦ refl ]
load_allowed homes r (Object o) s run = let x = run in ap (λ f. first_of f None) (word_allowed AsSource (address homes o) x.0 x.1)

load_costs : (homes : Homes) (b : Board) (r : ℕ) (a : Operand) (s : State) → cost b s (loads homes r a) ≡ instruction_cost b (loads homes r a)
load_costs homes b r (Const v) s = elim (is_constant v) as (λ c. cost b s (by_source c v r) ≡ instruction_cost b (by_source c v r)) [ true ↦ refl | false ↦ refl ]
load_costs homes b r (Object o) s = refl

load_puts : (homes : Homes) (input : List ℕ) (r : ℕ) (a : Operand) (s : State) → put_by input (loads homes r a) s ≡ None
load_puts homes input r (Const v) s = elim (is_constant v) as (λ c. put_by input (by_source c v r) s ≡ None) [ true ↦ refl | false ↦ refl ]
load_puts homes input r (Object o) s = refl

load_does : (homes : Homes) (input : List ℕ) (r : ℕ) (a : Operand) (s : State) → OperandFits homes a → done input (loads homes r a) s ≡ with_register s r (operand_at homes s a)
load_does homes input r (Const v) s low = elim (is_constant v) as (λ c. done input (by_source c v r) s ≡ with_register s r v) [ true ↦ refl | false ↦ refl ]
load_does homes input r (Object o) s run =
    let x = run in
    ap (λ y. with_register y r (read input false s (address homes o))) (after_read_at s (address homes o) x.0 x.1.inside)
    ∙ ap (λ v. with_register s r v) (read_at input false s (address homes o) x.0 x.1.inside)

word_same : (homes : Homes) (s s' : State) (a : Operand) → OperandFits homes a → s'.sram ≡ s.sram → s'.fram ≡ s.fram → operand_at homes s' a ≡ operand_at homes s a
word_same homes s s' (Const v) fits sram fram = refl
word_same homes s s' (Object o) run sram fram = let x = run in word_at_same s s' (address homes o) x.0 x.1.inside sram fram

-- ---- Where the machine stops, or goes on with memories of its own

module _ (b : Board) (input : List ℕ) (s0 : State) (p0 : List ℕ) (W : Bool → ℕ → State → List ℕ → Type 0) (steps : Steps b input s0 p0 W) where
  pub now_set : (second : Bool) (taken k v : ℕ) (s : State) → Now s0 taken k s → Now s0 taken k (with_register s (operand_register second) v)
  now_set false taken k v s now = record {
    awake = now.awake;
    pc = now.pc;
    has_code = now.has_code;
    has_sram = now.has_sram;
    has_fram = now.has_fram;
    has_taken = now.has_taken;
    kept = λ r low high. (let e : (r == 15) ≡ false = grind (arith, nat_tests) in ap (λ c. if c then v else s.reg r) e ∙ now.kept r low high);
  }
  now_set true taken k v s now = record {
    awake = now.awake;
    pc = now.pc;
    has_code = now.has_code;
    has_sram = now.has_sram;
    has_fram = now.has_fram;
    has_taken = now.has_taken;
    kept = λ r low high. (let e : (r == 14) ≡ false = grind (arith, nat_tests) in ap (λ c. if c then v else s.reg r) e ∙ now.kept r low high);
  }

  abbrev pub loaded : Homes → Bool → Operand → State → State
  loaded homes second a s =
      let i = loads homes (operand_register second) a in
      with_register (begun (cost b s i) i s) (operand_register second) (operand_at homes s0 a)

  -- an operand is loaded to R15 or R14
  pub load_goes : (homes : Homes) (second f : Bool) (a : Operand) (need taken k k1 : ℕ) (rest : List Instr) (s : State) → OperandFits homes a → k + length_of (loads homes (operand_register second) a) ≡ k1
      → Now s0 taken k s → Stand s0.code k (loads homes (operand_register second) a ∷ rest)
      → (Now s0 taken k1 (loaded homes second a s) → Stand s0.code k1 rest → W true need (loaded homes second a s) p0)
      → W f (instruction_cost b (loads homes (operand_register second) a) + need) s p0
  load_goes homes second f a need taken k k1 rest s fits to now stands on =
      one b input s0 p0 W steps f need taken k i rest s now stands (load_fits homes second a fits) (load_allowed homes (operand_register second) a s fits) (load_costs homes b (operand_register second) a s)
      (load_puts homes input (operand_register second) a x)
      (subst (λ y. W true need y p0) (sym same)
      (on (subst (λ n. Now s0 taken n (loaded homes second a s)) to (now_set second taken (k + length_of i) (operand_at homes s0 a) x (now_begun b input s0 p0 W steps taken k (cost b s i) i s now stands.1))) (stand_at s0.code (k + length_of i) k1 rest to stands.2)))
    where
      i : Instr
      i = loads homes (operand_register second) a

      x : State
      x = begun (cost b s i) i s

      same : after b input i s ≡ loaded homes second a s
      same = load_does homes input (operand_register second) a x fits ∙ ap (λ v. with_register x (operand_register second) v) (word_same homes s0 x a fits now.has_sram now.has_fram)

  pub now_written : (taken k v a : ℕ) (g : Region) (x : State) → IsAt a g → Now s0 taken k x → Now (written false s0 a v) taken k (written false x a v)
  now_written taken k v a g x at now =
      let e = written_leaves false x a v g at.inside in
      let e0 = written_leaves false s0 a v g at.inside in
      let w = writes_from s0 x a v (written false x a v) g at.inside (record { has_sram = now.has_sram; has_fram = now.has_fram; has_code = now.has_code }) (written_writes x a v g at.inside) in record {
        awake = e.phase ∙ now.awake;
        pc = ap (λ r. r 0) e.reg ∙ now.pc;
        has_code = e.has_code ∙ now.has_code ∙ sym e0.has_code;
        has_sram = w.sram;
        has_fram = w.fram;
        has_taken = e.has_taken ∙ now.has_taken;
        kept = λ r low high. ap (λ f. f r) e.reg ∙ now.kept r low high ∙ sym (ap (λ f. f r) e0.reg);
      }

  -- a register is stored
  pub store_goes : (r a v need taken k k1 : ℕ) (g : Region) (rest : List Instr) (s : State) → IsAt a g → in_profile (stores r a) ≡ true → ((c : ℕ) → register (begun c (stores r a) s) r ≡ v) → k + 2 ≡ k1
      → Now s0 taken k s → Stand s0.code k (stores r a ∷ rest)
      → ((s' : State) → Now (written false s0 a v) taken k1 s' → W true need s' p0)
      → W true (instruction_cost b (stores r a) + need) s p0
  store_goes r a v need taken k k1 g rest s at profile holds to now stands on =
      let i : Instr = stores r a in
      let x : State = begun (cost b s i) i s in
      one b input s0 p0 W steps true need taken k i rest s now stands profile (word_allowed ByMove a g at) refl (puts_none_at a (register x r) g at.inside)
      (subst (λ v'. W true need (written false x a v') p0) (sym (holds (cost b s i)))
      (on (written false x a v) (subst (λ n. Now (written false s0 a v) taken n (written false x a v)) to
      (now_written taken (k + 2) v a g x at (now_begun b input s0 p0 W steps taken k (cost b s i) i s now stands.1)))))

  -- a trap, and the end
  pub stop_goes : (i : Instr) (p : Phase) (f : Bool) (need taken k : ℕ) (rest : List Instr) (s : State) → in_profile i ≡ true → access_fault s i ≡ None → cost b s i ≡ instruction_cost b i
      → put_by input i (begun (cost b s i) i s) ≡ None → done input i (begun (cost b s i) i s) ≡ record (begun (cost b s i) i s) { phase = p }
      → Now s0 taken k s → Stand s0.code k (i ∷ rest)
      → ((s' : State) → Stops s0 taken p s' → W true 0 s' p0)
      → W f (instruction_cost b i + need) s p0
  stop_goes i p f need taken k rest s profile allowed costs puts does now stands on =
      let x : State = begun (cost b s i) i s in
      let n = now_begun b input s0 p0 W steps taken k (cost b s i) i s now stands.1 in
      one b input s0 p0 W steps f need taken k i rest s now stands profile allowed costs puts
      (subst (λ y. W true need y p0) (sym does) (steps.less true 0 need (record x { phase = p }) p0 (omega arith)
      (on (record x { phase = p }) (record { phase = refl; has_code = n.has_code; has_sram = n.has_sram; has_fram = n.has_fram; has_taken = n.has_taken; kept = n.kept }))))

  pub trap_goes : (n need taken k : ℕ) (rest : List Instr) (s : State) → n < 65536 → Now s0 taken k s → Stand s0.code k (trap n ∷ rest)
      → ((s' : State) → Stops s0 taken (Trapped n) s' → W true 0 s' p0)
      → W true (instruction_cost b (trap n) + need) s p0
  trap_goes n need taken k rest s low now stands on =
      stop_goes (trap n) (Trapped n) true need taken k rest s fits allowed costs puts does now stands on
    where
      by_choice : Bool → Instr
      by_choice c = Two MOV false (if c then Short n else Imm n) (ToAbs 0x0F06)

      x : State
      x = begun (cost b s (trap n)) (trap n) s

      fits : in_profile (trap n) ≡ true
      fits = elim (is_constant n) as (λ c. is_constant n ≡ c → in_profile (by_choice c) ≡ true) [
        | true ↦ λ e. ap (λ c. c && true && true && true && true && true && (true && true)) e
        | false ↦ λ e. ap (λ c. c && true) (is_word n low)
      ] refl

      allowed : access_fault s (trap n) ≡ None
      allowed = elim (is_constant n) as (λ c. access_fault s (by_choice c) ≡ None) [ true ↦ refl | false ↦ refl ]

      costs : cost b s (trap n) ≡ instruction_cost b (trap n)
      costs = elim (is_constant n) as (λ c. cost b s (by_choice c) ≡ instruction_cost b (by_choice c)) [ true ↦ refl | false ↦ refl ]

      puts : put_by input (trap n) x ≡ None
      puts = elim (is_constant n) as (λ c. put_by input (by_choice c) x ≡ None) [ true ↦ refl | false ↦ refl ]

      does : done input (trap n) x ≡ record x { phase = Trapped n }
      does = elim (is_constant n) as (λ c. done input (by_choice c) x ≡ record x { phase = Trapped n }) [ true ↦ refl | false ↦ refl ]
