-- Ports, tests, steps, jumps, calls and returns.
use Rattle.std.proofs.Common.{◌≡◌, ℕ, ◌+◌, ◌-◌, ◌*◌, ◌%◌, ◌<◌, ◌≤◌, Bool, true, false, List, [], ◌∷◌, ◌++◌, Some, None, refl, sym, ap, ◌∙◌, subst, arith, pos}
use Rattle.std.specs.Prelude.{◌==◌, if◌then◌else◌, not, nat_le, nat_lt, ◌&&◌}
use Rattle.std.proofs.lemmas.Bool.Decides.{nat_tests}
use Rattle.board_table.specs.declared.board.Board.{Board}
use Rattle.msp430_isa.specs.declared.instr.Src.TheVariants.{Abs as FromAbs, AtPlus, Imm, Short}
use Rattle.msp430_isa.specs.declared.instr.Dst.TheVariants.{Abs as ToAbs}
use Rattle.msp430_isa.specs.declared.instr.TwoOp.TheVariants.{Mov as MOV, Add as ADD, Cmp as CMP}
use Rattle.msp430_isa.specs.declared.instr.OneOp.TheVariants.{Call as CALL}
use Rattle.msp430_isa.specs.declared.instr.Cond.TheVariants.{Jne as JNE, Jnc as JNC}
use Rattle.msp430_isa.specs.declared.instr.Instr.{Instr}
use Rattle.msp430_isa.specs.declared.instr.Instr.TheVariants.{Two, One, Jump}
use Rattle.msp430_isa.specs.Encoding.{length_of}
use Rattle.msp430_isa.specs.Profile.{in_profile, is_constant}
use Rattle.msp430_isa.specs.Results.{sum_flags}
use Rattle.msp430_machine.specs.declared.answer.Why.TheVariants.{Odd}
use Rattle.msp430_machine.specs.declared.addresses.Region.{Region}
use Rattle.msp430_machine.specs.declared.addresses.Region.TheVariants.{Fram}
use Rattle.msp430_machine.specs.Addresses.{region}
use Rattle.msp430_machine.specs.State.{Ended, State, set_at, with_register, input_word}
use Rattle.msp430_machine.specs.Memory.{word_at, read, after_read, written}
use Rattle.msp430_machine.specs.Access.{AsSource, AsDestination, ByOther, access_fault, fault_at, first_of}
use Rattle.msp430_machine.specs.Operands.{pushed_at}
use Rattle.msp430_machine.specs.Cost.{cost, read_cost_in, write_cost_in, instruction_cost}
use Rattle.msp430_machine.specs.Execution.{done, gone_to}
use Rattle.msp430_machine.specs.Steps.{begun}
use Rattle.power_core.proofs.Stands.{next_is}
use Rattle.flow_graph.specs.declared.graph.Operand.{Operand}
use Rattle.op_cost.specs.Templates.{Homes, by, constant, loads, stores, unless, go}
use Rattle.msp430_machine.proofs.Memories.{IsAt, is_word, word_allowed, read_at, after_read_at, word_at_same}
use Rattle.msp430_machine.proofs.Writes.{SameCore, Writes, written_leaves, written_writes, writes_from}
use Rattle.emit_templates.specs.Placed.{operand_at}
use Rattle.emit_templates.proofs.Work.{By}
use Rattle.emit_templates.proofs.Steps.{Steps, Now, Stand, now_at, after, one, now_begun, works, jumps}
use Rattle.emit_templates.proofs.Moves.{OperandFits, at_small, loaded, load_goes, store_goes, stop_goes, Stops, now_written}

abbrev takes : Instr
takes = by MOV (FromAbs 0x0F00) 15

abbrev puts : Instr
puts = stores 15 0x0F02

abbrev ends : Instr
ends = stores 15 0x0F04

abbrev steps_on : ℕ → Instr
steps_on d = Two ADD false (Short 1) (ToAbs d)

abbrev compares : ℕ → ℕ → Instr
compares c d = Two CMP false (constant c) (ToAbs d)

abbrev by_choice : Bool → ℕ → ℕ → Instr
by_choice x c d = Two CMP false (if x then Short c else Imm c) (ToAbs d)

abbrev calls : ℕ → Instr
calls target = One CALL false (Imm target)

abbrev returns : Instr
returns = by MOV (AtPlus 1) 0

below_from : (n i : ℕ) → n < 65536 → not (nat_le 65536 (i + (65535 - n) + 1)) ≡ true → i < n
below_from n i small e = grind (arith, nat_tests)

above_from : (n i : ℕ) → n < 65536 → not (nat_le 65536 (i + (65535 - n) + 1)) ≡ false → n ≤ i
above_from n i small e = grind (arith, nat_tests)

even_test : (a : ℕ) → a % 2 ≡ 0 → (a % 2 == 1) ≡ false
even_test a h = grind (arith, nat_tests)

module _ (b : Board) (input : List ℕ) (s0 : State) (p0 : List ℕ) (W : Bool → ℕ → State → List ℕ → Type 0) (steps : Steps b input s0 p0 W) where
  -- ---- Ports

  pub input_goes : (d need taken k k1 : ℕ) (g : Region) (rest : List Instr) (s : State) → IsAt d g → k + 4 ≡ k1 → Stand s0.code k (takes ∷ stores 15 d ∷ rest) → Now s0 taken k s
      → ((s' : State) → Now (written false s0 d (input_word input taken)) (taken + 1) k1 s' → W true need s' p0)
      → W false (instruction_cost b takes + (instruction_cost b (stores 15 d) + need)) s p0
  input_goes d need taken k k1 g rest s at to stands now on =
      let n = now_begun b input s0 p0 W steps taken k (cost b s takes) takes s now stands.1 in
      one b input s0 p0 W steps false (instruction_cost b (stores 15 d) + need) taken k takes (stores 15 d ∷ rest) s now stands refl refl refl refl
      (store_goes b input s0 p0 W steps 15 d (input_word input taken) need (taken + 1) (k + 2) k1 g rest (after b input takes s) at (is_word d (at_small d g at)) (λ c. ap (λ t. input_word input t) now.has_taken) (omega (arith, to))
      (record {
        awake = n.awake;
        pc = n.pc;
        has_code = n.has_code;
        has_sram = n.has_sram;
        has_fram = n.has_fram;
        has_taken = ap (λ t. t + 1) n.has_taken;
        kept = λ r low high. (let e : (r == 15) ≡ false = grind (arith, nat_tests) in ap (λ c. if c then input_word input s.taken else (begun (cost b s takes) takes s).reg r) e ∙ n.kept r low high);
      }) stands.2 on)

  pub output_goes : (homes : Homes) (a : Operand) (need taken k k1 : ℕ) (rest : List Instr) (s : State) → OperandFits homes a → k + length_of (loads homes 15 a) + 2 ≡ k1 → Stand s0.code k (loads homes 15 a ∷ puts ∷ rest) → Now s0 taken k s
      → ((s' : State) → Now s0 taken k1 s' → W true need s' (p0 ++ operand_at homes s0 a ∷ []))
      → W false (instruction_cost b (loads homes 15 a) + (instruction_cost b puts + need)) s p0
  output_goes homes a need taken k k1 rest s fit to stands now on =
      load_goes b input s0 p0 W steps homes false false a (instruction_cost b puts + need) taken k (k + length_of (loads homes 15 a)) (puts ∷ rest) s fit refl now stands
      (λ now1 stands1. steps.step true need taken (k + length_of (loads homes 15 a)) puts s1 now1 (next_is s0.code s1 (k + length_of (loads homes 15 a)) puts now1.has_code now1.pc stands1.1 refl stands1.0 refl)
      (on (after b input puts s1) (now_at s0 taken (k + length_of (loads homes 15 a) + 2) k1 (after b input puts s1) to (now_begun b input s0 p0 W steps taken (k + length_of (loads homes 15 a)) (cost b s1 puts) puts s1 now1 stands1.1))))
    where
      s1 : State
      s1 = loaded b input s0 p0 W steps homes false a s

  pub finish_goes : (homes : Homes) (a : Operand) (need taken k : ℕ) (rest : List Instr) (s : State) → OperandFits homes a → Stand s0.code k (loads homes 15 a ∷ ends ∷ rest) → Now s0 taken k s
      → ((s' : State) → Stops s0 taken (Ended (operand_at homes s0 a)) s' → W true 0 s' p0)
      → W false (instruction_cost b (loads homes 15 a) + (instruction_cost b ends + need)) s p0
  finish_goes homes a need taken k rest s fit stands now on =
      load_goes b input s0 p0 W steps homes false false a (instruction_cost b ends + need) taken k (k + length_of (loads homes 15 a)) (ends ∷ rest) s fit refl now stands
      (λ now1 stands1. stop_goes b input s0 p0 W steps ends (Ended (operand_at homes s0 a)) true need taken (k + length_of (loads homes 15 a)) rest _ refl refl refl refl refl now1 stands1 on)

  -- ---- Jumps to a target, of which the place is known

  pub go_goes : (f : Bool) (target need taken k kt : ℕ) (rest : List Instr) (s : State) → target ≡ 0x8000 + 2 * kt → target < 65536 → Stand s0.code k (go target ∷ rest) → Now s0 taken k s
      → ((s' : State) → Now s0 taken kt s' → W true need s' p0)
      → W f (instruction_cost b (go target) + need) s p0
  go_goes f target need taken k kt rest s is low stands now on =
      let n = now_begun b input s0 p0 W steps taken k (cost b s (go target)) (go target) s now stands.1 in
      one b input s0 p0 W steps f need taken k (go target) rest s now stands (ap (λ c. c && true) (is_word target low)) refl refl refl
      (on (after b input (go target) s) (record {
        awake = n.awake;
        pc = is;
        has_code = n.has_code;
        has_sram = n.has_sram;
        has_fram = n.has_fram;
        has_taken = n.has_taken;
        kept = λ r low' high. (let e : (r == 0) ≡ false = grind (arith, nat_tests) in ap (λ c. if c then target else (begun (cost b s (go target)) (go target) s).reg r) e ∙ n.kept r low' high);
      }))

  pub test_goes : (homes : Homes) (a : Operand) (target need taken k k1 kt : ℕ) (rest : List Instr) (s : State) → OperandFits homes a → operand_at homes s0 a < 65536 → target ≡ 0x8000 + 2 * kt → target < 65536 → k + length_of (loads homes 15 a) + 4 ≡ k1
      → Stand s0.code k (loads homes 15 a ∷ by CMP (Short 0) 15 ∷ (unless JNE target ++ rest)) → Now s0 taken k s
      → (0 < operand_at homes s0 a → (s' : State) → Now s0 taken k1 s' → W true need s' p0)
      → (operand_at homes s0 a ≡ 0 → (s' : State) → Now s0 taken kt s' → W true need s' p0)
      → W false (instruction_cost b (loads homes 15 a) + (instruction_cost b (by CMP (Short 0) 15) + (instruction_cost b (Jump JNE (pos 2)) + (instruction_cost b (go target) + need)))) s p0
  test_goes homes a target need taken k k1 kt rest s fit low is low' to stands now pass fail =
      load_goes b input s0 p0 W steps homes false false a (instruction_cost b (by CMP (Short 0) 15) + (instruction_cost b (Jump JNE (pos 2)) + (instruction_cost b (go target) + need))) taken k kl (by CMP (Short 0) 15 ∷ (unless JNE target ++ rest)) s fit refl now stands
      (λ now1 stands1. works b input s0 p0 W steps (By CMP (Short 0) 15 ∷ []) (instruction_cost b (Jump JNE (pos 2)) + (instruction_cost b (go target) + need)) taken kl (kl + 1) (unless JNE target ++ rest) _ (refl, tt) refl now1 stands1
      (λ now2 stands2. jumps b input s0 p0 W steps JNE (pos 2) true (instruction_cost b (go target) + need) taken (kl + 1) (kl + 2) (kl + 4) (go target ∷ rest) _ (omega arith) now2 stands2 refl (omega (arith, stands2.1))
      (λ took now3. steps.less true need (instruction_cost b (go target) + need) _ p0 (omega arith) (pass (some took) _ (now_at s0 taken _ k1 _ to now3)))
      (λ fell now3 stands3. go_goes true target need taken (kl + 2) kt rest _ is low' stands3 now3 (fail (none fell)))))
    where
      kl : ℕ
      kl = k + length_of (loads homes 15 a)

      v : ℕ
      v = operand_at homes s0 a

      some : not ((v + 65535 + 1) % 65536 == 0) ≡ true → 0 < v
      some h = grind (arith, nat_tests)

      none : not ((v + 65535 + 1) % 65536 == 0) ≡ false → v ≡ 0
      none h = grind (arith, nat_tests)

  -- ---- A variable and a constant bound

  below_does : (c d : ℕ) (x : State) → done input (compares c d) x ≡ record x { flags = sum_flags false (word_at x d) (65535 - c) true }
  below_does c d x = elim (is_constant c) as (λ z. done input (by_choice z c d) x ≡ record x { flags = sum_flags false (word_at x d) (65535 - c) true }) [ true ↦ refl | false ↦ refl ]

  below_fits : (c d : ℕ) → c < 65536 → d < 65536 → in_profile (compares c d) ≡ true
  below_fits c d low low' = elim (is_constant c) as (λ z. is_constant c ≡ z → in_profile (by_choice z c d) ≡ true) [
    | true ↦ λ e. ap (λ z. z && true && true && true && true && true && (true && nat_lt d 65536)) e ∙ is_word d low'
    | false ↦ λ e. ap (λ z. z && nat_lt d 65536) (is_word c low) ∙ is_word d low'
  ] refl

  below_allowed : (c d : ℕ) (g : Region) (x : State) → IsAt d g → access_fault x (compares c d) ≡ None
  below_allowed c d g x at =
      (elim (is_constant c) as (λ z. access_fault x (by_choice z c d) ≡ fault_at AsDestination false d) [ true ↦ refl | false ↦ refl ]) ∙ word_allowed AsDestination d g at

  pub below_goes : (c d target need taken k k1 kt : ℕ) (g : Region) (rest : List Instr) (s : State) → IsAt d g → c < 65536 → word_at s0 d < 65536 → target ≡ 0x8000 + 2 * kt → target < 65536 → k + length_of (compares c d) + 3 ≡ k1
      → Stand s0.code k (compares c d ∷ (unless JNC target ++ rest)) → Now s0 taken k s
      → (word_at s0 d < c → (s' : State) → Now s0 taken k1 s' → W true need s' p0)
      → (c ≤ word_at s0 d → (s' : State) → Now s0 taken kt s' → W true need s' p0)
      → W false (instruction_cost b (compares c d) + (instruction_cost b (Jump JNC (pos 2)) + (instruction_cost b (go target) + need))) s p0
  below_goes c d target need taken k k1 kt g rest s at low_c low is low' to stands now pass fail =
      one b input s0 p0 W steps false (instruction_cost b (Jump JNC (pos 2)) + (instruction_cost b (go target) + need)) taken k (compares c d) (unless JNC target ++ rest) s now stands (below_fits c d low_c (at_small d g at)) (below_allowed c d g s at)
      (elim (is_constant c) as (λ z. cost b s (by_choice z c d) ≡ instruction_cost b (by_choice z c d)) [ true ↦ refl | false ↦ refl ]) refl
      (subst (λ z. W true (instruction_cost b (Jump JNC (pos 2)) + (instruction_cost b (go target) + need)) z p0) (sym (below_does c d x))
      (jumps b input s0 p0 W steps JNC (pos 2) true (instruction_cost b (go target) + need) taken kl (kl + 1) (kl + 3) (go target ∷ rest) y refl ny stands.2 refl (omega (arith, stands.2.1))
      (λ took now3. steps.less true need (instruction_cost b (go target) + need) _ p0 (omega arith) (pass (below took) _ (now_at s0 taken _ k1 _ to now3)))
      (λ fell now3 stands3. go_goes true target need taken (kl + 1) kt rest _ is low' stands3 now3 (fail (above fell)))))
    where
      kl : ℕ
      kl = k + length_of (compares c d)

      x : State
      x = begun (cost b s (compares c d)) (compares c d) s

      y : State
      y = record x { flags = sum_flags false (word_at x d) (65535 - c) true }

      nx : Now s0 taken kl x
      nx = now_begun b input s0 p0 W steps taken k (cost b s (compares c d)) (compares c d) s now stands.1

      ny : Now s0 taken kl y
      ny = record { awake = nx.awake; pc = nx.pc; has_code = nx.has_code; has_sram = nx.has_sram; has_fram = nx.has_fram; has_taken = nx.has_taken; kept = nx.kept }

      same : word_at x d ≡ word_at s0 d
      same = word_at_same s0 x d g at.inside nx.has_sram nx.has_fram

      below : not (nat_le 65536 (word_at x d + (65535 - c) + 1)) ≡ true → word_at s0 d < c
      below e = below_from c (word_at s0 d) low_c (ap (λ v. not (nat_le 65536 (v + (65535 - c) + 1))) (sym same) ∙ e)

      above : not (nat_le 65536 (word_at x d + (65535 - c) + 1)) ≡ false → c ≤ word_at s0 d
      above e = above_from c (word_at s0 d) low_c (ap (λ v. not (nat_le 65536 (v + (65535 - c) + 1))) (sym same) ∙ e)

  pub step_goes : (d need taken k k1 : ℕ) (g : Region) (rest : List Instr) (s : State) → IsAt d g → k + 2 ≡ k1 → Stand s0.code k (steps_on d ∷ rest) → Now s0 taken k s
      → ((s' : State) → Now (written false s0 d ((word_at s0 d + 1) % 65536)) taken k1 s' → W true need s' p0)
      → W false (instruction_cost b (steps_on d) + need) s p0
  step_goes d need taken k k1 g rest s at to stands now on =
      one b input s0 p0 W steps false need taken k (steps_on d) rest s now stands (is_word d (at_small d g at))
      (ap (λ f. first_of f (fault_at ByOther false d)) (word_allowed AsDestination d g at) ∙ word_allowed ByOther d g at) refl refl
      (subst (λ v. W true need (written false y d v) p0) (sym same)
      (on _ (now_at (written false s0 d ((word_at s0 d + 1) % 65536)) taken (k + 2) k1 _ to (now_written b input s0 p0 W steps taken (k + 2) ((word_at s0 d + 1) % 65536) d g y at ny))))
    where
      x : State
      x = begun (cost b s (steps_on d)) (steps_on d) s

      y : State
      y = record x { flags = sum_flags false (word_at x d) 1 false }

      nx : Now s0 taken (k + 2) x
      nx = now_begun b input s0 p0 W steps taken k (cost b s (steps_on d)) (steps_on d) s now stands.1

      ny : Now s0 taken (k + 2) y
      ny = record { awake = nx.awake; pc = nx.pc; has_code = nx.has_code; has_sram = nx.has_sram; has_fram = nx.has_fram; has_taken = nx.has_taken; kept = nx.kept }

      same : (word_at x d + 1 + 0) % 65536 ≡ (word_at s0 d + 1) % 65536
      same = let e : word_at x d + 1 + 0 ≡ word_at s0 d + 1 = omega (arith, word_at_same s0 x d g at.inside nx.has_sram nx.has_fram) in ap (λ v. v % 65536) e

  -- ---- Calls, where SP stands in the call stack

  -- the word pushed is the address behind the call
  pub call_goes : (target sp need taken k kt : ℕ) (rest : List Instr) (s : State) → target ≡ 0x8000 + 2 * kt → target < 65536 → s0.reg 1 ≡ sp → 2 ≤ sp → sp < 65536 → IsAt (sp - 2) Fram
      → Stand s0.code k (calls target ∷ rest) → Now s0 taken k s
      → ((s' : State) → Now (record (written false s0 (sp - 2) (0x8000 + 2 * (k + 2))) { reg = set_at s0.reg 1 (sp - 2) }) taken kt s' → W true need s' p0)
      → W false (instruction_cost b (calls target) + need) s p0
  call_goes target sp need taken k kt rest s is low stack some high at stands now on =
      one b input s0 p0 W steps false need taken k (calls target) rest s now stands (is_word target low)
      (ap (λ a. fault_at ByOther false a) lower ∙ word_allowed ByOther (sp - 2) Fram at) costs refl
      (subst (λ v. W true need v p0) (sym same) (on z (record {
        awake = e.phase ∙ nx.awake;
        pc = is;
        has_code = e.has_code ∙ nx.has_code ∙ sym e0.has_code;
        has_sram = w.sram;
        has_fram = w.fram;
        has_taken = e.has_taken ∙ nx.has_taken;
        kept = λ r low_r high_r.
            (let n : (r == 0) ≡ false = grind (arith, nat_tests) in
            ap (λ c. if c then target else (written false y (sp - 2) back).reg r) n ∙ ap (λ f. f r) e.reg ∙ ap (λ v. if r == 1 then sp - 2 else v) (nx.kept r low_r high_r));
      })))
    where
      x : State
      x = begun (cost b s (calls target)) (calls target) s

      nx : Now s0 taken (k + 2) x
      nx = now_begun b input s0 p0 W steps taken k (cost b s (calls target)) (calls target) s now stands.1

      lower : pushed_at s ≡ sp - 2
      lower = let e : s.reg 1 ≡ sp = now.kept 1 (omega arith) (omega arith) ∙ stack in omega (arith, e, some, high)

      back : ℕ
      back = 0x8000 + 2 * (k + 2)

      y : State
      y = record x { reg = set_at x.reg 1 (sp - 2) }

      z : State
      z = gone_to (written false y (sp - 2) back) target

      e : SameCore y (written false y (sp - 2) back)
      e = written_leaves false y (sp - 2) back Fram at.inside

      e0 : SameCore s0 (written false s0 (sp - 2) back)
      e0 = written_leaves false s0 (sp - 2) back Fram at.inside

      w : Writes s0 (sp - 2) back (written false y (sp - 2) back)
      w = writes_from s0 y (sp - 2) back (written false y (sp - 2) back) Fram at.inside (record { has_sram = nx.has_sram; has_fram = nx.has_fram; has_code = nx.has_code }) (written_writes y (sp - 2) back Fram at.inside)

      same : after b input (calls target) s ≡ z
      same = ap (λ a. gone_to (written false (record x { reg = set_at x.reg 1 a }) a (x.reg 0)) target) lower ∙ ap (λ v. gone_to (written false y (sp - 2) v) target) nx.pc

      costs : cost b s (calls target) ≡ instruction_cost b (calls target)
      costs = ap (λ a. b.core.call + b.access.fetch * 2 + 0 + write_cost_in b (region a)) lower ∙ ap (λ g. b.core.call + b.access.fetch * 2 + 0 + write_cost_in b g) at.inside.lies

  -- the word at SP is the address gone to
  pub return_goes : (sp need taken k kt : ℕ) (rest : List Instr) (s : State) → s0.reg 1 ≡ sp → sp + 2 < 65536 → IsAt sp Fram → word_at s0 sp ≡ 0x8000 + 2 * kt
      → Stand s0.code k (returns ∷ rest) → Now s0 taken k s
      → ((s' : State) → Now (record s0 { reg = set_at s0.reg 1 (sp + 2) }) taken kt s' → W true need s' p0)
      → W false (instruction_cost b returns + need) s p0
  return_goes sp need taken k kt rest s stack high at holds stands now on =
      one b input s0 p0 W steps false need taken k returns rest s now stands refl allowed costs refl
      (subst (λ v. W true need v p0) (sym same) (on z (record {
        awake = nx.awake;
        pc = holds;
        has_code = nx.has_code;
        has_sram = nx.has_sram;
        has_fram = nx.has_fram;
        has_taken = nx.has_taken;
        kept = λ r low_r high_r.
            (let n : (r == 0) ≡ false = grind (arith, nat_tests) in
            ap (λ c. if c then word_at s0 sp else set_at x.reg 1 (sp + 2) r) n ∙ ap (λ v. if r == 1 then sp + 2 else v) (nx.kept r low_r high_r));
      })))
    where
      x : State
      x = begun (cost b s returns) returns s

      nx : Now s0 taken (k + 1) x
      nx = now_begun b input s0 p0 W steps taken k (cost b s returns) returns s now stands.1

      here : s.reg 1 ≡ sp
      here = now.kept 1 (omega arith) (omega arith) ∙ stack

      z : State
      z = record x { reg = set_at (set_at x.reg 1 (sp + 2)) 0 (word_at s0 sp) }

      is_even_sp : (sp % 2 == 1) ≡ false
      is_even_sp = even_test sp at.even

      allowed : access_fault s returns ≡ None
      allowed =
          ap (λ a. first_of (if true && (a % 2 == 1) then Some Odd else fault_at AsSource false a) None) here
          ∙ ap (λ c. first_of (if true && c then Some Odd else fault_at AsSource false sp) None) is_even_sp
          ∙ ap (λ f. first_of f None) (word_allowed AsSource sp Fram at)

      costs : cost b s returns ≡ instruction_cost b returns
      costs = ap (λ a. b.core.move_ + b.access.fetch * 1 + read_cost_in b (region a) + 0) here ∙ ap (λ g. b.core.move_ + b.access.fetch * 1 + read_cost_in b g + 0) at.inside.lies

      popped : ℕ → State → ℕ → State
      popped a m v = with_register (with_register m 1 ((a + 2) % 65536)) 0 v

      two_more : (sp + 2) % 65536 ≡ sp + 2
      two_more = omega (arith, high)

      same : after b input returns s ≡ z
      same =
          ap (λ a. with_register (with_register (after_read x a) 1 (((after_read x a).reg 1 + 2) % 65536)) 0 (read input false x a)) here
          ∙ ap (λ m. with_register (with_register m 1 ((m.reg 1 + 2) % 65536)) 0 (read input false x sp)) (after_read_at x sp Fram at.inside)
          ∙ ap (λ v. with_register (with_register x 1 ((s.reg 1 + 2) % 65536)) 0 v) (read_at input false x sp Fram at.inside ∙ word_at_same s0 x sp Fram at.inside nx.has_sram nx.has_fram)
          ∙ ap (λ a. with_register (with_register x 1 ((a + 2) % 65536)) 0 (word_at s0 sp)) here
          ∙ ap (λ a. with_register (with_register x 1 a) 0 (word_at s0 sp)) two_more
