-- Loads and stores of an element of an array, whose index is tested.
use Rattle.std.proofs.Common.{◌≡◌, ℕ, ◌+◌, ◌-◌, ◌*◌, ◌%◌, ◌<◌, ◌≤◌, Bool, true, false, List, [], ◌∷◌, ◌++◌, None, refl, sym, ap, ◌∙◌, subst, arith, pos}
use Rattle.std.specs.Prelude.{if◌then◌else◌, not, nat_le, ◌&&◌}
use Rattle.std.proofs.lemmas.Bool.Decides.{nat_tests}
use Rattle.board_table.specs.declared.board.Board.{Board}
use Rattle.msp430_isa.specs.declared.instr.Src.TheVariants.{Reg as FromReg, Index as FromIndex, Imm, Short}
use Rattle.msp430_isa.specs.declared.instr.Dst.TheVariants.{Index as ToIndex}
use Rattle.msp430_isa.specs.declared.instr.TwoOp.TheVariants.{Mov as MOV, Add as ADD, Cmp as CMP}
use Rattle.msp430_isa.specs.declared.instr.Cond.TheVariants.{Jnc as JNC}
use Rattle.msp430_isa.specs.declared.instr.Instr.{Instr}
use Rattle.msp430_isa.specs.declared.instr.Instr.TheVariants.{Two, Jump}
use Rattle.msp430_isa.specs.Encoding.{length_of}
use Rattle.msp430_isa.specs.Profile.{in_profile, is_constant}
use Rattle.msp430_machine.specs.declared.addresses.Region.{Region}
use Rattle.msp430_machine.specs.Addresses.{region}
use Rattle.msp430_machine.specs.State.{Trapped, State, with_register}
use Rattle.msp430_machine.specs.Memory.{word_at, read, after_read, written, put_at}
use Rattle.msp430_machine.specs.Access.{AsSource, ByMove, access_fault, fault_at, first_of}
use Rattle.msp430_machine.specs.Cost.{cost, read_cost_in, write_cost_in, instruction_cost}
use Rattle.msp430_machine.specs.Steps.{begun}
use Rattle.flow_graph.specs.declared.graph.Operand.{Operand}
use Rattle.op_cost.specs.Templates.{Homes, by, constant, trap, loads, stores, index_code}
use Rattle.msp430_machine.proofs.Memories.{IsAt, IsRun, word_of_run, is_word, word_allowed, read_at, after_read_at, puts_none_at, word_at_same}
use Rattle.emit_templates.specs.Placed.{operand_at}
use Rattle.emit_templates.proofs.Work.{Work, By, fits}
use Rattle.emit_templates.proofs.Steps.{Steps, Now, Stand, stand_at, spent, after, one, now_begun, worked, codes, works, jumps}
use Rattle.emit_templates.proofs.Moves.{OperandFits, at_small, load_goes, store_goes, trap_goes, Stops, now_set, now_written}

-- ---- The comparison of an index with the length

abbrev compares : ℕ → List Work
compares n = By CMP (constant n) 14 ∷ []

abbrev by_choice : Bool → ℕ → Work
by_choice c n = By CMP (if c then Short n else Imm n) 14

compares_fit : (n : ℕ) → n < 65536 → fits (By CMP (constant n) 14) ≡ true
compares_fit n low =
    elim (is_constant n) as (λ c. is_constant n ≡ c → fits (by_choice c n) ≡ true) [
      | true ↦ λ e. ap (λ c. (c && true && true && true && true && true && (true && true)) && true && true) e
      | false ↦ λ e. ap (λ c. (c && true) && true && true) (is_word n low)
    ] refl

carry_is : (b : Board) (input : List ℕ) (n : ℕ) (s : State) → (worked b input (compares n) s).flags.carry ≡ nat_le 65536 (s.reg 14 + (65535 - n) + 1)
carry_is b input n s = elim (is_constant n) as (λ c. (worked b input (by_choice c n ∷ []) s).flags.carry ≡ nat_le 65536 (s.reg 14 + (65535 - n) + 1)) [ true ↦ refl | false ↦ refl ]

index_stays : (b : Board) (input : List ℕ) (n : ℕ) (s : State) → (worked b input (compares n) s).reg 14 ≡ s.reg 14
index_stays b input n s = elim (is_constant n) as (λ c. (worked b input (by_choice c n ∷ []) s).reg 14 ≡ s.reg 14) [ true ↦ refl | false ↦ refl ]

value_stays : (b : Board) (input : List ℕ) (n : ℕ) (s : State) → (worked b input (compares n) s).reg 15 ≡ s.reg 15
value_stays b input n s = elim (is_constant n) as (λ c. (worked b input (by_choice c n ∷ []) s).reg 15 ≡ s.reg 15) [ true ↦ refl | false ↦ refl ]

-- ---- The access of an element

abbrev fetch : ℕ → Instr
fetch base = by MOV (FromIndex 14 base) 15

abbrev send : ℕ → Instr
send base = Two MOV false (FromReg 15) (ToIndex 14 base)

fetch_fits : (base : ℕ) → base < 65536 → in_profile (fetch base) ≡ true
fetch_fits base low = ap (λ c. c && true) (is_word base low)

send_fits : (base : ℕ) → base < 65536 → in_profile (send base) ≡ true
send_fits base low = is_word base low

below_from : (n i : ℕ) → n ≤ 32768 → not (nat_le 65536 (i + (65535 - n) + 1)) ≡ true → i < n
below_from n i small e = grind (arith, nat_tests)

above_from : (n i : ℕ) → n ≤ 32768 → not (nat_le 65536 (i + (65535 - n) + 1)) ≡ false → n ≤ i
above_from n i small e = grind (arith, nat_tests)

module _ (b : Board) (input : List ℕ) (s0 : State) (p0 : List ℕ) (W : Bool → ℕ → State → List ℕ → Type 0) (steps : Steps b input s0 p0 W) where
  -- an index in R14 is tested, and doubled
  index_goes : (n i need taken k : ℕ) (rest : List Instr) (s : State) → n ≤ 32768 → Stand s0.code k (index_code n ++ rest) → Now s0 taken k s → s.reg 14 ≡ i → i < 65536
      → (n ≤ i → (s' : State) → Stops s0 taken (Trapped 2) s' → W true 0 s' p0)
      → (i < n → (s' : State) → s'.reg 14 ≡ 2 * i → s'.reg 15 ≡ s.reg 15 → Now s0 taken (k + length_of (by CMP (constant n) 14) + 4) s' → Stand s0.code (k + length_of (by CMP (constant n) 14) + 4) rest → W true need s' p0)
      → W true (spent b (index_code n) need) s p0
  index_goes n i need taken k rest s small stands now r14 low traps on =
      works b input s0 p0 W steps (compares n) (instruction_cost b (Jump JNC (pos 2)) + need1) taken k k1 (Jump JNC (pos 2) ∷ trap 2 ∷ (codes doubles ++ rest)) s (compares_fit n (omega (arith, small)), tt) (omega arith) now stands
      (λ now1 stands1. jumps b input s0 p0 W steps JNC (pos 2) true need1 taken k1 (k1 + 1) (k1 + 3) (trap 2 ∷ (codes doubles ++ rest)) s1 refl now1 stands1 refl (omega (arith, stands1.1))
      (λ took now2. steps.less true (spent b (codes doubles) need) need1 _ p0 (omega arith)
      (works b input s0 p0 W steps doubles need taken (k1 + 3) (k1 + 4) rest _ (refl, tt) (omega arith) now2 (stand_at s0.code (k1 + 1 + 2) (k1 + 3) (codes doubles ++ rest) (omega arith) stands1.2.2)
      (λ now3 stands3. on (within took) _ (twice (within took)) (value_stays b input n s) now3 stands3)))
      (λ fell now2 stands2. trap_goes b input s0 p0 W steps 2 (spent b (codes doubles) need) taken (k1 + 1) (codes doubles ++ rest) _ (omega arith) now2 stands2 (traps (outside fell))))
    where
      k1 : ℕ
      k1 = k + length_of (by CMP (constant n) 14)

      s1 : State
      s1 = worked b input (compares n) s

      doubles : List Work
      doubles = By ADD (FromReg 14) 14 ∷ []

      need1 : ℕ
      need1 = instruction_cost b (trap 2) + spent b (codes doubles) need

      index : s1.reg 14 ≡ i
      index = index_stays b input n s ∙ r14

      flag : s1.flags.carry ≡ nat_le 65536 (i + (65535 - n) + 1)
      flag = carry_is b input n s ∙ ap (λ v. nat_le 65536 (v + (65535 - n) + 1)) r14

      within : not s1.flags.carry ≡ true → i < n
      within e = below_from n i small (ap not (sym flag) ∙ e)

      outside : not s1.flags.carry ≡ false → n ≤ i
      outside e = above_from n i small (ap not (sym flag) ∙ e)

      twice : i < n → (s1.reg 14 + s1.reg 14 + 0) % 65536 ≡ 2 * i
      twice h = omega (arith, h, small, index)

  -- the element is loaded to R15
  fetch_goes : (base i need taken k k1 n : ℕ) (rest : List Instr) (s : State) → IsRun base n → i < n → k + 2 ≡ k1 → Stand s0.code k (fetch base ∷ rest) → Now s0 taken k s → s.reg 14 ≡ 2 * i
      → ((s' : State) → s'.reg 15 ≡ word_at s0 (base + 2 * i) → Now s0 taken k1 s' → Stand s0.code k1 rest → W true need s' p0)
      → W true (instruction_cost b (fetch base) + need) s p0
  fetch_goes base i need taken k k1 n rest s run below to stands now r14 on =
      one b input s0 p0 W steps true need taken k (fetch base) rest s now stands (fetch_fits base (omega (arith, x.1.inside.high))) allowed costs refl
      (subst (λ v. W true need v p0) (sym same)
      (on (with_register y 15 (word_at s0 a)) refl (subst (λ m. Now s0 taken m (with_register y 15 (word_at s0 a))) to (now_set b input s0 p0 W steps false taken (k + 2) (word_at s0 a) y ny)) (stand_at s0.code (k + 2) k1 rest to stands.2)))
    where
      a : ℕ
      a = base + 2 * i

      x : (g : Region) × IsAt (base + 2 * i) g × (region base ≡ g)
      x = word_of_run base n i run below

      y : State
      y = begun (cost b s (fetch base)) (fetch base) s

      ny : Now s0 taken (k + 2) y
      ny = now_begun b input s0 p0 W steps taken k (cost b s (fetch base)) (fetch base) s now stands.1

      sums : (s.reg 14 + base) % 65536 ≡ a
      sums = omega (arith, r14, x.1.inside.high)

      allowed : access_fault s (fetch base) ≡ None
      allowed = ap (λ v. first_of (fault_at AsSource false v) None) sums ∙ ap (λ f. first_of f None) (word_allowed AsSource a x.0 x.1)

      first_ : (0 + base) % 65536 ≡ base
      first_ = omega (arith, x.1.inside.high)

      costs : cost b s (fetch base) ≡ instruction_cost b (fetch base)
      costs =
          ap (λ v. b.core.move_ + b.access.fetch * 2 + read_cost_in b (region v) + 0) sums
          ∙ ap (λ g. b.core.move_ + b.access.fetch * 2 + read_cost_in b g + 0) (x.1.inside.lies ∙ sym x.2)
          ∙ sym (ap (λ v. b.core.move_ + b.access.fetch * 2 + read_cost_in b (region v) + 0) first_)

      same : after b input (fetch base) s ≡ with_register y 15 (word_at s0 a)
      same =
          ap (λ v. with_register (after_read y v) 15 (read input false y v)) sums
          ∙ ap (λ z. with_register z 15 (read input false y a)) (after_read_at y a x.0 x.1.inside)
          ∙ ap (λ v. with_register y 15 v) (read_at input false y a x.0 x.1.inside ∙ word_at_same s0 y a x.0 x.1.inside ny.has_sram ny.has_fram)

  -- R15 is stored in the element
  send_goes : (base i v need taken k k1 n : ℕ) (rest : List Instr) (s : State) → IsRun base n → i < n → k + 2 ≡ k1 → Stand s0.code k (send base ∷ rest) → Now s0 taken k s → s.reg 14 ≡ 2 * i → s.reg 15 ≡ v
      → ((s' : State) → Now (written false s0 (base + 2 * i) v) taken k1 s' → W true need s' p0)
      → W true (instruction_cost b (send base) + need) s p0
  send_goes base i v need taken k k1 n rest s run below to stands now r14 r15 on =
      one b input s0 p0 W steps true need taken k (send base) rest s now stands (send_fits base (omega (arith, x.1.inside.high))) allowed costs (ap (λ z. put_at z (s.reg 15)) sums ∙ puts_none_at a (s.reg 15) x.0 x.1.inside)
      (subst (λ z. W true need z p0) (sym same)
      (on (written false y a v) (subst (λ m. Now (written false s0 a v) taken m (written false y a v)) to (now_written b input s0 p0 W steps taken (k + 2) v a x.0 y x.1 ny))))
    where
      a : ℕ
      a = base + 2 * i

      x : (g : Region) × IsAt (base + 2 * i) g × (region base ≡ g)
      x = word_of_run base n i run below

      y : State
      y = begun (cost b s (send base)) (send base) s

      ny : Now s0 taken (k + 2) y
      ny = now_begun b input s0 p0 W steps taken k (cost b s (send base)) (send base) s now stands.1

      sums : (s.reg 14 + base) % 65536 ≡ a
      sums = omega (arith, r14, x.1.inside.high)

      allowed : access_fault s (send base) ≡ None
      allowed = ap (λ z. fault_at ByMove false z) sums ∙ word_allowed ByMove a x.0 x.1

      first_ : (0 + base) % 65536 ≡ base
      first_ = omega (arith, x.1.inside.high)

      costs : cost b s (send base) ≡ instruction_cost b (send base)
      costs =
          ap (λ z. b.core.move_ + b.access.fetch * 2 + 0 + (0 + write_cost_in b (region z))) sums
          ∙ ap (λ g. b.core.move_ + b.access.fetch * 2 + 0 + (0 + write_cost_in b g)) (x.1.inside.lies ∙ sym x.2)
          ∙ sym (ap (λ z. b.core.move_ + b.access.fetch * 2 + 0 + (0 + write_cost_in b (region z))) first_)

      same : after b input (send base) s ≡ written false y a v
      same = ap (λ z. written false y z (s.reg 15)) sums ∙ ap (λ z. written false y a z) r15

  -- ---- The two operations

  pub load_element_goes : (homes : Homes) (index : Operand) (base n d need taken k : ℕ) (g : Region) (rest : List Instr) (s : State)
      → OperandFits homes index → operand_at homes s0 index < 65536 → IsRun base n → n ≤ 32768 → IsAt d g
      → Stand s0.code k (loads homes 14 index ∷ (index_code n ++ (fetch base ∷ stores 15 d ∷ rest))) → Now s0 taken k s
      → (n ≤ operand_at homes s0 index → (s' : State) → Stops s0 taken (Trapped 2) s' → W true 0 s' p0)
      → (operand_at homes s0 index < n → (s' : State) → Now (written false s0 d (word_at s0 (base + 2 * operand_at homes s0 index))) taken (k + length_of (loads homes 14 index) + length_of (by CMP (constant n) 14) + 8) s' → W true need s' p0)
      → W false (instruction_cost b (loads homes 14 index) + spent b (index_code n) (instruction_cost b (fetch base) + (instruction_cost b (stores 15 d) + need))) s p0
  load_element_goes homes index base n d need taken k g rest s fit low run small at stands now traps on =
      load_goes b input s0 p0 W steps homes true false index need1 taken k k1 (index_code n ++ (fetch base ∷ stores 15 d ∷ rest)) s fit refl now stands
      (λ now1 stands1. index_goes n (operand_at homes s0 index) (instruction_cost b (fetch base) + (instruction_cost b (stores 15 d) + need)) taken k1 (fetch base ∷ stores 15 d ∷ rest) _ small stands1 now1 refl low traps
      (λ below s2 r14 r15 now2 stands2. fetch_goes base (operand_at homes s0 index) (instruction_cost b (stores 15 d) + need) taken k2 (k2 + 2) n (stores 15 d ∷ rest) s2 run below refl stands2 now2 r14
      (λ s3 e15 now3 stands3. store_goes b input s0 p0 W steps 15 d (word_at s0 (base + 2 * operand_at homes s0 index)) need taken (k2 + 2) (k1 + length_of (by CMP (constant n) 14) + 8) g rest s3 at (is_word d (at_small d g at)) (λ c. e15) (omega arith) now3 stands3 (on below))))
    where
      k1 : ℕ
      k1 = k + length_of (loads homes 14 index)

      k2 : ℕ
      k2 = k1 + length_of (by CMP (constant n) 14) + 4

      need1 : ℕ
      need1 = spent b (index_code n) (instruction_cost b (fetch base) + (instruction_cost b (stores 15 d) + need))

  pub store_element_goes : (homes : Homes) (value index : Operand) (base n need taken k : ℕ) (rest : List Instr) (s : State)
      → OperandFits homes value → OperandFits homes index → operand_at homes s0 index < 65536 → IsRun base n → n ≤ 32768
      → Stand s0.code k (loads homes 15 value ∷ loads homes 14 index ∷ (index_code n ++ (send base ∷ rest))) → Now s0 taken k s
      → (n ≤ operand_at homes s0 index → (s' : State) → Stops s0 taken (Trapped 2) s' → W true 0 s' p0)
      → (operand_at homes s0 index < n → (s' : State) → Now (written false s0 (base + 2 * operand_at homes s0 index) (operand_at homes s0 value)) taken (k + length_of (loads homes 15 value) + length_of (loads homes 14 index) + length_of (by CMP (constant n) 14) + 6) s' → W true need s' p0)
      → W false (instruction_cost b (loads homes 15 value) + (instruction_cost b (loads homes 14 index) + spent b (index_code n) (instruction_cost b (send base) + need))) s p0
  store_element_goes homes value index base n need taken k rest s fit fit' low run small stands now traps on =
      load_goes b input s0 p0 W steps homes false false value (instruction_cost b (loads homes 14 index) + need1) taken k k1 (loads homes 14 index ∷ (index_code n ++ (send base ∷ rest))) s fit refl now stands
      (λ now1 stands1. load_goes b input s0 p0 W steps homes true true index need1 taken k1 k2 (index_code n ++ (send base ∷ rest)) _ fit' refl now1 stands1
      (λ now2 stands2. index_goes n (operand_at homes s0 index) (instruction_cost b (send base) + need) taken k2 (send base ∷ rest) _ small stands2 now2 refl low traps
      (λ below s3 r14 r15 now3 stands3. send_goes base (operand_at homes s0 index) (operand_at homes s0 value) need taken k3 (k2 + length_of (by CMP (constant n) 14) + 6) n rest s3 run below (omega arith) stands3 now3 r14 r15 (on below))))
    where
      k1 : ℕ
      k1 = k + length_of (loads homes 15 value)

      k2 : ℕ
      k2 = k1 + length_of (loads homes 14 index)

      k3 : ℕ
      k3 = k2 + length_of (by CMP (constant n) 14) + 4

      need1 : ℕ
      need1 = spent b (index_code n) (instruction_cost b (send base) + need)
