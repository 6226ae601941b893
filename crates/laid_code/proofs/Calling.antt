-- A call and a return, on the stack in FRAM.
use Rattle.std.proofs.Common.{◌≡◌, ◌≢◌, ℕ, ◌+◌, ◌-◌, ◌*◌, ◌/◌, ◌%◌, ◌<◌, ◌≤◌, true, false, List, [], ◌∷◌, length, Some, None, refl, ap, ◌∙◌, arith}
use Rattle.std.specs.Prelude.{◌==◌, if◌then◌else◌}
use Rattle.std.proofs.lemmas.Bool.Decides.{nat_tests}
use Rattle.board_table.specs.declared.board.Board.{Board}
use Rattle.msp430_isa.specs.declared.instr.Src.TheVariants.{AtPlus, Imm}
use Rattle.msp430_isa.specs.declared.instr.Dst.TheVariants.{Reg as ToReg}
use Rattle.msp430_isa.specs.declared.instr.OneOp.TheVariants.{Call as CALL}
use Rattle.msp430_isa.specs.declared.instr.Instr.{Instr}
use Rattle.msp430_isa.specs.declared.instr.Instr.TheVariants.{One}
use Rattle.msp430_isa.specs.Profile.{in_profile}
use Rattle.msp430_machine.specs.declared.answer.Why.TheVariants.{Odd}
use Rattle.msp430_machine.specs.declared.addresses.Region.TheVariants.{Fram}
use Rattle.msp430_machine.specs.Addresses.{region}
use Rattle.msp430_machine.specs.State.{Awake, State, set_at, register, with_register}
use Rattle.msp430_machine.specs.Memory.{word_in, read_in, after_read_in, written_in}
use Rattle.msp430_machine.specs.Operands.{pushed_at}
use Rattle.msp430_machine.specs.Access.{AsSource, ByOther, access_fault, fault_in, fault_at, first_of}
use Rattle.msp430_machine.specs.Cost.{cost, instruction_cost, read_cost_in, write_cost_in}
use Rattle.msp430_machine.specs.Execution.{done, gone_to}
use Rattle.msp430_machine.specs.Steps.{begun}
use Rattle.resumed_runs.specs.Code.{move}
use Rattle.resumed_runs.proofs.Paths.{Stand, Working, Takes, takes_at}
use Rattle.msp430_machine.proofs.Memories.{is_even}
use Rattle.msp430_machine.proofs.Writes.{set_at_same, set_at_other}
use Rattle.laid_code.proofs.Homes.{Stacked, stack_top}
use Rattle.laid_code.proofs.Words.{fram_word}

abbrev pub calls_to : ℕ → Instr
calls_to a = One CALL false (Imm a)

abbrev pub returns : Instr
returns = move (AtPlus 1) (ToReg 0)

abbrev pub call_code : ℕ → List Instr
call_code to = calls_to (0x8000 + 2 * to) ∷ []

abbrev pub ret_code : List Instr
ret_code = returns ∷ []

abbrev pub call_cost : Board → ℕ
call_cost b = instruction_cost b (calls_to 0)

abbrev pub ret_cost : Board → ℕ
ret_cost b = instruction_cost b returns

-- the word of FRAM on which a frame stands that lies over so many others
abbrev pub frame_at : ℕ → ℕ
frame_at n = 0x4000 - (1 + n)

-- ---- A call

-- behind the call: at the callee, with a frame more
pub record Called (b : Board) (input : List ℕ) (code : ℕ → ℕ) (k to : ℕ) (frames : List ℕ) (s : State) : Type 0 where
  pub after : State
  pub takes : Takes b input (calls_to (0x8000 + 2 * to)) (call_cost b) s None after
  pub awake : after.phase ≡ Awake
  pub pc : after.reg 0 ≡ 0x8000 + 2 * to
  pub sp : after.reg 1 ≡ stack_top ((k + 2) ∷ frames)
  pub has_code : after.code ≡ code
  pub same_count : after.reg 10 ≡ s.reg 10
  pub has_taken : after.taken ≡ s.taken
  pub same_sram : after.sram ≡ s.sram
  pub pushed : after.fram (frame_at (length frames)) ≡ 0x8000 + 2 * (k + 2)
  pub others : (j : ℕ) → j ≢ frame_at (length frames) → after.fram j ≡ s.fram j

module _ (b : Board) (input : List ℕ) (code : ℕ → ℕ) where
  call_fits : (a : ℕ) → a < 65536 → in_profile (calls_to a) ≡ true
  call_fits a low = grind (arith, nat_tests)

  pub call_leads : (k to : ℕ) (frames : List ℕ) (s : State) → 1 + length frames ≤ 64 → to < 0x4000 → Stand code k (call_code to) → Working code s → s.reg 0 ≡ 0x8000 + 2 * k → s.reg 1 ≡ stack_top frames
      → Called b input code k to frames s
  call_leads k to frames s few low stands working pc sp = record {
    after = after;
    takes = takes_at b input code k (calls_to v) [] (call_cost b) s None after stands working.has_code pc (call_fits v (omega (arith, low))) allowed costs refl leaves;
    awake = working.awake;
    pc = refl;
    sp = (let e : 2 * (0x4000 - (1 + length frames)) ≡ stack_top ((k + 2) ∷ frames) = omega (arith, few) in e);
    has_code = working.has_code;
    same_count = refl;
    has_taken = refl;
    same_sram = refl;
    pushed = set_at_same s.fram w (x.reg 0) ∙ (let room = stands.1 in let e : (s.reg 0 + 4) % 65536 ≡ 0x8000 + 2 * (k + 2) = omega (arith, pc, room) in e);
    others = λ j apart. set_at_other s.fram w (x.reg 0) j apart;
  }
    where
      v : ℕ
      v = 0x8000 + 2 * to

      w : ℕ
      w = 0x4000 - (1 + length frames)

      x : State
      x = begun (instruction_cost b (calls_to 0)) (calls_to (0x8000 + 2 * to)) s

      after : State
      after =
          let y = begun (instruction_cost b (calls_to 0)) (calls_to (0x8000 + 2 * to)) s in
          let a = 0x4000 - (1 + length frames) in
          record y { reg = set_at (set_at y.reg 1 (2 * a)) 0 (0x8000 + 2 * to); fram = set_at y.fram a (y.reg 0) }

      stands_at : pushed_at s ≡ 2 * w
      stands_at = omega (arith, sp, few)

      in_stack : region (2 * w) ≡ Fram
      in_stack = (fram_word w (omega (arith, few)) (omega (arith, few))).inside.lies

      is_even_word : (2 * w % 2 == 1) ≡ false
      is_even_word = is_even (2 * w) (omega arith)

      half_word : 2 * w / 2 ≡ w
      half_word = omega arith

      allowed : access_fault s (calls_to v) ≡ None
      allowed =
          ap (λ a. first_of None (fault_at ByOther false a)) stands_at
          ∙ ap (λ c. first_of None (if c then Some Odd else fault_in (region (2 * w)) ByOther false (2 * w))) is_even_word
          ∙ ap (λ r. first_of None (fault_in r ByOther false (2 * w))) in_stack

      costs : cost b s (calls_to v) ≡ call_cost b
      costs = ap (λ a. b.core.call + b.access.fetch * 2 + 0 + write_cost_in b (region a)) stands_at ∙ ap (λ r. b.core.call + b.access.fetch * 2 + 0 + write_cost_in b r) in_stack

      leaves : done input (calls_to v) x ≡ after
      leaves =
          ap (λ a. gone_to (written_in (region a) (record x { reg = set_at x.reg 1 a }) a (x.reg 0)) v) stands_at
          ∙ ap (λ r. gone_to (written_in r (record x { reg = set_at x.reg 1 (2 * w) }) (2 * w) (x.reg 0)) v) in_stack
          ∙ ap (λ h. gone_to (record x { reg = set_at x.reg 1 (2 * w); fram = set_at x.fram h (x.reg 0) }) v) half_word

  -- ---- A return

  pub record Returned (k : ℕ) (frames : List ℕ) (s : State) : Type 0 where
    pub after : State
    pub takes : Takes b input returns (ret_cost b) s None after
    pub awake : after.phase ≡ Awake
    pub pc : after.reg 0 ≡ 0x8000 + 2 * k
    pub sp : after.reg 1 ≡ stack_top frames
    pub has_code : after.code ≡ code
    pub same_count : after.reg 10 ≡ s.reg 10
    pub has_taken : after.taken ≡ s.taken
    pub same_sram : after.sram ≡ s.sram
    pub same_fram : after.fram ≡ s.fram

  pub ret_leads : (at k : ℕ) (frames : List ℕ) (s : State) → 1 + length frames ≤ 64 → Stand code at ret_code → Working code s → s.reg 0 ≡ 0x8000 + 2 * at → s.reg 1 ≡ stack_top (k ∷ frames) → Stacked s.fram (k ∷ frames)
      → Returned k frames s
  ret_leads at k frames s few stands working pc sp stacked = record {
    after = after;
    takes = takes_at b input code at returns [] (ret_cost b) s None after stands working.has_code pc refl allowed costs refl leaves;
    awake = working.awake;
    pc = stacked.0;
    sp = (let e : (s.reg 1 + 2) % 65536 ≡ 0x8000 - 2 * length frames = omega (arith, sp, few) in e);
    has_code = working.has_code;
    same_count = refl;
    has_taken = refl;
    same_sram = refl;
    same_fram = refl;
  }
    where
      w : ℕ
      w = 0x4000 - (1 + length frames)

      x : State
      x = begun (instruction_cost b returns) returns s

      after : State
      after =
          let y = begun (instruction_cost b returns) returns s in
          record y { reg = set_at (set_at y.reg 1 ((y.reg 1 + 2) % 65536)) 0 (y.fram (0x4000 - (1 + length frames))) }

      stands_at : s.reg 1 ≡ 2 * w
      stands_at = omega (arith, sp, few)

      in_stack : region (2 * w) ≡ Fram
      in_stack = (fram_word w (omega (arith, few)) (omega (arith, few))).inside.lies

      is_even_word : (2 * w % 2 == 1) ≡ false
      is_even_word = is_even (2 * w) (omega arith)

      half_word : 2 * w / 2 ≡ w
      half_word = omega arith

      allowed : access_fault s returns ≡ None
      allowed =
          ap (λ a. first_of (if a % 2 == 1 then Some Odd else fault_at AsSource false a) None) stands_at
          ∙ ap (λ c. first_of (if c then Some Odd else if c then Some Odd else fault_in (region (2 * w)) AsSource false (2 * w)) None) is_even_word
          ∙ ap (λ r. first_of (fault_in r AsSource false (2 * w)) None) in_stack

      costs : cost b s returns ≡ ret_cost b
      costs = ap (λ a. b.core.move_ + b.access.fetch * 1 + read_cost_in b (region a) + 0) stands_at ∙ ap (λ r. b.core.move_ + b.access.fetch * 1 + read_cost_in b r + 0) in_stack

      leaves : done input returns x ≡ after
      leaves =
          ap (λ a. let y = after_read_in (region a) x in with_register (with_register y 1 ((register y 1 + 2) % 65536)) 0 (read_in (region a) input false x a)) stands_at
          ∙ ap (λ r. let y = after_read_in r x in with_register (with_register y 1 ((register y 1 + 2) % 65536)) 0 (read_in r input false x (2 * w))) in_stack
          ∙ ap (λ r. with_register (with_register x 1 ((register x 1 + 2) % 65536)) 0 (word_in r x (2 * w))) in_stack
          ∙ ap (λ h. with_register (with_register x 1 ((register x 1 + 2) % 65536)) 0 (x.fram h)) half_word
