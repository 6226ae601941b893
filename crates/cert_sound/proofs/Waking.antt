-- From a sleep to behind the head, and from a head to the sleep.
use Rattle.std.proofs.Common.{◌≡◌, ℕ, suc, ◌+◌, ◌-◌, ◌*◌, ◌/◌, ◌%◌, ◌<◌, ◌≤◌, Bool, true, false, not, Option, None, List, [], ◌∷◌, length, refl, sym, ap, ◌∙◌, subst, arith, inl, inr, ⊎_elim}
use Rattle.std.specs.Prelude.{if◌then◌else◌, ◌==◌, ◌&&◌, nat_lt, pos}
use Rattle.std.proofs.lemmas.Bool.Decides.{nat_tests}
use Rattle.std.proofs.lemmas.Bool.{and_parts}
use Rattle.certificate.specs.declared.cert.Slot.{Slot}
use Rattle.certificate.specs.declared.cert.Slot.TheVariants.{Reg, Word}
use Rattle.msp430_isa.specs.declared.instr.Src.TheVariants.{Imm, Short}
use Rattle.msp430_isa.specs.declared.instr.Instr.{Instr}
use Rattle.msp430_isa.specs.Encoding.{words_of}
use Rattle.msp430_isa.specs.Profile.{in_profile}
use Rattle.msp430_isa.specs.Results.{jump_target}
use Rattle.msp430_machine.specs.Cost.{cost, instruction_cost}
use Rattle.msp430_machine.specs.Memory.{word_at, word_in}
use Rattle.msp430_machine.specs.State.{Awake, Asleep, State, status_word}
use Rattle.msp430_machine.specs.Execution.{done, gone_to}
use Rattle.msp430_machine.specs.Steps.{begun}
use Rattle.msp430_machine.specs.Wakes.{IsCold, warm}
use Rattle.power_core.proofs.Stands.{words_front, words_back}
use Rattle.cert_rules.specs.Words.{head_bytes}
use Rattle.cert_rules.specs.Forms.{is_general}
use Rattle.cert_rules.specs.Slots.{is_memory}
use Rattle.cert_rules.specs.Known.{Known}
use Rattle.cert_rules.specs.Sheet.{Sheet, is_head}
use Rattle.cert_rules.specs.Overhead.{wake_cost, sleep_cost}
use Rattle.cert_rules.specs.Sweep.{Swept}
use Rattle.cert_effects.specs.Knows.{value_of}
use Rattle.cert_effects.proofs.Values.{Lies, in_sram, in_data, where_lies, general_high, not_special, value_word}
use Rattle.cert_effects.proofs.Computing.{InputWords, begun_same}
use Rattle.cert_effects.proofs.Stack.{StackHolds, Stacked, stack_same}
use Rattle.cert_sound.specs.Moments.{Moment, after_refill, resumed_at}
use Rattle.cert_sound.specs.Sound.{Safe, IsNoFault}
use Rattle.cert_sound.proofs.Covering.{executed, Covers, covers_ran, covers_ran_more, covers_off, covers_asleep}
use Rattle.cert_sound.proofs.Running.{Sound, safe_within}
use Rattle.cert_sound.proofs.Stepping.{Ready, ReadyHeads}
use Rattle.cert_sound.proofs.Heads.{Boots, Way, Dormant, h0, h1, h2, h3, i0, i1, i2, i3, nothing_h0, nothing_number, nothing_h3, nothing_i0, reads_i1, nothing_i2, nothing_i3, sleeps, LowSame, low_then, low_values, low_write, low_pc, way_fine, on_way, way_pays, way_next, wake_within, resumed, cost_h4, head_at, BackAt}

-- ---- The values of a machine that woke cold

is_even : (a : ℕ) → (a % 2 == 0) ≡ true → a % 2 ≡ 0
is_even a h = grind (arith, nat_tests)

cold_word : (old new : State) (amount a : ℕ) → IsCold old amount new → ((x : Slot) → value_of old x < 65536) → Lies a → a % 2 ≡ 0 → word_at new a < 65536
cold_word old new amount a cold values (in_sram low high r sr d) even = subst (λ q. word_in q new a < 65536) (sym r) (cold.sram ((a - 0x1C00) / 2) (omega (arith, low, high)))
cold_word old new amount a cold values (in_data low high r sr d) even =
    let same : word_at new a ≡ value_of old (Word a) = ap (λ q. word_in q new a) r ∙ ap (λ z. z.fram (a / 2)) cold.same ∙ sym (ap (λ q. word_in q old a) r) ∙ sym (value_word old a (in_data low high r sr d) even) in
    subst (λ v. v < 65536) (sym same) (values (Word a))

cold_values : (old new : State) (amount : ℕ) → IsCold old amount new → ((x : Slot) → value_of old x < 65536) → (x : Slot) → value_of new x < 65536
cold_values old new amount cold values (Reg r) = elim (is_general r) as (λ b. is_general r ≡ b → (if b then new.reg r else 0) < 65536) [
  | true ↦ λ g. cold.registers r (general_high r g)
  | false ↦ λ g. omega arith
] refl
cold_values old new amount cold values (Word a) = elim (is_memory a && a % 2 == 0) as (λ b. (is_memory a && a % 2 == 0) ≡ b → (if b then word_at new a else 0) < 65536) [
  | true ↦ λ e. (let p = and_parts (is_memory a) (a % 2 == 0) e in cold_word old new amount a cold values (where_lies a p.0) (is_even a p.1))
  | false ↦ λ e. omega arith
] refl

low_number : (r : ℕ) → r < 65536 → nat_lt r 65536 ≡ true
low_number r lt = grind (arith, nat_tests)

-- R4 to R15 aren't PC or SP
apart_from : (r n : ℕ) (v w : ℕ) → is_general r ≡ true → n < 4 → (if r == n then v else w) ≡ w
apart_from r n v w g lt = ap (λ b. if b then v else w) (not_special r n g lt)

module _ (t : Sheet) (code : ℕ → ℕ) (input : List ℕ) (words : InputWords input) (c : Sound t code) (boots : Boots t code) where
  abbrev Fine : Moment → Type 0
  Fine m = Safe t.stretches t.board m

  abbrev costs : Instr → ℕ
  costs i = instruction_cost t.board i

  -- boot, from its first instruction on
  pub boot_covers : (n h k : ℕ) (frames : List ℕ) (m : Moment) → Ready t code input words c n → ReadyHeads t code input words c n → length frames + t.here.height ≤ 65 → BackAt t code input words c boots n frames → is_head t h ≡ true → t.here.start ≤ h → h < t.here.end → (incoming : Option Known) → Swept t h incoming None
      → h ≡ 0x8000 + 2 * k → Way t code 0 h (wake_cost t.board) m → m.trail.stretch ≡ 0 → m.trail.state.fram 0xC00 ≡ 1 → m.trail.state.fram 0xC01 ≡ h + 18
      → m.trail.state.fram 0xC02 ≡ 0x8000 - 2 * length frames → StackHolds m.trail.state.fram frames → ((x : Slot) → value_of m.trail.state x < 65536) → Covers t.board input Fine n m
  boot_covers n h k frames m ready heads deep back is low high incoming swept at w0 none gate resume saved stack values =
      let H : ℕ = cost_h4 t code input words c boots in
      let m1 : Moment = executed t.board input i0 m in
      let m2 : Moment = executed t.board input i1 m1 in
      let m3 : Moment = executed t.board input i2 m2 in
      let m4 : Moment = executed t.board input i3 m3 in
      let b2 = words_back code 0 (words_of i0) (0x2004 ∷ 0x4211 ∷ 0x1804 ∷ 0x4210 ∷ 0x1802 ∷ 0x42A2 ∷ 0x0F06 ∷ []) boots.boot in
      let b3 = words_back code 2 (words_of i1) (0x4211 ∷ 0x1804 ∷ 0x4210 ∷ 0x1802 ∷ 0x42A2 ∷ 0x0F06 ∷ []) b2 in
      let b5 = words_back code 3 (words_of i2) (0x4210 ∷ 0x1802 ∷ 0x42A2 ∷ 0x0F06 ∷ []) b3 in
      let does0 = way_next t code input words c boots 0 h (wake_cost t.board) i0 m w0 (omega arith) refl (words_front code 0 (words_of i0) (0x2004 ∷ 0x4211 ∷ 0x1804 ∷ 0x4210 ∷ 0x1802 ∷ 0x42A2 ∷ 0x0F06 ∷ []) boots.boot) refl in
      let w1 : Way t code 2 h (costs i1 + (costs i2 + (costs i3 + (H + 0)))) m1 =
      on_way t code input words c boots 0 2 h (costs i0) (costs i1 + (costs i2 + (costs i3 + (H + 0)))) i0 m m1.trail.state w0 refl refl w0.awake (let e : (m.trail.state.reg 0 + 4) % 65536 ≡ 0x8000 + 2 * 2 = omega (arith, w0.pc) in e) refl refl in
      let does1 = way_next t code input words c boots 2 h (costs i1 + (costs i2 + (costs i3 + (H + 0)))) i1 m1 w1 (omega arith) refl (words_front code 2 (words_of i1) (0x4211 ∷ 0x1804 ∷ 0x4210 ∷ 0x1802 ∷ 0x42A2 ∷ 0x0F06 ∷ []) b2) refl in
      let s1 : State = begun (cost t.board m1.trail.state i1) i1 m1.trail.state in
      let zero_is : m1.trail.state.flags.zero_flag ≡ true = ap (λ g. (g + 65534 + 1) % 65536 == 0) gate in
      let passes : done input i1 s1 ≡ s1 = ap (λ z. if not z then gone_to s1 (jump_target (s1.reg 0) (pos 4)) else s1) zero_is in
      let w2 : Way t code 3 h (costs i2 + (costs i3 + (H + 0))) m2 =
      on_way t code input words c boots 2 3 h (costs i1) (costs i2 + (costs i3 + (H + 0))) i1 m1 s1 w1 refl passes w1.awake (let e : (m1.trail.state.reg 0 + 2) % 65536 ≡ 0x8000 + 2 * 3 = omega (arith, w1.pc) in e) refl refl in
      let does2 = way_next t code input words c boots 3 h (costs i2 + (costs i3 + (H + 0))) i2 m2 w2 (omega arith) refl (words_front code 3 (words_of i2) (0x4210 ∷ 0x1802 ∷ 0x42A2 ∷ 0x0F06 ∷ []) b3) refl in
      let w3 : Way t code 5 h (costs i3 + (H + 0)) m3 =
      on_way t code input words c boots 3 5 h (costs i2) (costs i3 + (H + 0)) i2 m2 m3.trail.state w2 refl refl w2.awake (let e : (m2.trail.state.reg 0 + 4) % 65536 ≡ 0x8000 + 2 * 5 = omega (arith, w2.pc) in e) refl refl in
      let does3 = way_next t code input words c boots 5 h (costs i3 + (H + 0)) i3 m3 w3 (omega arith) refl (words_front code 5 (words_of i3) (0x42A2 ∷ 0x0F06 ∷ []) b5) refl in
      let kept : m2.trail.state.fram ≡ m.trail.state.fram = ap (λ z. z.fram) passes in
      let there : m3.trail.state.fram 0xC01 ≡ h + 18 = ap (λ f. f 0xC01) kept ∙ resume in
      let w4 : Way t code (k + 9) h (H + 0) m4 =
      on_way t code input words c boots 5 (k + 9) h (costs i3) (H + 0) i3 m3 m4.trail.state w3 refl refl w3.awake (there ∙ omega (arith, at)) refl refl in
      let l1 : LowSame m.trail.state m1.trail.state = low_pc m.trail.state m1.trail.state (λ r g. (begun_same (cost t.board m.trail.state i0) i0 m.trail.state).registers r g) refl refl in
      let l2 : LowSame m1.trail.state m2.trail.state = low_pc m1.trail.state m2.trail.state (λ r g. ap (λ z. z.reg r) passes ∙ (begun_same (cost t.board m1.trail.state i1) i1 m1.trail.state).registers r g) (ap (λ z. z.sram) passes) (ap (λ z. z.fram) passes) in
      let l3 : LowSame m2.trail.state m3.trail.state = low_pc m2.trail.state m3.trail.state (λ r g. apart_from r 1 _ _ g (omega arith) ∙ (begun_same (cost t.board m2.trail.state i2) i2 m2.trail.state).registers r g) refl refl in
      let l4 : LowSame m3.trail.state m4.trail.state = low_pc m3.trail.state m4.trail.state (λ r g. apart_from r 0 _ _ g (omega arith) ∙ (begun_same (cost t.board m3.trail.state i3) i3 m3.trail.state).registers r g) refl refl in
      let all = low_then m.trail.state m3.trail.state m4.trail.state (low_then m.trail.state m2.trail.state m3.trail.state (low_then m.trail.state m1.trail.state m2.trail.state l1 l2) l3) l4 in
      covers_ran t.board input Fine n m i0 w0.awake (way_fine t code input words c boots 0 h (wake_cost t.board) m i0 w0 does0 (nothing_i0 m.trail.state m.written)) does0 (way_pays t code input words c boots 0 h (costs i0) (costs i1 + (costs i2 + (costs i3 + (H + 0)))) i0 m w0 refl)
      (covers_ran t.board input Fine n m1 i1 w1.awake (way_fine t code input words c boots 2 h (costs i1 + (costs i2 + (costs i3 + (H + 0)))) m1 i1 w1 does1 (reads_i1 m1.trail.state m1.written refl)) does1 (way_pays t code input words c boots 2 h (costs i1) (costs i2 + (costs i3 + (H + 0))) i1 m1 w1 refl)
      (covers_ran t.board input Fine n m2 i2 w2.awake (way_fine t code input words c boots 3 h (costs i2 + (costs i3 + (H + 0))) m2 i2 w2 does2 (nothing_i2 m2.trail.state m2.written)) does2 (way_pays t code input words c boots 3 h (costs i2) (costs i3 + (H + 0)) i2 m2 w2 refl)
      (covers_ran t.board input Fine n m3 i3 w3.awake (way_fine t code input words c boots 5 h (costs i3 + (H + 0)) m3 i3 w3 does3 (nothing_i3 m3.trail.state m3.written)) does3 (way_pays t code input words c boots 5 h (costs i3) (H + 0) i3 m3 w3 refl)
      (resumed t code input words c boots n h k frames m4 ready heads deep back is low high incoming swept at w4
      (record { sp = ap (λ f. f 0xC02) kept ∙ saved; words = stack_same m.trail.state.fram m4.trail.state.fram frames (omega (arith, deep, c.tall)) (λ j lo hi. all.fram j (omega (arith, lo, deep, c.tall))) stack })
      (omega (arith, none)) (λ x. subst (λ v. v < 65536) (sym (low_values m.trail.state m4.trail.state x all)) (values x))))))

  -- either wake leads behind the head
  pub wake_covers : (n h k : ℕ) (frames : List ℕ) (m : Moment) → Ready t code input words c n → ReadyHeads t code input words c n → length frames + t.here.height ≤ 65 → BackAt t code input words c boots n frames → is_head t h ≡ true → t.here.start ≤ h → h < t.here.end → (incoming : Option Known) → Swept t h incoming None
      → h ≡ 0x8000 + 2 * k → Dormant t code h frames m → Covers t.board input Fine n m
  wake_covers n h k frames m ready heads deep back is low high incoming swept at d = ⊎_elim
      (λ off. covers_off t.board input Fine n m off d.safe (λ amount keep s rich is_cold. cold amount keep s rich is_cold (ap (λ p. resumed_at p keep m.trail.state) off ∙ d.resume)))
      (λ asleep. covers_asleep t.board input Fine n m asleep.0 d.safe
      (λ amount s rich is_cold. cold amount false s rich is_cold (ap (λ p. resumed_at p false m.trail.state) asleep.0 ∙ d.resume))
      (λ amount rich. warmly amount rich asleep.0 asleep.1 asleep.2))
      d.phase
    where
      cold : (amount : ℕ) (keep : Bool) (s : State) → t.board.budget ≤ amount → IsCold m.trail.state amount s → resumed_at m.trail.state.phase keep m.trail.state ≡ h + 18 → Covers t.board input Fine n (after_refill keep s m)
      cold amount keep s rich is_cold resumes =
          boot_covers n h k frames (after_refill keep s m) ready heads deep back is low high incoming swept at
          (record {
            awake = ap (λ z. z.phase) is_cold.same;
            pc = is_cold.starts ∙ ap (λ f. f 0x3FFF) d.has_code ∙ boots.reset;
            has_code = ap (λ z. z.code) is_cold.same ∙ d.has_code;
            no_cut = d.no_cut;
            rich = omega (arith, rich, ap (λ z. z.charge) is_cold.same);
            room = omega (arith, wake_within t code input words c boots h incoming swept high is low);
            resumes = resumes;
          })
          refl (ap (λ z. z.fram 0xC00) is_cold.same ∙ d.gate) (ap (λ z. z.fram 0xC01) is_cold.same ∙ d.resume)
          (ap (λ z. z.fram 0xC02) is_cold.same ∙ d.saved) (subst (λ f. StackHolds f frames) (sym (ap (λ z. z.fram) is_cold.same)) d.stack)
          (cold_values m.trail.state s amount is_cold d.values)

      warmly : (amount : ℕ) → t.board.budget ≤ amount → m.trail.state.phase ≡ Asleep → m.trail.state.reg 0 ≡ h + 18 → m.trail.state.reg 1 ≡ 0x8000 - 2 * length frames → Covers t.board input Fine n (after_refill true (warm amount m.trail.state) m)
      warmly amount rich asleep pc sp =
          resumed t code input words c boots n h k frames (after_refill true (warm amount m.trail.state) m) ready heads deep back is low high incoming swept at
          (record {
            awake = refl;
            pc = pc ∙ omega (arith, at);
            has_code = d.has_code;
            no_cut = d.no_cut;
            rich = omega (arith, rich);
            room = omega (arith, wake_within t code input words c boots h incoming swept high is low);
            resumes = ap (λ p. resumed_at p true m.trail.state) asleep ∙ pc;
          })
          (record { sp = sp; words = d.stack })
          (omega arith)
          (λ x. subst (λ v. v < 65536) (sym (low_values m.trail.state (warm amount m.trail.state) x (low_pc m.trail.state (warm amount m.trail.state) (λ r g. refl) refl refl))) (d.values x))

  -- a head leads to its sleep, and on
  pub head_covers : (n a stretch k : ℕ) (frames : List ℕ) (m : Moment) → Ready t code input words c n → ReadyHeads t code input words c n → length frames + t.here.height ≤ 65 → BackAt t code input words c boots n frames → is_head t a ≡ true → t.here.start ≤ a → a < t.here.end → (incoming : Option Known) → Swept t a incoming None
      → a ≡ 0x8000 + 2 * k → Way t code k stretch (sleep_cost t.board) m → Stacked m.trail.state frames → ((x : Slot) → value_of m.trail.state x < 65536) → Covers t.board input Fine (suc n) m
  head_covers n a stretch k frames m ready heads deep back is low high incoming swept at w0 stacked values =
      let r : ℕ = a + 18 in
      let m1 : Moment = executed t.board input h0 m in
      let m2 : Moment = executed t.board input (h1 r) m1 in
      let m3 : Moment = executed t.board input h2 m2 in
      let m4 : Moment = executed t.board input h3 m3 in
      let all = head_at t code input words c boots a k is low high at in
      let top : a + head_bytes ≤ 0xFF80 = boots.room a is low high in
      let a2 = words_back code k (words_of h0) (0x40B2 ∷ r ∷ 0x1802 ∷ 0x4392 ∷ 0x1800 ∷ 0xD032 ∷ 0x0010 ∷ 0x4382 ∷ 0x1800 ∷ []) all in
      let a5 = words_back code (k + 2) (words_of (h1 r)) (0x4392 ∷ 0x1800 ∷ 0xD032 ∷ 0x0010 ∷ 0x4382 ∷ 0x1800 ∷ []) a2 in
      let a7 = words_back code (k + 2 + 3) (words_of h2) (0xD032 ∷ 0x0010 ∷ 0x4382 ∷ 0x1800 ∷ []) a5 in
      let does0 = way_next t code input words c boots k stretch (sleep_cost t.board) h0 m w0 (omega (arith, at, top)) refl (words_front code k (words_of h0) (0x40B2 ∷ r ∷ 0x1802 ∷ 0x4392 ∷ 0x1800 ∷ 0xD032 ∷ 0x0010 ∷ 0x4382 ∷ 0x1800 ∷ []) all) refl in
      let w1 : Way t code (k + 2) stretch (costs (h1 0) + (costs h2 + (costs h3 + 0))) m1 =
      on_way t code input words c boots k (k + 2) stretch (costs h0) (costs (h1 0) + (costs h2 + (costs h3 + 0))) h0 m m1.trail.state w0 refl refl w0.awake (let e : (m.trail.state.reg 0 + 4) % 65536 ≡ 0x8000 + 2 * (k + 2) = omega (arith, w0.pc, at, top) in e) refl refl in
      let fits : in_profile (h1 r) ≡ true = ap (λ b. b && true) (low_number r (omega (arith, top))) in
      let does1 = way_next t code input words c boots (k + 2) stretch (costs (h1 0) + (costs h2 + (costs h3 + 0))) (h1 r) m1 w1 (omega (arith, at, top)) fits (words_front code (k + 2) (words_of (h1 r)) (0x4392 ∷ 0x1800 ∷ 0xD032 ∷ 0x0010 ∷ 0x4382 ∷ 0x1800 ∷ []) a2) refl in
      let w2 : Way t code (k + 2 + 3) stretch (costs h2 + (costs h3 + 0)) m2 =
      on_way t code input words c boots (k + 2) (k + 2 + 3) stretch (costs (h1 0)) (costs h2 + (costs h3 + 0)) (h1 r) m1 m2.trail.state w1 refl refl w1.awake (let e : (m1.trail.state.reg 0 + 6) % 65536 ≡ 0x8000 + 2 * (k + 2 + 3) = omega (arith, w1.pc, at, top) in e) refl refl in
      let does2 = way_next t code input words c boots (k + 2 + 3) stretch (costs h2 + (costs h3 + 0)) h2 m2 w2 (omega (arith, at, top)) refl (words_front code (k + 2 + 3) (words_of h2) (0xD032 ∷ 0x0010 ∷ 0x4382 ∷ 0x1800 ∷ []) a5) refl in
      let w3 : Way t code (k + 2 + 3 + 2) stretch (costs h3 + 0) m3 =
      on_way t code input words c boots (k + 2 + 3) (k + 2 + 3 + 2) stretch (costs h2) (costs h3 + 0) h2 m2 m3.trail.state w2 refl refl w2.awake (let e : (m2.trail.state.reg 0 + 4) % 65536 ≡ 0x8000 + 2 * (k + 2 + 3 + 2) = omega (arith, w2.pc, at, top) in e) refl refl in
      let does3 = way_next t code input words c boots (k + 2 + 3 + 2) stretch (costs h3 + 0) h3 m3 w3 (omega (arith, at, top)) refl (words_front code (k + 2 + 3 + 2) (words_of h3) (0x4382 ∷ 0x1800 ∷ []) a7) refl in
      let s3 : State = begun (cost t.board m3.trail.state h3) h3 m3.trail.state in
      let asleep : m4.trail.state.phase ≡ Asleep = ap (λ x. if x == 1 then Asleep else m3.trail.state.phase) (sleeps (status_word s3)) in
      let behind_it : m4.trail.state.reg 0 ≡ a + 18 = (let e : (m3.trail.state.reg 0 + 4) % 65536 ≡ a + 18 = omega (arith, w3.pc, at, top) in e) in
      let l1 : LowSame m.trail.state m1.trail.state = low_write input (cost t.board m.trail.state h0) h0 m.trail.state m1.trail.state 0xC02 _ (omega arith) refl in
      let l2 : LowSame m1.trail.state m2.trail.state = low_write input (cost t.board m1.trail.state (h1 r)) (h1 r) m1.trail.state m2.trail.state 0xC01 r (omega arith) refl in
      let l3 : LowSame m2.trail.state m3.trail.state = low_write input (cost t.board m2.trail.state h2) h2 m2.trail.state m3.trail.state 0xC00 1 (omega arith) refl in
      let l4 : LowSame m3.trail.state m4.trail.state = low_pc m3.trail.state m4.trail.state (λ q g. (begun_same (cost t.board m3.trail.state h3) h3 m3.trail.state).registers q g) refl refl in
      let same = low_then m.trail.state m3.trail.state m4.trail.state (low_then m.trail.state m2.trail.state m3.trail.state (low_then m.trail.state m1.trail.state m2.trail.state l1 l2) l3) l4 in
      let dormant : Dormant t code a frames m4 = record {
        phase = inr (asleep, behind_it, stacked.sp);
        gate = refl;
        resume = refl;
        saved = stacked.sp;
        stack = stack_same m.trail.state.fram m4.trail.state.fram frames (omega (arith, deep, c.tall)) (λ j lo hi. same.fram j (omega (arith, lo, deep, c.tall))) stacked.words;
        has_code = w3.has_code;
        no_cut = w3.no_cut;
        safe = safe_within t code stretch m4 c w3.no_cut (subst IsNoFault (sym asleep) tt) (omega (arith, w3.room)) w3.resumes (λ j awake e. absurd (let bad : Asleep ≡ Awake = sym asleep ∙ awake in cc));
        values = λ x. subst (λ v. v < 65536) (sym (low_values m.trail.state m4.trail.state x same)) (values x);
      } in
      covers_ran_more t.board input Fine n m h0 w0.awake (way_fine t code input words c boots k stretch (sleep_cost t.board) m h0 w0 does0 (nothing_h0 m.trail.state m.written)) does0 (way_pays t code input words c boots k stretch (costs h0) (costs (h1 0) + (costs h2 + (costs h3 + 0))) h0 m w0 refl)
      (covers_ran t.board input Fine n m1 (h1 r) w1.awake (way_fine t code input words c boots (k + 2) stretch (costs (h1 0) + (costs h2 + (costs h3 + 0))) m1 (h1 r) w1 does1 (nothing_number m1.trail.state (Imm r) r 0x1802 (inl refl) m1.written)) does1 (way_pays t code input words c boots (k + 2) stretch (costs (h1 0)) (costs h2 + (costs h3 + 0)) (h1 r) m1 w1 refl)
      (covers_ran t.board input Fine n m2 h2 w2.awake (way_fine t code input words c boots (k + 2 + 3) stretch (costs h2 + (costs h3 + 0)) m2 h2 w2 does2 (nothing_number m2.trail.state (Short 1) 1 0x1800 (inr refl) m2.written)) does2 (way_pays t code input words c boots (k + 2 + 3) stretch (costs h2) (costs h3 + 0) h2 m2 w2 refl)
      (covers_ran t.board input Fine n m3 h3 w3.awake (way_fine t code input words c boots (k + 2 + 3 + 2) stretch (costs h3 + 0) m3 h3 w3 does3 (nothing_h3 m3.trail.state m3.written)) does3 (way_pays t code input words c boots (k + 2 + 3 + 2) stretch (costs h3) 0 h3 m3 w3 refl)
      (wake_covers n a k frames m4 ready heads deep back is low high incoming swept at dormant))))
