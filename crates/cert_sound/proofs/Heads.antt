-- A head sleeps, and each wake leads behind it.
use Rattle.std.proofs.Common.{◌≡◌, ℕ, ◌+◌, ◌-◌, ◌*◌, ◌/◌, ◌%◌, ◌<◌, ◌≤◌, true, false, Option, Some, None, List, [], ◌∷◌, length, refl, sym, ap, ◌∙◌, subst, arith, inr, ◌⊎◌, ⊎_elim}
use Rattle.std.specs.Prelude.{if◌then◌else◌, ◌==◌, max, bit_or, pos}
use Rattle.std.specs.Int.{bit_at}
use Rattle.std.proofs.lemmas.Int.{ints}
use Rattle.std.proofs.lemmas.Bool.Decides.{nat_tests}
use Rattle.std.proofs.lemmas.Nat.Bits.{bit_at_or, bit_at-lt}
use Rattle.certificate.specs.declared.cert.Slot.{Slot}
use Rattle.msp430_isa.specs.declared.instr.Src.{Src}
use Rattle.msp430_isa.specs.declared.instr.Src.TheVariants.{Reg as FromReg, Abs as FromAbs, Imm, Short}
use Rattle.msp430_isa.specs.declared.instr.Dst.TheVariants.{Reg as ToReg, Abs as ToAbs}
use Rattle.msp430_isa.specs.declared.instr.TwoOp.TheVariants.{Mov as MOV, Bis as BIS, Cmp as CMP}
use Rattle.msp430_isa.specs.declared.instr.Cond.TheVariants.{Jne as JNE}
use Rattle.msp430_isa.specs.declared.instr.Instr.{Instr}
use Rattle.msp430_isa.specs.declared.instr.Instr.TheVariants.{Two, Jump}
use Rattle.msp430_isa.specs.Encoding.{words_of, length_of}
use Rattle.msp430_isa.specs.Profile.{in_profile}
use Rattle.msp430_machine.specs.Access.{access_fault}
use Rattle.msp430_machine.specs.Cost.{cost, instruction_cost}
use Rattle.msp430_machine.specs.State.{Off, Awake, Asleep, State, set_at}
use Rattle.msp430_machine.specs.Execution.{done}
use Rattle.msp430_machine.specs.Steps.{Does, next, begun}
use Rattle.power_core.proofs.Stands.{WordsAt, next_is, words_back}
use Rattle.cert_rules.specs.Words.{boot_words, head_words, head_bytes}
use Rattle.cert_rules.specs.Forms.{is_general}
use Rattle.cert_rules.specs.Known.{Known, bare}
use Rattle.cert_rules.specs.Sheet.{Sheet, is_head}
use Rattle.cert_rules.specs.Overhead.{wake_cost}
use Rattle.cert_rules.specs.Shapes.{turns_fault, turns_at}
use Rattle.cert_rules.specs.Outcomes.{falls_only}
use Rattle.cert_rules.specs.Going.{limit_of, going_fault}
use Rattle.cert_rules.specs.Sweep.{Swept, behind_head}
use Rattle.cert_effects.specs.Written.{Written, ReadsOnly}
use Rattle.cert_effects.specs.Knows.{value_of, Knows}
use Rattle.cert_effects.proofs.Rules.{none_parts}
use Rattle.cert_effects.proofs.Results.{any_within}
use Rattle.cert_effects.proofs.Computing.{InputWords, begun_same}
use Rattle.cert_effects.proofs.Stack.{StackHolds, Stacked, stacked_same, values_stay}
use Rattle.cert_sound.specs.Moments.{Moment}
use Rattle.cert_sound.specs.Sound.{Safe, IsNoFault}
use Rattle.cert_code.proofs.Edges.{edge_fall, over_fall, points_fall}
use Rattle.cert_sound.proofs.Covering.{executed, Covers, covers_ran}
use Rattle.cert_code.proofs.Sweeping.{swept_head, going_parts}
use Rattle.cert_sound.proofs.Running.{Around, Keeps, BackHead, Back, Sound, head_cost, split_limit, safe_within}
use Rattle.cert_sound.proofs.Stepping.{Ready, ReadyHeads, Arrives, lands}

-- the code of boot and of heads
pub record Boots (t : Sheet) (code : ℕ → ℕ) : Type 0 where
  pub boot : WordsAt code 0 boot_words
  pub reset : code 0x3FFF ≡ 0x8000
  pub heads : (h : ℕ) → is_head t h ≡ true → t.here.start ≤ h → h < t.here.end → WordsAt code ((h - 0x8000) / 2) (head_words h)
  pub even : (h : ℕ) → is_head t h ≡ true → t.here.start ≤ h → h < t.here.end → h % 2 ≡ 0
  pub room : (h : ℕ) → is_head t h ≡ true → t.here.start ≤ h → h < t.here.end → h + head_bytes ≤ 0xFF80

-- ---- The instructions of boot and of a head

abbrev pub h0 : Instr
h0 = Two MOV false (FromReg 1) (ToAbs 0x1804)

abbrev pub h1 : ℕ → Instr
h1 r = Two MOV false (Imm r) (ToAbs 0x1802)

abbrev pub h2 : Instr
h2 = Two MOV false (Short 1) (ToAbs 0x1800)

abbrev pub h3 : Instr
h3 = Two BIS false (Imm 16) (ToReg 2)

abbrev pub h4 : Instr
h4 = Two MOV false (Short 0) (ToAbs 0x1800)

abbrev pub i0 : Instr
i0 = Two CMP false (Short 1) (ToAbs 0x1800)

abbrev pub i1 : Instr
i1 = Jump JNE (pos 4)

abbrev pub i2 : Instr
i2 = Two MOV false (FromAbs 0x1804) (ToReg 1)

abbrev pub i3 : Instr
i3 = Two MOV false (FromAbs 0x1802) (ToReg 0)

-- an instruction that reads neither R4 to R15, nor SRAM, nor flags
abbrev pub ReadsNothing : State → Instr → Type 0
ReadsNothing s i = (w : Written) → ReadsOnly w s i

pub nothing_h0 : (s : State) → ReadsNothing s h0
nothing_h0 s w = record {
  registers = λ r lo hi e. absurd (⊎_elim (λ x. omega (arith, lo, x)) (λ x. x) e);
  words = λ a lo hi e. absurd (⊎_elim (λ x. let bad : false ≡ true = x in cc) (λ x. let bad : false ≡ true = x.0 in cc) e);
  flags = λ e. absurd (let bad : false ≡ true = e in cc);
}

pub nothing_number : (s : State) (src : Src) (v a : ℕ) → (src ≡ Imm v) ⊎ (src ≡ Short v) → ReadsNothing s (Two MOV false src (ToAbs a))
nothing_number s src v a is w = ⊎_elim (λ e. subst (λ x. ReadsOnly w s (Two MOV false x (ToAbs a))) (sym e) (record {
  registers = λ r lo hi f. absurd (⊎_elim (λ x. x) (λ x. x) f);
  words = λ b lo hi f. absurd (⊎_elim (λ x. let bad : false ≡ true = x in cc) (λ x. let bad : false ≡ true = x.0 in cc) f);
  flags = λ f. absurd (let bad : false ≡ true = f in cc);
})) (λ e. subst (λ x. ReadsOnly w s (Two MOV false x (ToAbs a))) (sym e) (record {
  registers = λ r lo hi f. absurd (⊎_elim (λ x. x) (λ x. x) f);
  words = λ b lo hi f. absurd (⊎_elim (λ x. let bad : false ≡ true = x in cc) (λ x. let bad : false ≡ true = x.0 in cc) f);
  flags = λ f. absurd (let bad : false ≡ true = f in cc);
})) is

pub nothing_h3 : (s : State) → ReadsNothing s h3
nothing_h3 s w = record {
  registers = λ r lo hi e. absurd (⊎_elim (λ x. x) (λ x. omega (arith, lo, x.1)) e);
  words = λ a lo hi e. absurd (⊎_elim (λ x. let bad : false ≡ true = x in cc) (λ x. let bad : false ≡ true = x.1 in cc) e);
  flags = λ e. absurd (let bad : false ≡ true = e in cc);
}

number_of : (a b : ℕ) → (a == b) ≡ true → a ≡ b
number_of a b e = grind (arith, nat_tests)

pub nothing_i0 : (s : State) → ReadsNothing s i0
nothing_i0 s w = record {
  registers = λ r lo hi e. absurd (⊎_elim (λ x. x) (λ x. x) e);
  words = λ a lo hi e. absurd (⊎_elim (λ x. let bad : false ≡ true = x in cc) (λ x. omega (arith, lo, number_of 0x1800 a x.1)) e);
  flags = λ e. absurd (let bad : false ≡ true = e in cc);
}

pub reads_i1 : (s : State) (w : Written) → w.flags ≡ true → ReadsOnly w s i1
reads_i1 s w f = record { registers = λ r lo hi e. absurd e; words = λ a lo hi e. absurd e; flags = λ e. f }

pub nothing_i2 : (s : State) → ReadsNothing s i2
nothing_i2 s w = record {
  registers = λ r lo hi e. absurd (⊎_elim (λ x. x) (λ x. let bad : false ≡ true = x.0 in cc) e);
  words = λ a lo hi e. absurd (⊎_elim (λ x. omega (arith, lo, number_of 0x1804 a x)) (λ x. let bad : false ≡ true = x.0 in cc) e);
  flags = λ e. absurd (let bad : false ≡ true = e in cc);
}

pub nothing_i3 : (s : State) → ReadsNothing s i3
nothing_i3 s w = record {
  registers = λ r lo hi e. absurd (⊎_elim (λ x. x) (λ x. let bad : false ≡ true = x.0 in cc) e);
  words = λ a lo hi e. absurd (⊎_elim (λ x. omega (arith, lo, number_of 0x1802 a x)) (λ x. let bad : false ≡ true = x.0 in cc) e);
  flags = λ e. absurd (let bad : false ≡ true = e in cc);
}

-- BIS #16,SR sets the bit that sleeps
pub sleeps : (v : ℕ) → bit_or v 16 / 16 % 2 ≡ 1
sleeps v = let one : bit_at (bit_or v 16) 4 ≡ max (bit_at v 4) 1 = bit_at_or v 16 4 in one ∙ omega (arith, bit_at-lt v 4)

-- ---- Values that no head and no boot changes

pub record LowSame (s u : State) : Type 0 where
  pub registers : (r : ℕ) → is_general r ≡ true → u.reg r ≡ s.reg r
  pub sram : u.sram ≡ s.sram
  pub fram : (k : ℕ) → 0x2200 ≤ k → u.fram k ≡ s.fram k

pub stacked_low : (s u : State) (frames : List ℕ) → length frames ≤ 64 → u.reg 1 ≡ s.reg 1 → LowSame s u → Stacked s frames → Stacked u frames
stacked_low s u frames few sp l h = stacked_same s u frames few sp (λ k le. l.fram k (omega (arith, le))) h

pub low_then : (s u v : State) → LowSame s u → LowSame u v → LowSame s v
low_then s u v a b = record { registers = λ r g. b.registers r g ∙ a.registers r g; sram = b.sram ∙ a.sram; fram = λ k le. b.fram k le ∙ a.fram k le }

not_low : (k n : ℕ) → 0x2200 ≤ k → n < 0x2200 → (k == n) ≡ false
not_low k n le lt = grind (arith, nat_tests)

pub low_values : (s u : State) (x : Slot) → LowSame s u → value_of u x ≡ value_of s x
low_values s u x l = values_stay s u x l.registers l.sram (λ k low high. l.fram k low)

-- a word below data is written
pub low_write : (input : List ℕ) (ct : ℕ) (i : Instr) (s u : State) (k v : ℕ) → k < 0x2200 → u ≡ record (begun ct i s) { fram = set_at s.fram k v } → LowSame s u
low_write input ct i s u k v lt is = record {
  registers = λ r g. ap (λ z. z.reg r) is ∙ (begun_same ct i s).registers r g;
  sram = ap (λ z. z.sram) is;
  fram = λ j le. ap (λ z. z.fram j) is ∙ ap (λ b. if b then v else s.fram j) (not_low j k le lt);
}

-- PC moves, and flags or SP may
pub low_pc : (s u : State) → ((r : ℕ) → is_general r ≡ true → u.reg r ≡ s.reg r) → u.sram ≡ s.sram → u.fram ≡ s.fram → LowSame s u
low_pc s u regs sram fram = record { registers = regs; sram = sram; fram = λ k le. ap (λ f. f k) fram }

-- at most so much has been spent, and nothing else is known
pub bare_knows : (stretch spent : ℕ) (s : State) (w : Written) (n : ℕ) → n ≤ spent → ((x : Slot) → value_of s x < 65536) → Knows (bare stretch spent) s w n
bare_knows stretch spent s w n few values = record {
  all = record {
    words = values;
    range = λ x. any_within (value_of s x) (values x);
    set = λ r e. absurd (let bad : false ≡ true = e in cc);
    fresh = λ a even e. absurd (let bad : false ≡ true = e in cc);
    flags = λ e. absurd (let bad : false ≡ true = e in cc);
    bound = omega (arith, ints, few);
  };
  test = tt;
  tested = λ r e. absurd e;
}

-- awake at an address of this code, with so much to be spent in this stretch
pub record Way (t : Sheet) (code : ℕ → ℕ) (k h need : ℕ) (m : Moment) : Type 0 where
  pub awake : m.trail.state.phase ≡ Awake
  pub pc : m.trail.state.reg 0 ≡ 0x8000 + 2 * k
  pub has_code : m.trail.state.code ≡ code
  pub no_cut : m.trail.cuts ≡ 0
  pub rich : t.board.budget ≤ m.trail.state.charge + m.trail.stretch
  pub room : m.trail.stretch + need ≤ head_cost t.stretches h
  pub resumes : m.resumes ≡ h + 18

-- Asleep behind a head, or off, with what boot needs to resume there.
pub record Dormant (t : Sheet) (code : ℕ → ℕ) (h : ℕ) (frames : List ℕ) (m : Moment) : Type 0 where
  pub phase : (m.trail.state.phase ≡ Off) ⊎ ((m.trail.state.phase ≡ Asleep) × (m.trail.state.reg 0 ≡ h + 18) × (m.trail.state.reg 1 ≡ 0x8000 - 2 * length frames))
  pub gate : m.trail.state.fram 0xC00 ≡ 1
  pub resume : m.trail.state.fram 0xC01 ≡ h + 18
  pub saved : m.trail.state.fram 0xC02 ≡ 0x8000 - 2 * length frames
  pub stack : StackHolds m.trail.state.fram frames
  pub has_code : m.trail.state.code ≡ code
  pub no_cut : m.trail.cuts ≡ 0
  pub safe : Safe t.stretches t.board m
  pub values : (x : Slot) → value_of m.trail.state x < 65536

module _ (t : Sheet) (code : ℕ → ℕ) (input : List ℕ) (words : InputWords input) (c : Sound t code) (boots : Boots t code) where
  abbrev pub cost_h4 : ℕ
  cost_h4 = instruction_cost t.board h4

  pub head_at : (h k : ℕ) → is_head t h ≡ true → t.here.start ≤ h → h < t.here.end → h ≡ 0x8000 + 2 * k → WordsAt code k (head_words h)
  head_at h k is low high at = let same : (h - 0x8000) / 2 ≡ k = omega (arith, at) in subst (λ j. WordsAt code j (head_words h)) same (boots.heads h is low high)

  abbrev Fine : Moment → Type 0
  Fine m = Safe t.stretches t.board m

  pub way_fine : (k h need : ℕ) (m : Moment) (i : Instr) → Way t code k h need m → next m.trail.state ≡ Does i → ReadsOnly m.written m.trail.state i → Fine m
  way_fine k h need m i w does reads = safe_within t code h m c w.no_cut (subst IsNoFault (sym w.awake) tt) (omega (arith, w.room)) w.resumes
      (λ j awake e. subst (λ z. ReadsOnly m.written m.trail.state z) (same i j does e) reads)
    where
      same : (i j : Instr) → next m.trail.state ≡ Does i → next m.trail.state ≡ Does j → i ≡ j
      same i j e f = let both : Does i ≡ Does j = sym e ∙ f in cc

  -- one instruction on the way
  pub on_way : (k k' h c' need : ℕ) (i : Instr) (m : Moment) (u : State) → Way t code k h (c' + need) m → cost t.board m.trail.state i ≡ c'
      → done input i (begun (cost t.board m.trail.state i) i m.trail.state) ≡ u → u.phase ≡ Awake → u.reg 0 ≡ 0x8000 + 2 * k' → u.code ≡ m.trail.state.code → u.charge ≡ m.trail.state.charge - cost t.board m.trail.state i
      → Way t code k' h need (executed t.board input i m)
  on_way k k' h c' need i m u w costs is awake pc same charge = record {
    awake = ap (λ z. z.phase) is ∙ awake;
    pc = ap (λ z. z.reg 0) is ∙ pc;
    has_code = ap (λ z. z.code) is ∙ same ∙ w.has_code;
    no_cut = w.no_cut;
    rich = omega (arith, ap (λ z. z.charge) is, charge, costs, w.rich, w.room, c.limits h);
    room = omega (arith, costs, w.room);
    resumes = w.resumes;
  }

  pub way_pays : (k h c' need : ℕ) (i : Instr) (m : Moment) → Way t code k h (c' + need) m → cost t.board m.trail.state i ≡ c' → cost t.board m.trail.state i ≤ m.trail.state.charge
  way_pays k h c' need i m w costs = omega (arith, costs, w.room, w.rich, c.limits h)

  -- what comes next on the way
  pub way_next : (k h need : ℕ) (i : Instr) (m : Moment) → Way t code k h need m → k + length_of i ≤ 0x3FC0 → in_profile i ≡ true → WordsAt code k (words_of i) → access_fault m.trail.state i ≡ None → next m.trail.state ≡ Does i
  way_next k h need i m w room fits at allowed = next_is code m.trail.state k i w.has_code w.pc room fits at allowed

  pub less_way : (k h need need' : ℕ) (m : Moment) → need' ≤ need → Way t code k h need m → Way t code k h need' m
  less_way k h need need' m le w = record { awake = w.awake; pc = w.pc; has_code = w.has_code; no_cut = w.no_cut; rich = w.rich; room = omega (arith, le, w.room); resumes = w.resumes }

  -- ---- Behind a head

  -- what surrounds a stretch where it resumes
  abbrev pub resumed_around : ℕ → List ℕ → Moment → Around
  resumed_around h frames m = record { head = h; origin = 0; frames = frames; entry = m.trail.state; before = m.written }

  abbrev pub BackAt : ℕ → List ℕ → Type 0
  BackAt n frames = BackHead t.board t.stretches code input t.is_first n frames

  -- the last instruction of a head has been executed
  pub behind : (n h : ℕ) (frames : List ℕ) (m : Moment) → Ready t code input words c n → ReadyHeads t code input words c n → length frames + t.here.height ≤ 65 → BackAt n frames → is_head t h ≡ true → t.here.start ≤ h → h < t.here.end
      → (incoming : Option Known) → Swept t h incoming None → Arrives t code (resumed_around h frames m) (h + head_bytes) m.trail.stretch m → ((x : Slot) → value_of m.trail.state x < 65536) → m.trail.stretch ≤ wake_cost t.board
      → Covers t.board input Fine n m
  behind n h frames m ready heads deep back is low high incoming swept at values few =
      let split : t.here.flat ≡ None = c.heads_split h is low high in
      let rest = swept_head t h incoming None swept refl high is in
      let κ : Known = behind_head t h in
      let g = going_parts t h (h + 18) (h + head_bytes) (falls_only κ) (none_parts (turns_fault (h + 18) 0 (turns_at t (h + head_bytes))) (going_fault t h (h + 18) (h + head_bytes) (falls_only κ)) rest.passes).1 in
      lands t code input words c n (h + 18) (h + head_bytes) (Some κ) κ (resumed_around h frames m) m.trail.stretch m ready heads (subst (λ o. Back t.board t.stretches code input o t.is_first (resumed_around h frames m) n) (sym split) back)
      rest.rest (omega (arith, low)) (edge_fall t (h + 18) (h + head_bytes) κ None 0 g.edge) (λ none no_head. refl)
      (record { room = omega (arith, split_limit t h split); deep = deep; split = λ e. (refl, refl) }) at
      (bare_knows h (wake_cost t.board) m.trail.state m.written m.trail.stretch few values)
      (over_fall t (h + 18) (h + head_bytes) (limit_of t h) κ None 0 g.over) (points_fall t (h + 18) (h + head_bytes) κ None 0 g.points)

  -- what waking costs is within the stretch's cost
  pub wake_within : (h : ℕ) (incoming : Option Known) → Swept t h incoming None → h < t.here.end → is_head t h ≡ true → t.here.start ≤ h → wake_cost t.board ≤ head_cost t.stretches h
  wake_within h incoming swept high is low =
      let rest = swept_head t h incoming None swept refl high is in
      let κ : Known = behind_head t h in
      let g = going_parts t h (h + 18) (h + head_bytes) (falls_only κ) (none_parts (turns_fault (h + 18) 0 (turns_at t (h + head_bytes))) (going_fault t h (h + 18) (h + head_bytes) (falls_only κ)) rest.passes).1 in
      let over = over_fall t (h + 18) (h + head_bytes) (limit_of t h) κ None 0 g.over in
      omega (arith, ints, over, split_limit t h (c.heads_split h is low high))

  -- from the last instruction of a head on
  pub resumed : (n h k : ℕ) (frames : List ℕ) (m : Moment) → Ready t code input words c n → ReadyHeads t code input words c n → length frames + t.here.height ≤ 65 → BackAt n frames → is_head t h ≡ true → t.here.start ≤ h → h < t.here.end
      → (incoming : Option Known) → Swept t h incoming None → h ≡ 0x8000 + 2 * k → Way t code (k + 9) h (cost_h4 + 0) m → Stacked m.trail.state frames → m.trail.stretch + cost_h4 ≤ wake_cost t.board
      → ((x : Slot) → value_of m.trail.state x < 65536) → Covers t.board input Fine n m
  resumed n h k frames m ready heads deep back is low high incoming swept at w stacked few values =
      let words4 : WordsAt code (k + 9) (words_of h4) = words_back code k (0x4182 ∷ 0x1804 ∷ 0x40B2 ∷ (h + 18) ∷ 0x1802 ∷ 0x4392 ∷ 0x1800 ∷ 0xD032 ∷ 0x0010 ∷ []) (words_of h4) (head_at h k is low high at) in
      let does = way_next (k + 9) h (cost_h4 + 0) h4 m w (omega (arith, at, boots.room h is low high)) refl words4 refl in
      let pays = way_pays (k + 9) h cost_h4 0 h4 m w refl in
      let u : Moment = executed t.board input h4 m in
      let w' = on_way (k + 9) (k + 11) h cost_h4 0 h4 m u.trail.state w refl refl w.awake (let e : (m.trail.state.reg 0 + 4) % 65536 ≡ 0x8000 + 2 * (k + 11) = omega (arith, w.pc, at, boots.room h is low high) in e) refl refl in
      let same : LowSame m.trail.state u.trail.state = low_write input (cost t.board m.trail.state h4) h4 m.trail.state u.trail.state 0xC00 0 (omega arith) refl in
      covers_ran t.board input Fine n m h4 w.awake (way_fine (k + 9) h (cost_h4 + 0) m h4 w does (nothing_number m.trail.state (Short 0) 0 0x1800 (inr refl) m.written)) does pays
      (behind n h frames u ready heads deep back is low high incoming swept
      (record {
        awake = w'.awake;
        pc = w'.pc ∙ omega (arith, at);
        has_code = w'.has_code;
        no_cut = w'.no_cut;
        rich = w'.rich;
        counted = omega arith;
        resumes = w'.resumes;
        stacked = stacked_low m.trail.state u.trail.state frames (omega (arith, deep, c.tall)) refl same stacked;
        kept = subst (λ o. Keeps o (resumed_around h frames u) u.trail.state u.written) (sym (c.heads_split h is low high)) tt;
      })
      (λ x. subst (λ v. v < 65536) (sym (low_values m.trail.state u.trail.state x same)) (values x))
      few)
