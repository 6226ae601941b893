-- The other kinds of instructions: RRA and SXT, jumps, and MOV #t,PC.
use Rattle.std.proofs.Common.{◌≡◌, ℕ, ◌+◌, ◌<◌, Bool, true, false, not, None, List, refl, sym, ap, ◌∙◌, subst, arith, inl}
use Rattle.std.specs.Prelude.{if◌then◌else◌, ◌==◌, ◌&&◌, ◌||◌, ℤ}
use Rattle.std.proofs.lemmas.Bool.{and_parts}
use Rattle.std.proofs.lemmas.Bool.Decides.{nat_tests}
use Rattle.board_table.specs.declared.board.Board.{Board}
use Rattle.certificate.specs.declared.cert.Slot.{Slot}
use Rattle.certificate.specs.declared.cert.Slot.TheVariants.{Reg, Word}
use Rattle.msp430_isa.specs.declared.instr.Src.{Src}
use Rattle.msp430_isa.specs.declared.instr.Src.TheVariants.{Reg as FromReg, Index as FromIndex, Abs as FromAbs, At, AtPlus, Imm, Short}
use Rattle.msp430_isa.specs.declared.instr.Dst.{Dst}
use Rattle.msp430_isa.specs.declared.instr.Dst.TheVariants.{Reg as ToReg}
use Rattle.msp430_isa.specs.declared.instr.TwoOp.{TwoOp}
use Rattle.msp430_isa.specs.declared.instr.TwoOp.TheVariants.{Mov as MOV}
use Rattle.msp430_isa.specs.declared.instr.OneOp.{OneOp}
use Rattle.msp430_isa.specs.declared.instr.OneOp.TheVariants.{Rra as RRA, Sxt as SXT, Call as CALL}
use Rattle.msp430_isa.specs.declared.instr.Cond.{Cond}
use Rattle.msp430_isa.specs.declared.instr.Cond.TheVariants.{Jne as JNE, Jeq as JEQ, Jnc as JNC, Jc as JC, Jn as JN, Jge as JGE, Jl as JL, Jmp as JMP}
use Rattle.msp430_isa.specs.declared.instr.Instr.{Instr}
use Rattle.msp430_isa.specs.declared.instr.Instr.TheVariants.{Two, One, Jump}
use Rattle.msp430_isa.specs.Profile.{is_move}
use Rattle.msp430_isa.specs.Results.{Flags, one_result, one_flags, writes_destination}
use Rattle.msp430_machine.specs.Cost.{cost}
use Rattle.msp430_machine.specs.State.{State, set_at, register}
use Rattle.msp430_machine.specs.Operands.{InRegister}
use Rattle.msp430_machine.specs.Execution.{with_value, done}
use Rattle.msp430_machine.specs.Steps.{begun}
use Rattle.cert_rules.specs.Forms.{is_general, is_form, is_pc, goes_on, is_used, is_plain_source, is_plain_destination, one_form, Computes, Branches, Leaps, Calls, Returns, kind_of, leap, call}
use Rattle.cert_rules.specs.Ranges.{any_word}
use Rattle.cert_rules.specs.Known.{Known, range_of, with_cost, given, forgetting, hits, freshened}
use Rattle.cert_rules.specs.Places.{Place, Number, InReg, InReach, is_certain, source_place, destination_place, cost_of}
use Rattle.cert_rules.specs.Effects.{computed, computed_one, with_result, with_written, without, is_always}
use Rattle.cert_rules.specs.Sheet.{Sheet}
use Rattle.cert_rules.specs.Accesses.{sets_fault, access_faults}
use Rattle.cert_rules.specs.Outcomes.{always_ends}
use Rattle.cert_rules.specs.Slots.{same_slot}
use Rattle.cert_rules.specs.Points.{slot_number}
use Rattle.cert_rules.proofs.SpendingLemmas.{bound_le_settled}
use Rattle.cert_effects.specs.Written.{Written, wrote, is_register, written_place, ReadsOnly, jump_needs_flags}
use Rattle.cert_effects.specs.Knows.{value_of, Holds, Knows}
use Rattle.cert_effects.proofs.Values.{SameValues, same_values, sets_register, with_general, register_general, value_register, not_special}
use Rattle.cert_effects.proofs.Results.{any_within, rra_is_word, sxt_is_word}
use Rattle.cert_effects.proofs.Knowing.{bound_mono, holds_moved, holds_more, holds_paid, holds_flags, holds_given}
use Rattle.cert_effects.proofs.Placing.{IsEnd}
use Rattle.cert_effects.proofs.Rules.{unless_passes, source_set}
use Rattle.cert_effects.proofs.Computing.{InputWords, SourceLow, begun_same}
use Rattle.cert_effects.proofs.Computed.{Performs, two_performs, two_ends, wrote_more}

-- ---- Kinds and forms

pub record PlainTwo (op : TwoOp) (byte : Bool) (src : Src) (dst : Dst) : Type 0 where
  pub word : byte ≡ false
  pub source : is_plain_source src ≡ true
  pub destination : is_plain_destination dst ≡ true

not_true : (c : Bool) → not c ≡ true → c ≡ false
not_true true e = absurd (let no : false ≡ true = e in cc)
not_true false e = refl

leaps_no_computing : (src : Src) → leap src ≡ Computes → ⊥
leaps_no_computing (Imm t) e = let no : Leaps t ≡ Computes = e in cc
leaps_no_computing (FromReg r) e = let no : Returns ≡ Computes = e in cc
leaps_no_computing (FromIndex r x) e = let no : Returns ≡ Computes = e in cc
leaps_no_computing (FromAbs a) e = let no : Returns ≡ Computes = e in cc
leaps_no_computing (At r) e = let no : Returns ≡ Computes = e in cc
leaps_no_computing (AtPlus r) e = let no : Returns ≡ Computes = e in cc
leaps_no_computing (Short v) e = let no : Returns ≡ Computes = e in cc

pub plain_two : (op : TwoOp) (byte : Bool) (src : Src) (dst : Dst) → is_form (Two op byte src dst) ≡ true → kind_of (Two op byte src dst) ≡ Computes → PlainTwo op byte src dst
plain_two op byte src dst form kind = by_case (is_pc dst) form kind
  where
    by_case : (c : Bool) → (not byte && (if c then is_move op && goes_on src else is_used op && is_plain_source src && is_plain_destination dst)) ≡ true → (if c then leap src else Computes) ≡ Computes → PlainTwo op byte src dst
    by_case true f k = absurd (leaps_no_computing src k)
    by_case false f k =
        let p = and_parts (not byte) (is_used op && is_plain_source src && is_plain_destination dst) f in
        let q = and_parts (is_used op && is_plain_source src) (is_plain_destination dst) p.1 in
        record { word = not_true byte p.0; source = (and_parts (is_used op) (is_plain_source src) q.0).1; destination = q.1 }

-- ---- RRA and SXT

-- a register gets a word, and flags are left
turned : (κ : Known) (s : State) (w : Written) (n r v : ℕ) → is_general r ≡ true → v < 65536 → w.registers r ≡ true → w.flags ≡ true → Holds κ s w n
    → Holds (record (given (Reg r) any_word (without (Reg r) κ) κ) { flags = true; test = None }) (with_value false s (InRegister r) v) w n
turned κ s w n r v g small set flags h =
    let t : State = record s { reg = set_at s.reg r v } in
    let sets = sets_register s r v g in
    let bound = bound_mono n _ _ h.bound (bound_le_settled (λ y. same_slot y (Reg r)) (range_of κ) (value_of s) (value_of t) κ.spent h.range (λ y e. sym (sets.there y e))) in
    subst (λ z. Holds (record (given (Reg r) any_word (without (Reg r) κ) κ) { flags = true; test = None }) z w n) (sym (with_general s r v g))
    (holds_flags (given (Reg r) any_word (without (Reg r) κ) κ) t w n true None (λ e. flags)
    (holds_given κ s t w n (Reg r) any_word v (without (Reg r) κ) g sets small (any_within v small) (λ q e. subst (λ z. w.registers z ≡ true) (ap slot_number e) set) bound h))

or_right : (a b : Bool) → b ≡ true → (a || b) ≡ true
or_right true b e = refl
or_right false b e = e

-- R0 to R3 aren't general
kept_special : (s : State) (r v n : ℕ) → is_general r ≡ true → n < 4 → (with_value false s (InRegister r) v).reg n ≡ s.reg n
kept_special s r v n g few = ap (λ t. t.reg n) (with_general s r v g) ∙ ap (λ c. if c then v else s.reg n) (flipped r n (not_special r n g few))
  where
    flipped : (a b : ℕ) → (a == b) ≡ false → (b == a) ≡ false
    flipped a b e = grind (arith, nat_tests)

module _ (b : Board) (input : List ℕ) (κ : Known) (s : State) (w : Written) (n : ℕ) (k : Knows κ s w n) (r : ℕ) (g : is_general r ≡ true) (set : w.registers r ≡ true) where
  before : (op : OneOp) (c : ℕ) → let i : Instr = One op false (FromReg r) in (flags : _) → Holds (with_cost c κ) (record (begun c i s) { flags = flags }) (wrote s i w) (n + c)
  before op c flags =
      let i : Instr = One op false (FromReg r) in
      let same : SameValues s (record (begun c i s) { flags = flags }) = record { registers = (begun_same c i s).registers; sram = refl; fram = refl; code = refl } in
      holds_moved (with_cost c κ) s (record (begun c i s) { flags = flags }) (wrote s i w) (n + c) (λ x. same_values s (record (begun c i s) { flags = flags }) x same)
      (holds_more (with_cost c κ) s w (wrote s i w) (n + c) (wrote_more s i w) (holds_paid κ s w n c k.all))

  value_small : (i : Instr) (c : ℕ) → register (begun c i s) r < 65536
  value_small i c =
      let is : register (begun c i s) r ≡ value_of s (Reg r) = register_general (begun c i s) r g ∙ (begun_same c i s).registers r g ∙ sym (value_register s r g) in
      subst (λ z. z < 65536) (sym is) (k.all.words (Reg r))

  one_leaves : (i : Instr) (c : ℕ) (flags : Flags) (v : ℕ) (z : Slot) → same_slot z (Reg r) ≡ false → value_of (with_value false (record (begun c i s) { flags = flags }) (InRegister r) v) z ≡ value_of s z
  one_leaves i c flags v z miss =
      let t : State = record (begun c i s) { flags = flags } in
      ap (λ u. value_of u z) (with_general t r v g) ∙ (sets_register t r v g).there z miss
      ∙ same_values s t z (record { registers = (begun_same c i s).registers; sram = refl; fram = refl; code = refl })

  pub rra_performs : Performs b input (One RRA false (FromReg r)) κ s w n (computed b (One RRA false (FromReg r)) κ)
  rra_performs = let i : Instr = One RRA false (FromReg r) in let c : ℕ = cost b s i in let x : ℕ = register (begun c i s) r in let v : ℕ = one_result RRA false s.flags.carry x in let t : State = record (begun c i s) { flags = one_flags RRA false s.flags x } in record {
    allowed = refl;
    costs = refl;
    reads = record { registers = λ q lo hi e. subst (λ z. w.registers z ≡ true) e set; words = λ x lo hi e. absurd (let no : false ≡ true = e in cc); flags = λ e. absurd (let no : false ≡ true = e in cc) };
    knows = record {
      all = turned (with_cost c κ) t (wrote s i w) (n + c) r v g (rra_is_word s.flags.carry x (value_small i c)) (or_right (is_register (written_place s i) r) (w.registers r) set) refl (before RRA c t.flags);
      test = tt;
      tested = λ q no. absurd no;
    };
    pc = kept_special t r v 0 g (omega arith);
    sp = kept_special t r v 1 g (omega arith);
    stack = λ k le. ap (λ t. t.fram k) (with_general t r v g);
    leaves = λ z miss. one_leaves i c t.flags v z miss;
    code = ap (λ t. t.code) (with_general t r v g);
    charge = ap (λ t. t.charge) (with_general t r v g);
    phase = inl (ap (λ t. t.phase) (with_general t r v g));
  }

  pub sxt_performs : Performs b input (One SXT false (FromReg r)) κ s w n (computed b (One SXT false (FromReg r)) κ)
  sxt_performs = let i : Instr = One SXT false (FromReg r) in let c : ℕ = cost b s i in let x : ℕ = register (begun c i s) r in let v : ℕ = one_result SXT false s.flags.carry x in let t : State = record (begun c i s) { flags = one_flags SXT false s.flags x } in record {
    allowed = refl;
    costs = refl;
    reads = record { registers = λ q lo hi e. subst (λ z. w.registers z ≡ true) e set; words = λ x lo hi e. absurd (let no : false ≡ true = e in cc); flags = λ e. absurd (let no : false ≡ true = e in cc) };
    knows = record {
      all = turned (with_cost c κ) t (wrote s i w) (n + c) r v g (sxt_is_word s.flags.carry x (value_small i c)) (or_right (is_register (written_place s i) r) (w.registers r) set) refl (before SXT c t.flags);
      test = tt;
      tested = λ q no. absurd no;
    };
    pc = kept_special t r v 0 g (omega arith);
    sp = kept_special t r v 1 g (omega arith);
    stack = λ k le. ap (λ t. t.fram k) (with_general t r v g);
    leaves = λ z miss. one_leaves i c t.flags v z miss;
    code = ap (λ t. t.code) (with_general t r v g);
    charge = ap (λ t. t.charge) (with_general t r v g);
    phase = inl (ap (λ t. t.phase) (with_general t r v g));
  }

-- ---- Any instruction that computes

abbrev pub NumbersLow : Instr → Type 0
NumbersLow (Two op byte src dst) = SourceLow src
NumbersLow (One op byte src) = Unit {0}
NumbersLow (Jump on words) = Unit {0}

one_performs : (b : Board) (input : List ℕ) (sheet : Sheet) (a : ℕ) (κ : Known) (s : State) (w : Written) (n : ℕ) → Knows κ s w n → (op : OneOp) (src : Src) → one_form op src ≡ true → call src ≡ Computes
    → sets_fault a κ (One op false src) ≡ None → Performs b input (One op false src) κ s w n (computed b (One op false src) κ)
one_performs b input sheet a κ s w n k RRA (FromReg r) form kind sets = rra_performs b input κ s w n k r form (source_set κ s w n a (FromReg r) r k.all sets form refl)
one_performs b input sheet a κ s w n k SXT (FromReg r) form kind sets = sxt_performs b input κ s w n k r form (source_set κ s w n a (FromReg r) r k.all sets form refl)
one_performs b input sheet a κ s w n k CALL (Imm t) form kind sets = absurd (let no : Calls t ≡ Computes = kind in cc)
one_performs b input sheet a κ s w n k op src form kind sets = absurd (let no : false ≡ true = form in cc)

pub computes : (b : Board) (input : List ℕ) → InputWords input → (sheet : Sheet) (a : ℕ) (κ : Known) (s : State) (w : Written) (n : ℕ) → Knows κ s w n → (i : Instr) → is_form i ≡ true → kind_of i ≡ Computes → NumbersLow i
    → sets_fault a κ i ≡ None → access_faults sheet a κ i ≡ None → Performs b input i κ s w n (computed b i κ)
computes b input words sheet a κ s w n k (Two op true src dst) form kind low sets acc = absurd (let no : false ≡ true = form in cc)
computes b input words sheet a κ s w n k (Two op false src dst) form kind low sets acc =
    let p = plain_two op false src dst form kind in two_performs b input words sheet a κ s w n k op src dst p.source p.destination low sets acc
computes b input words sheet a κ s w n k (One op true src) form kind low sets acc = absurd (let no : false ≡ true = form in cc)
computes b input words sheet a κ s w n k (One op false src) form kind low sets acc = one_performs b input sheet a κ s w n k op src form kind sets
computes b input words sheet a κ s w n k (Jump on x) form kind low sets acc = absurd (let no : Branches on x ≡ Computes = kind in cc)

-- ---- Jumps

always_or : (on : Cond) → jump_needs_flags on ≡ not (is_always on)
always_or JNE = refl
always_or JEQ = refl
always_or JNC = refl
always_or JC = refl
always_or JN = refl
always_or JGE = refl
always_or JL = refl
always_or JMP = refl

needed : (n f : Bool) → (not n || f) ≡ true → n ≡ true → f ≡ true
needed true f h e = h
needed false f h e = absurd (let no : false ≡ true = e in cc)

pub jump_reads : (a : ℕ) (κ : Known) (s : State) (w : Written) (n : ℕ) (on : Cond) (words : ℤ) → Holds κ s w n → sets_fault a κ (Jump on words) ≡ None → ReadsOnly w s (Jump on words)
jump_reads a κ s w n on words h f = record {
  registers = λ r lo hi e. absurd e;
  words = λ x lo hi e. absurd e;
  flags = λ e. h.flags (needed (not (is_always on)) κ.flags (unless_passes _ _ _ _ _ f) (sym (always_or on) ∙ e));
}

-- what is known behind a jump, wherever it goes
pub jump_holds : (κ : Known) (s : State) (w : Written) (n c pc : ℕ) (i : Instr) → Holds κ s w n → Holds (with_cost c κ) (record (begun c i s) { reg = set_at (begun c i s).reg 0 pc }) w (n + c)
jump_holds κ s w n c pc i h =
    holds_moved (with_cost c κ) s (record (begun c i s) { reg = set_at (begun c i s).reg 0 pc }) w (n + c)
    (λ x. same_values s (record (begun c i s) { reg = set_at (begun c i s).reg 0 pc }) x same) (holds_paid κ s w n c h)
  where
    same : SameValues s (record (begun c i s) { reg = set_at (begun c i s).reg 0 pc })
    same = record {
      registers = λ r g. ap (λ e. if e then pc else (begun c i s).reg r) (not_special r 0 g (omega arith)) ∙ (begun_same c i s).registers r g;
      sram = refl;
      fram = refl;
      code = refl;
    }

pub fall_holds : (κ : Known) (s : State) (w : Written) (n c : ℕ) (i : Instr) → Holds κ s w n → Holds (with_cost c κ) (begun c i s) w (n + c)
fall_holds κ s w n c i h = holds_moved (with_cost c κ) s (begun c i s) w (n + c) (λ x. same_values s (begun c i s) x (begun_same c i s)) (holds_paid κ s w n c h)

-- ---- An instruction that always ends the program

pub computes_ends : (b : Board) (input : List ℕ) → InputWords input → (sheet : Sheet) (a : ℕ) (κ : Known) (s : State) (w : Written) (n : ℕ) → Knows κ s w n → (op : TwoOp) (byte : Bool) (src : Src) (dst : Dst)
    → is_form (Two op byte src dst) ≡ true → kind_of (Two op byte src dst) ≡ Computes → SourceLow src → sets_fault a κ (Two op byte src dst) ≡ None → access_faults sheet a κ (Two op byte src dst) ≡ None
    → writes_destination op ≡ true → always_ends (destination_place κ dst) ≡ true → IsEnd (done input (Two op byte src dst) (begun (cost b s (Two op byte src dst)) (Two op byte src dst) s)).phase
computes_ends b input words sheet a κ s w n k op true src dst form kind low sets acc writes ends = absurd (let no : false ≡ true = form in cc)
computes_ends b input words sheet a κ s w n k op false src dst form kind low sets acc writes ends =
    let p = plain_two op false src dst form kind in two_ends b input words sheet a κ s w n k op src dst p.source p.destination low sets acc writes ends

-- ---- MOV #t,PC

pub leap_state : (b : Board) (input : List ℕ) (s : State) (target : ℕ) → let i : Instr = Two MOV false (Imm target) (ToReg 0) in
    done input i (begun (cost b s i) i s) ≡ record (begun (cost b s i) i s) { reg = set_at (begun (cost b s i) i s).reg 0 target }
leap_state b input s target = refl

-- ---- The stretch stays

result_stretch : (op : TwoOp) (src p : Place) (κ : Known) → (with_result op src p κ).stretch ≡ κ.stretch
result_stretch op src (Number v) κ = refl
result_stretch op src (InReg r) κ = refl
result_stretch op src (InReach q) κ = elim (is_certain q) as (λ b. (if b then freshened q.least q.least (with_written op src (Word q.least) κ) else forgetting (hits q.least q.greatest) κ).stretch ≡ κ.stretch) [ true ↦ refl | false ↦ refl ]

two_stretch : (b : Bool) (op : TwoOp) (src p : Place) (κ : Known) → (if b then with_result op src p κ else κ).stretch ≡ κ.stretch
two_stretch true op src p κ = result_stretch op src p κ
two_stretch false op src p κ = refl

one_stretch : (p : Place) (κ : Known) → (computed_one p κ).stretch ≡ κ.stretch
one_stretch (InReg r) κ = refl
one_stretch (Number v) κ = refl
one_stretch (InReach q) κ = refl

pub computed_stretch : (b : Board) (i : Instr) (κ : Known) → (computed b i κ).stretch ≡ κ.stretch
computed_stretch b (Two op byte src dst) κ = two_stretch (writes_destination op) op (source_place κ src) (destination_place κ dst) (with_cost (cost_of b κ (Two op byte src dst)) κ)
computed_stretch b (One op byte src) κ = one_stretch (source_place κ src) (with_cost (cost_of b κ (One op byte src)) κ)
computed_stretch b (Jump on words) κ = refl

-- what is known behind MOV #t,PC
pub leap_holds : (κ : Known) (s : State) (w : Written) (n c target : ℕ) → Holds κ s w n
    → let i : Instr = Two MOV false (Imm target) (ToReg 0) in Holds (with_cost c κ) (record (begun c i s) { reg = set_at (begun c i s).reg 0 target }) (wrote s i w) (n + c)
leap_holds κ s w n c target h =
    let i : Instr = Two MOV false (Imm target) (ToReg 0) in
    holds_more (with_cost c κ) (record (begun c i s) { reg = set_at (begun c i s).reg 0 target }) w (wrote s i w) (n + c) (wrote_more s i w) (jump_holds κ s w n c target i h)

-- a jump moves PC alone
pub jumped : (κ : Known) (s : State) (w : Written) (n c pc : ℕ) (i : Instr) → Holds κ s w n → Holds κ (record (begun c i s) { reg = set_at (begun c i s).reg 0 pc }) w n
jumped κ s w n c pc i h =
    holds_moved κ s (record (begun c i s) { reg = set_at (begun c i s).reg 0 pc }) w n (λ x. same_values s (record (begun c i s) { reg = set_at (begun c i s).reg 0 pc }) x same) h
  where
    same : SameValues s (record (begun c i s) { reg = set_at (begun c i s).reg 0 pc })
    same = record {
      registers = λ r g. ap (λ e. if e then pc else (begun c i s).reg r) (not_special r 0 g (omega arith)) ∙ (begun_same c i s).registers r g;
      sram = refl;
      fram = refl;
      code = refl;
    }

pub fallen_to : (κ : Known) (s : State) (w : Written) (n c : ℕ) (i : Instr) → Holds κ s w n → Holds κ (begun c i s) w n
fallen_to κ s w n c i h = holds_moved κ s (begun c i s) w n (λ x. same_values s (begun c i s) x (begun_same c i s)) h
