-- The straight templates: those without a jump.
use Rattle.std.proofs.Common.{◌≡◌, ℕ, ◌+◌, ◌*◌, ◌≤◌, Bool, true, false, not, Option, None, List, [], ◌∷◌, refl, sym, ap, ◌∙◌, subst, arith}
use Rattle.std.specs.Prelude.{◌++◌, if◌then◌else◌, ◌&&◌, ◌||◌, ◌==◌, nat_le}
use Rattle.std.proofs.lemmas.Bool.Decides.{nat_tests}
use Rattle.board_table.specs.declared.board.Board.{Board}
use Rattle.certificate.specs.declared.cert.Slot.{Slot}
use Rattle.certificate.specs.declared.cert.Slot.TheVariants.{Reg, Word}
use Rattle.msp430_isa.specs.declared.instr.Src.{Src}
use Rattle.msp430_isa.specs.declared.instr.Src.TheVariants.{Reg as FromReg, Abs as FromAbs, Imm, Short}
use Rattle.msp430_isa.specs.declared.instr.TwoOp.{TwoOp}
use Rattle.msp430_isa.specs.declared.instr.TwoOp.TheVariants.{Mov as MOV, Add as ADD, Sub as SUB, Bis as BIS, Xor as XOR, And as AND}
use Rattle.msp430_isa.specs.declared.instr.OneOp.TheVariants.{Sxt as SXT}
use Rattle.msp430_isa.specs.declared.instr.Instr.{Instr}
use Rattle.msp430_isa.specs.declared.instr.Instr.TheVariants.{One}
use Rattle.msp430_isa.specs.Profile.{is_constant}
use Rattle.msp430_isa.specs.Results.{writes_destination}
use Rattle.msp430_machine.specs.Addresses.{in_port, out_port}
use Rattle.msp430_machine.specs.Cost.{instruction_cost}
use Rattle.flow_graph.specs.declared.graph.Operand.{Operand}
use Rattle.flow_graph.specs.declared.graph.Operand.TheVariants.{Const, Object}
use Rattle.flow_graph.specs.declared.graph.Op.{Op}
use Rattle.flow_graph.specs.declared.graph.OpKind.{OpKind}
use Rattle.flow_graph.specs.declared.graph.OpKind.TheVariants as kind
use Rattle.op_cost.specs.Templates.{Counted, Homes, code_of, weight_of, once, by, constant, loads, stores, source, place_of, core, result, unary, binary, template, template_by}
use Rattle.cert_rules.specs.Ranges.{any_word}
use Rattle.cert_rules.specs.Slots.{same_slot, is_held, is_sram}
use Rattle.cert_rules.specs.Overhead.{cost_sum}
use Rattle.cert_rules.specs.Forms.{Computes, kind_of}
use Rattle.cert_rules.specs.Known.{Known, Test, is_set}
use Rattle.cert_rules.specs.Places.{Place, Number, InReg, InReach, source_place}
use Rattle.cert_rules.specs.Effects.{leaves_flags, test_of}
use Rattle.cert_rules.specs.Sheet.{Sheet}
use Rattle.cert_rules.specs.Accesses.{is_kept, needs_carry}
use Rattle.cert_pieces.specs.Pieces.{Falls, Affords, Passes, Runs, done, next, AllStand, Here, AllKept, IsLost, ReadsFrom, puts, puts_word, behind}
use Rattle.cert_templates.specs.Frames.{lost_in, is_scratch, leaves_word, OperandFits, WordFits, PlainCodeFalls}
use Rattle.cert_pieces.proofs.Straight.{any_passes, one_passes, word_passes, runs_here, runs_keep, has_kept, weaken, all_free}

-- ---- Slots

or_left : (b c : Bool) → b || c ≡ false → b ≡ false
or_left true c h = h
or_left false c h = refl

or_second : (b c : Bool) → b || c ≡ false → c ≡ false
or_second true c h = absurd (let no : true ≡ false = h in cc)
or_second false c h = h

pub word_lost : (d : ℕ) → IsLost (lost_in d) (Word d)
word_lost d x h = or_left _ (is_scratch x) h

scratch_only : (q r : ℕ) → nat_le 11 r && nat_le r 15 ≡ true → nat_le 11 q && nat_le q 15 ≡ false → (q == r) ≡ false
scratch_only q r h k = grind (arith, nat_tests)

register_missed : (r : ℕ) → nat_le 11 r && nat_le r 15 ≡ true → (x : Slot) → is_scratch x ≡ false → same_slot x (Reg r) ≡ false
register_missed r h (Reg q) k = scratch_only q r h k
register_missed r h (Word a) k = refl

pub register_lost : (d r : ℕ) → nat_le 11 r && nat_le r 15 ≡ true → IsLost (lost_in d) (Reg r)
register_lost d r h x k = register_missed r h x (or_second (same_slot x (Word d)) _ k)

-- ---- Tests that aren't told

pub nothing_held : (c : Bool) (o : Option Test) → o ≡ None → (if c then o else None) ≡ None
nothing_held true o e = e
nothing_held false o e = refl

pub moves_untested : (p : Place) (r : ℕ) → test_of MOV p (InReg r) ≡ None
moves_untested (Number c) r = nothing_held (is_held (Reg r)) None refl
moves_untested (InReg q) r = refl
moves_untested (InReach p) r = refl

-- ---- Operands

pub constant_reads : (s : Known) (v : ℕ) → v ≤ 65535 → ReadsFrom s (constant v)
constant_reads s v h = elim (is_constant v) as (λ c. ReadsFrom s (if c then Short v else Imm v)) [ true ↦ h | false ↦ h ]

pub operand_reads : (homes : Homes) (s : Known) (o : Operand) → OperandFits homes s.fresh o → ReadsFrom s (source homes o)
operand_reads homes s (Const v) h = constant_reads s v h
operand_reads homes s (Object o) h = h

-- an operand goes to a register of the template
pub load_passes : (t : Sheet) (homes : Homes) (d r : ℕ) (o : Operand) (s : Known) → kind_of (by MOV (source homes o) r) ≡ Computes → is_kept r ≡ false
    → nat_le 11 r && nat_le r 15 ≡ true → OperandFits homes s.fresh o → AllKept (lost_in d) s.spent.terms
    → Passes t (lost_in d) (loads homes r o) (instruction_cost t.board (loads homes r o)) s (puts (Reg r) any_word (instruction_cost t.board (loads homes r o)) s.flags None s)
load_passes t homes d r o s computes lost scratch fits kept =
    any_passes t (lost_in d) s MOV (source homes o) r None
    (record { computes = computes; lost = lost; reads = operand_reads homes s o fits; has = (refl, refl) }) refl
    (λ κ. moves_untested (source_place κ (source homes o)) r) (all_free (lost_in d) (Reg r) s.spent.terms (register_lost d r scratch) kept) (register_lost d r scratch)

-- a register goes to the destination
pub store_passes : (t : Sheet) (d r : ℕ) (s : Known) → is_set s r ≡ true → WordFits t d s
    → Passes t (lost_in d) (stores r d) (instruction_cost t.board (stores r d)) s (puts_word d any_word (instruction_cost t.board (stores r d)) s.flags None s)
store_passes t d r s set fits =
    word_passes t (lost_in d) s MOV (FromReg r) d None
    (record { even = fits.even; may = fits.may; named = fits.named; reads = set; fresh = refl; carries = refl }) fits.goes_on refl
    (λ κ. refl) (all_free (lost_in d) (Word d) s.spent.terms (word_lost d) fits.kept) (word_lost d)

-- an operation on R15 of a constant or of a register that is set
pub works : (t : Sheet) (d : ℕ) (op : TwoOp) (src : Src) (s : Known) → writes_destination op ≡ true → needs_carry op ≡ false → ReadsFrom s src → is_set s 15 ≡ true
    → ((κ : Known) → test_of op (source_place κ src) (InReg 15) ≡ None) → AllKept (lost_in d) s.spent.terms
    → Passes t (lost_in d) (by op src 15) (instruction_cost t.board (by op src 15)) s (puts (Reg 15) any_word (instruction_cost t.board (by op src 15)) (leaves_flags op || s.flags) None s)
works t d op src s writes carry reads set tests kept =
    any_passes t (lost_in d) s op src 15 None
    (record { computes = refl; lost = refl; reads = reads; has = (or_so _ (is_set s 15) set, ap (λ c. not c || s.flags) carry) }) writes
    tests (all_free (lost_in d) (Reg 15) s.spent.terms (register_lost d 15 refl) kept) (register_lost d 15 refl)
  where
    or_so : (b c : Bool) → c ≡ true → b || c ≡ true
    or_so true c h = refl
    or_so false c h = h

-- ---- Whole templates

pub once_weight : (b : Board) (is : List Instr) → weight_of b (once is) ≡ cost_sum b is
once_weight b [] = refl
once_weight b (i ∷ is) = one_time _ _ _ (once_weight b is)
  where
    one_time : (c w v : ℕ) → w ≡ v → 1 * c + w ≡ c + v
    one_time c w v e = omega (arith, e)

pub once_code : (is : List Instr) → code_of (once is) ≡ is
once_code [] = refl
once_code (i ∷ is) = ap (λ js. i ∷ js) (once_code is)

or_either : (c p q : Bool) → (p ≡ true → q ≡ true) → (c ≡ true → q ≡ true) → c || p ≡ true → q ≡ true
or_either true p q h k e = k refl
or_either false p q h k e = h e

-- Straight code that ends with a write of its destination leaves what a template is to leave.
pub straight : (t : Sheet) (d : ℕ) (first : Instr) (rest : List Instr) (s v : Known) → Runs t (lost_in d) s (first ∷ rest) (cost_sum t.board (first ∷ rest)) v → v.test ≡ None
    → ((a : ℕ) → nat_le d a && nat_le a d && is_sram a ≡ true → v.fresh a ≡ true)
    → (a more : ℕ) → AllStand t a (first ∷ rest) → Affords t (weight_of t.board (once (first ∷ rest)) + more) s → Falls t (leaves_word d (weight_of t.board (once (first ∷ rest))) s) (behind a (first ∷ rest)) → Here t a s
straight t d first rest s v r test fresh a more p affords falls =
    let is = first ∷ rest in
    let w = cost_sum t.board is in
    let e = once_weight t.board is in
    let k = runs_keep t (lost_in d) s v is w r in
    let affords' : Affords t (w + more) s = subst (λ n. Affords t (n + more) s) e affords in
    let falls' : Falls t (leaves_word d w s) (behind a is) = subst (λ n. Falls t (leaves_word d n s) (behind a is)) e falls in
    runs_here t (lost_in d) a more s v first rest w r p affords'
    (weaken t (behind a is) v (leaves_word d w s) k.stretch (λ κ h.
    let kept = has_kept (lost_in d) w s v κ k test h in
    record {
      stretch = kept.stretch;
      spent = kept.spent;
      range = kept.range;
      fresh = λ x e. or_either _ (s.fresh x) (κ.fresh x) (kept.fresh x) (λ hit. h.fresh x (fresh x hit)) e;
      flags = kept.flags;
      test = kept.test;
      words = kept.words;
    }) falls')

-- the destination is fresh behind a write of it
pub written : (d : ℕ) (u : Known) (a : ℕ) → nat_le d a && nat_le a d && is_sram a ≡ true → (nat_le d a && nat_le a d && is_sram a) || u.fresh a ≡ true
written d u a h = ap (λ b. b || u.fresh a) h

-- one instruction, and those behind it, with the sum of their costs
pub chain : (t : Sheet) (lost : Slot → Bool) (s u v : Known) (i : Instr) (is : List Instr) → Passes t lost i (instruction_cost t.board i) s u → Runs t lost u is (cost_sum t.board is) v
    → Runs t lost s (i ∷ is) (cost_sum t.board (i ∷ is)) v
chain t lost s u v i is passes rest = next s u v i is (instruction_cost t.board i) (cost_sum t.board is) passes rest

-- what a template of one operand, and of two, is asked for
pub record UnaryFits (t : Sheet) (homes : Homes) (op : Op) (s : Known) : Type 0 where
  pub a : OperandFits homes s.fresh op.a
  pub dest : WordFits t (place_of homes op.dest) s

pub record BinaryFits (t : Sheet) (homes : Homes) (op : Op) (s : Known) : Type 0 where
  pub a : OperandFits homes s.fresh op.a
  pub b : OperandFits homes s.fresh op.b
  pub dest : WordFits t (place_of homes op.dest) s

-- what the loads of one operand, and of two, leave
abbrev pub with_a : Sheet → Homes → Op → Known → Known
with_a t homes op s = puts (Reg 15) any_word (instruction_cost t.board (loads homes 15 op.a)) s.flags None s

abbrev pub with_b : Sheet → Homes → Op → Known → Known
with_b t homes op s = puts (Reg 14) any_word (instruction_cost t.board (loads homes 14 op.b)) s.flags None (with_a t homes op s)

pub loads_a : (t : Sheet) (homes : Homes) (op : Op) (s : Known) → OperandFits homes s.fresh op.a → AllKept (lost_in (place_of homes op.dest)) s.spent.terms
    → Passes t (lost_in (place_of homes op.dest)) (loads homes 15 op.a) (instruction_cost t.board (loads homes 15 op.a)) s (with_a t homes op s)
loads_a t homes op s fits kept = load_passes t homes (place_of homes op.dest) 15 op.a s refl refl refl fits kept

pub loads_b : (t : Sheet) (homes : Homes) (op : Op) (s : Known) → OperandFits homes s.fresh op.b → AllKept (lost_in (place_of homes op.dest)) s.spent.terms
    → Passes t (lost_in (place_of homes op.dest)) (loads homes 14 op.b) (instruction_cost t.board (loads homes 14 op.b)) (with_a t homes op s) (with_b t homes op s)
loads_b t homes op s fits kept = load_passes t homes (place_of homes op.dest) 14 op.b (with_a t homes op s) refl refl refl fits kept

-- the destination still fits behind code that leaves its terms
pub fits_on : (t : Sheet) (d : ℕ) (s u : Known) → u.spent.terms ≡ s.spent.terms → WordFits t d s → WordFits t d u
fits_on t d s u e fits = record { even = fits.even; may = fits.may; goes_on = fits.goes_on; named = fits.named; kept = subst (λ terms. AllKept (lost_in d) terms) (sym e) fits.kept }

-- what is proved of code is proved of a template that is this code
named : (t : Sheet) (homes : Homes) (target d : ℕ) (op : Op) (s : Known) (code : List Counted) → template homes target op ≡ code
    → PlainCodeFalls t code s (leaves_word d (weight_of t.board code) s)
    → PlainCodeFalls t (template homes target op) s (leaves_word d (weight_of t.board (template homes target op)) s)
named t homes target d op s code e h = subst (λ c. PlainCodeFalls t c s (leaves_word d (weight_of t.board c) s)) (sym e) h

-- that the template of an operation passes, whose word is this one
abbrev pub TemplatePasses : Sheet → Homes → ℕ → Op → ℕ → Known → Type 0
TemplatePasses t homes target op d s = PlainCodeFalls t (template homes target op) s (leaves_word d (weight_of t.board (template homes target op)) s)

unary_is : (homes : Homes) (op : Op) (k : OpKind) → op.kind ≡ k → unary homes op ≡ once (loads homes 15 op.a ∷ []) ++ core k ++ once (stores (result k) (place_of homes op.dest) ∷ [])
unary_is homes op k e = ap (λ k. once (loads homes 15 op.a ∷ []) ++ core k ++ once (stores (result k) (place_of homes op.dest) ∷ [])) e

binary_is : (homes : Homes) (op : Op) (k : OpKind) → op.kind ≡ k → binary homes op ≡ once (loads homes 15 op.a ∷ loads homes 14 op.b ∷ []) ++ core k ++ once (stores (result k) (place_of homes op.dest) ∷ [])
binary_is homes op k e = ap (λ k. once (loads homes 15 op.a ∷ loads homes 14 op.b ∷ []) ++ core k ++ once (stores (result k) (place_of homes op.dest) ∷ [])) e

-- Copy
pub copies : (t : Sheet) (homes : Homes) (target : ℕ) (op : Op) (s : Known) → op.kind ≡ kind.Copy → UnaryFits t homes op s → TemplatePasses t homes target op (place_of homes op.dest) s
copies t homes target op s e fits =
    named t homes target (place_of homes op.dest) op s _ (ap (λ k. template_by k homes target op) e ∙ unary_is homes op kind.Copy e) (
    let d = place_of homes op.dest in
    let u = with_a t homes op s in
    straight t d (loads homes 15 op.a) (stores 15 d ∷ []) s _
    (chain t _ s u _ _ _ (loads_a t homes op s fits.a fits.dest.kept)
    (chain t _ u _ _ _ _ (store_passes t d 15 u refl (fits_on t d s u refl fits.dest)) (done _)))
    refl (written d u))

-- one instruction on R15 between the load and the store: a constant's, or SXT
between_a : (t : Sheet) (homes : Homes) (op : Op) (s v : Known) (i : Instr) → UnaryFits t homes op s
    → Passes t (lost_in (place_of homes op.dest)) i (instruction_cost t.board i) (with_a t homes op s) v → is_set v 15 ≡ true → v.spent.terms ≡ s.spent.terms
    → PlainCodeFalls t (once (loads homes 15 op.a ∷ i ∷ stores 15 (place_of homes op.dest) ∷ [])) s
    (leaves_word (place_of homes op.dest) (weight_of t.board (once (loads homes 15 op.a ∷ i ∷ stores 15 (place_of homes op.dest) ∷ []))) s)
between_a t homes op s v i fits passes set terms =
    let d = place_of homes op.dest in
    let u = with_a t homes op s in
    straight t d (loads homes 15 op.a) (i ∷ stores 15 d ∷ []) s _
    (chain t _ s u _ _ _ (loads_a t homes op s fits.a fits.dest.kept)
    (chain t _ u v _ _ _ passes
    (chain t _ v _ _ _ _ (store_passes t d 15 v set (fits_on t d s v terms fits.dest)) (done _))))
    refl (written d v)

pub inverts : (t : Sheet) (homes : Homes) (target : ℕ) (op : Op) (s : Known) → op.kind ≡ kind.Inv → UnaryFits t homes op s → TemplatePasses t homes target op (place_of homes op.dest) s
inverts t homes target op s e fits =
    named t homes target (place_of homes op.dest) op s _ (ap (λ k. template_by k homes target op) e ∙ unary_is homes op kind.Inv e) (
    between_a t homes op s _ (by XOR (Short 65535) 15) fits (works t (place_of homes op.dest) XOR (Short 65535) (with_a t homes op s) refl refl (omega arith) refl (λ κ. refl) fits.dest.kept) refl refl)

pub to_u8s : (t : Sheet) (homes : Homes) (target : ℕ) (op : Op) (s : Known) → op.kind ≡ kind.ToU8 → UnaryFits t homes op s → TemplatePasses t homes target op (place_of homes op.dest) s
to_u8s t homes target op s e fits =
    named t homes target (place_of homes op.dest) op s _ (ap (λ k. template_by k homes target op) e ∙ unary_is homes op kind.ToU8 e) (
    between_a t homes op s _ (by AND (Imm 255) 15) fits (works t (place_of homes op.dest) AND (Imm 255) (with_a t homes op s) refl refl (omega arith) refl (λ κ. refl) fits.dest.kept) refl refl)

pub to_s8s : (t : Sheet) (homes : Homes) (target : ℕ) (op : Op) (s : Known) → op.kind ≡ kind.ToS8 → UnaryFits t homes op s → TemplatePasses t homes target op (place_of homes op.dest) s
to_s8s t homes target op s e fits =
    named t homes target (place_of homes op.dest) op s _ (ap (λ k. template_by k homes target op) e ∙ unary_is homes op kind.ToS8 e) (
    let d = place_of homes op.dest in
    between_a t homes op s _ (One SXT false (FromReg 15)) fits
    (one_passes t (lost_in d) (with_a t homes op s) SXT 15 refl refl refl (all_free (lost_in d) (Reg 15) s.spent.terms (register_lost d 15 refl) fits.dest.kept) (register_lost d 15 refl)) refl refl)

-- Neg: two instructions between
pub negates : (t : Sheet) (homes : Homes) (target : ℕ) (op : Op) (s : Known) → op.kind ≡ kind.Neg → UnaryFits t homes op s → TemplatePasses t homes target op (place_of homes op.dest) s
negates t homes target op s e fits =
    named t homes target (place_of homes op.dest) op s _ (ap (λ k. template_by k homes target op) e ∙ unary_is homes op kind.Neg e) (
    let d = place_of homes op.dest in
    let u = with_a t homes op s in
    let v = puts (Reg 15) any_word (instruction_cost t.board (by XOR (Short 65535) 15)) true None u in
    let w = puts (Reg 15) any_word (instruction_cost t.board (by ADD (Short 1) 15)) true None v in
    straight t d (loads homes 15 op.a) (by XOR (Short 65535) 15 ∷ by ADD (Short 1) 15 ∷ stores 15 d ∷ []) s _
    (chain t _ s u _ _ _ (loads_a t homes op s fits.a fits.dest.kept)
    (chain t _ u v _ _ _ (works t d XOR (Short 65535) u refl refl (omega arith) refl (λ κ. refl) fits.dest.kept)
    (chain t _ v w _ _ _ (works t d ADD (Short 1) v refl refl (omega arith) refl (λ κ. refl) fits.dest.kept)
    (chain t _ w _ _ _ _ (store_passes t d 15 w refl (fits_on t d s w refl fits.dest)) (done _)))))
    refl (written d w))

-- an operation of two operands that is one instruction
two_operands : (t : Sheet) (homes : Homes) (op : Op) (s : Known) (o : TwoOp) → writes_destination o ≡ true → needs_carry o ≡ false
    → test_of o (InReg 14) (InReg 15) ≡ None → BinaryFits t homes op s
    → PlainCodeFalls t (once (loads homes 15 op.a ∷ loads homes 14 op.b ∷ by o (FromReg 14) 15 ∷ stores 15 (place_of homes op.dest) ∷ [])) s
    (leaves_word (place_of homes op.dest) (weight_of t.board (once (loads homes 15 op.a ∷ loads homes 14 op.b ∷ by o (FromReg 14) 15 ∷ stores 15 (place_of homes op.dest) ∷ []))) s)
two_operands t homes op s o writes carry tests fits =
    let d = place_of homes op.dest in
    let u = with_a t homes op s in
    let v = with_b t homes op s in
    let w = puts (Reg 15) any_word (instruction_cost t.board (by o (FromReg 14) 15)) (leaves_flags o || s.flags) None v in
    straight t d (loads homes 15 op.a) (loads homes 14 op.b ∷ by o (FromReg 14) 15 ∷ stores 15 d ∷ []) s _
    (chain t _ s u _ _ _ (loads_a t homes op s fits.a fits.dest.kept)
    (chain t _ u v _ _ _ (loads_b t homes op s fits.b fits.dest.kept)
    (chain t _ v w _ _ _ (works t d o (FromReg 14) v writes carry refl refl (λ κ. tests) fits.dest.kept)
    (chain t _ w _ _ _ _ (store_passes t d 15 w refl (fits_on t d s w refl fits.dest)) (done _)))))
    refl (written d w)

pub adds : (t : Sheet) (homes : Homes) (target : ℕ) (op : Op) (s : Known) → op.kind ≡ kind.Add → BinaryFits t homes op s → TemplatePasses t homes target op (place_of homes op.dest) s
adds t homes target op s e fits =
    named t homes target (place_of homes op.dest) op s _ (ap (λ k. template_by k homes target op) e ∙ binary_is homes op kind.Add e) (
    two_operands t homes op s ADD refl refl refl fits)

pub subtracts : (t : Sheet) (homes : Homes) (target : ℕ) (op : Op) (s : Known) → op.kind ≡ kind.Sub → BinaryFits t homes op s → TemplatePasses t homes target op (place_of homes op.dest) s
subtracts t homes target op s e fits =
    named t homes target (place_of homes op.dest) op s _ (ap (λ k. template_by k homes target op) e ∙ binary_is homes op kind.Sub e) (
    two_operands t homes op s SUB refl refl refl fits)

pub ands : (t : Sheet) (homes : Homes) (target : ℕ) (op : Op) (s : Known) → op.kind ≡ kind.BitAnd → BinaryFits t homes op s → TemplatePasses t homes target op (place_of homes op.dest) s
ands t homes target op s e fits =
    named t homes target (place_of homes op.dest) op s _ (ap (λ k. template_by k homes target op) e ∙ binary_is homes op kind.BitAnd e) (
    two_operands t homes op s AND refl refl refl fits)

pub ors : (t : Sheet) (homes : Homes) (target : ℕ) (op : Op) (s : Known) → op.kind ≡ kind.BitOr → BinaryFits t homes op s → TemplatePasses t homes target op (place_of homes op.dest) s
ors t homes target op s e fits =
    named t homes target (place_of homes op.dest) op s _ (ap (λ k. template_by k homes target op) e ∙ binary_is homes op kind.BitOr e) (
    two_operands t homes op s BIS refl refl refl fits)

pub xors : (t : Sheet) (homes : Homes) (target : ℕ) (op : Op) (s : Known) → op.kind ≡ kind.BitXor → BinaryFits t homes op s → TemplatePasses t homes target op (place_of homes op.dest) s
xors t homes target op s e fits =
    named t homes target (place_of homes op.dest) op s _ (ap (λ k. template_by k homes target op) e ∙ binary_is homes op kind.BitXor e) (
    two_operands t homes op s XOR refl refl refl fits)

-- Input, and Output
in_reads : (s : Known) → ReadsFrom s (FromAbs in_port)
in_reads s = (refl, refl, refl)

pub inputs : (t : Sheet) (homes : Homes) (target : ℕ) (op : Op) (s : Known) → op.kind ≡ kind.Input → WordFits t (place_of homes op.dest) s → TemplatePasses t homes target op (place_of homes op.dest) s
inputs t homes target op s e fits =
    named t homes target (place_of homes op.dest) op s _ (ap (λ k. template_by k homes target op) e) (
    let d = place_of homes op.dest in
    let u = puts (Reg 15) any_word (instruction_cost t.board (by MOV (FromAbs in_port) 15)) s.flags None s in
    straight t d (by MOV (FromAbs in_port) 15) (stores 15 d ∷ []) s _
    (chain t _ s u _ _ _ (any_passes t (lost_in d) s MOV (FromAbs in_port) 15 None (record { computes = refl; lost = refl; reads = in_reads s; has = (refl, refl) }) refl
    (λ κ. refl) (all_free (lost_in d) (Reg 15) s.spent.terms (register_lost d 15 refl) fits.kept) (register_lost d 15 refl))
    (chain t _ u _ _ _ _ (store_passes t d 15 u refl (fits_on t d s u refl fits)) (done _)))
    refl (written d u))

pub outputs : (t : Sheet) (homes : Homes) (target : ℕ) (op : Op) (s : Known) → op.kind ≡ kind.Output → OperandFits homes s.fresh op.a → WordFits t out_port s → TemplatePasses t homes target op out_port s
outputs t homes target op s e a fits =
    named t homes target out_port op s _ (ap (λ k. template_by k homes target op) e) (
    let u = with_a t homes op s in
    straight t out_port (loads homes 15 op.a) (stores 15 out_port ∷ []) s _
    (chain t _ s u _ _ _ (load_passes t homes out_port 15 op.a s refl refl refl a fits.kept)
    (chain t _ u _ _ _ _ (store_passes t out_port 15 u refl (fits_on t out_port s u refl fits)) (done _)))
    refl (written out_port u))
