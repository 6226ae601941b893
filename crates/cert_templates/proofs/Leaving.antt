-- The templates that end, leap, test and step.
use Rattle.std.proofs.Common.{◌≡◌, ℕ, ◌+◌, ◌*◌, ◌≤◌, true, false, Option, Some, None, List, [], ◌∷◌, refl, ap, ◌∙◌, arith}
use Rattle.std.specs.Prelude.{pos, ◌+ℤ◌, ◌≤ℤ◌, if◌then◌else◌}
use Rattle.std.proofs.lemmas.Int.{ints}
use Rattle.certificate.specs.declared.cert.Slot.TheVariants.{Reg, Word}
use Rattle.msp430_isa.specs.declared.instr.Src.TheVariants.{Imm, Short}
use Rattle.msp430_isa.specs.declared.instr.Dst.TheVariants.{Abs as ToAbs}
use Rattle.msp430_isa.specs.declared.instr.TwoOp.TheVariants.{Add as ADD, Cmp as CMP}
use Rattle.msp430_isa.specs.declared.instr.Cond.TheVariants.{Jne as JNE, Jnc as JNC}
use Rattle.msp430_isa.specs.declared.instr.Instr.TheVariants.{Two, Jump}
use Rattle.msp430_isa.specs.Profile.{is_constant}
use Rattle.msp430_machine.specs.Addresses.{end_port}
use Rattle.msp430_machine.specs.Cost.{instruction_cost}
use Rattle.flow_graph.specs.declared.graph.Operand.{Operand}
use Rattle.op_cost.specs.Templates.{Counted, Homes, code_of, by, once, loads, stores, go, constant, unless}
use Rattle.cert_rules.specs.Ranges.{any_word}
use Rattle.cert_rules.specs.Slots.{is_held, is_memory}
use Rattle.cert_rules.specs.Known.{Known, Test, bare, known_at, with_cost}
use Rattle.cert_rules.specs.Places.{Number, InReach, one_address, may_change, source_place}
use Rattle.cert_rules.specs.Accesses.{stale}
use Rattle.cert_rules.specs.Effects.{test_of}
use Rattle.cert_rules.specs.Sheet.{Sheet}
use Rattle.cert_rules.specs.Shapes.{turns_at}
use Rattle.cert_pieces.specs.Pieces.{Lands, Begins, Here, Stands, Affords, Promises, puts, compares}
use Rattle.cert_templates.specs.Frames.{CodeGoes, CodeEnds, CodeLeaps, CodeTests, OperandFits, WordFits, inner_point, plain_at}
use Rattle.cert_pieces.proofs.Stepping.{leaps_on}
use Rattle.cert_pieces.proofs.Straight.{word_passes, word_compare_passes, passes_on, passes_here, fallen, certain}
use Rattle.cert_templates.proofs.Templates.{constant_reads, nothing_held}
use Rattle.cert_pieces.proofs.Pointing.{spent_plain}
use Rattle.cert_pieces.proofs.Bare.{gone, lost_all, to_bare, affords_plain, into_point, at_point, plain_stands}
use Rattle.cert_pieces.proofs.Edges.{bare_paid, tests_value, tests_below}
use Rattle.cert_templates.proofs.Ending.{finishes_here}
use Rattle.cert_templates.proofs.Loading.{loads_word, compares_register}

-- ---- Go

-- MOV #L,PC, where nothing is asked but what has been spent
pub leaps_here : (t : Sheet) (a target st n : ℕ) → Stands t a (go target) → Lands t (bare st (n + instruction_cost t.board (go target))) target
    → turns_at t (a + 4) ≡ None → Begins t (a + 4) → Here t a (bare st n)
leaps_here t a target st n stands lands turns begins incoming κ e h =
    let c = instruction_cost t.board (go target) in
    leaps_on t a (go target) target incoming (bare st (n + c)) κ (with_cost c κ) stands e refl refl refl (bare_paid c st (n + c) (bare st n) κ refl refl h) lands turns begins

one_spent : (n a : ℕ) → n + a ≤ n + (1 * a + 0)
one_spent n a = omega arith

pub goes : (t : Sheet) (target st n : ℕ) → CodeLeaps t (once (go target ∷ [])) target st n
goes t target st n a start h paid lands after =
    let c = instruction_cost t.board (go target) in
    leaps_here t a target st n (h 0 _ refl).stands (lands (n + c) (one_spent n c)) after.turns after.begins

-- ---- Finish

two_paid : (n a c l : ℕ) → n + (1 * a + (1 * c + 0)) ≤ l → (pos n +ℤ pos (a + (c + 0))) ≤ℤ pos l
two_paid n a c l h = omega (arith, ints, h)

pub finishes : (t : Sheet) (homes : Homes) (o : Operand) (st n : ℕ) → OperandFits homes (λ x. false) o → CodeEnds t (once (loads homes 15 o ∷ stores 15 end_port ∷ [])) st n
finishes t homes o st n fits a start h paid after =
    let s = bare st n in
    let c = instruction_cost t.board (loads homes 15 o) in
    let last = instruction_cost t.board (stores 15 end_port) in
    let load = loads_word t homes 15 o s refl refl refl fits tt in
    let u = puts (Reg 15) any_word c false None s in
    let first : Affords t (c + (last + 0)) s = affords_plain t _ s (pos n) refl (two_paid n c last _ paid) in
    passes_here t gone a _ c s u load (h 0 _ refl).stands
    (fallen t _ _ (last + 0) u (plain_stands t _ _ (h 1 _ refl)) (load.affords (last + 0) first)
    (finishes_here t _ 0 u (h 1 _ refl).stands refl tt (load.affords (last + 0) first) after.turns after.begins))

-- ---- Step

no_test : (d : ℕ) → test_of ADD (Number 1) (InReach (one_address d)) ≡ None
no_test d = nothing_held _ _ (nothing_held (is_held (Word d)) None refl)

-- a word that an operation may change
pub record WordChanges (t : Sheet) (d : ℕ) (s : Known) : Type 0 where
  pub fits : WordFits t d s
  pub may : may_change (one_address d) ≡ true
  pub fresh : stale s d ≡ false

step_spent : (n c : ℕ) → n + c ≡ n + (1 * c + 0)
step_spent n c = omega arith

pub raises : (t : Sheet) (d st n : ℕ) → WordChanges t d (bare st n) → CodeGoes t (once (Two ADD false (Short 1) (ToAbs d) ∷ [])) [] st n
raises t d st n is a start h paid falls =
    let s = bare st n in
    let c = instruction_cost t.board (Two ADD false (Short 1) (ToAbs d)) in
    passes_here t gone a _ c s _ (word_passes t gone s ADD (Short 1) d None (record { even = is.fits.even; may = is.may; named = is.fits.named; reads = omega arith; fresh = is.fresh; carries = refl }) is.fits.goes_on refl
    (λ κ. no_test d) tt (lost_all (Word d))) (h 0 _ refl).stands
    (to_bare t _ st _ _ refl refl (ap (λ m. record { base = pos m; terms = [] }) (step_spent n c)) falls)

-- ---- Test

test_paid : (n a b c d l : ℕ) → n + (1 * a + (1 * b + (1 * c + (1 * d + 0)))) ≤ l → (pos n +ℤ pos (a + (b + (c + d)))) ≤ℤ pos l
test_paid n a b c d l h = omega (arith, ints, h)

go_paid : (n a b c d l : ℕ) → n + (1 * a + (1 * b + (1 * c + (1 * d + 0)))) ≤ l → (pos (n + a + b + c) +ℤ pos 0) ≤ℤ pos l
go_paid n a b c d l h = omega (arith, ints, h)

before_go : (n a b c : ℕ) → pos (n + a + b + c) ≤ℤ pos (n + (1 * a + (1 * b + (1 * c + 0))))
before_go n a b c = omega (arith, ints)

passed_spent : (n a b c d : ℕ) → n + a + b + c ≤ n + (1 * a + (1 * b + (1 * c + (1 * d + 0))))
passed_spent n a b c d = omega arith

failed_spent : (n a b c d : ℕ) → n + (1 * a + (1 * b + (1 * c + 0))) + d ≤ n + (1 * a + (1 * b + (1 * c + (1 * d + 0))))
failed_spent n a b c d = omega arith

abbrev pub testing : Homes → Operand → ℕ → List Counted
testing homes o target = once (loads homes 15 o ∷ by CMP (Short 0) 15 ∷ unless JNE target)

pub tests : (t : Sheet) (homes : Homes) (o : Operand) (target st n : ℕ) → OperandFits homes (λ x. false) o
    → CodeTests t (testing homes o target) (plain_at t.board (testing homes o target) 3 [] ∷ []) target st n
tests t homes o target st n fits a start h paid passed failed after =
    let s = bare st n in
    let b = t.board in
    let code = testing homes o target in
    let c = instruction_cost b (loads homes 15 o) in
    let e = instruction_cost b (by CMP (Short 0) 15) in
    let j = instruction_cost b (Jump JNE (pos 2)) in
    let f = instruction_cost b (go target) in
    let load = loads_word t homes 15 o s refl refl refl fits tt in
    let u = puts (Reg 15) any_word c false None s in
    let test : Option Test = Some (record { of = Reg 15; with = 0; ordered = true }) in
    let compare = compares_register t (Short 0) 15 test u refl refl (omega arith) refl (λ κ. refl) in
    let v = compares e test u in
    let p = inner_point st n a (code_of code) (plain_at b code 3 []) in
    let first : Affords t (c + (e + (j + f))) s = affords_plain t _ s (pos n) refl (test_paid n c e j f _ paid) in
    let second = load.affords (e + (j + f)) first in
    let third = compare.affords (j + f) second in
    let m = n + c + e + j in
    let leap : Here t _ (known_at p) = leaps_here t _ target st _ (h 3 _ refl).stands (failed _ (failed_spent n c e j f)) after.turns after.begins in
    let promised : Promises (bare st m) p = record { stretch = refl; facts = tt; fresh = refl; spent = λ κ has. spent_plain (bare st m) κ p _ _ refl refl (before_go n c e j) has } in
    passes_here t gone a _ c s u load (h 0 _ refl).stands
    (passes_on t gone _ _ e (j + f) u v compare (plain_stands t _ _ (h 1 _ refl)) second
    (fallen t _ _ (j + f) v (plain_stands t _ _ (h 2 _ refl)) third
    (tests_value t _ st m 15 (pos 2) v (h 2 _ refl).stands refl refl refl refl
    (into_point t _ 0 _ p (bare st m) (h 3 _ refl) promised (affords_plain t 0 (bare st m) (pos m) refl (go_paid n c e j f _ paid)) tt leap)
    (passed m (passed_spent n c e j f))
    (at_point t _ _ p (h 3 _ refl) tt leap))))

-- ---- Below

pub constant_place : (κ : Known) (v : ℕ) → source_place κ (constant v) ≡ Number v
constant_place κ v = elim (is_constant v) as (λ c. source_place κ (if c then Short v else Imm v) ≡ Number v) [ true ↦ refl | false ↦ refl ]

-- a word of memory compared with a constant is told of
told_of : (κ : Known) (v d : ℕ) → is_memory d ≡ true → test_of CMP (source_place κ (constant v)) (InReach (one_address d)) ≡ Some (record { of = Word d; with = v; ordered = true })
told_of κ v d held =
    ap (λ p. test_of CMP p (InReach (one_address d))) (constant_place κ v)
    ∙ ap (λ c. if c then (if is_memory d then Some (record { of = Word d; with = v; ordered = true }) else None) else None) (certain d)
    ∙ ap (λ c. if c then Some (record { of = Word d; with = v; ordered = true }) else None) held

abbrev pub staying_below : ℕ → ℕ → ℕ → List Counted
staying_below v d target = once (Two CMP false (constant v) (ToAbs d) ∷ unless JNC target)

below_paid : (n b c d l : ℕ) → n + (1 * b + (1 * c + (1 * d + 0))) ≤ l → (pos n +ℤ pos (b + (c + d))) ≤ℤ pos l
below_paid n b c d l h = omega (arith, ints, h)

leap_paid : (n b c d l : ℕ) → n + (1 * b + (1 * c + (1 * d + 0))) ≤ l → (pos (n + b + c) +ℤ pos 0) ≤ℤ pos l
leap_paid n b c d l h = omega (arith, ints, h)

before_leap : (n b c : ℕ) → pos (n + b + c) ≤ℤ pos (n + (1 * b + (1 * c + 0)))
before_leap n b c = omega (arith, ints)

below_passed : (n b c d : ℕ) → n + b + c ≤ n + (1 * b + (1 * c + (1 * d + 0)))
below_passed n b c d = omega arith

below_failed : (n b c d : ℕ) → n + (1 * b + (1 * c + 0)) + d ≤ n + (1 * b + (1 * c + (1 * d + 0)))
below_failed n b c d = omega arith

pub stays_below : (t : Sheet) (v d target st n : ℕ) → v ≤ 65535 → is_memory d ≡ true → WordChanges t d (bare st n)
    → CodeTests t (staying_below v d target) (plain_at t.board (staying_below v d target) 2 [] ∷ []) target st n
stays_below t v d target st n few held is a start h paid passed failed after =
    let s = bare st n in
    let b = t.board in
    let code = staying_below v d target in
    let e = instruction_cost b (Two CMP false (constant v) (ToAbs d)) in
    let j = instruction_cost b (Jump JNC (pos 2)) in
    let f = instruction_cost b (go target) in
    let test : Option Test = Some (record { of = Word d; with = v; ordered = true }) in
    let compare = word_compare_passes t gone s CMP (constant v) d test
    (record { even = is.fits.even; may = is.may; named = is.fits.named; reads = constant_reads s v few; fresh = is.fresh; carries = refl }) is.fits.goes_on refl refl (λ κ. told_of κ v d held) in
    let u = compares e test s in
    let p = inner_point st n a (code_of code) (plain_at b code 2 []) in
    let first : Affords t (e + (j + f)) s = affords_plain t _ s (pos n) refl (below_paid n e j f _ paid) in
    let second = compare.affords (j + f) first in
    let m = n + e + j in
    let leap : Here t _ (known_at p) = leaps_here t _ target st _ (h 2 _ refl).stands (failed _ (below_failed n e j f)) after.turns after.begins in
    let promised : Promises (bare st m) p = record { stretch = refl; facts = tt; fresh = refl; spent = λ κ has. spent_plain (bare st m) κ p _ _ refl refl (before_leap n e j) has } in
    passes_here t gone a _ e s u compare (h 0 _ refl).stands
    (fallen t _ _ (j + f) u (plain_stands t _ _ (h 1 _ refl)) second
    (tests_below t _ st m v (Word d) (pos 2) u (h 1 _ refl).stands refl refl refl refl
    (into_point t _ 0 _ p (bare st m) (h 2 _ refl) promised (affords_plain t 0 (bare st m) (pos m) refl (leap_paid n e j f _ paid)) tt leap)
    (passed m (below_passed n e j f))
    (at_point t _ _ p (h 2 _ refl) tt leap)))
