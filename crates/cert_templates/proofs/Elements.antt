-- The templates of Load and Store.
use Rattle.std.proofs.Common.{◌≡◌, ℕ, ◌+◌, ◌*◌, ◌-◌, ◌≤◌, true, false, Option, Some, None, List, [], ◌∷◌, refl, sym, ap, ◌∙◌, subst, arith}
use Rattle.std.specs.Prelude.{pos, ◌+ℤ◌, ◌≤ℤ◌, nat_le, is_some, ◌++◌, if◌then◌else◌}
use Rattle.std.proofs.lemmas.Int.{ints}
use Rattle.std.proofs.lemmas.Bool.Decides.{nat_tests}
use Rattle.certificate.specs.declared.cert.Slot.TheVariants.{Reg}
use Rattle.msp430_isa.specs.declared.instr.Src.TheVariants.{Reg as FromReg}
use Rattle.msp430_isa.specs.declared.instr.TwoOp.TheVariants.{Add as ADD, Cmp as CMP}
use Rattle.msp430_isa.specs.declared.instr.Cond.TheVariants.{Jnc as JNC}
use Rattle.msp430_isa.specs.declared.instr.Instr.{Instr}
use Rattle.msp430_isa.specs.declared.instr.Instr.TheVariants.{Jump}
use Rattle.msp430_machine.specs.Cost.{instruction_cost}
use Rattle.flow_graph.specs.declared.graph.Operand.{Operand}
use Rattle.op_cost.specs.Templates.{Counted, Homes, code_of, by, once, weight_of, loads, stores, constant, trap, index_code}
use Rattle.cert_rules.specs.Ranges.{Range, any_word, doubled, with_even}
use Rattle.cert_rules.specs.Known.{Known, Test, bare, known_at, range_of, is_set}
use Rattle.cert_rules.specs.Places.{InReg, source_place}
use Rattle.cert_rules.specs.Effects.{test_of, computed}
use Rattle.cert_rules.specs.Sheet.{Sheet}
use Rattle.cert_pieces.specs.Pieces.{Has, Falls, Here, address_in, Affords, Passes, Narrower, Free, narrower, puts, compares, pays, narrows_to}
use Rattle.cert_templates.specs.Frames.{CodeGoes, OperandFits, WordFits, inner_point, plain_at, ranging, any_fact, trapping_at}
use Rattle.cert_pieces.proofs.Writing.{any_range}
use Rattle.cert_pieces.proofs.Straight.{register_passes, passes_on, passes_here}
use Rattle.cert_templates.proofs.Templates.{constant_reads, fits_on}
use Rattle.cert_pieces.proofs.Pointing.{spent_plain}
use Rattle.cert_pieces.proofs.Jumping.{jumps_below, up_to}
use Rattle.cert_pieces.proofs.Bare.{gone, lost_all, bare_has, to_bare, affords_plain, plain_stands}
use Rattle.cert_pieces.proofs.Edges.{asked_within}
use Rattle.cert_templates.proofs.Leaving.{constant_place}
use Rattle.cert_templates.proofs.Loading.{loads_word, compares_register, stores_word}
use Rattle.cert_pieces.proofs.Exact.{this_falls, this_fallen, plain_here, falls_on_this, is_at_point}
use Rattle.cert_templates.proofs.Indexing.{ArrayLies, doubled_below, reading, writing, reads_own, reads_goes, reads_has, writes_own, writes_goes, writes_has}
use Rattle.cert_templates.proofs.Checking.{checks}

-- ---- The index is compared, and doubled

compared_with : (κ : Known) (n : ℕ) → test_of CMP (source_place κ (constant n)) (InReg 14) ≡ Some (record { of = Reg 14; with = n; ordered = true })
compared_with κ n = ap (λ p. test_of CMP p (InReg 14)) (constant_place κ n)

le_true : (a b : ℕ) → a ≤ b → nat_le a b ≡ true
le_true a b h = grind (arith, nat_tests)

doubled_is : (n : ℕ) → 2 * (n - 1) ≤ 65535 → Some (doubled (up_to n)) ≡ Some (doubled_below n)
doubled_is n few = ap (λ c. Some (if c then record { least = 0; greatest = 2 * (n - 1); even = true } else with_even true)) (le_true (2 * (n - 1)) 65535 few)

doubled_told : (n : ℕ) (r : Range) → 2 * (n - 1) ≤ 65535 → Narrower r (up_to n) → Narrower (doubled r) (doubled_below n)
doubled_told n r few h =
    let most = h.greatest in
    subst (λ c. Narrower (if c then record { least = 2 * r.least; greatest = 2 * r.greatest; even = true } else with_even true) (doubled_below n)) (sym (le_true (2 * r.greatest) 65535 (omega (arith, most, few))))
    (record { least = omega arith; greatest = omega (arith, most); even = λ e. refl })

abbrev adding : Instr
adding = by ADD (FromReg 14) 14

doubles : (t : Sheet) (n : ℕ) (s : Known) → 2 * (n - 1) ≤ 65535 → s.range (Reg 14) ≡ Some (up_to n) → s.spent.terms ≡ []
    → Passes t gone adding (instruction_cost t.board adding) s (puts (Reg 14) (doubled_below n) (instruction_cost t.board adding) true None s)
doubles t n s few range none =
    let set : is_set s 14 ≡ true = ap (λ o. is_some o) range in
    register_passes t gone s ADD (FromReg 14) 14 (doubled_below n) None (record { computes = refl; lost = refl; reads = set; has = (set, refl) }) refl (λ κ. refl)
    (subst (λ terms. Free (Reg 14) terms) (sym none) tt) (lost_all (Reg 14))
    (λ κ has. doubled_told n (range_of κ (Reg 14)) few (asked_within s κ (Reg 14) (up_to n) range has))

-- ---- Load

abbrev loading : Homes → Operand → ℕ → ℕ → ℕ → List Counted
loading homes o n x d = once (loads homes 14 o ∷ (index_code n ++ reading x ∷ stores 15 d ∷ []))

few_bytes : (x n : ℕ) → ArrayLies x n → 2 * (n - 1) ≤ 65535
few_bytes x n h = let high = h.high in omega (arith, high)

few_words : (x n : ℕ) → ArrayLies x n → n ≤ 65535
few_words x n h = let high = h.high in omega (arith, high)

first_paid : (n c e j f g r w l : ℕ) → n + (1 * c + (1 * e + (1 * j + (1 * f + (1 * g + (1 * r + (1 * w + 0))))))) ≤ l → (pos (n) +ℤ pos (c + (e + j))) ≤ℤ pos l
first_paid n c e j f g r w l h = omega (arith, ints, h)

compare_paid : (n c e j f g r w l : ℕ) → n + (1 * c + (1 * e + (1 * j + (1 * f + (1 * g + (1 * r + (1 * w + 0))))))) ≤ l → (pos (n + c) +ℤ pos (e + j)) ≤ℤ pos l
compare_paid n c e j f g r w l h = omega (arith, ints, h)

jump_paid : (n c e j f g r w l : ℕ) → n + (1 * c + (1 * e + (1 * j + (1 * f + (1 * g + (1 * r + (1 * w + 0))))))) ≤ l → (pos (n + c + e + j) +ℤ pos (0)) ≤ℤ pos l
jump_paid n c e j f g r w l h = omega (arith, ints, h)

trap_paid : (n c e j f g r w l : ℕ) → n + (1 * c + (1 * e + (1 * j + (1 * f + (1 * g + (1 * r + (1 * w + 0))))))) ≤ l → (pos (n + (1 * c + (1 * e + (1 * j + 0)))) +ℤ pos (f + 0)) ≤ℤ pos l
trap_paid n c e j f g r w l h = omega (arith, ints, h)

read_paid : (n c e j f g r w l : ℕ) → n + (1 * c + (1 * e + (1 * j + (1 * f + (1 * g + (1 * r + (1 * w + 0))))))) ≤ l → (pos (n + (1 * c + (1 * e + (1 * j + (1 * f + 0)))) + g) +ℤ pos (0)) ≤ℤ pos l
read_paid n c e j f g r w l h = omega (arith, ints, h)

store_paid : (n c e j f g r w l : ℕ) → n + (1 * c + (1 * e + (1 * j + (1 * f + (1 * g + (1 * r + (1 * w + 0))))))) ≤ l → (pos (n + (1 * c + (1 * e + (1 * j + (1 * f + 0)))) + g + r) +ℤ pos (w + 0)) ≤ℤ pos l
store_paid n c e j f g r w l h = omega (arith, ints, h)

all_spent : (n c e j f g r w : ℕ) → n + (1 * c + (1 * e + (1 * j + (1 * f + 0)))) + g + r + w ≡ n + (1 * c + (1 * e + (1 * j + (1 * f + (1 * g + (1 * r + (1 * w + 0)))))))
all_spent n c e j f g r w = omega arith

at_trap : (n c e j : ℕ) → pos (n + c + e + j) ≤ℤ pos (n + (1 * c + (1 * e + (1 * j + 0))))
at_trap n c e j = omega (arith, ints)

behind_trap : (n c e j f : ℕ) → pos (n + c + e + j) ≤ℤ pos (n + (1 * c + (1 * e + (1 * j + (1 * f + 0)))))
behind_trap n c e j f = omega (arith, ints)

few_index : (x n : ℕ) → ArrayLies x n → n - 1 ≤ 65535
few_index x n h = let high = h.high in omega (arith, high)

pub loads_element : (t : Sheet) (homes : Homes) (o : Operand) (len x d st n : ℕ) → OperandFits homes (λ a. false) o → ArrayLies x len → WordFits t d (bare st n)
    → CodeGoes t (loading homes o len x d) (trapping_at t.board (loading homes o len x d) 3 (ranging 14 0 (len - 1) ∷ [])) st n
loads_element t homes o len x d st n fits lies dest a start h paid falls =
    let b = t.board in
    let code = loading homes o len x d in
    let s = bare st n in
    let c = instruction_cost b (loads homes 14 o) in
    let e = instruction_cost b (by CMP (constant len) 14) in
    let j = instruction_cost b (Jump JNC (pos 2)) in
    let f = instruction_cost b (trap 2) in
    let g = instruction_cost b adding in
    let r = instruction_cost b (reading x) in
    let w = instruction_cost b (stores 15 d) in
    let few = few_bytes x len lies in
    let load = loads_word t homes 14 o s refl refl refl fits tt in
    let u = puts (Reg 14) any_word c false None s in
    let test : Option Test = Some (record { of = Reg 14; with = len; ordered = true }) in
    let v = compares e test u in
    let fall = narrows_to (Reg 14) any_word (pays j v) in
    let jump = narrows_to (Reg 14) (up_to len) (pays j v) in
    let p = inner_point st n a (code_of code) (plain_at b code 3 []) in
    let q = inner_point st n a (code_of code) (plain_at b code 4 (ranging 14 0 (len - 1) ∷ [])) in
    let double = doubles t len (known_at q) few refl refl in
    let even = puts (Reg 14) (doubled_below len) g true None (known_at q) in
    let read = puts (Reg 15) any_word r true None even in
    let at_read : Affords t 0 even = affords_plain t 0 even _ refl (read_paid n c e j f g r w _ paid) in
    let stored : Falls t read _ = passes_on t gone _ _ w 0 read _ (stores_word t d 15 read refl (fits_on t d s read refl dest) tt) (plain_stands t _ _ (h 6 _ refl)) (affords_plain t _ read _ refl (store_paid n c e j f g r w _ paid))
    (to_bare t _ st _ _ refl refl (ap (λ m. record { base = pos m; terms = [] }) (all_spent n c e j f g r w)) falls) in
    let here : Here t _ (known_at q) = λ incoming κ known has.
    let same = is_at_point t _ q incoming κ (h 4 _ refl).point known in
    let next = computed b adding κ in
    let has' = double.has κ has in
    let exact : next.range (Reg 14) ≡ Some (doubled_below len) = subst (λ ρ. (computed b adding ρ).range (Reg 14) ≡ Some (doubled_below len)) (sym same) (doubled_is len few) in
    let last = reads_has b x len even next lies exact refl has' in
    falls_on_this t _ adding incoming κ next (h 4 _ refl).stands known (double.own _ κ has) (double.goes (address_in a (code_of code) 5) κ has) (has.stretch ∙ sym has'.stretch)
    (this_fallen t _ 0 (reading x) even next has' (plain_stands t _ _ (h 5 _ refl)) at_read
    (falls_on_this t _ (reading x) (Some next) next (computed b (reading x) next) (h 5 _ refl).stands (plain_here t _ (reading x) next (plain_stands t _ _ (h 5 _ refl)))
    (reads_own t _ x len next lies exact (ap (λ o. is_some o) exact)) (reads_goes t (address_in a (code_of code) 6) x next) (has'.stretch ∙ sym last.stretch)
    (this_falls t _ read (computed b (reading x) next) last stored))) in
    passes_here t gone a _ c s u load (h 0 _ refl).stands
    (checks t _ (by CMP (constant len) 14) JNC 2 adding u v fall jump p q
    (record { compare = h 1 _ refl; jump = h 2 _ refl; traps = h 3 _ refl; passed = h 4 _ refl })
    (record {
      more = j;
      compares = compares_register t (constant len) 14 test u refl refl (constant_reads u len (few_words x len lies)) refl (λ κ. compared_with κ len);
      is_trap = (omega arith, λ κ. refl);
      fails = record { stretch = refl; facts = tt; fresh = refl; spent = λ κ has. spent_plain fall κ p _ _ refl refl (at_trap n c e j) has };
      passes = record { stretch = refl; facts = (narrower _ _ (record { least = omega arith; greatest = omega arith; even = λ z. z }), tt); fresh = refl; spent = λ κ has. spent_plain jump κ q _ _ refl refl (behind_trap n c e j f) has };
      first = affords_plain t _ u _ refl (compare_paid n c e j f g r w _ paid);
      failed = affords_plain t 0 fall _ refl (jump_paid n c e j f g r w _ paid);
      passed = affords_plain t 0 jump _ refl (jump_paid n c e j f g r w _ paid);
      trapped = affords_plain t _ (known_at p) _ refl (trap_paid n c e j f g r w _ paid);
      words = tt;
      words_passed = (few_index x len lies, tt);
      free = tt;
    })
    (λ falls lands begins. jumps_below t _ 14 len (pos 2) v (h 2 _ refl).stands refl refl falls lands begins)
    here)

-- ---- Store

abbrev storing : Homes → Operand → Operand → ℕ → ℕ → List Counted
storing homes v o n x = once (loads homes 15 v ∷ loads homes 14 o ∷ (index_code n ++ writing x ∷ []))

value_paid : (n z c e j f g w l : ℕ) → n + (1 * z + (1 * c + (1 * e + (1 * j + (1 * f + (1 * g + (1 * w + 0))))))) ≤ l → (pos (n) +ℤ pos (z + (c + (e + j)))) ≤ℤ pos l
value_paid n z c e j f g w l h = omega (arith, ints, h)

index_paid : (n z c e j f g w l : ℕ) → n + (1 * z + (1 * c + (1 * e + (1 * j + (1 * f + (1 * g + (1 * w + 0))))))) ≤ l → (pos (n + z) +ℤ pos (c + (e + j))) ≤ℤ pos l
index_paid n z c e j f g w l h = omega (arith, ints, h)

store_compare_paid : (n z c e j f g w l : ℕ) → n + (1 * z + (1 * c + (1 * e + (1 * j + (1 * f + (1 * g + (1 * w + 0))))))) ≤ l → (pos (n + z + c) +ℤ pos (e + j)) ≤ℤ pos l
store_compare_paid n z c e j f g w l h = omega (arith, ints, h)

store_jump_paid : (n z c e j f g w l : ℕ) → n + (1 * z + (1 * c + (1 * e + (1 * j + (1 * f + (1 * g + (1 * w + 0))))))) ≤ l → (pos (n + z + c + e + j) +ℤ pos (0)) ≤ℤ pos l
store_jump_paid n z c e j f g w l h = omega (arith, ints, h)

store_trap_paid : (n z c e j f g w l : ℕ) → n + (1 * z + (1 * c + (1 * e + (1 * j + (1 * f + (1 * g + (1 * w + 0))))))) ≤ l → (pos (n + (1 * z + (1 * c + (1 * e + (1 * j + 0))))) +ℤ pos (f + 0)) ≤ℤ pos l
store_trap_paid n z c e j f g w l h = omega (arith, ints, h)

write_paid : (n z c e j f g w l : ℕ) → n + (1 * z + (1 * c + (1 * e + (1 * j + (1 * f + (1 * g + (1 * w + 0))))))) ≤ l → (pos (n + (1 * z + (1 * c + (1 * e + (1 * j + (1 * f + 0))))) + g) +ℤ pos (0)) ≤ℤ pos l
write_paid n z c e j f g w l h = omega (arith, ints, h)

store_spent : (n z c e j f g w : ℕ) → n + (1 * z + (1 * c + (1 * e + (1 * j + (1 * f + 0))))) + g + w ≡ n + (1 * z + (1 * c + (1 * e + (1 * j + (1 * f + (1 * g + (1 * w + 0)))))))
store_spent n z c e j f g w = omega arith

at_store_trap : (n z c e j : ℕ) → pos (n + z + c + e + j) ≤ℤ pos (n + (1 * z + (1 * c + (1 * e + (1 * j + 0)))))
at_store_trap n z c e j = omega (arith, ints)

behind_store_trap : (n z c e j f : ℕ) → pos (n + z + c + e + j) ≤ℤ pos (n + (1 * z + (1 * c + (1 * e + (1 * j + (1 * f + 0))))))
behind_store_trap n z c e j f = omega (arith, ints)

pub stores_element : (t : Sheet) (homes : Homes) (y o : Operand) (len x st n : ℕ) → t.here.flat ≡ None → OperandFits homes (λ a. false) y → OperandFits homes (λ a. false) o → ArrayLies x len
    → CodeGoes t (storing homes y o len x) (trapping_at t.board (storing homes y o len x) 4 (ranging 14 0 (len - 1) ∷ any_fact 15 ∷ [])) st n
stores_element t homes y o len x st n split fits fits' lies a start h paid falls =
    let b = t.board in
    let code = storing homes y o len x in
    let s = bare st n in
    let z = instruction_cost b (loads homes 15 y) in
    let c = instruction_cost b (loads homes 14 o) in
    let e = instruction_cost b (by CMP (constant len) 14) in
    let j = instruction_cost b (Jump JNC (pos 2)) in
    let f = instruction_cost b (trap 2) in
    let g = instruction_cost b adding in
    let w = instruction_cost b (writing x) in
    let few = few_bytes x len lies in
    let value = loads_word t homes 15 y s refl refl refl fits tt in
    let first = puts (Reg 15) any_word z false None s in
    let load = loads_word t homes 14 o first refl refl refl fits' tt in
    let u = puts (Reg 14) any_word c false None first in
    let test : Option Test = Some (record { of = Reg 14; with = len; ordered = true }) in
    let v = compares e test u in
    let fall = narrows_to (Reg 14) any_word (pays j v) in
    let jump = narrows_to (Reg 14) (up_to len) (pays j v) in
    let p = inner_point st n a (code_of code) (plain_at b code 4 []) in
    let q = inner_point st n a (code_of code) (plain_at b code 5 (ranging 14 0 (len - 1) ∷ any_fact 15 ∷ [])) in
    let double = doubles t len (known_at q) few refl refl in
    let even = puts (Reg 14) (doubled_below len) g true None (known_at q) in
    let at_write : Affords t 0 even = affords_plain t 0 even _ refl (write_paid n z c e j f g w _ paid) in
    let here : Here t _ (known_at q) = λ incoming κ known has.
    let same = is_at_point t _ q incoming κ (h 5 _ refl).point known in
    let next = computed b adding κ in
    let has' = double.has κ has in
    let exact : next.range (Reg 14) ≡ Some (doubled_below len) = subst (λ ρ. (computed b adding ρ).range (Reg 14) ≡ Some (doubled_below len)) (sym same) (doubled_is len few) in
    let set : is_set next 15 ≡ true = subst (λ ρ. is_set (computed b adding ρ) 15 ≡ true) (sym same) refl in
    let last = writes_has b x len st _ next lies exact (bare_has st _ even next refl refl refl has') in
    falls_on_this t _ adding incoming κ next (h 5 _ refl).stands known (double.own _ κ has) (double.goes (address_in a (code_of code) 6) κ has) (has.stretch ∙ sym has'.stretch)
    (this_fallen t _ 0 (writing x) even next has' (plain_stands t _ _ (h 6 _ refl)) at_write
    (falls_on_this t _ (writing x) (Some next) next (computed b (writing x) next) (h 6 _ refl).stands (plain_here t _ (writing x) next (plain_stands t _ _ (h 6 _ refl)))
    (writes_own t _ x len next split lies exact (ap (λ o. is_some o) exact) set) (writes_goes t (address_in a (code_of code) 7) x len next lies exact) (has'.stretch ∙ sym last.stretch)
    (this_falls t _ (bare st (n + weight_of b code)) (computed b (writing x) next) (subst (λ k. Has (bare st k) (computed b (writing x) next)) (store_spent n z c e j f g w) last) falls))) in
    passes_here t gone a _ z s first value (h 0 _ refl).stands
    (passes_on t gone _ _ c (e + j) first u load (plain_stands t _ _ (h 1 _ refl)) (affords_plain t _ first _ refl (index_paid n z c e j f g w _ paid))
    (checks t _ (by CMP (constant len) 14) JNC 2 adding u v fall jump p q
    (record { compare = h 2 _ refl; jump = h 3 _ refl; traps = h 4 _ refl; passed = h 5 _ refl })
    (record {
      more = j;
      compares = compares_register t (constant len) 14 test u refl refl (constant_reads u len (few_words x len lies)) refl (λ κ. compared_with κ len);
      is_trap = (omega arith, λ κ. refl);
      fails = record { stretch = refl; facts = tt; fresh = refl; spent = λ κ has. spent_plain fall κ p _ _ refl refl (at_store_trap n z c e j) has };
      passes = record { stretch = refl; facts = (narrower _ _ (record { least = omega arith; greatest = omega arith; even = λ k. k }), (narrower _ _ any_range, tt)); fresh = refl; spent = λ κ has. spent_plain jump κ q _ _ refl refl (behind_store_trap n z c e j f) has };
      first = affords_plain t _ u _ refl (store_compare_paid n z c e j f g w _ paid);
      failed = affords_plain t 0 fall _ refl (store_jump_paid n z c e j f g w _ paid);
      passed = affords_plain t 0 jump _ refl (store_jump_paid n z c e j f g w _ paid);
      trapped = affords_plain t _ (known_at p) _ refl (store_trap_paid n z c e j f g w _ paid);
      words = tt;
      words_passed = (few_index x len lies, (omega arith, tt));
      free = tt;
    })
    (λ falls lands begins. jumps_below t _ 14 len (pos 2) v (h 3 _ refl).stands refl refl falls lands begins)
    here))
