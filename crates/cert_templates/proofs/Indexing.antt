-- The templates that read and write an element of an array in FRAM.
use Rattle.std.proofs.Common.{◌≡◌, ℕ, zero, suc, ◌+◌, ◌*◌, ◌-◌, ◌/◌, ◌≤◌, ◌%◌, Bool, true, false, not, Option, Some, None, [], refl, sym, ap, ◌∙◌, subst, arith}
use Rattle.std.specs.Prelude.{pos, ◌&&◌, ◌||◌, ◌==◌, nat_le, is_none, unwrap_or, if◌then◌else◌}
use Rattle.std.proofs.lemmas.Bool.Decides.{nat_tests}
use Rattle.board_table.specs.declared.board.Board.{Board}
use Rattle.certificate.specs.declared.cert.Slot.{Slot}
use Rattle.certificate.specs.declared.cert.Slot.TheVariants.{Reg, Word}
use Rattle.certificate.specs.Rows.{Flat}
use Rattle.msp430_isa.specs.declared.instr.Src.TheVariants.{Reg as FromReg, Index as FromIndex}
use Rattle.msp430_isa.specs.declared.instr.Dst.TheVariants.{Reg as ToReg, Index as ToIndex}
use Rattle.msp430_isa.specs.declared.instr.TwoOp.TheVariants.{Mov as MOV}
use Rattle.msp430_isa.specs.declared.instr.Instr.{Instr}
use Rattle.msp430_isa.specs.declared.instr.Instr.TheVariants.{Two}
use Rattle.msp430_isa.specs.Encoding.{length_of}
use Rattle.msp430_machine.specs.Addresses.{region}
use Rattle.msp430_machine.specs.Cost.{instruction_cost, read_cost_in, write_cost_in}
use Rattle.cert_rules.specs.declared.Rule.TheVariants.{Place as OutOfPlace, Fresh}
use Rattle.cert_rules.specs.Faults.{unless, unless_none}
use Rattle.cert_rules.specs.Ranges.{Range, any_word}
use Rattle.cert_rules.specs.Slots.{same_slot, is_held, is_sram, first_word, first_in}
use Rattle.cert_rules.specs.Spending.{settled, paying}
use Rattle.cert_rules.specs.Forms.{kind_of}
use Rattle.cert_rules.specs.Known.{Known, range_of, with_cost, freshened, forgetting, hits, bare, is_set}
use Rattle.cert_rules.specs.Places.{Reach, Place, InReg, InReach, offset_by, is_certain, may_read, may_move_to, source_place, destination_place, cost_of}
use Rattle.cert_rules.specs.Effects.{computed, computed_two, with_written}
use Rattle.cert_rules.specs.Sheet.{Sheet}
use Rattle.cert_rules.specs.Accesses.{stale, two_fault, writes_fault, keep_fault}
use Rattle.cert_rules.specs.Outcomes.{Ends, is_end, falls_only, may_end, outcome_of}
use Rattle.cert_rules.specs.Steps.{own_fault_by}
use Rattle.cert_pieces.specs.Pieces.{Has, Narrower, Free, anything, puts}
use Rattle.cert_pieces.proofs.Stepping.{both}
use Rattle.cert_pieces.proofs.Writing.{puts_has, after_words, any_range, words_told, settles, same_base}
use Rattle.cert_pieces.proofs.Straight.{is_set_fault, no_writes, keeps}

-- ---- An index

-- the double of an index below n
abbrev pub doubled_below : ℕ → Range
doubled_below n = record { least = 0; greatest = 2 * (n - 1); even = true }

-- an array of so many words in FRAM
pub record ArrayLies (x n : ℕ) : Type 0 where
  pub even : x % 2 ≡ 0
  pub some : 1 ≤ n
  pub low : 0x4400 ≤ x
  pub high : x + 2 * (n - 1) ≤ 0x7EFE

abbrev pub elements : ℕ → ℕ → Reach
elements x n = offset_by x (doubled_below n)

eq_true : (a b : ℕ) → a ≡ b → (a == b) ≡ true
eq_true a b h = grind (arith, nat_tests)

le_true : (a b : ℕ) → a ≤ b → nat_le a b ≡ true
le_true a b h = grind (arith, nat_tests)

elements_even : (x n : ℕ) → x % 2 ≡ 0 → (elements x n).even ≡ true
elements_even x n e =
    elim (0 == 2 * (n - 1)) as (λ c. (if c then (0 + x) % 2 == 0 else x % 2 == 0) ≡ true) [
      | true ↦ eq_true ((0 + x) % 2) 0 (omega (arith, e))
      | false ↦ eq_true (x % 2) 0 e
    ]

within_memory : (x n : ℕ) → ArrayLies x n → nat_le 0x4400 (0 + x) && nat_le (2 * (n - 1) + x) 0x7EFF ≡ true
within_memory x n h = both_true _ _ (le_true 0x4400 (0 + x) (omega (arith, h.low))) (le_true (2 * (n - 1) + x) 0x7EFF (omega (arith, h.high)))
  where
    both_true : (b c : Bool) → b ≡ true → c ≡ true → b && c ≡ true
    both_true true c e f = f
    both_true false c e f = e

or_first : (b c : Bool) → b ≡ true → b || c ≡ true
or_first true c h = refl
or_first false c h = absurd (let no : false ≡ true = h in cc)

reads_elements : (x n : ℕ) → ArrayLies x n → may_read (elements x n) ≡ true
reads_elements x n h =
    ap (λ e. e && (((nat_le 0x4400 (0 + x) && nat_le (2 * (n - 1) + x) 0x7EFF) || (nat_le 0x1C00 (0 + x) && nat_le (2 * (n - 1) + x) 0x23FF)) || (nat_le 0x0F00 (0 + x) && nat_le (2 * (n - 1) + x) 0x0F01))) (elements_even x n h.even)
    ∙ or_first _ _ (or_first _ _ (within_memory x n h))

writes_elements : (x n : ℕ) → ArrayLies x n → may_move_to (elements x n) ≡ true
writes_elements x n h =
    ap (λ e. e && (((nat_le 0x4400 (0 + x) && nat_le (2 * (n - 1) + x) 0x7EFF) || (nat_le 0x1C00 (0 + x) && nat_le (2 * (n - 1) + x) 0x23FF)) || (nat_le 0x0F02 (0 + x) && nat_le (2 * (n - 1) + x) 0x0F07))) (elements_even x n h.even)
    ∙ or_first _ _ (or_first _ _ (within_memory x n h))

-- ---- Words of an array

none_there : (p : ℕ → Bool) (n from : ℕ) → ((a : ℕ) → from ≤ a → p a ≡ false) → first_word p from n ≡ None
none_there p zero from h = refl
none_there p (suc n) from h = ap (λ c. if c then Some from else first_word p (from + 2) n) (h from (omega arith)) ∙ none_there p n (from + 2) (λ a k. h a (omega (arith, k)))

some_there : (p : ℕ → Bool) (n from : ℕ) → 1 ≤ n → p from ≡ true → is_none (first_word p from n) ≡ false
some_there p zero from h e = absurd (omega (arith, h))
some_there p (suc n) from h e = ap (λ c. is_none (if c then Some from else first_word p (from + 2) n)) e

no_sram : (a : ℕ) → 0x4400 ≤ a → is_sram a ≡ false
no_sram a h = grind (arith, nat_tests)

none_stale : (κ : Known) (x n : ℕ) → 0x4400 ≤ x → first_in (stale κ) (0 + x) (2 * (n - 1) + x) ≡ None
none_stale κ x n low = none_there (stale κ) ((2 * (n - 1) + x + 2 - (0 + x + (0 + x) % 2)) / 2) (0 + x + (0 + x) % 2) (λ a h. ap (λ c. c && not (κ.fresh a)) (no_sram a (omega (arith, h, low))))

no_port : (a : ℕ) → 0x4400 ≤ a → not (is_end a) ≡ true
no_port a h = grind (arith, nat_tests)

not_always : (x n : ℕ) → ArrayLies x n → is_none (first_in (λ a. not (is_end a)) (0 + x) (2 * (n - 1) + x)) ≡ false
not_always x n h =
    let even = h.even in
    let low = h.low in
    some_there (λ a. not (is_end a)) ((2 * (n - 1) + x + 2 - (0 + x + (0 + x) % 2)) / 2) (0 + x + (0 + x) % 2) (omega (arith, even)) (no_port (0 + x + (0 + x) % 2) (omega (arith, low)))

-- ---- A read

register_place : (κ : Known) (x n : ℕ) → κ.range (Reg 14) ≡ Some (doubled_below n) → source_place κ (FromIndex 14 x) ≡ InReach (elements x n)
register_place κ x n e = ap (λ o. InReach (offset_by x (unwrap_or o any_word))) e

low_word : (x n : ℕ) → ArrayLies x n → 0 + x ≡ (0 + x) % 65536
low_word x n h = let high = h.high in omega (arith, high)

abbrev pub reading : ℕ → Instr
reading x = Two MOV false (FromIndex 14 x) (ToReg 15)

read_costs : (b : Board) (κ : Known) (x n : ℕ) → ArrayLies x n → κ.range (Reg 14) ≡ Some (doubled_below n) → cost_of b κ (reading x) ≡ instruction_cost b (reading x)
read_costs b κ x n h e =
    ap (λ o. b.core.move_ + b.access.fetch * length_of (reading x) + read_cost_in b (region ((unwrap_or o any_word).least + x)) + (0 + 0)) e
    ∙ ap (λ a. b.core.move_ + b.access.fetch * length_of (reading x) + read_cost_in b (region a) + (0 + 0)) (low_word x n h)

pub reads_own : (t : Sheet) (a x n : ℕ) (κ : Known) → ArrayLies x n → κ.range (Reg 14) ≡ Some (doubled_below n) → is_set κ 14 ≡ true → own_fault_by t a κ (reading x) (kind_of (reading x)) ≡ None
reads_own t a x n κ h e set =
    both _ _ (both _ _ (is_set_fault a 14 κ set) refl)
    (ap (λ p. two_fault t a κ MOV p (InReg 15)) (register_place κ x n e)
    ∙ both _ _ (both _ _ (ap (λ c. unless c OutOfPlace a (pos (0 + x)) (pos (2 * (n - 1) + x))) (reads_elements x n h)) refl)
    (both _ _ (both _ _ (ap (λ o. unless_none o Fresh a) (none_stale κ x n h.low)) refl)
    (both _ _ (no_writes a 15 true t.here.flat) (both _ _ (keeps a 15 true t.here.flat refl) refl))))

pub reads_goes : (t : Sheet) (next x : ℕ) (κ : Known) → outcome_of t next κ (reading x) (kind_of (reading x)) ≡ falls_only (computed t.board (reading x) κ)
reads_goes t next x κ = refl

pub reads_has : (b : Board) (x n : ℕ) (s κ : Known) → ArrayLies x n → κ.range (Reg 14) ≡ Some (doubled_below n) → s.spent.terms ≡ [] → Has s κ
    → Has (puts (Reg 15) any_word (instruction_cost b (reading x)) s.flags None s) (computed b (reading x) κ)
reads_has b x n s κ h e none has =
    subst (λ m. Has (puts (Reg 15) any_word (instruction_cost b (reading x)) s.flags None s)
    (record (with_written MOV (source_place κ (FromIndex 14 x)) (Reg 15) (with_cost m κ)) { flags = κ.flags; test = None })) (sym (read_costs b κ x n h e))
    (puts_has (Reg 15) (instruction_cost b (reading x)) MOV (source_place κ (FromIndex 14 x)) any_word false None None s κ refl
    (after_words (with_cost (instruction_cost b (reading x)) κ) MOV (source_place κ (FromIndex 14 x)) (Reg 15) has.words tt) (after_words (with_cost (instruction_cost b (reading x)) κ) MOV (source_place κ (FromIndex 14 x)) (Reg 15) has.words tt)
    (subst (λ terms. Free (Reg 15) terms) (sym none) tt) has)

-- ---- A write

abbrev pub writing : ℕ → Instr
writing x = Two MOV false (FromReg 15) (ToIndex 14 x)

word_place : (κ : Known) (x n : ℕ) → κ.range (Reg 14) ≡ Some (doubled_below n) → destination_place κ (ToIndex 14 x) ≡ InReach (elements x n)
word_place κ x n e = ap (λ o. InReach (offset_by x (unwrap_or o any_word))) e

write_costs : (b : Board) (κ : Known) (x n : ℕ) → ArrayLies x n → κ.range (Reg 14) ≡ Some (doubled_below n) → cost_of b κ (writing x) ≡ instruction_cost b (writing x)
write_costs b κ x n h e =
    ap (λ o. b.core.move_ + b.access.fetch * length_of (writing x) + 0 + (0 + write_cost_in b (region ((unwrap_or o any_word).least + x)))) e
    ∙ ap (λ a. b.core.move_ + b.access.fetch * length_of (writing x) + 0 + (0 + write_cost_in b (region a))) (low_word x n h)

no_flat_writes : (a : ℕ) (p : Place) (flat : Option Flat) → flat ≡ None → writes_fault a flat true p ≡ None
no_flat_writes a p flat e = ap (λ f. writes_fault a f true p) e

no_flat_keeps : (a : ℕ) (p : Place) (flat : Option Flat) → flat ≡ None → keep_fault a flat true p ≡ None
no_flat_keeps a p flat e = ap (λ f. keep_fault a f true p) e

pub writes_own : (t : Sheet) (a x n : ℕ) (κ : Known) → t.here.flat ≡ None → ArrayLies x n → κ.range (Reg 14) ≡ Some (doubled_below n) → is_set κ 14 ≡ true → is_set κ 15 ≡ true
    → own_fault_by t a κ (writing x) (kind_of (writing x)) ≡ None
writes_own t a x n κ split h e set set' =
    both _ _ (both _ _ (is_set_fault a 15 κ set') (both _ _ (is_set_fault a 14 κ set) refl))
    (ap (λ p. two_fault t a κ MOV (InReg 15) p) (word_place κ x n e)
    ∙ both _ _ (both _ _ refl (ap (λ c. unless c OutOfPlace a (pos (0 + x)) (pos (2 * (n - 1) + x))) (writes_elements x n h)))
    (both _ _ refl (both _ _ (no_flat_writes a (InReach (elements x n)) t.here.flat split) (both _ _ (no_flat_keeps a (InReach (elements x n)) t.here.flat split) refl))))

pub writes_goes : (t : Sheet) (next x n : ℕ) (κ : Known) → ArrayLies x n → κ.range (Reg 14) ≡ Some (doubled_below n)
    → outcome_of t next κ (writing x) (kind_of (writing x)) ≡ falls_only (computed t.board (writing x) κ)
writes_goes t next x n κ h e =
    ap (λ p. may_end true p (computed t.board (writing x) κ)) (word_place κ x n e)
    ∙ ap (λ c. if c then Ends (computed t.board (writing x) κ) else falls_only (computed t.board (writing x) κ)) (not_always x n h)

-- what is known behind a write of one of some words
some_forgotten : (c : Bool) (o : Option Range) → Narrower (unwrap_or o any_word) any_word → Narrower (unwrap_or (if c then None else o) any_word) any_word
some_forgotten true o h = any_range
some_forgotten false o h = h

forgets_has : (hit : Slot → Bool) (c st n : ℕ) (flags : Bool) (κ : Known) → Has (bare st n) κ
    → Has (bare st (n + c)) (record (forgetting hit (with_cost c κ)) { flags = flags; test = None })
forgets_has hit c st n flags κ has = record {
  stretch = has.stretch;
  spent = ap (λ s. settled hit (range_of κ) (paying c s)) has.spent ∙ ap (λ z. record { base = z; terms = [] }) (same_base (pos (n + c)) (range_of κ));
  range = λ x. anything _;
  fresh = λ a k. absurd (let no : false ≡ true = k in cc);
  flags = λ k. absurd (let no : false ≡ true = k in cc);
  test = refl;
  words = λ x. some_forgotten (hit x) (κ.range x) (has.words x);
}

one_has : (w : Slot) (l c st n : ℕ) (flags : Bool) (κ : Known) → Has (bare st n) κ
    → Has (bare st (n + c)) (record (freshened l l (with_written MOV (InReg 15) w (with_cost c κ))) { flags = flags; test = None })
one_has w l c st n flags κ has = record {
  stretch = has.stretch;
  spent = ap (λ s. settled (λ x. same_slot x w) (range_of κ) (paying c s)) has.spent ∙ settles w (range_of κ) (record { base = pos (n + c); terms = [] }) tt;
  range = λ x. anything _;
  fresh = λ a k. absurd (let no : false ≡ true = k in cc);
  flags = λ k. absurd (let no : false ≡ true = k in cc);
  test = refl;
  words = λ x. words_told (same_slot x w && is_held w) (κ.range x) (range_of κ (Reg 15)) (has.words (Reg 15)) (has.words x);
}

pub writes_has : (b : Board) (x n st m : ℕ) (κ : Known) → ArrayLies x n → κ.range (Reg 14) ≡ Some (doubled_below n) → Has (bare st m) κ
    → Has (bare st (m + instruction_cost b (writing x))) (computed b (writing x) κ)
writes_has b x n st m κ h e has =
    let c = instruction_cost b (writing x) in
    subst (λ k. Has (bare st (m + c)) (computed_two MOV (InReg 15) (destination_place κ (ToIndex 14 x)) (with_cost k κ))) (sym (write_costs b κ x n h e))
    (subst (λ p. Has (bare st (m + c)) (computed_two MOV (InReg 15) p (with_cost c κ))) (sym (word_place κ x n e))
    (elim (is_certain (elements x n)) as (λ q. Has (bare st (m + c)) (record (if q then freshened (0 + x) (0 + x) (with_written MOV (InReg 15) (Word (0 + x)) (with_cost c κ)) else forgetting (hits (0 + x) (2 * (n - 1) + x)) (with_cost c κ)) { flags = κ.flags; test = None })) [
      | true ↦ one_has (Word (0 + x)) (0 + x) c st m κ.flags κ has
      | false ↦ forgets_has (hits (0 + x) (2 * (n - 1) + x)) c st m κ.flags κ has
    ]))
