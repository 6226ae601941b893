-- Words that spell an instruction, and the instruction that is computed from them.
use Rattle.std.proofs.Common.{◌≡◌, ℕ, ◌<◌, ◌≤◌, true, false, Some, None, refl, sym, ap, ◌∙◌, subst, arith, List, [], ◌∷◌, ◌++◌, length, take, get_or}
use Rattle.std.specs.Prelude.{nat_lt, if◌then◌else◌, Bool, ◌&&◌, cond, Option, ℤ, Result, Ok, Err, IfOk}
use Rattle.std.specs.Option.{option_and_then, option_map}
use Rattle.std.specs.Result.{result_ok}
use Rattle.std.specs.List.{All}
use Rattle.std.proofs.lemmas.Bool.{ltb-true, and_parts, and_from}
use Rattle.std.proofs.lemmas.List.Elements.{All-nil, All-cons, All-append}
use Rattle.msp430_isa.specs.declared.instr.TwoOp.{TwoOp}
use Rattle.msp430_isa.specs.declared.instr.OneOp.{OneOp}
use Rattle.msp430_isa.specs.declared.instr.Cond.{Cond}
use Rattle.msp430_isa.specs.declared.instr.Src.{Src}
use Rattle.msp430_isa.specs.declared.instr.Src.TheVariants.{Reg as FromReg, Index as FromIndex, Abs as FromAbs, At, AtPlus, Imm, Short}
use Rattle.msp430_isa.specs.declared.instr.Dst.{Dst}
use Rattle.msp430_isa.specs.declared.instr.Dst.TheVariants.{Reg as ToReg, Index as ToIndex, Abs as ToAbs}
use Rattle.msp430_isa.specs.declared.instr.Instr.{Instr}
use Rattle.msp430_isa.specs.declared.instr.Instr.TheVariants.{Two, One, Jump}
use Rattle.msp430_isa.specs.Fields.{source_words, destination_words}
use Rattle.msp430_isa.specs.Encoding.{two_word, one_word, jump_word, words_of, length_of}
use Rattle.msp430_isa.specs.Profile.{is_source, is_destination, guards_pc, guards_sr, guards_r3, increments_apart, guards_width, guards_numbers, guards_registers, guards_stack, guards_call, allows_two, allows_one, is_allowed, numbers_fit, source_fits, destination_fits, offset_fits, in_profile}
use Rattle.msp430_isa.specs.Spelled.{Spells}
use Rattle.msp430_isa.specs.Decoding.{table_at, instruction_at}
use Rattle.msp430_isa.specs.Laws.{IsUnambiguous, IsSpelt, HasWords, IsComputed}
use Rattle.msp430_isa.proofs.Lists.{laid, laid_one, lay, lay_one, whole, whole_one}
use Rattle.msp430_isa.proofs.Operands.{source_words_few, source_register_low, source_mode_low, destination_words_few, destination_register_low, destination_mode_low}
use Rattle.msp430_isa.proofs.Opcodes.{two_opcode_bounds, one_opcode_low, condition_low, width_low, offset_bits_low}
use Rattle.msp430_isa.proofs.Table.{Written, two_read, one_read, jump_read, table_kept}

-- ---- What the profile says of the operands

pub two_source : (op : TwoOp) (byte : Bool) (src : Src) (dst : Dst) → allows_two op byte src dst ≡ true → (is_source src ≡ true) × (is_destination dst ≡ true)
two_source op byte src dst h =
    let a = (and_parts (is_source src && is_destination dst && guards_pc op byte dst && guards_sr op byte dst && guards_r3 op byte src dst) (increments_apart src dst) h).0 in
    let b = (and_parts (is_source src && is_destination dst && guards_pc op byte dst && guards_sr op byte dst) (guards_r3 op byte src dst) a).0 in
    let c = (and_parts (is_source src && is_destination dst && guards_pc op byte dst) (guards_sr op byte dst) b).0 in
    let d = (and_parts (is_source src && is_destination dst) (guards_pc op byte dst) c).0 in
    and_parts (is_source src) (is_destination dst) d

pub one_source : (op : OneOp) (byte : Bool) (src : Src) → allows_one op byte src ≡ true → is_source src ≡ true
one_source op byte src h =
    let a = (and_parts (is_source src && guards_width op byte && guards_numbers op src && guards_registers op src && guards_stack op src) (guards_call op src) h).0 in
    let b = (and_parts (is_source src && guards_width op byte && guards_numbers op src && guards_registers op src) (guards_stack op src) a).0 in
    let c = (and_parts (is_source src && guards_width op byte && guards_numbers op src) (guards_registers op src) b).0 in
    let d = (and_parts (is_source src && guards_width op byte) (guards_numbers op src) c).0 in
    (and_parts (is_source src) (guards_width op byte) d).0

-- ---- Three words

table_reads : (i : Instr) (w x y : ℕ) → is_allowed i ≡ true → numbers_fit i ≡ true → Written i w x y → table_at w x y ≡ Some i
table_reads (Two op byte src dst) w x y h k e = (let s = two_source op byte src dst h in ap (λ n. table_at n x y) e.0 ∙ two_read op byte src dst x y s.0 s.1 e.1 e.2)
table_reads (One op byte src) w x y h k e = ap (λ n. table_at n x y) e.0 ∙ one_read op byte src x y (one_source op byte src h) e.1
table_reads (Jump on z) w x y h k e = ap (λ n. table_at n x y) e ∙ jump_read on z x y k

pub reads : (i : Instr) (w x y : ℕ) → in_profile i ≡ true → Written i w x y → instruction_at w x y ≡ Some i
reads i w x y h e =
    let p = and_parts (is_allowed i) (numbers_fit i) h in
    ap (λ o. option_and_then (λ j. if is_allowed j then Some j else None) o) (table_reads i w x y p.0 p.1 e)
    ∙ ap (λ c. if c then Some i else None) p.0

-- what a test lets through has passed it
passed : (o : Option Instr) (i : Instr) → option_and_then (λ j. if is_allowed j then Some j else None) o ≡ Some i → (o ≡ Some i) × (is_allowed i ≡ true)
passed None i e = cc
passed (Some j) i e =
    let P = λ (c : Bool). is_allowed j ≡ c → cond c (Some j) None ≡ Some i → (Some j ≡ Some i) × (is_allowed i ≡ true) in
    elim (is_allowed j) as P [ true ↦ λ t. λ is. (is, (let same : j ≡ i = cc in ap is_allowed (sym same) ∙ t)) | false ↦ λ t. λ is. cc ] refl e

pub read_from : (i : Instr) (w x y : ℕ) → x < 65536 → y < 65536 → instruction_at w x y ≡ Some i → (in_profile i ≡ true) × Written i w x y
read_from i w x y hx hy e =
    let p = passed (table_at w x y) i e in
    let k = table_kept w x y i hx hy p.0 in
    (and_from (is_allowed i) (numbers_fit i) p.1 k.1, k.0)

-- ---- Lists of words

pub written_in : (i : Instr) (words : List ℕ) → take (length_of i) words ≡ words_of i → Written i (get_or words 0 0) (get_or words 1 0) (get_or words 2 0)
written_in (Two op byte src dst) words e =
    let l = laid words (two_word op byte src dst) (source_words src) (destination_words dst) (source_words_few src) (destination_words_few dst) e in
    (l.opens, l.first_is, l.second_is)
written_in (One op byte src) words e =
    let l = laid_one words (one_word op byte src) (source_words src) (source_words_few src) e in
    (l.opens, l.first_is)
written_in (Jump on z) words e = (laid_one words (jump_word on z) [] (omega arith) e).opens

pub begins_with : (i : Instr) (words : List ℕ) → Written i (get_or words 0 0) (get_or words 1 0) (get_or words 2 0) → length_of i ≤ length words → take (length_of i) words ≡ words_of i
begins_with (Two op byte src dst) words e n = lay words (two_word op byte src dst) (source_words src) (destination_words dst) (source_words_few src) (destination_words_few dst) (record { opens = e.0; first_is = e.1; second_is = e.2 }) n
begins_with (One op byte src) words e n = lay_one words (one_word op byte src) (source_words src) (source_words_few src) (record { opens = e.0; first_is = e.1; second_is = refl }) n
begins_with (Jump on z) words e n = lay_one words (jump_word on z) [] (omega arith) (record { opens = e; first_is = refl; second_is = refl }) n

pub spelt_is_read : (words : List ℕ) (i : Instr) (n : ℕ) → Spells words i n → instruction_at (get_or words 0 0) (get_or words 1 0) (get_or words 2 0) ≡ Some i
spelt_is_read words i n s =
    reads i (get_or words 0 0) (get_or words 1 0) (get_or words 2 0) s.allowed (written_in i words (subst (λ k. take k words ≡ words_of i) s.counted s.begins))

pub read_is_spelt : (words : List ℕ) (i : Instr) → get_or words 1 0 < 65536 → get_or words 2 0 < 65536 → instruction_at (get_or words 0 0) (get_or words 1 0) (get_or words 2 0) ≡ Some i → length_of i ≤ length words → Spells words i (length_of i)
read_is_spelt words i hx hy e n =
    let r = read_from i (get_or words 0 0) (get_or words 1 0) (get_or words 2 0) hx hy e in
    record { allowed = r.0; counted = refl; whole = n; begins = begins_with i words r.1 n }

-- ---- The laws

pub unambiguous : IsUnambiguous
unambiguous words i j n m s t =
    let a = spelt_is_read words i n s in
    let b = spelt_is_read words j m t in
    let some_same : Some i ≡ Some j = sym a ∙ b in
    let same : i ≡ j = cc in
    (same, s.counted ∙ ap length_of same ∙ sym t.counted)

whole_words : (i : Instr) → (take (length_of i) (words_of i) ≡ words_of i) × (length_of i ≤ length (words_of i))
whole_words (Two op byte src dst) = whole (two_word op byte src dst) (source_words src) (destination_words dst) (source_words_few src) (destination_words_few dst)
whole_words (One op byte src) = whole_one (one_word op byte src) (source_words src) (source_words_few src)
whole_words (Jump on z) = (refl, omega arith)

pub spelt : IsSpelt
spelt i h = (let w = whole_words i in record { allowed = h; counted = refl; whole = w.1; begins = w.0 })

pub length_few : (i : Instr) → length_of i ≤ 3
length_few (Two op byte src dst) = omega (arith, source_words_few src, destination_words_few dst)
length_few (One op byte src) = omega (arith, source_words_few src)
length_few (Jump on z) = omega arith

pub computed : IsComputed
computed w x y i hw hx hy =
    (λ e. read_is_spelt (w ∷ x ∷ y ∷ []) i (omega arith) (omega arith) e (length_few i), λ s. spelt_is_read (w ∷ x ∷ y ∷ []) i (length_of i) s)

pub two_word_low : (op : TwoOp) (byte : Bool) (src : Src) (dst : Dst) → is_source src ≡ true → is_destination dst ≡ true → two_word op byte src dst < 65536
two_word_low op byte src dst hs hd = omega (arith, two_opcode_bounds op, source_register_low src hs, destination_mode_low dst, width_low byte, source_mode_low src hs, destination_register_low dst hd)

pub one_word_low : (op : OneOp) (byte : Bool) (src : Src) → is_source src ≡ true → one_word op byte src < 65536
one_word_low op byte src hs = omega (arith, one_opcode_low op, width_low byte, source_mode_low src hs, source_register_low src hs)

pub jump_word_low : (on : Cond) (z : ℤ) → offset_fits z ≡ true → jump_word on z < 65536
jump_word_low on z h = omega (arith, condition_low on, offset_bits_low z h)

low_word : (a : ℕ) → nat_lt a 65536 ≡ true → a < 65536
low_word a h = ltb-true a 65536 h

one_low : (a : ℕ) → nat_lt a 65536 ≡ true → All (λ w. w < 65536) (a ∷ [])
one_low a h = All-cons (λ w. w < 65536) a [] (low_word a h) (All-nil (λ w. w < 65536))

source_words_low : (src : Src) → source_fits src ≡ true → All (λ w. w < 65536) (source_words src)
source_words_low (FromReg r) h = All-nil (λ w. w < 65536)
source_words_low (FromIndex r x) h = one_low x h
source_words_low (FromAbs a) h = one_low a h
source_words_low (At r) h = All-nil (λ w. w < 65536)
source_words_low (AtPlus r) h = All-nil (λ w. w < 65536)
source_words_low (Imm v) h = one_low v h
source_words_low (Short v) h = All-nil (λ w. w < 65536)

destination_words_low : (dst : Dst) → destination_fits dst ≡ true → All (λ w. w < 65536) (destination_words dst)
destination_words_low (ToReg r) h = All-nil (λ w. w < 65536)
destination_words_low (ToIndex r x) h = one_low x h
destination_words_low (ToAbs a) h = one_low a h

words_low : (i : Instr) → is_allowed i ≡ true → numbers_fit i ≡ true → All (λ w. w < 65536) (words_of i)
words_low (Two op byte src dst) h k =
    let s = two_source op byte src dst h in
    let f = and_parts (source_fits src) (destination_fits dst) k in
    All-cons (λ w. w < 65536) (two_word op byte src dst) (source_words src ++ destination_words dst) (two_word_low op byte src dst s.0 s.1)
    (All-append (λ w. w < 65536) (source_words src) (destination_words dst) (source_words_low src f.0) (destination_words_low dst f.1))
words_low (One op byte src) h k =
    All-cons (λ w. w < 65536) (one_word op byte src) (source_words src) (one_word_low op byte src (one_source op byte src h)) (source_words_low src k)
words_low (Jump on z) h k = All-cons (λ w. w < 65536) (jump_word on z) [] (jump_word_low on z k) (All-nil (λ w. w < 65536))

pub has_words : HasWords
has_words i h = (let p = and_parts (is_allowed i) (numbers_fit i) h in words_low i p.0 p.1)

-- What `decode` answers of three words is what is computed from them.
no_err : {A E P : Type 0} (r : Result A E) (e : E) (a : A) → r ≡ Err e → r ≡ Ok a → P
no_err r e a k l = cc

none_at_err : {E : Type 0} (o : Option Instr) (r : Result (Instr × ℕ) E) (e : E) → r ≡ Err e → ((i : Instr) → o ≡ Some i → r ≡ Ok (i, length_of i)) → o ≡ None
none_at_err None r e k every = refl
none_at_err (Some i) r e k every = no_err r e (i, length_of i) k (every i refl)

pub decoded : {E : Type 0} (w x y : ℕ) (r : Result (Instr × ℕ) E) → w < 65536 → x < 65536 → y < 65536 → IfOk r (λ p. Spells (w ∷ x ∷ y ∷ []) p.0 p.1) → ((i : Instr) (n : ℕ) → Spells (w ∷ x ∷ y ∷ []) i n → r ≡ Ok (i, n)) → instruction_at w x y ≡ option_map (λ p. p.0) (result_ok r)
decoded w x y (Ok p) hw hx hy s every = spelt_is_read (w ∷ x ∷ y ∷ []) p.0 p.1 s
decoded w x y (Err e) hw hx hy s every = none_at_err (instruction_at w x y) (Err e) e refl (λ i is. every i (length_of i) ((computed w x y i hw hx hy).0 is))
