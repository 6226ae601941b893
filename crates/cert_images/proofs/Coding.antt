-- That instructions stand in an image whose words hold them.
use Rattle.std.proofs.Common.{◌≡◌, ℕ, zero, suc, ◌+◌, ◌*◌, ◌-◌, ◌≤◌, ◌<◌, ◌%◌, ◌/◌, Bool, true, false, Option, Some, None, List, [], ◌∷◌, ◌++◌, length, length-append, flat_map, refl, sym, ap, ◌∙◌, subst, arith}
use Rattle.std.specs.Prelude.{◌==◌, ◌&&◌, nat_le, is_some, unwrap_or, slice_get, if◌then◌else◌, pos}
use Rattle.std.specs.Option.{option_and_then}
use Rattle.std.proofs.lemmas.Bool.Decides.{nat_tests}
use Rattle.ti_txt.specs.Image.{Block}
use Rattle.certificate.specs.Rows.{Point}
use Rattle.msp430_isa.specs.declared.instr.Src.{Src}
use Rattle.msp430_isa.specs.declared.instr.Src.TheVariants.{Reg as FromReg, Index as FromIndex, Abs as FromAbs, At, AtPlus, Imm, Short}
use Rattle.msp430_isa.specs.declared.instr.Dst.{Dst}
use Rattle.msp430_isa.specs.declared.instr.Dst.TheVariants.{Reg as ToReg, Index as ToIndex, Abs as ToAbs}
use Rattle.msp430_isa.specs.declared.instr.TwoOp.TheVariants.{Mov as MOV}
use Rattle.msp430_isa.specs.declared.instr.Instr.{Instr}
use Rattle.msp430_isa.specs.declared.instr.Instr.TheVariants.{Two, One, Jump}
use Rattle.msp430_isa.specs.Decoding.{instruction_at}
use Rattle.msp430_isa.specs.Encoding.{words_of, length_of}
use Rattle.msp430_isa.specs.Profile.{in_profile}
use Rattle.msp430_isa.specs.Fields.{source_words, destination_words}
use Rattle.msp430_isa.specs.Decoding.{behind as after}
use Rattle.msp430_isa.proofs.Lists.{Takes}
use Rattle.msp430_isa.proofs.Table.{Written}
use Rattle.msp430_isa.proofs.Spelling.{reads}
use Rattle.msp430_machine.specs.Addresses.{fetch_end}
use Rattle.cert_rules.specs.declared.Rule.TheVariants.{Form}
use Rattle.cert_rules.specs.Faults.{unless}
use Rattle.cert_rules.specs.Words.{word_in, shown}
use Rattle.cert_rules.specs.Forms.{is_form}
use Rattle.cert_rules.specs.Tables.{is_number, point_at}
use Rattle.cert_rules.specs.Sheet.{Sheet, is_head, word_or_zero, instruction_of, holds_words, fits_here, is_word}
use Rattle.cert_rules.specs.Standing.{AnInstruction, standing, standing_of, is_copy, copy_bytes}
use Rattle.cert_rules.specs.Shapes.{form_fault, turns_at}
use Rattle.cert_pieces.specs.Pieces.{Stands, StandsWith, AllStandWith, address_in, behind}
use Rattle.cert_images.proofs.Walking.{no_points, behind_above, length_some}

-- the words of instructions stand from an address on
abbrev pub HoldsCode : List Block → ℕ → List Instr → Type 0
HoldsCode blocks a is = (k w : ℕ) → slice_get (flat_map words_of is) k ≡ Some w → word_in blocks (a + 2 * k) ≡ Some w

-- ---- Words of lists

pub get_first : (xs ys : List ℕ) (k : ℕ) (w : ℕ) → slice_get xs k ≡ Some w → slice_get (xs ++ ys) k ≡ Some w
get_first [] ys k w e = absurd (let no : false ≡ true = ap (λ o. is_some o) e in cc)
get_first (x ∷ xs) ys zero w e = e
get_first (x ∷ xs) ys (suc k) w e = get_first xs ys k w e

get_later : (xs ys : List ℕ) (k : ℕ) → slice_get (xs ++ ys) (length xs + k) ≡ slice_get ys k
get_later [] ys k = ap (λ n. slice_get ys n) (start k)
  where
    start : (n : ℕ) → 0 + n ≡ n
    start n = omega arith
get_later (x ∷ xs) ys k = ap (λ n. slice_get (x ∷ (xs ++ ys)) n) (moved (length xs) k) ∙ get_later xs ys k
  where
    moved : (m n : ℕ) → suc m + n ≡ suc (m + n)
    moved m n = omega arith

words_length : (i : Instr) → length (words_of i) ≡ length_of i
words_length (Two op byte src dst) = ap (λ n. suc n) (length-append (source_words src) (destination_words dst)) ∙ shifted (length (source_words src)) (length (destination_words dst))
  where
    shifted : (m n : ℕ) → suc (m + n) ≡ 1 + m + n
    shifted m n = omega arith
words_length (One op byte src) = one (length (source_words src))
  where
    one : (n : ℕ) → suc n ≡ 1 + n
    one n = omega arith
words_length (Jump on words) = refl

pub holds_here : (blocks : List Block) (a : ℕ) (i : Instr) (is : List Instr) → HoldsCode blocks a (i ∷ is) → (k w : ℕ) → slice_get (words_of i) k ≡ Some w → word_in blocks (a + 2 * k) ≡ Some w
holds_here blocks a i is h k w e = h k w (get_first (words_of i) (flat_map words_of is) k w e)

further : (a n k : ℕ) → a + 2 * (n + k) ≡ a + 2 * n + 2 * k
further a n k = omega arith

pub holds_next : (blocks : List Block) (a : ℕ) (i : Instr) (is : List Instr) → HoldsCode blocks a (i ∷ is) → HoldsCode blocks (a + 2 * length_of i) is
holds_next blocks a i is h k w e =
    ap (λ x. word_in blocks x) (sym (further a (length_of i) k) ∙ ap (λ n. a + 2 * (n + k)) (sym (words_length i)))
    ∙ h (length (words_of i) + k) w (get_later (words_of i) (flat_map words_of is) k ∙ e)

-- ---- An instruction

abbrev pub first_word : Instr → ℕ
first_word i = unwrap_or (slice_get (words_of i) 0) 0

some_first : (i : Instr) → slice_get (words_of i) 0 ≡ Some (first_word i)
some_first (Two op byte src dst) = refl
some_first (One op byte src) = refl
some_first (Jump on words) = refl

start : (a : ℕ) → a + 2 * 0 ≡ a
start a = omega arith

pub word_here : (t : Sheet) (a : ℕ) (i : Instr) (is : List Instr) → HoldsCode t.blocks a (i ∷ is) → word_in t.blocks a ≡ Some (first_word i)
word_here t a i is h = ap (λ x. word_in t.blocks x) (sym (start a)) ∙ holds_here t.blocks a i is h 0 (first_word i) (some_first i)

abbrev zero_or : Option ℕ → ℕ
zero_or o = unwrap_or o 0

-- the word behind the first of an instruction, and the next
behind_first : (t : Sheet) (a : ℕ) (i : Instr) (is : List Instr) → HoldsCode t.blocks a (i ∷ is) → (k w : ℕ) → slice_get (words_of i) (suc k) ≡ Some w → word_or_zero t (a + 2 * suc k) ≡ w
behind_first t a i is h k w e = ap (λ o. unwrap_or o 0) (holds_here t.blocks a i is h (suc k) w e)

one_word : {x v : ℕ} → x ≡ v → v ∷ [] ≡ x ∷ []
one_word e = ap (λ z. z ∷ []) (sym e)

source_taken : (src : Src) (x : ℕ) → ((v : ℕ) → slice_get (source_words src) 0 ≡ Some v → x ≡ v) → Takes (source_words src) x
source_taken (FromReg r) x h = refl
source_taken (FromIndex r v) x h = one_word (h v refl)
source_taken (FromAbs v) x h = one_word (h v refl)
source_taken (At r) x h = refl
source_taken (AtPlus r) x h = refl
source_taken (Imm v) x h = one_word (h v refl)
source_taken (Short v) x h = refl

first_of_source : (src : Src) (ys : List ℕ) (v : ℕ) → slice_get (source_words src) 0 ≡ Some v → slice_get (source_words src ++ ys) 0 ≡ Some v
first_of_source src ys v e = get_first (source_words src) ys 0 v e

destination_taken : (src : Src) (ys : List ℕ) (x y : ℕ) → length ys ≤ 1 → ((v : ℕ) → slice_get (source_words src ++ ys) 0 ≡ Some v → x ≡ v) → ((v : ℕ) → slice_get (source_words src ++ ys) 1 ≡ Some v → y ≡ v) → Takes ys (after (source_words src) x y)
destination_taken src [] x y few f g = refl
destination_taken (FromReg r) (v ∷ []) x y few f g = one_word (f v refl)
destination_taken (FromIndex r u) (v ∷ []) x y few f g = one_word (g v refl)
destination_taken (FromAbs u) (v ∷ []) x y few f g = one_word (g v refl)
destination_taken (At r) (v ∷ []) x y few f g = one_word (f v refl)
destination_taken (AtPlus r) (v ∷ []) x y few f g = one_word (f v refl)
destination_taken (Imm u) (v ∷ []) x y few f g = one_word (g v refl)
destination_taken (Short u) (v ∷ []) x y few f g = one_word (f v refl)
destination_taken src (v ∷ w ∷ ys) x y few f g = absurd (omega (arith, few))

few_words : (dst : Dst) → length (destination_words dst) ≤ 1
few_words (ToReg r) = omega arith
few_words (ToIndex r x) = omega arith
few_words (ToAbs d) = omega arith

written : (t : Sheet) (a : ℕ) (i : Instr) (is : List Instr) → HoldsCode t.blocks a (i ∷ is) → Written i (first_word i) (word_or_zero t (a + 2)) (word_or_zero t (a + 4))
written t a (Two op byte src dst) is h = (
  refl,
  source_taken src (word_or_zero t (a + 2)) (λ v e. behind_first t a (Two op byte src dst) is h 0 v (first_of_source src (destination_words dst) v e)),
  destination_taken src (destination_words dst) (word_or_zero t (a + 2)) (word_or_zero t (a + 4)) (few_words dst) (λ v e. behind_first t a (Two op byte src dst) is h 0 v e) (λ v e. behind_first t a (Two op byte src dst) is h 1 v e),
)
written t a (One op byte src) is h = (refl, source_taken src (word_or_zero t (a + 2)) (λ v e. behind_first t a (One op byte src) is h 0 v e))
written t a (Jump on words) is h = refl

pub instruction_here : (t : Sheet) (a : ℕ) (i : Instr) (is : List Instr) → in_profile i ≡ true → HoldsCode t.blocks a (i ∷ is) → instruction_of t a ≡ Some i
instruction_here t a i is allowed h =
    ap (λ o. option_and_then (λ w. instruction_at w (word_or_zero t (a + 2)) (word_or_zero t (a + 4))) o) (word_here t a i is h)
    ∙ reads i (first_word i) (word_or_zero t (a + 2)) (word_or_zero t (a + 4)) allowed (written t a i is h)

pub words_there : (t : Sheet) (a n : ℕ) → ((k : ℕ) → k < n → is_some (word_in t.blocks (a + 2 * k)) ≡ true) → holds_words t a n ≡ true
words_there t a zero h = refl
words_there t a (suc n) h =
    ap (λ c. c && holds_words t (a + 2) n) (ap (λ x. is_some (word_in t.blocks x)) (sym (start a)) ∙ h 0 (omega arith))
    ∙ words_there t (a + 2) n (λ k l. ap (λ x. is_some (word_in t.blocks x)) (shift a k) ∙ h (suc k) (omega (arith, l)))
  where
    shift : (b k : ℕ) → b + 2 + 2 * k ≡ b + 2 * suc k
    shift b k = omega arith

-- ---- No copy of an array begins at an instruction

-- one of an array's word to another's
abbrev pub is_index : Src → Bool
is_index (FromIndex r x) = true
is_index src = false

abbrev pub is_double : Instr → Bool
is_double (Two op byte src (ToIndex r x)) = is_index src
is_double i = false

abbrev is_double_in : Option Instr → Bool
is_double_in None = false
is_double_in (Some i) = is_double i

-- an instruction of the profile, and no copy of a word of an array
pub record Fine (i : Instr) : Type 0 where
  pub allowed : in_profile i ≡ true
  pub single : is_double i ≡ false

abbrev pub AllFine : List Instr → Type 0
AllFine [] = Unit {0}
AllFine (i ∷ is) = Fine i × AllFine is

-- of instructions that go on to an address
pub record CodeStands (t : Sheet) (a : ℕ) (is : List Instr) : Type 0 where
  pub holds : HoldsCode t.blocks a is
  pub fine : AllFine is
  pub even : a % 2 ≡ 0
  pub ends : behind a is ≡ t.here.end
  pub low : t.here.end ≤ 0xFF80

is_that : (a b : ℕ) → (a == b) ≡ true → a ≡ b
is_that a b h = grind (arith, nat_tests)

double_read : (i : Instr) (x y : ℕ) → first_word i ≡ 0x4F9F → instruction_at (first_word i) x y ≡ Some i → is_double i ≡ false → ⊥
double_read i x y e read single =
    let is : Some (Two MOV false (FromIndex 15 x) (ToIndex 15 y)) ≡ Some i = sym (ap (λ w. instruction_at w x y) e) ∙ read in
    let same : true ≡ is_double i = ap (λ o. is_double_in o) is in
    let no : true ≡ false = same ∙ single in
    absurd cc

first_and : (b c : Bool) → b ≡ false → b && c ≡ false
first_and b c e = ap (λ z. z && c) e

last_and : (b c : Bool) → c ≡ false → b && c ≡ false
last_and true c e = e
last_and false c e = refl

-- a word that isn't this number
is_other : (o : Option ℕ) (w v : ℕ) → o ≡ Some w → (w == v) ≡ false → is_number o v ≡ false
is_other o w v e h = ap (λ q. is_number q v) e ∙ h

-- 4F9F begins a copy of a word of an array
not_double : (t : Sheet) (a : ℕ) (i : Instr) (is : List Instr) → in_profile i ≡ true → is_double i ≡ false → HoldsCode t.blocks a (i ∷ is) → (first_word i == 0x4F9F) ≡ false
not_double t a i is allowed single h = by (first_word i == 0x4F9F) refl
  where
    by : (c : Bool) → (first_word i == 0x4F9F) ≡ c → c ≡ false
    by false e = refl
    by true e = absurd (double_read i (word_or_zero t (a + 2)) (word_or_zero t (a + 4)) (is_that (first_word i) 0x4F9F e) (reads i (first_word i) (word_or_zero t (a + 2)) (word_or_zero t (a + 4)) allowed (written t a i is h)) single)

-- 403F begins MOV #x,R15
abbrev length_in : Option Instr → ℕ
length_in None = 2
length_in (Some i) = length_of i

two_words : (i : Instr) (x y : ℕ) → first_word i ≡ 0x403F → instruction_at (first_word i) x y ≡ Some i → length_of i ≡ 2
two_words i x y e read =
    let is : Some (Two MOV false (Imm x) (ToReg 15)) ≡ Some i = sym (ap (λ w. instruction_at w x y) e) ∙ read in
    sym (ap (λ o. length_in o) is)

no_room : (a end : ℕ) (b : Bool) → a + 4 ≡ end → b && nat_le (a + 14) end && nat_le (a + 14) fetch_end ≡ false
no_room a end b e = first_and _ _ (last_and b (nat_le (a + 14) end) (above a end e))
  where
    above : (x y : ℕ) → x + 4 ≡ y → nat_le (x + 14) y ≡ false
    above x y h = grind (arith, nat_tests)

not_copied : (t : Sheet) (a double : ℕ) (i : Instr) (is : List Instr) → CodeStands t a (i ∷ is) → is_copy t a double ≡ false
not_copied t a double i is st = by (first_word i == 0x403F) refl is st.holds st.fine.1 st.ends
  where
    here : (js : List Instr) → HoldsCode t.blocks a (i ∷ js) → instruction_at (first_word i) (word_or_zero t (a + 2)) (word_or_zero t (a + 4)) ≡ Some i
    here js h = reads i (first_word i) (word_or_zero t (a + 2)) (word_or_zero t (a + 4)) st.fine.0.allowed (written t a i js h)

    by : (c : Bool) → (first_word i == 0x403F) ≡ c → (js : List Instr) → HoldsCode t.blocks a (i ∷ js) → AllFine js → behind a (i ∷ js) ≡ t.here.end → is_copy t a double ≡ false
    by false e js h fine ends = first_and _ _ (first_and _ _ (first_and _ _ (first_and _ _ (first_and _ _ (first_and _ _ (first_and _ _ (first_and _ _ (first_and _ _ (last_and (fits_here t a copy_bytes) (is_word t a 0x403F) (is_other (word_in t.blocks a) (first_word i) 0x403F (word_here t a i js h) e))))))))))
    by true e [] h fine ends =
        let two = two_words i (word_or_zero t (a + 2)) (word_or_zero t (a + 4)) (is_that (first_word i) 0x403F e) (here [] h) in
        first_and _ _ (first_and _ _ (first_and _ _ (first_and _ _ (first_and _ _ (first_and _ _ (first_and _ _ (first_and _ _ (first_and _ _ (first_and _ _ (no_room a t.here.end (a % 2 == 0) (ap (λ n. a + 2 * n) (sym two) ∙ ends)))))))))))
    by true e (j ∷ js) h fine ends =
        let two = two_words i (word_or_zero t (a + 2)) (word_or_zero t (a + 4)) (is_that (first_word i) 0x403F e) (here (j ∷ js) h) in
        let next : HoldsCode t.blocks (a + 4) (j ∷ js) = subst (λ n. HoldsCode t.blocks (a + 2 * n) (j ∷ js)) two (holds_next t.blocks a i (j ∷ js) h) in
        first_and _ _ (first_and _ _ (first_and _ _ (first_and _ _ (first_and _ _ (first_and _ _ (first_and _ _ (last_and _ (is_word t (a + 4) 0x4F9F)
        (is_other (word_in t.blocks (a + 4)) (first_word j) 0x4F9F (word_here t (a + 4) j js next) (not_double t (a + 4) j js fine.0.allowed fine.0.single next)))))))))

is_standing : (t : Sheet) (a : ℕ) (i : Instr) (is : List Instr) → CodeStands t a (i ∷ is) → standing t a ≡ AnInstruction i
is_standing t a i is st =
    ap (λ c. standing_of (if c then Some (record { words = word_or_zero t (a + 2) / 2; source = word_or_zero t (a + 6); target = word_or_zero t (a + 8) }) else None) (instruction_of t a)) (not_copied t a (word_or_zero t (a + 2)) i is st)
    ∙ ap (λ o. standing_of None o) (instruction_here t a i is st.fine.0.allowed st.holds)

some_word : (xs : List ℕ) (k : ℕ) → k < length xs → (w : ℕ) × (slice_get xs k ≡ Some w)
some_word [] k h = absurd (omega (arith, h))
some_word (x ∷ xs) zero h = (x, refl)
some_word (x ∷ xs) (suc k) h = some_word xs k (omega (arith, h))

held : (t : Sheet) (a : ℕ) (i : Instr) (is : List Instr) → HoldsCode t.blocks a (i ∷ is) → holds_words t a (length_of i) ≡ true
held t a i is h = words_there t a (length_of i) (λ k low.
    let long = words_length i in
    let w = some_word (words_of i) k (omega (arith, low, long)) in
    ap (λ o. is_some o) (holds_here t.blocks a i is h k w.0 w.1))

pub eq_is : (x y : ℕ) → x ≡ y → (x == y) ≡ true
eq_is x y h = grind (arith, nat_tests)

pub le_is : (x y : ℕ) → x ≤ y → nat_le x y ≡ true
le_is x y h = grind (arith, nat_tests)

pub three_and : (b c d : Bool) → b ≡ true → c ≡ true → d ≡ true → b && c && d ≡ true
three_and b c d e f g = ap (λ z. z && c && d) e ∙ ap (λ z. z && d) f ∙ g

is_fitting : (t : Sheet) (a : ℕ) (i : Instr) (is : List Instr) → CodeStands t a (i ∷ is) → is_form i ≡ true → form_fault t a (AnInstruction i) ≡ None
is_fitting t a i is st formed =
    let above = behind_above (a + 2 * length_of i) is in
    let ends = st.ends in
    let low = st.low in
    ap (λ c. unless c Form a (shown (word_in t.blocks a)) (pos 0))
    (three_and (fits_here t a (2 * length_of i)) (holds_words t a (length_of i)) (is_form i)
    (three_and (a % 2 == 0) (nat_le (a + 2 * length_of i) t.here.end) (nat_le (a + 2 * length_of i) fetch_end) (eq_is (a % 2) 0 st.even) (le_is _ _ (omega (arith, above, ends))) (le_is _ _ (omega (arith, above, ends, low))))
    (held t a i is st.holds) formed)

-- an instruction stands where its words are, no head is on it and no point within it
pub stands : (t : Sheet) (a : ℕ) (i : Instr) (is : List Instr) → CodeStands t a (i ∷ is) → is_form i ≡ true → is_head t a ≡ false → ((x : ℕ) → a < x → x < a + 2 * length_of i → point_at t.points x ≡ None) → Stands t a i
stands t a i is st formed head within =
    let above = behind_above (a + 2 * length_of i) is in
    let ends = st.ends in
    let some = length_some i in
    record {
      inside = omega (arith, above, ends, some);
      head = head;
      instr = is_standing t a i is st;
      form = is_fitting t a i is st formed;
      within = no_points t (2 * length_of i - 1) (a + 1) (λ x l r. within x (omega (arith, l)) (omega (arith, r)));
    }

even_on : (a n : ℕ) → a % 2 ≡ 0 → (a + 2 * n) % 2 ≡ 0
even_on a n h = omega (arith, h)

pub stands_next : (t : Sheet) (a : ℕ) (i : Instr) (is : List Instr) → CodeStands t a (i ∷ is) → CodeStands t (a + 2 * length_of i) is
stands_next t a i is st = record {
  holds = holds_next t.blocks a i is st.holds;
  fine = st.fine.1;
  even = even_on a (length_of i) st.even;
  ends = st.ends;
  low = st.low;
}

pub stands_behind : (t : Sheet) (a : ℕ) (is js : List Instr) → CodeStands t a (is ++ js) → CodeStands t (behind a is) js
stands_behind t a [] js st = st
stands_behind t a (i ∷ is) js st = stands_behind t (a + 2 * length_of i) is js (stands_next t a i (is ++ js) st)

-- all instructions of a template stand, with the points that a table has on them
pub all_stand : (t : Sheet) (a : ℕ) (is js : List Instr) (points : ℕ → Option Point) → CodeStands t a (is ++ js) → ((k : ℕ) (i : Instr) → slice_get is k ≡ Some i → is_form i ≡ true) → t.here.start ≤ a → ((x : ℕ) → turns_at t x ≡ None)
    → ((x : ℕ) → a ≤ x → x < behind a is → is_head t x ≡ false)
    → ((k : ℕ) (i : Instr) → slice_get is k ≡ Some i → point_at t.points (address_in a is k) ≡ points k)
    → ((k : ℕ) (i : Instr) (x : ℕ) → slice_get is k ≡ Some i → address_in a is k < x → x < address_in a is k + 2 * length_of i → point_at t.points x ≡ None)
    → AllStandWith t a is points
all_stand t a [] js points st formed begun turns heads at within k i e = absurd (let no : false ≡ true = ap (λ o. is_some o) e in cc)
all_stand t a (j ∷ is) js points st formed begun turns heads at within zero i e =
    let same : j ≡ i = cc in
    let above = behind_above (a + 2 * length_of j) is in
    let some = length_some j in
    subst (λ q. StandsWith t a q (points 0)) same (record {
      stands = stands t a j (is ++ js) st (formed 0 j refl) (heads a (omega arith) (omega (arith, above, some))) (λ x l r. within 0 j x refl l r);
      point = at 0 j refl;
      begun = begun;
      turns = turns a;
    })
all_stand t a (j ∷ is) js points st formed begun turns heads at within (suc k) i e =
    all_stand t (a + 2 * length_of j) is js (λ m. points (suc m)) (stands_next t a j (is ++ js) st) (λ m q f. formed (suc m) q f) (omega (arith, begun)) turns
    (λ x l r. heads x (omega (arith, l)) r) (λ m q f. at (suc m) q f) (λ m q x f l r. within (suc m) q x f l r) k i e
