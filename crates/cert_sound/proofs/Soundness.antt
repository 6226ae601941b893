-- Every generous run of a certified image is safe.
use Rattle.std.proofs.Common.{◌≡◌, ℕ, zero, suc, ◌+◌, ◌-◌, ◌*◌, ◌/◌, ◌%◌, ◌<◌, ◌≤◌, Bool, true, false, not, Option, Some, None, List, [], ◌∷◌, length, refl, sym, ap, ◌∙◌, subst, arith, inl, inr, ◌⊎◌, ⊎_elim}
use Rattle.std.specs.Prelude.{if◌then◌else◌, ◌==◌, ◌&&◌, ◌||◌, nat_le, nat_lt, is_some, is_none, All, slice_get, pos, ◌+ℤ◌}
use Rattle.std.specs.Int.Signed.{◌≤ℤ◌}
use Rattle.std.proofs.lemmas.Int.{ints}
use Rattle.std.proofs.lemmas.Bool.{and_parts}
use Rattle.std.proofs.lemmas.Bool.Decides.{nat_tests}
use Rattle.std.proofs.lemmas.List.Elements.{All-head, All-tail}
use Rattle.board_table.specs.declared.board.Board.{Board}
use Rattle.ti_txt.specs.Image.{Block, IsImage}
use Rattle.certificate.specs.declared.cert.Slot.{Slot}
use Rattle.certificate.specs.declared.cert.Slot.TheVariants.{Reg, Word}
use Rattle.certificate.specs.declared.cert.StretchRow.{StretchRow}
use Rattle.certificate.specs.Rows.{Function, Flat, Point, Certificate}
use Rattle.msp430_machine.specs.State.{Off, Awake, State}
use Rattle.msp430_machine.specs.Memory.{word_at, word_in as word_in_region}
use Rattle.msp430_machine.specs.First.{IsFirst, HoldsBlocks}
use Rattle.power_core.specs.Runs.{Event, Generous}
use Rattle.cert_rules.specs.declared.Rule.{Rule}
use Rattle.cert_rules.specs.declared.Rule.TheVariants.{Boot, Head}
use Rattle.cert_rules.specs.Faults.{Fault, unless, first_of}
use Rattle.cert_rules.specs.Words.{word_in, boot_words, head_words, head_bytes}
use Rattle.cert_rules.specs.Slots.{is_memory}
use Rattle.cert_rules.specs.Forms.{is_general}
use Rattle.cert_rules.specs.Known.{Known, bare}
use Rattle.cert_rules.specs.Tables.{head_at, point_at, function_at, contains, is_split, is_number, board_fault, boot_fault, functions_fault, code_end, lies_in, head_fault, start_fault, budget_fault, tables_fault, point_fault, place_fault, outside_fault, head_around, function_with, word_fault, words_fault}
use Rattle.cert_rules.specs.Sheet.{Sheet, is_head, is_point}
use Rattle.cert_rules.specs.Going.{limit_by, limit_of, row_cost, may_go_to, spent_to, greatest_spent}
use Rattle.cert_rules.specs.Overhead.{sleep_cost}
use Rattle.cert_rules.specs.Sweep.{Swept, SweptFrom, AllSwept, done, fault, next as and_next, Certified, sheet, entry, entry_fault, behind_head}
use Rattle.cert_effects.specs.Knows.{value_of, Knows}
use Rattle.cert_effects.proofs.Values.{Lies, in_sram, in_data, where_lies, general_high}
use Rattle.cert_effects.proofs.Rules.{none_parts, unless_passes}
use Rattle.cert_effects.proofs.Computing.{InputWords}
use Rattle.cert_sound.specs.Moments.{Moment, first, MomentRun}
use Rattle.cert_sound.specs.Sound.{Safe, IsNoFault, IsSound}
use Rattle.cert_sound.proofs.Covering.{Covers, covers_none}
use Rattle.cert_code.proofs.Fetching.{Loaded, code_word, gate_word, resume_word, saved_word}
use Rattle.cert_code.proofs.Sweeping.{Found, an_instruction, a_copy, swept_step, swept_head, found_there, number_there}
use Rattle.cert_sound.proofs.Running.{Around, Keeps, Placed, Stands, AtHead, AtStart, BackHead, BackFlat, Back, Sound, head_less, back_less}
use Rattle.cert_sound.proofs.Stepping.{Ready, ReadyHeads, BackTo, lands, step_covers}
use Rattle.cert_sound.proofs.Calls.{FlatCalls, SplitCalls, calling, returning}
use Rattle.cert_sound.proofs.Copying.{copy_covers}
use Rattle.cert_sound.proofs.Heads.{Boots, bare_knows}
use Rattle.cert_sound.proofs.Waking.{wake_covers, head_covers}
use Rattle.cert_code.proofs.Apart.{HeadWords, heads_apart}
use Rattle.cert_code.proofs.Functions.{Among, function_among, holds_each, Follows, Functions, all_functions, HeadPlace, head_place}
use Rattle.cert_code.proofs.Tables.{row_holds, some_row, words_there, code_end_low, numbers_of, none_around, PointsOutside, reaches, room_below, head_goes}

-- ---- All runs, by the number of their events

le_is : (a b : ℕ) → a ≤ b → nat_le a b ≡ true
le_is a b e = grind (arith, nat_tests)

lt_is : (a b : ℕ) → a < b → nat_lt a b ≡ true
lt_is a b e = grind (arith, nat_tests)

number_is : (a b : ℕ) → (a == b) ≡ true → a ≡ b
number_is a b e = grind (arith, nat_tests)

head_may : (t : Sheet) (a : ℕ) → is_head t a ≡ true → t.here.start ≤ a → a < t.here.end → may_go_to t a ≡ true
head_may t a h low high = both _ _ (or_right (is_point t a) (is_head t a) h) (both _ _ (le_is t.here.start a low) (lt_is a t.here.end high))
  where
    or_right : (x y : Bool) → y ≡ true → (x || y) ≡ true
    or_right true y e = refl
    or_right false y e = e

    both : (x y : Bool) → x ≡ true → y ≡ true → (x && y) ≡ true
    both x y e f = ap (λ z. z && y) e ∙ f

module _ (t : Sheet) (code : ℕ → ℕ) (input : List ℕ) (words : InputWords input) (c : Sound t code) where
  found_covers : (n a : ℕ) (incoming : Option Known) (κ : Known) (x : Around) (spent : ℕ) (m : Moment) → Ready t code input words c n → ReadyHeads t code input words c n → BackTo t code input words c x n
      → FlatCalls t code input words c n → SplitCalls t code input words c n → t.here.start ≤ a → Placed t x κ.stretch → Stands t code x a κ.stretch spent m → Knows κ m.trail.state m.written spent → Found t a κ
      → Covers t.board input (Safe t.stretches t.board) (suc n) m
  found_covers n a incoming κ x spent m ready heads back flats splits low placed stand k (an_instruction i there) =
      step_covers t code input words c n a incoming κ x spent m ready heads back low placed stand k
      (calling t code input words c n a incoming κ x spent m ready heads back low placed stand k flats splits)
      (returning t code input words c n a incoming κ x spent m ready heads back low placed stand k) i there
  found_covers n a incoming κ x spent m ready heads back flats splits low placed stand k (a_copy y there) = copy_covers t code input words c n a incoming κ x spent m ready heads back low placed stand k y there

-- ---- Words of the first state and of the input

input_words : (input : List ℕ) → All (λ w. w < 65536) input → InputWords input
input_words [] h k = omega arith
input_words (w ∷ input) h zero = All-head (λ w. w < 65536) w input h
input_words (w ∷ input) h (suc k) = input_words input (All-tail (λ w. w < 65536) w input h) k

first_word_small : (s : State) (a : ℕ) → IsFirst s → Lies a → word_at s a < 65536
first_word_small s a f (in_sram low high r sr d) = subst (λ q. word_in_region q s a < 65536) (sym r) (f.sram ((a - 0x1C00) / 2) (omega (arith, low, high)))
first_word_small s a f (in_data low high r sr d) = subst (λ q. word_in_region q s a < 65536) (sym r) (f.fram (a / 2) (omega (arith, low, high)))

first_values : (s : State) → IsFirst s → (x : Slot) → value_of s x < 65536
first_values s f (Reg r) = elim (is_general r) as (λ b. is_general r ≡ b → (if b then s.reg r else 0) < 65536) [ true ↦ λ g. f.registers r (general_high r g) | false ↦ λ g. omega arith ] refl
first_values s f (Word a) = elim (is_memory a) as (λ b. is_memory a ≡ b → (if b && a % 2 == 0 then word_at s a else 0) < 65536) [
  | true ↦ λ e. elim (a % 2 == 0) as (λ b. (if b then word_at s a else 0) < 65536) [ true ↦ first_word_small s a f (where_lies a e) | false ↦ omega arith ]
  | false ↦ λ e. omega arith
] refl

-- ---- What the rules say

limit_low : (stretches : List StretchRow) (budget h : ℕ) → first_of (budget_fault budget) stretches ≡ None → row_cost (head_at stretches h) ≤ budget
limit_low stretches budget h e = by_row (head_at stretches h) refl
  where
    by_row : (o : Option StretchRow) → head_at stretches h ≡ o → row_cost (head_at stretches h) ≤ budget
    by_row None f = subst (λ o. row_cost o ≤ budget) (sym f) (omega arith)
    by_row (Some s) f = subst (λ o. row_cost o ≤ budget) (sym f) (le_of s.cost budget (unless_passes (nat_le s.cost budget) _ _ _ _ (row_holds (λ s. s.head) (budget_fault budget) stretches h s e f).0))
      where
        le_of : (a b : ℕ) → nat_le a b ≡ true → a ≤ b
        le_of a b e = grind (arith, nat_tests)

points_apart : (t : Sheet) → first_of (point_fault t.functions t.stretches) t.points ≡ None → PointsOutside t
points_apart t h a b is point low high =
    let p = some_row (point_at t.points b) point in
    let s = some_row (head_at t.stretches a) is in
    let holds = row_holds (λ p. p.address) (point_fault t.functions t.stretches) t.points b p.0 h p.1 in
    none_around t.stretches b a s.0 (subst (λ z. head_around t.stretches z ≡ None) holds.1 (outside p.0 (function_with t.functions p.0.address) holds.0)) s.1 low high
  where
    no_head : (x : ℕ) (o : Option ℕ) → outside_fault x o ≡ None → o ≡ None
    no_head x None e = refl
    no_head x (Some y) e = let bad : true ≡ false = ap is_some e in cc

    outside : (p : Point) (f : Option Function) → place_fault t.stretches p f ≡ None → head_around t.stretches p.address ≡ None
    outside p None e = let bad : true ≡ false = ap is_some e in cc
    outside p (Some f) e = no_head p.address (head_around t.stretches p.address) (none_parts (outside_fault p.address (head_around t.stretches p.address)) _ e).0

-- ---- The parts of a verdict

-- the rules on rows, and the sweep of each function
pub record RowsHold (blocks : List Block) (c : Certificate) (b : Board) (f : Function) (others : List Function) : Type 0 where
  pub boot : boot_fault blocks (f ∷ others) ≡ None
  pub functions : Functions (code_end blocks) f others
  pub heads : first_of (head_fault blocks (f ∷ others)) c.stretches ≡ None
  pub starts : first_of (start_fault c.stretches) (f ∷ others) ≡ None
  pub costs : first_of (budget_fault b.budget) c.stretches ≡ None
  pub points : first_of (point_fault c.functions c.stretches) c.points ≡ None
  pub first_swept : SweptFrom (sheet blocks c b true f) None
  pub swept : (g : Function) → Among g (f ∷ others) → (own : Bool) × SweptFrom (sheet blocks c b own g) None

first_of_all : (blocks : List Block) (c : Certificate) (b : Board) (f : Function) (others : List Function) (v : Option Fault) → AllSwept blocks c b true (f ∷ others) v → v ≡ None → SweptFrom (sheet blocks c b true f) None
first_of_all blocks c b f others v (fault first g gs x s) e = absurd (let bad : Some x ≡ None = e in cc)
first_of_all blocks c b f others v (and_next first g gs u s rest) e = s

each_swept : (blocks : List Block) (c : Certificate) (b : Board) (first : Bool) (fs : List Function) (v : Option Fault) → AllSwept blocks c b first fs v → v ≡ None → (g : Function) → Among g fs
    → (own : Bool) × SweptFrom (sheet blocks c b own g) None
each_swept blocks c b first fs v (done x) e g k = absurd k
each_swept blocks c b first fs v (fault x f gs y s) e g k = absurd (let bad : Some y ≡ None = e in cc)
each_swept blocks c b first fs v (and_next x f gs u s rest) e g k =
    ⊎_elim (λ is. (x, subst (λ z. SweptFrom (sheet blocks c b x z) None) (sym is) s)) (λ j. each_swept blocks c b false gs u rest e g j) k

rows_hold : (blocks : List Block) (c : Certificate) (b : Board) (f : Function) (others : List Function) → Certified blocks c b → c.functions ≡ f ∷ others → RowsHold blocks c b f others
rows_hold blocks c b f others v is =
    let a1 = none_parts (tables_fault blocks c.budget c.functions c.stretches b) _ (sym v.is) in
    let a2 = none_parts (first_of (point_fault c.functions c.stretches) c.points) _ a1.1 in
    let sweep : v.sweep ≡ None = (none_parts v.sweep None a2.1).0 in
    let t1 : tables_fault blocks c.budget (f ∷ others) c.stretches b ≡ None = subst (λ fs. tables_fault blocks c.budget fs c.stretches b ≡ None) is a1.0 in
    let b1 = none_parts (board_fault c.budget b) _ t1 in
    let b2 = none_parts (boot_fault blocks (f ∷ others)) _ b1.1 in
    let b3 = none_parts (functions_fault (code_end blocks) (f ∷ others)) _ b2.1 in
    let b4 = none_parts (first_of (head_fault blocks (f ∷ others)) c.stretches) _ b3.1 in
    let b5 = none_parts (first_of (start_fault c.stretches) (f ∷ others)) _ b4.1 in
    let b6 = none_parts (first_of (budget_fault c.budget) c.stretches) None b5.1 in
    let budget : c.budget ≡ b.budget = number_is c.budget b.budget (unless_passes (c.budget == b.budget) _ _ _ _ b1.0) in
    let all : AllSwept blocks c b true (f ∷ others) v.sweep = subst (λ fs. AllSwept blocks c b true fs v.sweep) is v.swept in
    record {
      boot = b2.0;
      functions = all_functions (code_end blocks) f others b3.0;
      heads = b4.0;
      starts = b5.0;
      costs = subst (λ n. first_of (budget_fault n) c.stretches ≡ None) budget b6.0;
      points = a2.0;
      first_swept = first_of_all blocks c b f others v.sweep all sweep;
      swept = each_swept blocks c b true (f ∷ others) v.sweep all sweep;
    }

-- ---- The whole

le_of : (a b : ℕ) → nat_le a b ≡ true → a ≤ b
le_of a b e = grind (arith, nat_tests)

lt_of : (a b : ℕ) → nat_lt a b ≡ true → a < b
lt_of a b e = grind (arith, nat_tests)

fixed : (blocks : List Block) (rule : Rule) (a w : ℕ) → word_fault blocks rule a w ≡ None → word_in blocks a ≡ Some w
fixed blocks rule a w h = number_there (word_in blocks a) w (unless_passes (is_number (word_in blocks a) w) _ _ _ _ h)

pub record BootWords (blocks : List Block) (f : Function) : Type 0 where
  pub boot : words_fault blocks Boot 0x8000 boot_words ≡ None
  pub vector : word_in blocks 0xFFFE ≡ Some 0x8000
  pub gate : word_in blocks 0x1800 ≡ Some 1
  pub resume : word_in blocks 0x1802 ≡ Some (f.start + 18)
  pub saved : word_in blocks 0x1804 ≡ Some 0x8000

boot_words_of : (blocks : List Block) (f : Function) (others : List Function) → boot_fault blocks (f ∷ others) ≡ None → BootWords blocks f
boot_words_of blocks f others h =
    let a1 = none_parts (words_fault blocks Boot 0x8000 boot_words) _ h in
    let a2 = none_parts (word_fault blocks Boot 0xFFFE 0x8000) _ a1.1 in
    let a3 = none_parts (word_fault blocks Boot 0x1800 1) _ a2.1 in
    let a4 = none_parts (word_fault blocks Boot 0x1802 (f.start + 18)) _ a3.1 in
    let a5 = none_parts (word_fault blocks Boot 0x1804 0x8000) None a4.1 in
    record {
      boot = a1.0;
      vector = fixed blocks Boot 0xFFFE 0x8000 a2.0;
      gate = fixed blocks Boot 0x1800 1 a3.0;
      resume = fixed blocks Boot 0x1802 (f.start + 18) a4.0;
      saved = fixed blocks Boot 0x1804 0x8000 a5.0;
    }

-- a head at an address of a function is that function's
pub record HeadFacts (blocks : List Block) (g : Function) (h : ℕ) : Type 0 where
  pub place : HeadPlace h g
  pub words : words_fault blocks Head h (head_words h) ≡ None

head_facts : (blocks : List Block) (c : Certificate) (b : Board) (f : Function) (others : List Function) (g : Function) (h : ℕ) → RowsHold blocks c b f others → Among g (f ∷ others) → is_some (head_at c.stretches h) ≡ true → g.start ≤ h → h < g.end
    → HeadFacts blocks g h
head_facts blocks c b f others g h r k is low high =
    let s = some_row (head_at c.stretches h) is in
    let holds = row_holds (λ s. s.head) (head_fault blocks (f ∷ others)) c.stretches h s.0 r.heads s.1 in
    let p = none_parts (unless (lies_in (f ∷ others) s.0.head) Head s.0.head (pos s.0.head) (pos 0)) _ holds.0 in
    let words : words_fault blocks Head s.0.head (head_words s.0.head) ≡ None = (none_parts (words_fault blocks Head s.0.head (head_words s.0.head)) None p.1).0 in
    let place = head_place (f ∷ others) h (subst (λ x. lies_in (f ∷ others) x ≡ true) holds.1 (unless_passes (lies_in (f ∷ others) s.0.head) _ _ _ _ p.0)) in
    let at = place.2 in
    let same : place.0 ≡ g = r.functions.alone place.0 g place.1 k h at.low (omega (arith, at.high)) low high in
    record { place = subst (λ z. HeadPlace h z) same at; words = subst (λ x. words_fault blocks Head x (head_words x) ≡ None) holds.1 words }

-- the word of this number in a list of words that have to stand
word_of_list : (blocks : List Block) (rule : Rule) (a : ℕ) (ws : List ℕ) (k w : ℕ) → words_fault blocks rule a ws ≡ None → slice_get ws k ≡ Some w → word_in blocks (a + 2 * k) ≡ Some w
word_of_list blocks rule a [] k w h e = absurd (let bad : None ≡ Some w = e in cc)
word_of_list blocks rule a (v ∷ ws) zero w h e =
    let at : a + 2 * 0 ≡ a = omega arith in
    let same : v ≡ w = cc in
    ap (word_in blocks) at ∙ fixed blocks rule a v (none_parts (word_fault blocks rule a v) (words_fault blocks rule (a + 2) ws) h).0 ∙ ap (λ n. Some n) same
word_of_list blocks rule a (v ∷ ws) (suc k) w h e =
    let on : a + 2 * suc k ≡ a + 2 + 2 * k = omega arith in
    ap (word_in blocks) on ∙ word_of_list blocks rule (a + 2) ws k w (none_parts (word_fault blocks rule a v) (words_fault blocks rule (a + 2) ws) h).1 e

either : (x y : Bool) → (x || y) ≡ true → (x ≡ true) ⊎ (y ≡ true)
either true y e = inl refl
either false y e = inr e

starts_at_head : (x y : Bool) → x ≡ true → (not x || y) ≡ true → y ≡ true
starts_at_head true y e h = h
starts_at_head false y e h = absurd (let bad : false ≡ true = e in cc)

module _ (blocks : List Block) (c : Certificate) (b : Board) (f : Function) (others : List Function) (s : State) (image : IsImage blocks) (is : c.functions ≡ f ∷ others) (rows : RowsHold blocks c b f others)
    (is_first : IsFirst s) (holds : HoldsBlocks s blocks) where
  loaded : Loaded blocks s.code
  loaded = record { words = λ a w e low even. code_word s blocks a w holds e low even; small = is_first.code }

  fixed_words : BootWords blocks f
  fixed_words = boot_words_of blocks f others rows.boot

  -- ---- One function

  module _ (first : Bool) (g : Function) (k : Among g (f ∷ others)) (from : SweptFrom (sheet blocks c b first g) None) where
    abbrev t : Sheet
    t = sheet blocks c b first g

    own : Follows 0x8012 rows.functions.last g
    own = rows.functions.each g k

    facts : (h : ℕ) → is_head t h ≡ true → g.start ≤ h → h < g.end → HeadFacts blocks g h
    facts h at low high = head_facts blocks c b f others g h rows k at low high

    parts : (entry_fault t (entry g g.flat) ≡ None) × (from.rest ≡ None)
    parts = none_parts (entry_fault t (entry g g.flat)) from.rest (sym from.is)

    swept : Swept t g.start (entry g g.flat) None
    swept = subst (λ z. Swept t g.start (entry g g.flat) z) parts.1 from.swept

    head_words_of : (h : ℕ) → is_head t h ≡ true → g.start ≤ h → h < g.end → HeadWords t h
    head_words_of h at low high =
        let it = facts h at low high in
        record {
          even = it.place.even;
          low = omega (arith, own.low, low);
          begins = low;
          high = it.place.high;
          w0 = (let on : h ≡ h + 2 * 0 = omega arith in ap (word_in blocks) on ∙ word_of_list blocks Head h (head_words h) 0 0x4182 it.words refl);
          w1 = word_of_list blocks Head h (head_words h) 1 0x1804 it.words refl;
          w2 = word_of_list blocks Head h (head_words h) 2 0x40B2 it.words refl;
          w3 = word_of_list blocks Head h (head_words h) 3 (h + 18) it.words refl;
          w4 = word_of_list blocks Head h (head_words h) 4 0x1802 it.words refl;
          w5 = word_of_list blocks Head h (head_words h) 5 0x4392 it.words refl;
          w6 = word_of_list blocks Head h (head_words h) 6 0x1800 it.words refl;
          w7 = word_of_list blocks Head h (head_words h) 7 0xD032 it.words refl;
          w8 = word_of_list blocks Head h (head_words h) 8 0x0010 it.words refl;
          w9 = word_of_list blocks Head h (head_words h) 9 0x4382 it.words refl;
          w10 = word_of_list blocks Head h (head_words h) 10 0x1800 it.words refl;
        }

    visited : (x : ℕ) → may_go_to t x ≡ true → (incoming : Option Known) × Swept t x incoming None
    visited x may =
        let place = and_parts (is_point t x || is_head t x) (contains g x) may in
        let within = and_parts (nat_le g.start x) (nat_lt x g.end) place.1 in
        reaches t g.start (entry g g.flat) None (heads_apart t head_words_of) (points_apart t rows.points) swept refl (omega arith) x (le_of g.start x within.0) (lt_of x g.end within.1) (either (is_point t x) (is_head t x) place.0)

    sound_code : Sound t s.code
    sound_code = record {
      loaded = loaded;
      low = own.low;
      tall = own.tall;
      callees = λ target h e. (rows.functions.each h (function_among (f ∷ others) target h (subst (λ fs. function_at fs target ≡ Some h) is e)).0).tall;
      limits = λ h. limit_low c.stretches b.budget h rows.costs;
      top = omega (arith, own.top, code_end_low 0 blocks rows.functions.last image rows.functions.is_last);
      heads_split = λ h at low high. (facts h at low high).place.split;
      numbers = λ a i found low even room. numbers_of t s.code a i loaded found low even room;
      visited = visited;
    }

    boots : Boots t s.code
    boots = record {
      boot = words_there blocks s.code Boot 0x8000 boot_words loaded (omega arith) refl fixed_words.boot;
      reset = loaded.words 0xFFFE 0x8000 fixed_words.vector (omega arith) refl;
      heads = λ h at low high. (let it = facts h at low high in words_there blocks s.code Head h (head_words h) loaded (omega (arith, own.low, low)) it.place.even it.words);
      even = λ h at low high. (facts h at low high).place.even;
      room = λ h at low high.
          (let come = visited h (head_may t h at low high) in
          let there = swept_head t h come.0 None come.1 refl high at in
          room_below t (h + head_bytes) (behind_head t h) (Some (behind_head t h)) None there.rest refl refl (head_goes t h there.passes));
    }

  -- ---- All runs, by the number of their events

  module _ (input : List ℕ) (words : InputWords input) where
    abbrev ReadyAll : ℕ → Type 0
    ReadyAll n = (first : Bool) (g : Function) (k : Among g (f ∷ others)) (from : SweptFrom (sheet blocks c b first g) None)
        → Ready (sheet blocks c b first g) s.code input words (sound_code first g k from) n × ReadyHeads (sheet blocks c b first g) s.code input words (sound_code first g k from) n

    -- where a flat function begins
    flat_begins : (n : ℕ) (first : Bool) (g : Function) (k : Among g (f ∷ others)) (from : SweptFrom (sheet blocks c b first g) None) → ReadyAll n → (fl : Flat) → g.flat ≡ Some fl → (x : Around) (m : Moment) → length x.frames + g.height ≤ 65
        → AtStart b c.stretches s.code fl x g.start m → BackFlat b c.stretches s.code input fl x n x.frames → Covers b input (Safe c.stretches b) n m
    flat_begins n first g k from ready fl flat x m deep at back =
        let t : Sheet = sheet blocks c b first g in
        let both = ready first g k from in
        let own : Follows 0x8012 rows.functions.last g = rows.functions.each g k in
        let κ : Known = bare g.start 0 in
        let limit : limit_of t g.start ≡ fl.cost = ap (λ o. limit_by t g.start o) flat in
        lands t s.code input words (sound_code first g k from) n g.start g.start (Some κ) κ x 0 m both.0 both.1 (subst (λ o. Back b c.stretches s.code input o first x n) (sym flat) back)
        (subst (λ o. Swept t g.start (entry g o) None) flat (swept first g k from)) (omega arith) own.some (λ none no_head. refl)
        (record { room = omega (arith, limit, at.room); deep = deep; split = λ e. absurd (let bad : Some fl ≡ None = sym flat ∙ e in cc) })
        (record {
          awake = at.awake;
          pc = at.pc;
          has_code = at.has_code;
          no_cut = at.no_cut;
          rich = at.rich;
          counted = omega (arith, at.counted);
          resumes = at.resumes;
          stacked = at.stacked;
          kept = subst (λ o. Keeps o x m.trail.state m.written) (sym flat) at.kept;
        })
        (bare_knows g.start 0 m.trail.state m.written 0 (omega arith) at.values)
        (no_head_there (is_head t g.start) refl)
        (subst (λ o. entry_fault t (entry g o) ≡ None) flat (parts first g k from).0)
      where
        no_head_there : (h : Bool) → is_head (sheet blocks c b first g) g.start ≡ h → spent_to (sheet blocks c b first g) g.start (bare g.start 0) ≤ℤ pos (limit_of (sheet blocks c b first g) g.start)
        no_head_there true e = absurd
            (let none : g.flat ≡ None = (sound_code first g k from).heads_split g.start e (omega arith) (rows.functions.each g k).some in
            let bad : Some fl ≡ None = sym flat ∙ none in cc)
        no_head_there false e = subst (λ h. (greatest_spent (bare g.start 0) +ℤ pos (if h then sleep_cost b else 0)) ≤ℤ pos (limit_of (sheet blocks c b first g) g.start)) (sym e) (omega (arith, ints))

    head_of : (g : Function) → Among g (f ∷ others) → g.flat ≡ None → is_some (head_at c.stretches g.start) ≡ true
    head_of g k split =
        starts_at_head (is_split g) (is_some (head_at c.stretches g.start)) (ap is_none split)
        (unless_passes (not (is_split g) || is_some (head_at c.stretches g.start)) _ _ _ _ (holds_each (start_fault c.stretches) (f ∷ others) g rows.starts k))

    split_begins : (n : ℕ) (first : Bool) (g : Function) (k : Among g (f ∷ others)) (from : SweptFrom (sheet blocks c b first g) None) → ReadyAll n → g.flat ≡ None → (r stretch : ℕ) (frames : List ℕ) (m : Moment) → length (r ∷ frames) + g.height ≤ 65
        → AtHead b c.stretches s.code (r ∷ frames) g.start stretch m → BackHead b c.stretches s.code input false n (r ∷ frames) → Covers b input (Safe c.stretches b) n m
    split_begins n first g k from ready split r stretch frames m deep at back =
        (ready first g k from).1 g.start stretch (r ∷ frames) m (head_of g k split) (omega arith) (rows.functions.each g k).some deep at back

    more_ready : (n : ℕ) → ReadyAll n → ReadyAll (suc n)
    more_ready n ready first g k from = (step, at_head)
      where
        both : Ready (sheet blocks c b first g) s.code input words (sound_code first g k from) n × ReadyHeads (sheet blocks c b first g) s.code input words (sound_code first g k from) n
        both = ready first g k from

        row : (target : ℕ) (h : Function) → function_at c.functions target ≡ Some h → Among h (f ∷ others) × (h.start ≡ target)
        row target h e = function_among (f ∷ others) target h (subst (λ fs. function_at fs target ≡ Some h) is e)

        flats : FlatCalls (sheet blocks c b first g) s.code input words (sound_code first g k from) n
        flats target h fl x m e flat deep at back =
            let p = row target h e in
            let sw = rows.swept h p.0 in
            flat_begins n sw.0 h p.0 sw.1 ready fl flat x m deep (subst (λ a. AtStart b c.stretches s.code fl x a m) (sym p.1) at) back

        splits : SplitCalls (sheet blocks c b first g) s.code input words (sound_code first g k from) n
        splits target h r stretch frames m e split deep at back =
            let p = row target h e in
            let sw = rows.swept h p.0 in
            split_begins n sw.0 h p.0 sw.1 ready split r stretch frames m deep (subst (λ a. AtHead b c.stretches s.code (r ∷ frames) a stretch m) (sym p.1) at) back

        step : Ready (sheet blocks c b first g) s.code input words (sound_code first g k from) (suc n)
        step a incoming κ x spent m swept low high no_head known placed stand knows back =
            found_covers (sheet blocks c b first g) s.code input words (sound_code first g k from) n a incoming κ x spent m both.0 both.1 (back_less b c.stretches s.code input g.flat first x n back) flats splits low placed stand knows
            (found_there (sheet blocks c b first g) a incoming κ (swept_step (sheet blocks c b first g) a incoming None swept refl high no_head) known)

        at_head : ReadyHeads (sheet blocks c b first g) s.code input words (sound_code first g k from) (suc n)
        at_head a stretch frames m at low high deep here back =
            let sound : Sound (sheet blocks c b first g) s.code = sound_code first g k from in
            let boot : Boots (sheet blocks c b first g) s.code = boots first g k from in
            let come = sound.visited a (head_may (sheet blocks c b first g) a at low high) in
            let j : ℕ = (a - 0x8000) / 2 in
            let even : a % 2 ≡ 0 = boot.even a at low high in
            let place : a ≡ 0x8000 + 2 * j = omega (arith, even, low, sound.low) in
            head_covers (sheet blocks c b first g) s.code input words sound boot n a stretch j frames m both.0 both.1 deep (head_less b c.stretches s.code input first n frames back) at low high come.0 come.1 place
            (record { awake = here.awake; pc = here.pc ∙ place; has_code = here.has_code; no_cut = here.no_cut; rich = here.rich; room = here.room; resumes = here.resumes })
            here.stacked here.values

    all_ready : (n : ℕ) → ReadyAll n
    all_ready zero first g k from = (
      λ a incoming κ x spent m swept low high no_head known placed stand knows back. covers_none b input (Safe c.stretches b) m,
      λ a stretch frames m at low high deep here back. covers_none b input (Safe c.stretches b) m,
    )
    all_ready (suc n) first g k from = more_ready n (all_ready n) first g k from

    pub safe_run : (events : List Event) (m : Moment) → Generous b.budget events → MomentRun b input (first s) events m → Safe c.stretches b m
    safe_run events m generous run =
        let here : Among f (f ∷ others) = inl refl in
        let n : ℕ = suc (length events) in
        let all = all_ready n true f here rows.first_swept in
        let own : Follows 0x8012 rows.functions.last f = rows.functions.each f here in
        let swept : Swept (sheet blocks c b true f) f.start None None = subst (λ o. Swept (sheet blocks c b true f) f.start (entry f o) None) rows.functions.split (swept true f here rows.first_swept) in
        wake_covers (sheet blocks c b true f) s.code input words (sound_code true f here rows.first_swept) (boots true f here rows.first_swept) n f.start 9 [] (first s) all.0 all.1 (omega (arith, own.short)) refl
        (head_of f here rows.functions.split) (omega arith) own.some None swept (omega (arith, rows.functions.begins))
        (record {
          phase = inl is_first.off;
          gate = gate_word s blocks 1 holds fixed_words.gate;
          resume = resume_word s blocks (f.start + 18) holds fixed_words.resume;
          saved = saved_word s blocks 0x8000 holds fixed_words.saved;
          stack = tt;
          has_code = refl;
          no_cut = refl;
          safe = record {
            no_cut = refl;
            no_fault = subst IsNoFault (sym is_first.off) tt;
            power = omega arith;
            within_row = λ row e r. omega arith;
            reads = λ i awake e. absurd (let bad : Off ≡ Awake = sym is_first.off ∙ awake in cc);
          };
          values = first_values s is_first;
        })
        events m (omega arith) generous run

some_function : (fs : List Function) → 1 ≤ length fs → (f : Function) × (others : List Function) × (fs ≡ f ∷ others)
some_function [] h = absurd (omega (arith, h))
some_function (f ∷ others) h = (f, others, refl)

pub sound : IsSound
sound blocks c b input s events m image certified some small is_first holds generous run =
    let fs = some_function c.functions some in
    safe_run blocks c b fs.0 fs.1 s image fs.2 (rows_hold blocks c b fs.0 fs.1 certified fs.2) is_first holds input (input_words input small) events m generous run
