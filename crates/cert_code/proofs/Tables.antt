-- What the rules on rows say of code and machine.
use Rattle.std.proofs.Common.{◌≡◌, ℕ, zero, suc, ◌+◌, ◌-◌, ◌*◌, ◌/◌, ◌%◌, ◌<◌, ◌≤◌, true, false, Option, Some, None, List, [], ◌∷◌, refl, sym, ap, ◌∙◌, subst, arith, ◌⊎◌, ⊎_elim}
use Rattle.std.specs.Prelude.{if◌then◌else◌, ◌==◌, ◌&&◌, ◌||◌, nat_le, nat_lt, is_some}
use Rattle.std.proofs.lemmas.Bool.{cases_lt, and_parts}
use Rattle.std.proofs.lemmas.Bool.Decides.{nat_tests}
use Rattle.ti_txt.specs.Image.{Block, Ascend, end_of}
use Rattle.certificate.specs.declared.cert.StretchRow.{StretchRow}
use Rattle.certificate.specs.Rows.{Point}
use Rattle.msp430_isa.specs.declared.instr.Src.{Src}
use Rattle.msp430_isa.specs.declared.instr.Src.TheVariants.{Reg as FromReg, Index as FromIndex, Abs as FromAbs, At, AtPlus, Imm, Short}
use Rattle.msp430_isa.specs.declared.instr.Instr.{Instr}
use Rattle.msp430_isa.specs.declared.instr.Instr.TheVariants.{Two, One, Jump}
use Rattle.msp430_isa.specs.Encoding.{length_of}
use Rattle.msp430_isa.specs.Profile.{in_profile, is_allowed, numbers_fit, is_source, source_fits, destination_fits, is_word}
use Rattle.msp430_isa.proofs.Spelling.{two_source}
use Rattle.msp430_isa.proofs.Passed.{of_constant}
use Rattle.power_core.proofs.Stands.{WordsAt}
use Rattle.cert_rules.specs.declared.Rule.{Rule}
use Rattle.cert_rules.specs.Faults.{Fault, first_of}
use Rattle.cert_rules.specs.Words.{word_in, head_bytes}
use Rattle.cert_rules.specs.Known.{Known, known_at}
use Rattle.cert_rules.specs.Tables.{row_at, head_at, point_at, is_number, word_fault, words_fault, code_end, head_around}
use Rattle.cert_rules.specs.Sheet.{Sheet, is_head, is_point, any_point, instruction_of}
use Rattle.cert_rules.specs.Standing.{standing, bytes_of}
use Rattle.cert_rules.specs.Shapes.{turns_fault, turns_at}
use Rattle.cert_rules.specs.Outcomes.{falls_only}
use Rattle.cert_rules.specs.Going.{going_fault}
use Rattle.cert_rules.specs.Steps.{step_leaves}
use Rattle.cert_rules.specs.Sweep.{Swept, end, head_fails, head, fails, step, known_here, or_point, behind_head, head_step_fault}
use Rattle.cert_effects.proofs.Rules.{none_parts, unless_passes}
use Rattle.cert_effects.proofs.Computing.{SourceLow}
use Rattle.cert_effects.proofs.Performing.{NumbersLow}
use Rattle.cert_code.proofs.Fetching.{Loaded, spelt}
use Rattle.cert_code.proofs.Sweeping.{StepOf, Found, an_instruction, a_copy, swept_step, step_parts, gap_free, found_there, number_there, going_parts}
use Rattle.cert_code.proofs.Edges.{edge_fall}

number_is : (a b : ℕ) → (a == b) ≡ true → a ≡ b
number_is a b e = grind (arith, nat_tests)

-- ---- Rows by their numbers

pub row_holds : {A : Type 0} (key : A → ℕ) (test : A → Option Fault) (xs : List A) (n : ℕ) (x : A) → first_of test xs ≡ None → row_at key xs n ≡ Some x → (test x ≡ None) × (key x ≡ n)
row_holds key test [] n x h e = absurd (let bad : None ≡ Some x = e in cc)
row_holds key test (y ∷ ys) n x h e =
    let p = none_parts (test y) (first_of test ys) h in
    elim (key y == n) as (λ b. (key y == n) ≡ b → (if b then Some y else row_at key ys n) ≡ Some x → (test x ≡ None) × (key x ≡ n)) [
      | true ↦ λ same k. (let is : y ≡ x = cc in (subst (λ z. test z ≡ None) is p.0, subst (λ z. key z ≡ n) is (number_is (key y) n same)))
      | false ↦ λ other k. row_holds key test ys n x p.1 k
    ] refl e

pub some_row : {A : Type 0} (o : Option A) → is_some o ≡ true → (x : A) × (o ≡ Some x)
some_row None e = absurd (let bad : false ≡ true = e in cc)
some_row (Some x) e = (x, refl)

-- ---- Words

pub words_there : (blocks : List Block) (code : ℕ → ℕ) (rule : Rule) (a : ℕ) (ws : List ℕ) → Loaded blocks code → 0x8000 ≤ a → a % 2 ≡ 0 → words_fault blocks rule a ws ≡ None → WordsAt code ((a - 0x8000) / 2) ws
words_there blocks code rule a [] l low even h = tt
words_there blocks code rule a (w ∷ ws) l low even h =
    let p = none_parts (word_fault blocks rule a w) (words_fault blocks rule (a + 2) ws) h in
    let on : (a + 2 - 0x8000) / 2 ≡ (a - 0x8000) / 2 + 1 = omega (arith, low, even) in (
      l.words a w (number_there (word_in blocks a) w (unless_passes (is_number (word_in blocks a) w) _ _ _ _ p.0)) low even,
      subst (λ k. WordsAt code k ws) on (words_there blocks code rule (a + 2) ws l (omega (arith, low)) (omega (arith, even)) p.1),
    )

-- the code ends where memory ends, or before
pub code_end_low : (low : ℕ) (blocks : List Block) (e : ℕ) → Ascend low blocks → code_end blocks ≡ Some e → e ≤ 65536
code_end_low low [] e h is = absurd (let bad : None ≡ Some e = is in cc)
code_end_low low (b ∷ rest) e h is =
    elim (nat_le b.start 0x8000 && nat_lt 0x8000 (end_of b)) as (λ c. (if c then Some (end_of b) else code_end rest) ≡ Some e → e ≤ 65536) [
      | true ↦ λ k. (let same : end_of b ≡ e = cc in subst (λ z. z ≤ 65536) same h.2.1)
      | false ↦ λ k. code_end_low (end_of b + 1) rest e h.3 k
    ] is

-- ---- Numbers of instructions

word_low : (v : ℕ) → is_word v ≡ true → v < 65536
word_low v e = grind (arith, nat_tests)

source_is_low : (src : Src) → is_source src ≡ true → source_fits src ≡ true → SourceLow src
source_is_low (FromReg r) s f = tt
source_is_low (FromIndex r x) s f = tt
source_is_low (FromAbs a) s f = tt
source_is_low (At r) s f = tt
source_is_low (AtPlus r) s f = tt
source_is_low (Imm v) s f = word_low v f
source_is_low (Short v) s f = of_constant (λ n. n < 65536) v s (omega arith) (omega arith) (omega arith) (omega arith) (omega arith) (omega arith)

numbers_low : (i : Instr) → in_profile i ≡ true → NumbersLow i
numbers_low (Two op byte src dst) h =
    let p = and_parts (is_allowed (Two op byte src dst)) (numbers_fit (Two op byte src dst)) h in
    source_is_low src (two_source op byte src dst p.0).0 (and_parts (source_fits src) (destination_fits dst) p.1).0
numbers_low (One op byte src) h = tt
numbers_low (Jump on x) h = tt

some_length : (i : Instr) → 1 ≤ length_of i
some_length (Two op byte src dst) = omega arith
some_length (One op byte src) = omega arith
some_length (Jump on x) = omega arith

pub numbers_of : (t : Sheet) (code : ℕ → ℕ) (a : ℕ) (i : Instr) → Loaded t.blocks code → instruction_of t a ≡ Some i → 0x8000 ≤ a → a % 2 ≡ 0 → a + 2 * length_of i ≤ 0xFF80 → NumbersLow i × (1 ≤ length_of i)
numbers_of t code a i l found low even room = (numbers_low i (spelt t code a i l low room (some_length i) even found).allowed, some_length i)

-- ---- The sweep comes to each point and head

-- No head begins inside an instruction or inside another head, where the sweep comes to it.
abbrev pub bytes_there : Sheet → ℕ → ℕ
bytes_there t a = if is_head t a then head_bytes else bytes_of (standing t a)

abbrev pub HeadsApart : Sheet → Type 0
HeadsApart t = (a b : ℕ) (incoming : Option Known) → Swept t a incoming None → is_head t b ≡ true → t.here.start ≤ a → b < t.here.end → a < b → b < a + bytes_there t a → ⊥

no_point_in : (t : Sheet) (a n b : ℕ) → any_point t a n ≡ false → a ≤ b → b < a + n → is_point t b ≡ true → ⊥
no_point_in t a zero b h low high e = omega (arith, low, high)
no_point_in t a (suc n) b h low high e =
    elim (is_point t a) as (λ c. is_point t a ≡ c → (c || any_point t (a + 1) n) ≡ false → ⊥) [
      | true ↦ λ p k. (let bad : true ≡ false = k in cc)
      | false ↦ λ p k. ⊎_elim (λ lt. no_point_in t (a + 1) n b k (omega (arith, lt)) (omega (arith, high)) e) (λ ge. (let same : a ≡ b = omega (arith, low, ge) in let bad : false ≡ true = sym p ∙ ap (is_point t) same ∙ e in cc)) (cases_lt a b)
    ] refl h

pub none_around : (stretches : List StretchRow) (a h : ℕ) (s : StretchRow) → head_around stretches a ≡ None → head_at stretches h ≡ Some s → h ≤ a → a < h + head_bytes → ⊥
none_around [] a h s n e low high = let bad : None ≡ Some s = e in cc
none_around (x ∷ xs) a h s n e low high =
    elim (nat_le x.head a && nat_lt a (x.head + head_bytes)) as (λ b. (nat_le x.head a && nat_lt a (x.head + head_bytes)) ≡ b → (if b then Some x.head else head_around xs a) ≡ None → ⊥) [
      | true ↦ λ i k. (let bad : Some x.head ≡ None = k in cc)
      | false ↦ λ i k. elim (x.head == h) as (λ b. (x.head == h) ≡ b → (if b then Some x else head_at xs h) ≡ Some s → ⊥) [
        | true ↦ λ same f. (let is : x.head ≡ h = number_is x.head h same in let inside : (nat_le x.head a && nat_lt a (x.head + head_bytes)) ≡ true = in_head x.head a (omega (arith, is, low)) (omega (arith, is, high)) in let bad : false ≡ true = sym i ∙ inside in cc)
        | false ↦ λ other f. none_around xs a h s k f low high
      ] refl e
    ] refl n
  where
    in_head : (h a : ℕ) → h ≤ a → a < h + head_bytes → (nat_le h a && nat_lt a (h + head_bytes)) ≡ true
    in_head h a low high = grind (arith, nat_tests)

-- no point is in a head
abbrev pub PointsOutside : Sheet → Type 0
PointsOutside t = (a b : ℕ) → is_head t a ≡ true → is_point t b ≡ true → a ≤ b → b < a + head_bytes → ⊥

abbrev Target : Sheet → ℕ → Type 0
Target t b = (is_point t b ≡ true) ⊎ (is_head t b ≡ true)

step_gap : (t : Sheet) (a : ℕ) (incoming : Option Known) → StepOf t a incoming → any_point t (a + 1) (bytes_of (standing t a) - 1) ≡ false
step_gap t a incoming s = gap_free t a (bytes_of (standing t a)) (known_here t a incoming) (step_parts t a incoming s.passes).0

pub reaches : (t : Sheet) (a : ℕ) (incoming : Option Known) (v : Option Fault) → HeadsApart t → PointsOutside t → Swept t a incoming v → v ≡ None → t.here.start ≤ a → (b : ℕ) → a ≤ b → b < t.here.end → Target t b → (i : Option Known) × Swept t b i None
reaches t a incoming v apart outside (end x i past) e begins b low high target = absurd (omega (arith, past, low, high))
reaches t a incoming v apart outside (head_fails x i f l h g) e begins b low high target = absurd (let bad : Some f ≡ None = e in cc)
reaches t a incoming v apart outside (fails x i f l h g) e begins b low high target = absurd (let bad : Some f ≡ None = e in cc)
reaches t a incoming v apart outside (head x i u l h g rest) e begins b low high target =
    let here : Swept t a incoming None = subst (λ z. Swept t a incoming z) e (head a incoming v l h g rest) in
    ⊎_elim
    (λ lt. ⊎_elim
    (λ under. absurd (⊎_elim (λ p. outside a b h p low under) (λ k. apart a b incoming here k begins high lt (subst (λ c. b < a + (if c then head_bytes else bytes_of (standing t a))) (sym h) under)) target))
    (λ over. reaches t (a + head_bytes) (Some (behind_head t a)) v apart outside rest e (omega (arith, begins)) b over high target)
    (cases_lt b (a + head_bytes)))
    (λ ge. (incoming, (let same : a ≡ b = omega (arith, low, ge) in subst (λ z. Swept t z incoming None) same here)))
    (cases_lt a b)
reaches t a incoming v apart outside (step x i u l h g rest) e begins b low high target =
    let here : Swept t a incoming None = subst (λ z. Swept t a incoming z) e (step a incoming v l h g rest) in
    ⊎_elim
    (λ lt. ⊎_elim
    (λ under. absurd (⊎_elim
    (λ p. no_point_in t (a + 1) (bytes_of (standing t a) - 1) b (step_gap t a incoming (swept_step t a incoming None here refl l h)) (omega (arith, lt)) (omega (arith, under, lt)) p)
    (λ k. apart a b incoming here k begins high lt (subst (λ c. b < a + (if c then head_bytes else bytes_of (standing t a))) (sym h) under)) target))
    (λ over. reaches t (a + bytes_of (standing t a)) (step_leaves t a (known_here t a incoming)) v apart outside rest e (omega (arith, begins)) b over high target)
    (cases_lt b (a + bytes_of (standing t a))))
    (λ ge. (incoming, (let same : a ≡ b = omega (arith, low, ge) in subst (λ z. Swept t z incoming None) same here)))
    (cases_lt a b)

-- behind a head there is more code
pub head_goes : (t : Sheet) (a : ℕ) → head_step_fault t a ≡ None → a + head_bytes < t.here.end
head_goes t a h =
    let g = going_parts t a (a + 18) (a + head_bytes) (falls_only (behind_head t a)) (none_parts (turns_fault (a + 18) 0 (turns_at t (a + head_bytes))) (going_fault t a (a + 18) (a + head_bytes) (falls_only (behind_head t a))) h).1 in
    edge_fall t (a + 18) (a + head_bytes) (behind_head t a) None 0 g.edge

-- what a sweep comes to with something known is below the end of code
point_or : (o : Option Point) (κ : Known) → (x : Known) × (or_point o (Some κ) ≡ Some x)
point_or None κ = (κ, refl)
point_or (Some p) κ = (known_at p, refl)

found_room : (t : Sheet) (a : ℕ) (κ : Known) → Found t a κ → a ≤ 0xFF80
found_room t a κ (an_instruction i there) = omega (arith, there.room)
found_room t a κ (a_copy c there) = omega (arith, there.room)

pub room_below : (t : Sheet) (a : ℕ) (κ : Known) (incoming : Option Known) (v : Option Fault) → Swept t a incoming v → v ≡ None → incoming ≡ Some κ → a < t.here.end → a ≤ 0xFF80
room_below t a κ incoming v (end x i past) e is lt = absurd (omega (arith, past, lt))
room_below t a κ incoming v (head_fails x i f l h g) e is lt = absurd (let bad : Some f ≡ None = e in cc)
room_below t a κ incoming v (fails x i f l h g) e is lt = absurd (let bad : Some f ≡ None = e in cc)
room_below t a κ incoming v (head x i u l h g rest) e is lt =
    let k = head_goes t a g in omega (arith, room_below t (a + head_bytes) (behind_head t a) (Some (behind_head t a)) v rest e refl k)
room_below t a κ incoming v (step x i u l h g rest) e is lt =
    let here : Swept t a incoming None = subst (λ z. Swept t a incoming z) e (step a incoming v l h g rest) in
    let known = point_or (point_at t.points a) κ in
    let at : known_here t a incoming ≡ Some known.0 = ap (λ o. or_point (point_at t.points a) o) is ∙ known.1 in
    found_room t a known.0 (found_there t a incoming known.0 (swept_step t a incoming None here refl l h) at)
