-- What a sweep without fault says of each address that it comes to.
use Rattle.std.proofs.Common.{◌≡◌, ℕ, ◌+◌, ◌-◌, ◌*◌, ◌/◌, ◌%◌, ◌<◌, ◌≤◌, Bool, true, false, not, Option, Some, None, List, [], ◌∷◌, refl, sym, ap, ◌∙◌, subst, arith}
use Rattle.std.specs.Prelude.{if◌then◌else◌, ◌==◌, ◌&&◌, nat_le, is_some, unwrap_or, ℤ, pos}
use Rattle.std.specs.Option.{option_or}
use Rattle.std.specs.Int.{int_max}
use Rattle.std.specs.Int.Signed.{◌≤ℤ◌, le_z}
use Rattle.std.proofs.lemmas.Int.{ints}
use Rattle.std.proofs.lemmas.Bool.{and_parts}
use Rattle.std.proofs.lemmas.Bool.Decides.{nat_tests}
use Rattle.msp430_isa.specs.declared.instr.Instr.{Instr}
use Rattle.msp430_isa.specs.Encoding.{length_of}
use Rattle.cert_rules.specs.Faults.{Fault}
use Rattle.cert_rules.specs.Words.{word_in, head_bytes}
use Rattle.cert_rules.specs.Known.{Known}
use Rattle.cert_rules.specs.Forms.{is_form, kind_of}
use Rattle.cert_rules.specs.Tables.{is_number}
use Rattle.cert_rules.specs.Sheet.{Sheet, is_head, instruction_of, holds_words, fits_here, any_point, is_word, word_or_zero}
use Rattle.cert_rules.specs.Standing.{standing, standing_of, Standing, ACopy, AnInstruction, Nothing, Copy, copy_of, is_copy, copy_bytes, bytes_of}
use Rattle.cert_rules.specs.Shapes.{gap_fault, turns_fault, turns_at, counter_of}
use Rattle.cert_rules.specs.Outcomes.{outcome_of, Outcome}
use Rattle.cert_rules.specs.Going.{going_fault, falls_with, over_fault, most, spent_by, limit_of, edge_fault, points_fault}
use Rattle.cert_rules.specs.Copies.{copy_fault}
use Rattle.cert_rules.specs.Steps.{known_fault, standing_fault, step_outcome, own_fault_by, step_fault, step_leaves}
use Rattle.cert_rules.specs.Sweep.{Swept, end, head_fails, head, fails, step, known_here, head_step_fault, behind_head}
use Rattle.cert_effects.proofs.Rules.{none_parts, unless_passes}

-- ---- One step of a derivation

pub record StepOf (t : Sheet) (a : ℕ) (incoming : Option Known) : Type 0 where
  pub passes : step_fault t a (known_here t a incoming) ≡ None
  pub rest : Swept t (a + bytes_of (standing t a)) (step_leaves t a (known_here t a incoming)) None

pub swept_step : (t : Sheet) (a : ℕ) (incoming : Option Known) (v : Option Fault) → Swept t a incoming v → v ≡ None → a < t.here.end → is_head t a ≡ false → StepOf t a incoming
swept_step t a incoming v (end x i past) e lt other = absurd (omega (arith, past, lt))
swept_step t a incoming v (head_fails x i f l h g) e lt other = absurd (let bad : Some f ≡ None = e in cc)
swept_step t a incoming v (head x i u l h g rest) e lt other = absurd (let bad : true ≡ false = sym h ∙ other in cc)
swept_step t a incoming v (fails x i f l h g) e lt other = absurd (let bad : Some f ≡ None = e in cc)
swept_step t a incoming v (step x i u l h g rest) e lt other = record { passes = g; rest = subst (λ z. Swept t (a + bytes_of (standing t a)) (step_leaves t a (known_here t a incoming)) z) e rest }

pub record HeadOf (t : Sheet) (a : ℕ) : Type 0 where
  pub passes : head_step_fault t a ≡ None
  pub rest : Swept t (a + head_bytes) (Some (behind_head t a)) None

pub swept_head : (t : Sheet) (a : ℕ) (incoming : Option Known) (v : Option Fault) → Swept t a incoming v → v ≡ None → a < t.here.end → is_head t a ≡ true → HeadOf t a
swept_head t a incoming v (end x i past) e lt same = absurd (omega (arith, past, lt))
swept_head t a incoming v (head_fails x i f l h g) e lt same = absurd (let bad : Some f ≡ None = e in cc)
swept_head t a incoming v (head x i u l h g rest) e lt same = record { passes = g; rest = subst (λ z. Swept t (a + head_bytes) (Some (behind_head t a)) z) e rest }
swept_head t a incoming v (fails x i f l h g) e lt same = absurd (let bad : Some f ≡ None = e in cc)
swept_head t a incoming v (step x i u l h g rest) e lt same = absurd (let bad : false ≡ true = sym h ∙ same in cc)

-- ---- The instruction of a step

pub record InstructionAt (t : Sheet) (a : ℕ) (κ : Known) (i : Instr) : Type 0 where
  pub stands : standing t a ≡ AnInstruction i
  pub found : instruction_of t a ≡ Some i
  pub even : a % 2 ≡ 0
  pub inside : a + 2 * length_of i ≤ t.here.end
  pub room : a + 2 * length_of i ≤ 0xFF80
  pub held : holds_words t a (length_of i) ≡ true
  pub form : is_form i ≡ true
  pub own : own_fault_by t a κ i (kind_of i) ≡ None
  pub going : going_fault t κ.stretch a (a + 2 * length_of i) (outcome_of t (a + 2 * length_of i) κ i (kind_of i)) ≡ None
  pub free : any_point t (a + 1) (2 * length_of i - 1) ≡ false
  pub rest : Swept t (a + 2 * length_of i) (falls_with (outcome_of t (a + 2 * length_of i) κ i (kind_of i))) None

-- a copy of an array as such a step
pub record CopyAt (t : Sheet) (a : ℕ) (κ : Known) (c : Copy) : Type 0 where
  pub stands : standing t a ≡ ACopy c
  pub even : a % 2 ≡ 0
  pub inside : a + copy_bytes ≤ t.here.end
  pub room : a + copy_bytes ≤ 0xFF80
  pub some : 1 ≤ c.words
  pub w0 : word_in t.blocks a ≡ Some 0x403F
  pub w1 : word_in t.blocks (a + 2) ≡ Some (2 * c.words)
  pub w2 : word_in t.blocks (a + 4) ≡ Some 0x4F9F
  pub w3 : word_in t.blocks (a + 6) ≡ Some c.source
  pub w4 : word_in t.blocks (a + 8) ≡ Some c.target
  pub w5 : word_in t.blocks (a + 10) ≡ Some 0x832F
  pub w6 : word_in t.blocks (a + 12) ≡ Some 0x23FB
  pub own : copy_fault t a κ c ≡ None
  pub going : going_fault t κ.stretch a (a + copy_bytes) (step_outcome t a κ (ACopy c)) ≡ None
  pub rest : Swept t (a + copy_bytes) (falls_with (step_outcome t a κ (ACopy c))) None

-- what is found at an address that the sweep comes to
pub data Found (t : Sheet) (a : ℕ) (κ : Known) : Type 0 where
  an_instruction : (i : Instr) → InstructionAt t a κ i → Found t a κ
  a_copy : (c : Copy) → CopyAt t a κ c → Found t a κ

le_of : (a b : ℕ) → nat_le a b ≡ true → a ≤ b
le_of a b e = grind (arith, nat_tests)

number_is : (a b : ℕ) → (a == b) ≡ true → a ≡ b
number_is a b e = grind (arith, nat_tests)

of_standing : Standing → Option Instr
of_standing (ACopy c) = None
of_standing (AnInstruction i) = Some i
of_standing Nothing = None

found_by : (c : Option Copy) (o : Option Instr) (i : Instr) → standing_of c o ≡ AnInstruction i → o ≡ Some i
unfolding of_standing
found_by (Some c) o i e = absurd (let no : ACopy c ≡ AnInstruction i = e in cc)
found_by None None i e = absurd (let no : Nothing ≡ AnInstruction i = e in cc)
found_by None (Some j) i e = ap of_standing e

not_true : (c : Bool) → not c ≡ true → c ≡ false
not_true true e = absurd (let no : false ≡ true = e in cc)
not_true false e = refl

pub step_parts : (t : Sheet) (a : ℕ) (incoming : Option Known) → step_fault t a (known_here t a incoming) ≡ None
    → (gap_fault t a (bytes_of (standing t a)) (known_here t a incoming) ≡ None) × (known_fault t a (known_here t a incoming) (standing t a) ≡ None)
step_parts t a incoming h =
    let one = none_parts (gap_fault t a (bytes_of (standing t a)) (known_here t a incoming)) _ h in
    let two = none_parts (turns_fault a (counter_of (standing t a)) (turns_at t (a + bytes_of (standing t a)))) _ one.1 in
    (one.0, (none_parts (known_fault t a (known_here t a incoming) (standing t a)) None two.1).0)

pub gap_free : (t : Sheet) (a bytes : ℕ) (o : Option Known) → gap_fault t a bytes o ≡ None → any_point t (a + 1) (bytes - 1) ≡ false
gap_free t a bytes o h = not_true (any_point t (a + 1) (bytes - 1)) (and_parts (is_some o) (not (any_point t (a + 1) (bytes - 1))) (unless_passes _ _ _ _ _ h)).1

-- ---- A copy

of_copy : Standing → Option Copy
of_copy (ACopy c) = Some c
of_copy (AnInstruction i) = None
of_copy Nothing = None

copied_by : (o : Option Copy) (i : Option Instr) (c : Copy) → standing_of o i ≡ ACopy c → o ≡ Some c
unfolding of_copy
copied_by (Some d) i c e = ap of_copy e
copied_by None None c e = absurd (let no : Nothing ≡ ACopy c = e in cc)
copied_by None (Some j) c e = absurd (let no : AnInstruction j ≡ ACopy c = e in cc)

-- the copy of so many bytes that stands at an address
abbrev pub copy_at : Sheet → ℕ → ℕ → Copy
copy_at t a double = record { words = double / 2; source = word_or_zero t (a + 6); target = word_or_zero t (a + 8) }

copy_found : (t : Sheet) (a double : ℕ) (c : Copy) → (if is_copy t a double then Some (copy_at t a double) else None) ≡ Some c → (is_copy t a double ≡ true) × (copy_at t a double ≡ c)
copy_found t a double c h = by_test (is_copy t a double) refl h
  where
    by_test : (b : Bool) → is_copy t a double ≡ b → (if b then Some (copy_at t a double) else None) ≡ Some c → (is_copy t a double ≡ true) × (copy_at t a double ≡ c)
    by_test true e k = (e, (let same : copy_at t a double ≡ c = cc in same))
    by_test false e k = absurd (let no : None ≡ Some c = k in cc)

pub number_there : (o : Option ℕ) (w : ℕ) → is_number o w ≡ true → o ≡ Some w
number_there None w e = absurd (let bad : false ≡ true = e in cc)
number_there (Some v) w e = ap (λ n. Some n) (number_is v w e)

some_there : (o : Option ℕ) → is_some o ≡ true → o ≡ Some (unwrap_or o 0)
some_there None e = absurd (let no : false ≡ true = e in cc)
some_there (Some w) e = refl

copy_there : (t : Sheet) (a : ℕ) (κ : Known) (c : Copy) → standing t a ≡ ACopy c → copy_fault t a κ c ≡ None → going_fault t κ.stretch a (a + copy_bytes) (step_outcome t a κ (ACopy c)) ≡ None
    → Swept t (a + copy_bytes) (falls_with (step_outcome t a κ (ACopy c))) None → CopyAt t a κ c
copy_there t a κ c e own going rest =
    let double : ℕ = word_or_zero t (a + 2) in
    let found = copy_found t a double c (copied_by (copy_of t a) (instruction_of t a) c e) in
    let x1 : Bool = fits_here t a copy_bytes in
    let x2 : Bool = is_word t a 0x403F in
    let x3 : Bool = is_word t (a + 2) double in
    let x4 : Bool = is_word t (a + 4) 0x4F9F in
    let x5 : Bool = is_some (word_in t.blocks (a + 6)) in
    let x6 : Bool = is_some (word_in t.blocks (a + 8)) in
    let x7 : Bool = is_word t (a + 10) 0x832F in
    let x8 : Bool = is_word t (a + 12) 0x23FB in
    let x9 : Bool = nat_le 2 double in
    let x10 : Bool = double % 2 == 0 in
    let p10 = and_parts (x1 && x2 && x3 && x4 && x5 && x6 && x7 && x8 && x9 && x10) (not (any_point t (a + 1) (copy_bytes - 1))) found.0 in
    let p9 = and_parts (x1 && x2 && x3 && x4 && x5 && x6 && x7 && x8 && x9) x10 p10.0 in
    let p8 = and_parts (x1 && x2 && x3 && x4 && x5 && x6 && x7 && x8) x9 p9.0 in
    let p7 = and_parts (x1 && x2 && x3 && x4 && x5 && x6 && x7) x8 p8.0 in
    let p6 = and_parts (x1 && x2 && x3 && x4 && x5 && x6) x7 p7.0 in
    let p5 = and_parts (x1 && x2 && x3 && x4 && x5) x6 p6.0 in
    let p4 = and_parts (x1 && x2 && x3 && x4) x5 p5.0 in
    let p3 = and_parts (x1 && x2 && x3) x4 p4.0 in
    let p2 = and_parts (x1 && x2) x3 p3.0 in
    let p1 = and_parts x1 x2 p2.0 in
    let fits = and_parts (a % 2 == 0 && nat_le (a + copy_bytes) t.here.end) (nat_le (a + copy_bytes) 0xFF80) p1.0 in
    let place = and_parts (a % 2 == 0) (nat_le (a + copy_bytes) t.here.end) fits.0 in
    let halved : double ≡ 2 * c.words = omega (arith, number_is (double % 2) 0 p9.1, ap (λ z. z.words) found.1) in
    record {
      stands = e;
      even = number_is (a % 2) 0 place.0;
      inside = le_of _ _ place.1;
      room = le_of _ _ fits.1;
      some = omega (arith, le_of 2 double p8.1, halved);
      w0 = number_there (word_in t.blocks a) 0x403F p1.1;
      w1 = number_there (word_in t.blocks (a + 2)) double p2.1 ∙ ap (λ n. Some n) halved;
      w2 = number_there (word_in t.blocks (a + 4)) 0x4F9F p3.1;
      w3 = some_there (word_in t.blocks (a + 6)) p4.1 ∙ ap (λ z. Some z.source) found.1;
      w4 = some_there (word_in t.blocks (a + 8)) p5.1 ∙ ap (λ z. Some z.target) found.1;
      w5 = number_there (word_in t.blocks (a + 10)) 0x832F p6.1;
      w6 = number_there (word_in t.blocks (a + 12)) 0x23FB p7.1;
      own = own;
      going = going;
      rest = rest;
    }

standing_there : (t : Sheet) (a : ℕ) (κ : Known) → (x : Standing) → standing t a ≡ x → standing_fault t a κ x ≡ None → any_point t (a + 1) (bytes_of x - 1) ≡ false
    → Swept t (a + bytes_of x) (falls_with (step_outcome t a κ x)) None → Found t a κ
standing_there t a κ (ACopy c) e p g r =
    let going : Option Fault = going_fault t κ.stretch a (a + copy_bytes) (step_outcome t a κ (ACopy c)) in
    let two = none_parts (copy_fault t a κ c) (option_or going None) p in
    a_copy c (copy_there t a κ c e two.0 (none_parts going None two.1).0 r)
standing_there t a κ Nothing e p g r = absurd (let impossible : true ≡ false = ap is_some p in cc)
standing_there t a κ (AnInstruction i) e p g r =
    let one = none_parts _ _ p in
    let two = none_parts _ _ one.1 in
    let form = and_parts (fits_here t a (2 * length_of i) && holds_words t a (length_of i)) (is_form i) (unless_passes _ _ _ _ _ one.0) in
    let place = and_parts (fits_here t a (2 * length_of i)) (holds_words t a (length_of i)) form.0 in
    let fits = and_parts (a % 2 == 0 && nat_le (a + 2 * length_of i) t.here.end) (nat_le (a + 2 * length_of i) 0xFF80) place.0 in
    let even = and_parts (a % 2 == 0) (nat_le (a + 2 * length_of i) t.here.end) fits.0 in
    an_instruction i (record {
      stands = e;
      found = found_by (copy_of t a) (instruction_of t a) i e;
      even = number_is (a % 2) 0 even.0;
      inside = le_of _ _ even.1;
      room = le_of _ _ fits.1;
      held = place.1;
      form = form.1;
      own = two.0;
      going = (none_parts _ _ two.1).0;
      free = g;
      rest = r;
    })

pub found_there : (t : Sheet) (a : ℕ) (incoming : Option Known) (κ : Known) → StepOf t a incoming → known_here t a incoming ≡ Some κ → Found t a κ
found_there t a incoming κ s known = standing_there t a κ (standing t a) refl passed gap rest
  where
    parts : (gap_fault t a (bytes_of (standing t a)) (known_here t a incoming) ≡ None) × (known_fault t a (known_here t a incoming) (standing t a) ≡ None)
    parts = step_parts t a incoming s.passes

    passed : standing_fault t a κ (standing t a) ≡ None
    passed = subst (λ o. known_fault t a o (standing t a) ≡ None) known parts.1

    gap : any_point t (a + 1) (bytes_of (standing t a) - 1) ≡ false
    gap = gap_free t a (bytes_of (standing t a)) (known_here t a incoming) parts.0

    rest : Swept t (a + bytes_of (standing t a)) (step_leaves t a (Some κ)) None
    rest = subst (λ o. Swept t (a + bytes_of (standing t a)) (step_leaves t a o) None) known s.rest

-- ---- Where the code may go on

z_le : (x y : ℤ) → le_z x y ≡ true → x ≤ℤ y
z_le x y h = grind (arith, ints)

most_first : (z : ℤ) (zs : List ℤ) → z ≤ℤ most z zs
most_first z [] = omega (arith, ints)
most_first z (y ∷ ys) = below z y (most (int_max z y) ys) (most_first (int_max z y) ys)
  where
    below : (z y m : ℤ) → int_max z y ≤ℤ m → z ≤ℤ m
    below z y m h = grind (arith, ints, h)

most_second : (z y : ℤ) (ys : List ℤ) → y ≤ℤ most z (y ∷ ys)
most_second z y ys = below z y (most (int_max z y) ys) (most_first (int_max z y) ys)
  where
    below : (z y m : ℤ) → int_max z y ≤ℤ m → y ≤ℤ m
    below z y m h = grind (arith, ints, h)

-- what one value, or two, of an outcome's may be
pub one_within : (a limit : ℕ) (z : ℤ) (zs : List ℤ) → over_fault a limit (z ∷ zs) ≡ None → z ≤ℤ pos limit
one_within a limit z zs h = (let m = z_le (most z zs) (pos limit) (unless_passes _ _ _ _ _ h) in omega (arith, ints, most_first z zs, m))

pub two_within : (a limit : ℕ) (z y : ℤ) (ys : List ℤ) → over_fault a limit (z ∷ y ∷ ys) ≡ None → y ≤ℤ pos limit
two_within a limit z y ys h = (let m = z_le (most z (y ∷ ys)) (pos limit) (unless_passes _ _ _ _ _ h) in omega (arith, ints, most_second z y ys, m))

pub record Going (t : Sheet) (stretch a next : ℕ) (o : Outcome) : Type 0 where
  pub over : over_fault a (limit_of t stretch) (spent_by t next o) ≡ None
  pub edge : edge_fault t a next o ≡ None
  pub points : points_fault t a next o ≡ None

pub going_parts : (t : Sheet) (stretch a next : ℕ) (o : Outcome) → going_fault t stretch a next o ≡ None → Going t stretch a next o
going_parts t stretch a next o h = (let one = none_parts _ _ h in let two = none_parts _ _ one.1 in record { over = one.0; edge = two.0; points = (none_parts _ _ two.1).0 })
