-- What the rules before the sweep leave for it.
use Rattle.std.proofs.Common.{◌≡◌, ℕ, ◌+◌, ◌≤◌, Bool, true, false, List, [], ◌∷◌, map, Option, Some, None, refl, subst, arith}
use Rattle.std.specs.Prelude.{◌==◌, ◌%◌, ◌&&◌, ◌||◌, nat_le, is_some, if◌then◌else◌, pos}
use Rattle.std.specs.Option.{option_or}
use Rattle.std.proofs.lemmas.Bool.{and_parts}
use Rattle.std.proofs.lemmas.Bool.Decides.{nat_tests}
use Rattle.board_table.specs.declared.board.Board.{Board}
use Rattle.ti_txt.specs.Image.{Block}
use Rattle.certificate.specs.declared.cert.StretchRow.{StretchRow}
use Rattle.certificate.specs.declared.cert.FunctionRow.{FunctionRow}
use Rattle.certificate.specs.declared.cert.PointRow.{PointRow}
use Rattle.certificate.specs.Rows.{Function, Point, Certificate, function_of, point_of}
use Rattle.certificate.specs.Grammar.{IsPoint, AreFunctions, AreStretches, ArePoints, IsCertificate}
use Rattle.cert_rules.specs.declared.Rule.{Rule}
use Rattle.cert_rules.specs.declared.Rule.TheVariants.{Head}
use Rattle.cert_rules.specs.Words.{head_bytes}
use Rattle.cert_rules.specs.Faults.{Fault, unless, first_of}
use Rattle.cert_rules.specs.Tables.{any_of, head_at, point_at, is_split, lies_in, head_fault, board_fault, boot_fault, functions_fault, code_end, tables_fault}
use Rattle.cert_rules.specs.Sweep.{sheet}
use Rattle.cert_sweep.specs.Rising.{Rises}
use Rattle.cert_sweep.specs.Stepping.{IsReady}

none_first : (o p : Option Fault) → option_or o p ≡ None → (o ≡ None) × (p ≡ None)
none_first None p h = (refl, h)
none_first (Some f) p h = absurd (let bad : Some f ≡ None = h in cc)

passes : (b : Bool) (rule : Rule) (a : ℕ) (left right : ℕ) → unless b rule a (pos left) (pos right) ≡ None → b ≡ true
passes true rule a left right h = refl
passes false rule a left right h = absurd (let bad : Some (record { rule = rule; address = a; left = pos left; right = pos right }) ≡ None = h in cc)

number_is : (a b : ℕ) → (a == b) ≡ true → a ≡ b
number_is a b e = grind (arith, nat_tests)

le_of : (a b : ℕ) → nat_le a b ≡ true → a ≤ b
le_of a b e = grind (arith, nat_tests)

-- a function that holds a head ends behind it
room_in : (low h : ℕ) (functions : List Function) → AreFunctions low functions → any_of (λ f. is_split f && nat_le f.start h && nat_le (h + head_bytes) f.end) functions ≡ true → h + 22 ≤ 65535
room_in low h [] are holds = absurd (let bad : false ≡ true = holds in cc)
room_in low h (f ∷ functions) are holds =
    elim (is_split f && nat_le f.start h && nat_le (h + head_bytes) f.end) as (λ b. is_split f && nat_le f.start h && nat_le (h + head_bytes) f.end ≡ b → (b || any_of (λ g. is_split g && nat_le g.start h && nat_le (h + head_bytes) g.end) functions) ≡ true → h + 22 ≤ 65535) [
      | true ↦ λ e k. let fits = le_of (h + head_bytes) f.end (and_parts (is_split f && nat_le f.start h) (nat_le (h + head_bytes) f.end) e).1 in omega (arith, fits, are.1.1)
      | false ↦ λ e k. room_in (f.start + 1) h functions are.2 k
    ] refl holds

room_at : (blocks : List Block) (functions : List Function) (stretches : List StretchRow) (a low : ℕ) → AreFunctions low functions → first_of (head_fault blocks functions) stretches ≡ None → is_some (head_at stretches a) ≡ true → a + 22 ≤ 65535
room_at blocks functions [] a low are holds is = absurd (let bad : false ≡ true = is in cc)
room_at blocks functions (s ∷ stretches) a low are holds is =
    let parts = none_first (head_fault blocks functions s) (first_of (head_fault blocks functions) stretches) holds in
    elim (s.head == a) as (λ b. (s.head == a) ≡ b → is_some (if b then Some s else head_at stretches a) ≡ true → a + 22 ≤ 65535) [
      | true ↦ λ e k. subst (λ z. z + 22 ≤ 65535) (number_is s.head a e) (here parts.0)
      | false ↦ λ e k. room_at blocks functions stretches a low are parts.1 k
    ] refl is
  where
    here : head_fault blocks functions s ≡ None → s.head + 22 ≤ 65535
    here h =
        let lies = passes (lies_in functions s.head) Head s.head s.head 0 (none_first (unless (lies_in functions s.head) Head s.head (pos s.head) (pos 0)) _ h).0 in
        room_in low s.head functions are (and_parts (s.head % 2 == 0) _ lies).1

point_of_some : (low a : ℕ) (points : List Point) (p : Point) → ArePoints low points → point_at points a ≡ Some p → IsPoint p
point_of_some low a [] p are is = absurd (let bad : None ≡ Some p = is in cc)
point_of_some low a (q ∷ points) p are is = elim (q.address == a) as (λ b. (if b then Some q else point_at points a) ≡ Some p → IsPoint p) [
  | true ↦ λ k. let same : q ≡ p = cc in subst IsPoint same are.1
  | false ↦ λ k. point_of_some (q.address + 1) a points p are.2 k
] is

heads_hold : (blocks : List Block) (c : Certificate) (b : Board) → tables_fault blocks c.budget c.functions c.stretches b ≡ None → first_of (head_fault blocks c.functions) c.stretches ≡ None
heads_hold blocks c b h =
    let one = none_first (board_fault c.budget b) _ h in
    let two = none_first (boot_fault blocks c.functions) _ one.1 in
    let three = none_first (functions_fault (code_end blocks) c.functions) _ two.1 in
    (none_first (first_of (head_fault blocks c.functions) c.stretches) _ three.1).0

-- rows that ascend rise by their numbers

pub starts_rise : (low : ℕ) (functions : List FunctionRow) → AreFunctions low (map function_of functions) → Rises (λ f. f.start) low functions
starts_rise low [] are = tt
starts_rise low (f ∷ functions) are = (are.0, starts_rise (f.start + 1) functions are.2)

pub heads_rise : (low : ℕ) (stretches : List StretchRow) → AreStretches low stretches → Rises (λ s. s.head) low stretches
heads_rise low [] are = tt
heads_rise low (s ∷ stretches) are = (are.0, heads_rise (s.head + 1) stretches are.2)

pub addresses_rise : (low : ℕ) (points : List PointRow) → ArePoints low (map point_of points) → Rises (λ p. p.address) low points
addresses_rise low [] are = tt
addresses_rise low (p ∷ points) are = (are.0, addresses_rise (p.address + 1) points are.2)

pub ready : (blocks : List Block) (c : Certificate) (b : Board) (first : Bool) (f : Function) → IsCertificate c → tables_fault blocks c.budget c.functions c.stretches b ≡ None → IsReady (sheet blocks c b first f)
ready blocks c b first f is h = record {
  heads = λ a head. room_at blocks c.functions c.stretches a 0 is.functions (heads_hold blocks c b h) head;
  points = λ a p point. point_of_some 0 a c.points p is.points point;
}
