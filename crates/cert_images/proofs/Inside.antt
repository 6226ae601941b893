-- Each point lies inside the function, outside heads, and in one of its stretches.
use Rattle.std.proofs.Common.{◌≡◌, ℕ, suc, ◌+◌, ◌*◌, ◌≤◌, ◌<◌, Bool, true, false, Option, Some, None, List, [], ◌∷◌, ◌++◌, refl, ap, ◌∙◌, arith}
use Rattle.std.specs.Prelude.{◌==◌, ◌&&◌, ◌||◌, nat_le, nat_lt, is_none, is_some, pos, if◌then◌else◌}
use Rattle.std.specs.Option.{option_or}
use Rattle.std.proofs.lemmas.Bool.Decides.{nat_tests}
use Rattle.certificate.specs.declared.cert.StretchRow.{StretchRow}
use Rattle.certificate.specs.Rows.{Point}
use Rattle.msp430_isa.specs.declared.instr.Instr.{Instr}
use Rattle.msp430_isa.specs.Encoding.{length_of}
use Rattle.flow_graph.specs.declared.graph.Op.{Op}
use Rattle.op_cost.specs.Templates.{Homes, code_of, length_in, weight_of}
use Rattle.cert_rules.specs.declared.Rule.TheVariants.{Order}
use Rattle.cert_rules.specs.Faults.{Fault, first_of, unless}
use Rattle.cert_rules.specs.Words.{head_bytes}
use Rattle.cert_rules.specs.Tables.{contains, has_stretch, head_around, head_at, outside_fault, place_fault, point_fault}
use Rattle.cert_rules.specs.Sheet.{Sheet, is_head}
use Rattle.cert_pieces.specs.Pieces.{behind}
use Rattle.cert_pieces.proofs.Stepping.{both}
use Rattle.cert_templates.specs.Frames.{Inner, Position, bare_point, bytes_at, code_at, goes_through, head_bytes_of, if_point, inner_by, inner_on, placed, points_from, stretch_rows, walked}
use Rattle.cert_images.proofs.Walking.{behind_above, length_some}
use Rattle.cert_images.proofs.Laying.{HeadAt, Suffix, code_from}
use Rattle.cert_images.proofs.Forming.{kind_first}
use Rattle.cert_images.proofs.Folding.{Static, bytes_behind, head_stands, next, row_of, some_bytes, spent_before, stretch_of}

-- ---- Rows

first_append : {A : Type 0} → (test : A → Option Fault) (xs ys : List A) → first_of test xs ≡ None → first_of test ys ≡ None → first_of test (xs ++ ys) ≡ None
first_append test [] ys h k = k
first_append test (x ∷ xs) ys h k = by (test x) h (λ e. first_append test xs ys e k)
  where
    by : (o : Option Fault) → option_or o (first_of test xs) ≡ None → (first_of test xs ≡ None → first_of test (xs ++ ys) ≡ None) → option_or o (first_of test (xs ++ ys)) ≡ None
    by None e rest = rest e
    by (Some y) e rest = absurd (let no : true ≡ false = ap (λ o. is_some o) e in cc)

-- points of a template pass a test where each that may stand on it does
walked_pass : (test : Point → Option Fault) (st n a : ℕ) (is : List Instr) (inner : ℕ → Option Inner) → ((x : ℕ) (q : Inner) → a ≤ x → x < behind a is → test (placed st n x q) ≡ None) → first_of test (walked st n a is inner) ≡ None
walked_pass test st n a [] inner h = refl
walked_pass test st n a (i ∷ is) inner h =
    first_append test (if_point st n a (inner 0)) (walked st n (a + 2 * length_of i) is (λ k. inner (suc k))) (by (inner 0))
    (walked_pass test st n (a + 2 * length_of i) is (λ k. inner (suc k)) (λ x q l r. h x q (omega (arith, l)) r))
  where
    by : (o : Option Inner) → first_of test (if_point st n a o) ≡ None
    by None = refl
    by (Some q) =
        let some = length_some i in
        let above = behind_above (a + 2 * length_of i) is in
        both _ _ (h a q (omega arith) (omega (arith, some, above))) refl

-- ---- No head's bytes

before_head : (a x : ℕ) → x < a → nat_le a x && nat_lt x (a + head_bytes) ≡ false
before_head a x h = grind (arith, nat_tests)

behind_head : (a x : ℕ) → a + head_bytes ≤ x → nat_le a x && nat_lt x (a + head_bytes) ≡ false
behind_head a x h = grind (arith, nat_tests)

none_around : (t : Sheet) (homes : Homes) (a : ℕ) (ps : List Position) (x : ℕ) → x < a → head_around (stretch_rows t.board homes a ps) x ≡ None
none_around t homes a [] x h = refl
none_around t homes a (p ∷ ps) x h = by p.has_head (none_around t homes (a + bytes_at homes p) ps x (omega (arith, h)))
  where
    by : (c : Bool) → head_around (stretch_rows t.board homes (a + bytes_at homes p) ps) x ≡ None
        → head_around (if c then row_of t homes p ps a ∷ stretch_rows t.board homes (a + bytes_at homes p) ps else stretch_rows t.board homes (a + bytes_at homes p) ps) x ≡ None
    by true e = ap (λ c. if c then Some a else head_around (stretch_rows t.board homes (a + bytes_at homes p) ps) x) (before_head a x h) ∙ e
    by false e = e

-- ---- Points

both_true : (c d : Bool) → c ≡ true → d ≡ true → c && d ≡ true
both_true c d e f = ap (λ x. x && d) e ∙ f

-- a head has a stretch
pub has_its_stretch : (t : Sheet) (x : ℕ) → t.here.flat ≡ None → HeadAt t x → has_stretch t.stretches t.here x ≡ true
has_its_stretch t x split h =
    ap (λ o. if is_none o then contains t.here x && is_some (head_at t.stretches x) else x == t.here.start) split ∙ both_true (contains t.here x) (is_head t x) h.inside h.head

point_sits : (t : Sheet) (p : Point) → contains t.here p.address ≡ true → head_around t.stretches p.address ≡ None → has_stretch t.stretches t.here p.stretch ≡ true → point_fault (t.here ∷ []) t.stretches p ≡ None
point_sits t p inside none has =
    ap (λ c. place_fault t.stretches p (if c then Some t.here else None)) inside
    ∙ both _ _ (ap (λ o. outside_fault p.address o) none) (ap (λ c. unless c Order p.address (pos p.stretch) (pos t.here.start)) has)

-- The heads from an address on are those of these positions, and this stretch is one of the function.
pub record Sits (t : Sheet) (homes : Homes) (ps : List Position) (a st : ℕ) : Type 0 where
  pub around : (x : ℕ) → a ≤ x → head_around t.stretches x ≡ head_around (stretch_rows t.board homes a ps) x
  pub has : has_stretch t.stretches t.here st ≡ true

module _ (t : Sheet) (homes : Homes) (static : Static t) (op : Op) (target : ℕ) (ps : List Position) (a st n : ℕ) (falls : Bool) where
  abbrev with_head : Bool → Position
  with_head c = record { op = op; target = target; has_head = c }

  abbrev rest_rows : Bool → List StretchRow
  rest_rows c = stretch_rows t.board homes (a + bytes_at homes (with_head c)) ps

  abbrev test : Point → Option Fault
  test p = point_fault (t.here ∷ []) t.stretches p

  goes_on : (c : Bool) → Suffix t homes (with_head c ∷ ps) a st n falls
      → Suffix t homes ps (a + bytes_at homes (with_head c)) (stretch_of (with_head c) a st) (spent_before t (with_head c) n + weight_of t.board (code_at homes (with_head c))) (goes_through op.kind)
  goes_on c s = let first = kind_first homes target op op.kind in next t homes static op target ps a st n falls c s first.0 first.1

  some_code : (c : Bool) → a + head_bytes_of c < a + bytes_at homes (with_head c)
  some_code c =
      let first = kind_first homes target op op.kind in
      let some = some_bytes (a + head_bytes_of c) (code_of (code_at homes (with_head c))) first.0 first.1 in
      let ends = bytes_behind a (head_bytes_of c) (code_of (code_at homes (with_head c))) in
      omega (arith, some, ends)

  lies_within : (start end' x : ℕ) → start ≤ x → x < end' → nat_le start x && nat_lt x end' ≡ true
  lies_within start end' x h k = grind (arith, nat_tests)

  inside : (c : Bool) → Suffix t homes (with_head c ∷ ps) a st n falls → (x : ℕ) → a ≤ x → x < a + bytes_at homes (with_head c) → contains t.here x ≡ true
  inside c s x l r =
      let begun = s.begun in
      let later = goes_on c s in
      let ends = later.code.ends in
      let above = behind_above (a + bytes_at homes (with_head c)) (code_from homes (a + bytes_at homes (with_head c)) ps) in
      lies_within t.here.start t.here.end x (omega (arith, begun, l)) (omega (arith, r, ends, above))

  rows_later : (c : Bool) (x : ℕ) → a + head_bytes_of c ≤ x → head_around (stretch_rows t.board homes a (with_head c ∷ ps)) x ≡ head_around (rest_rows c) x
  rows_later true x h = ap (λ c. if c then Some a else head_around (rest_rows true) x) (behind_head a x h)
  rows_later false x h = refl

  outside : (c : Bool) → Sits t homes (with_head c ∷ ps) a st → (x : ℕ) → a + head_bytes_of c ≤ x → x < a + bytes_at homes (with_head c) → head_around t.stretches x ≡ None
  outside c sits x l r = sits.around x (omega (arith, l)) ∙ rows_later c x l ∙ none_around t homes (a + bytes_at homes (with_head c)) ps x r

  has_on : (c : Bool) → Suffix t homes (with_head c ∷ ps) a st n falls → Sits t homes (with_head c ∷ ps) a st → has_stretch t.stretches t.here (stretch_of (with_head c) a st) ≡ true
  has_on true s sits = let first = kind_first homes target op op.kind in has_its_stretch t a static.split (head_stands t homes static op target ps a st n falls s first.0 first.1)
  has_on false s sits = sits.has

  sits_on : (c : Bool) → Suffix t homes (with_head c ∷ ps) a st n falls → Sits t homes (with_head c ∷ ps) a st → Sits t homes ps (a + bytes_at homes (with_head c)) (stretch_of (with_head c) a st)
  sits_on c s sits = record {
    around = λ x h. sits.around x (omega (arith, h)) ∙ rows_later c x (omega (arith, h));
    has = has_on c s sits;
  }

  bare_passes : (c : Bool) → Suffix t homes (with_head c ∷ ps) a st n falls → Sits t homes (with_head c ∷ ps) a st → first_of test (if c || falls then [] else bare_point st n a ∷ []) ≡ None
  bare_passes true s sits = refl
  bare_passes false s sits = by falls
    where
      by : (d : Bool) → first_of test (if d then [] else bare_point st n a ∷ []) ≡ None
      by true = refl
      by false =
          let some = some_code false in
          both _ _ (point_sits t (bare_point st n a) (inside false s a (omega arith) (omega (arith, some))) (outside false sits a (omega arith) (omega (arith, some))) sits.has) refl

  abbrev own_points : Bool → List Point
  own_points c = walked (stretch_of (with_head c) a st) (spent_before t (with_head c) n) (a + head_bytes_of c) (code_of (code_at homes (with_head c))) (inner_on (inner_by op.kind t.board (length_in op.array) (code_at homes (with_head c))))

  own_pass : (c : Bool) → Suffix t homes (with_head c ∷ ps) a st n falls → Sits t homes (with_head c ∷ ps) a st → first_of test (own_points c) ≡ None
  own_pass c s sits =
      let ends = bytes_behind a (head_bytes_of c) (code_of (code_at homes (with_head c))) in
      walked_pass test (stretch_of (with_head c) a st) (spent_before t (with_head c) n) (a + head_bytes_of c) (code_of (code_at homes (with_head c))) _
      (λ x q l r. point_sits t (placed (stretch_of (with_head c) a st) (spent_before t (with_head c) n) x q) (inside c s x (omega (arith, l)) (omega (arith, r, ends))) (outside c sits x l (omega (arith, r, ends))) (has_on c s sits))

  abbrev rest_points : Bool → List Point
  rest_points c = points_from t.board homes (stretch_of (with_head c) a st) (spent_before t (with_head c) n + weight_of t.board (code_at homes (with_head c))) (a + bytes_at homes (with_head c)) (goes_through op.kind) ps

  one_passes : (c : Bool) → Suffix t homes (with_head c ∷ ps) a st n falls → Sits t homes (with_head c ∷ ps) a st → first_of test (rest_points c) ≡ None → first_of test (points_from t.board homes st n a falls (with_head c ∷ ps)) ≡ None
  one_passes c s sits rest =
      first_append test (if c || falls then [] else bare_point st n a ∷ []) (own_points c ++ rest_points c) (bare_passes c s sits) (first_append test (own_points c) (rest_points c) (own_pass c s sits) rest)

-- all points of a function
pub points_fine : (t : Sheet) (homes : Homes) → Static t → (ps : List Position) (a st n : ℕ) (falls : Bool) → Suffix t homes ps a st n falls → Sits t homes ps a st
    → first_of (point_fault (t.here ∷ []) t.stretches) (points_from t.board homes st n a falls ps) ≡ None
points_fine t homes static [] a st n falls s sits = refl
points_fine t homes static (p ∷ ps) a st n falls s sits =
    one_passes t homes static p.op p.target ps a st n falls p.has_head s sits
    (points_fine t homes static ps (a + bytes_at homes p) (stretch_of p a st) (spent_before t p n + weight_of t.board (code_at homes p)) (goes_through p.op.kind)
    (goes_on t homes static p.op p.target ps a st n falls p.has_head s) (sits_on t homes static p.op p.target ps a st n falls p.has_head s sits))
