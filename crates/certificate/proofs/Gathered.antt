-- The rows of one kind among all rows.
use Rattle.std.proofs.Common.{◌≡◌, ◌∙◌, ◌++◌, ℕ, List, [], ◌∷◌, refl, sym, ap, map, append-nil, true≢false, false}
use Rattle.std.specs.Prelude.{Result, Ok, Err, MatchResult, is_err}
use Rattle.certificate.specs.declared.cert.StretchRow.{StretchRow}
use Rattle.certificate.specs.Rows.{Certificate, Function, Point}
use Rattle.certificate.specs.Line.{Line, budget, function, stretch, point, end, rows_of}
use Rattle.certificate.specs.Appending.{budget_in, functions_in, points_in, stretches_in, with_row}

budget_functions : (n : ℕ) (fs : List Function) (more : List Line) → budget_in n (map function fs ++ more) ≡ budget_in n more
budget_functions n [] more = refl
budget_functions n (f ∷ fs) more = budget_functions n fs more

budget_stretches : (n : ℕ) (ss : List StretchRow) (more : List Line) → budget_in n (map stretch ss ++ more) ≡ budget_in n more
budget_stretches n [] more = refl
budget_stretches n (s ∷ ss) more = budget_stretches n ss more

budget_points : (n : ℕ) (ps : List Point) (more : List Line) → budget_in n (map point ps ++ more) ≡ budget_in n more
budget_points n [] more = refl
budget_points n (p ∷ ps) more = budget_points n ps more

functions_functions : (fs : List Function) (more : List Line) → functions_in (map function fs ++ more) ≡ fs ++ functions_in more
functions_functions [] more = refl
functions_functions (f ∷ fs) more = ap (λ l. f ∷ l) (functions_functions fs more)

functions_stretches : (ss : List StretchRow) (more : List Line) → functions_in (map stretch ss ++ more) ≡ functions_in more
functions_stretches [] more = refl
functions_stretches (s ∷ ss) more = functions_stretches ss more

functions_points : (ps : List Point) (more : List Line) → functions_in (map point ps ++ more) ≡ functions_in more
functions_points [] more = refl
functions_points (p ∷ ps) more = functions_points ps more

stretches_functions : (fs : List Function) (more : List Line) → stretches_in (map function fs ++ more) ≡ stretches_in more
stretches_functions [] more = refl
stretches_functions (f ∷ fs) more = stretches_functions fs more

stretches_stretches : (ss : List StretchRow) (more : List Line) → stretches_in (map stretch ss ++ more) ≡ ss ++ stretches_in more
stretches_stretches [] more = refl
stretches_stretches (s ∷ ss) more = ap (λ l. s ∷ l) (stretches_stretches ss more)

stretches_points : (ps : List Point) (more : List Line) → stretches_in (map point ps ++ more) ≡ stretches_in more
stretches_points [] more = refl
stretches_points (p ∷ ps) more = stretches_points ps more

points_functions : (fs : List Function) (more : List Line) → points_in (map function fs ++ more) ≡ points_in more
points_functions [] more = refl
points_functions (f ∷ fs) more = points_functions fs more

points_stretches : (ss : List StretchRow) (more : List Line) → points_in (map stretch ss ++ more) ≡ points_in more
points_stretches [] more = refl
points_stretches (s ∷ ss) more = points_stretches ss more

points_points : (ps : List Point) (more : List Line) → points_in (map point ps ++ more) ≡ ps ++ points_in more
points_points [] more = refl
points_points (p ∷ ps) more = ap (λ l. p ∷ l) (points_points ps more)

abbrev pub gathered : ℕ → List Line → Certificate
gathered n rows = record { budget = budget_in n rows; functions = functions_in rows; stretches = stretches_in rows; points = points_in rows }

pub gathered_rows : (n : ℕ) (c : Certificate) → gathered n (rows_of c) ≡ c
gathered_rows n c =
    let b : budget_in n (rows_of c) ≡ c.budget =
    budget_functions c.budget c.functions _ ∙ budget_stretches c.budget c.stretches _ ∙ budget_points c.budget c.points (end ∷ []) in
    let f : functions_in (rows_of c) ≡ c.functions =
    functions_functions c.functions _ ∙ ap (λ l. c.functions ++ l) (functions_stretches c.stretches _ ∙ functions_points c.points (end ∷ [])) ∙ append-nil c.functions in
    let s : stretches_in (rows_of c) ≡ c.stretches =
    stretches_functions c.functions _ ∙ stretches_stretches c.stretches _ ∙ ap (λ l. c.stretches ++ l) (stretches_points c.points (end ∷ [])) ∙ append-nil c.stretches in
    let p : points_in (rows_of c) ≡ c.points =
    points_functions c.functions _ ∙ points_stretches c.stretches _ ∙ points_points c.points (end ∷ []) ∙ append-nil c.points in
    λ i. record { budget = b i; functions = f i; stretches = s i; points = p i }

pub one_certificate : (c d : Certificate) → rows_of c ≡ rows_of d → c ≡ d
one_certificate c d e = sym (gathered_rows 0 c) ∙ ap (gathered 0) e ∙ gathered_rows 0 d

-- one row more
pub functions_append : (a b : List Line) → functions_in (a ++ b) ≡ functions_in a ++ functions_in b
functions_append [] b = refl
functions_append (function f ∷ a) b = ap (λ l. f ∷ l) (functions_append a b)
functions_append (budget n ∷ a) b = functions_append a b
functions_append (stretch s ∷ a) b = functions_append a b
functions_append (point p ∷ a) b = functions_append a b
functions_append (end ∷ a) b = functions_append a b

pub stretches_append : (a b : List Line) → stretches_in (a ++ b) ≡ stretches_in a ++ stretches_in b
stretches_append [] b = refl
stretches_append (stretch s ∷ a) b = ap (λ l. s ∷ l) (stretches_append a b)
stretches_append (budget n ∷ a) b = stretches_append a b
stretches_append (function f ∷ a) b = stretches_append a b
stretches_append (point p ∷ a) b = stretches_append a b
stretches_append (end ∷ a) b = stretches_append a b

pub points_append : (a b : List Line) → points_in (a ++ b) ≡ points_in a ++ points_in b
points_append [] b = refl
points_append (point p ∷ a) b = ap (λ l. p ∷ l) (points_append a b)
points_append (budget n ∷ a) b = points_append a b
points_append (function f ∷ a) b = points_append a b
points_append (stretch s ∷ a) b = points_append a b
points_append (end ∷ a) b = points_append a b

pub budget_append : (n : ℕ) (a b : List Line) → budget_in n (a ++ b) ≡ budget_in (budget_in n a) b
budget_append n [] b = refl
budget_append n (budget m ∷ a) b = budget_append m a b
budget_append n (function f ∷ a) b = budget_append n a b
budget_append n (stretch s ∷ a) b = budget_append n a b
budget_append n (point p ∷ a) b = budget_append n a b
budget_append n (end ∷ a) b = budget_append n a b

pub gathered_more : (n : ℕ) (rows : List Line) (r : Line) → gathered n (rows ++ r ∷ []) ≡ with_row (gathered n rows) r
gathered_more n rows r = (λ i. record {
  budget = budget_append n rows (r ∷ []) i;
  functions = functions_append rows (r ∷ []) i;
  stretches = stretches_append rows (r ∷ []) i;
  points = points_append rows (r ∷ []) i;
}) ∙ one_more (gathered n rows) r
  where
    one_more : (c : Certificate) (r : Line) → record { budget = budget_in c.budget (r ∷ []); functions = c.functions ++ functions_in (r ∷ []); stretches = c.stretches ++ stretches_in (r ∷ []); points = c.points ++ points_in (r ∷ []) } ≡ with_row c r
    one_more c (budget m) = λ i. record { budget = m; functions = append-nil c.functions i; stretches = append-nil c.stretches i; points = append-nil c.points i }
    one_more c (function f) = λ i. record { budget = c.budget; functions = c.functions ++ f ∷ []; stretches = append-nil c.stretches i; points = append-nil c.points i }
    one_more c (stretch s) = λ i. record { budget = c.budget; functions = append-nil c.functions i; stretches = c.stretches ++ s ∷ []; points = append-nil c.points i }
    one_more c (point p) = λ i. record { budget = c.budget; functions = append-nil c.functions i; stretches = append-nil c.stretches i; points = c.points ++ p ∷ [] }
    one_more c end = λ i. record { budget = c.budget; functions = append-nil c.functions i; stretches = append-nil c.stretches i; points = append-nil c.points i }

pub ok_made : {T E : Type 0} (r : Result T E) (P : Type 0) (Q : E → Type 0) → is_err r ≡ false → MatchResult r (λ x. P) Q → P
ok_made (Ok x) P Q e h = h
ok_made (Err y) P Q e h = absurd (true≢false e)
