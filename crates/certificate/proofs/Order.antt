-- Rows in their order are those of a certificate.
use Rattle.std.proofs.Common.{◌≡◌, ◌∙◌, ◌+◌, ◌≤◌, ◌++◌, ℕ, List, [], ◌∷◌, Option, Some, None, true, refl, ap, subst, length, arith, map, le-leb, leb-true}
use Rattle.std.specs.Prelude.{option_and_then, nat_le}
use Rattle.certificate.specs.declared.cert.StretchRow.{StretchRow}
use Rattle.certificate.specs.declared.state.Stage.{Stage}
use Rattle.certificate.specs.declared.state.Stage.TheVariants as stage
use Rattle.certificate.specs.Rows.{Certificate, Function, Point}
use Rattle.certificate.specs.Line.{Line, budget, function, stretch, point, end, rows_of}
use Rattle.certificate.specs.Grammar.{AreFunctions, ArePoints, AreStretches, IsCertificate, IsNumber, IsPoint, IsRow}
use Rattle.certificate.specs.Reading.{budget_behind, end_behind, functions_behind, points_behind, stage_behind, stretches_behind}
use Rattle.certificate.proofs.Marks.{if_some, none_not, some_is, then_some}

-- where rows lead
abbrev pub stages : Stage → List Line → Option Stage
stages s [] = Some s
stages s (r ∷ rows) = option_and_then (λ t. stages t rows) (stage_behind s r)

abbrev pub AllRows : List Line → Type 0
AllRows [] = Unit {0}
AllRows (r ∷ rows) = IsRow r × AllRows rows

pub rows_append : (a b : List Line) → AllRows a → AllRows b → AllRows (a ++ b)
rows_append [] b p q = q
rows_append (r ∷ a) b p q = (p.0, rows_append a b p.1 q)

pub stages_append : (a b : List Line) (s t : Stage) → stages s a ≡ Some t → stages s (a ++ b) ≡ stages t b
stages_append [] b s t e = ap (λ s. stages s b) (some_is s t e)
stages_append (r ∷ a) b s t e =
    let k = then_some (stage_behind s r) (λ t. stages t a) t e in
    ap (option_and_then (λ t. stages t (a ++ b))) k.1 ∙ stages_append a b k.0 t k.2

-- ---- A certificate's rows stand in their order

points_lead : (low : ℕ) (ps : List Point) → ArePoints low ps → stages (stage.Points low) (map point ps ++ end ∷ []) ≡ Some stage.Ended
points_lead low [] h = refl
points_lead low (p ∷ ps) h = let a : nat_le low p.address ≡ true = le-leb low p.address h.0 in rw a (points_lead (p.address + 1) ps h.2)

stretches_lead : (low : ℕ) (ss : List StretchRow) (ps : List Point) → AreStretches low ss → ArePoints 0 ps
    → stages (stage.Stretches low) (map stretch ss ++ (map point ps ++ end ∷ [])) ≡ Some stage.Ended
stretches_lead low [] [] h q = refl
stretches_lead low [] (p ∷ ps) h q = points_lead (p.address + 1) ps q.2
stretches_lead low (s ∷ ss) ps h q = let a : nat_le low s.head ≡ true = le-leb low s.head h.0 in rw a (stretches_lead (s.head + 1) ss ps h.2 q)

functions_lead : (low : ℕ) (fs : List Function) (ss : List StretchRow) (ps : List Point) → AreFunctions low fs → AreStretches 0 ss → ArePoints 0 ps
    → stages (stage.Functions low) (map function fs ++ (map stretch ss ++ (map point ps ++ end ∷ []))) ≡ Some stage.Ended
functions_lead low [] [] [] h g q = refl
functions_lead low [] [] (p ∷ ps) h g q = points_lead (p.address + 1) ps q.2
functions_lead low [] (s ∷ ss) ps h g q = stretches_lead (s.head + 1) ss ps g.2 q
functions_lead low (f ∷ fs) ss ps h g q = let a : nat_le low f.start ≡ true = le-leb low f.start h.0 in rw a (functions_lead (f.start + 1) fs ss ps h.2 g q)

all_lead : (n : ℕ) (fs : List Function) (ss : List StretchRow) (ps : List Point) → 1 ≤ length fs → AreFunctions 0 fs → AreStretches 0 ss → ArePoints 0 ps
    → stages stage.Budget (budget n ∷ (map function fs ++ (map stretch ss ++ (map point ps ++ end ∷ [])))) ≡ Some stage.Ended
all_lead n [] ss ps some h g q = absurd (omega arith)
all_lead n (f ∷ fs) ss ps some h g q = functions_lead (f.start + 1) fs ss ps h.2 g q

pub certificate_leads : (c : Certificate) → IsCertificate c → stages stage.Budget (rows_of c) ≡ Some stage.Ended
certificate_leads c h = all_lead c.budget c.functions c.stretches c.points h.some h.functions h.stretches h.points

points_rows : (low : ℕ) (ps : List Point) → ArePoints low ps → AllRows (map point ps ++ end ∷ [])
points_rows low [] h = (tt, tt)
points_rows low (p ∷ ps) h = (h.1, points_rows (p.address + 1) ps h.2)

stretches_rows : (low : ℕ) (ss : List StretchRow) (more : List Line) → AreStretches low ss → AllRows more → AllRows (map stretch ss ++ more)
stretches_rows low [] more h q = q
stretches_rows low (s ∷ ss) more h q = (h.1, stretches_rows (s.head + 1) ss more h.2 q)

functions_rows : (low : ℕ) (fs : List Function) (more : List Line) → AreFunctions low fs → AllRows more → AllRows (map function fs ++ more)
functions_rows low [] more h q = q
functions_rows low (f ∷ fs) more h q = (h.1, functions_rows (f.start + 1) fs more h.2 q)

pub certificate_rows : (c : Certificate) → IsCertificate c → AllRows (rows_of c)
certificate_rows c h =
    (h.budget, functions_rows 0 c.functions _ h.functions (stretches_rows 0 c.stretches _ h.stretches (points_rows 0 c.points h.points)))

-- ---- Rows in their order are a certificate's

ended_told : (rows : List Line) → stages stage.Ended rows ≡ Some stage.Ended → rows ≡ []
ended_told [] e = refl
ended_told (budget n ∷ rows) e = none_not _ e
ended_told (function f ∷ rows) e = none_not _ e
ended_told (stretch s ∷ rows) e = none_not _ e
ended_told (point p ∷ rows) e = none_not _ e
ended_told (end ∷ rows) e = none_not _ e

abbrev points_list : List Point → List Line
points_list ps = map point ps ++ end ∷ []

abbrev stretches_list : List StretchRow → List Point → List Line
stretches_list ss ps = map stretch ss ++ points_list ps

abbrev functions_list : List Function → List StretchRow → List Point → List Line
functions_list fs ss ps = map function fs ++ stretches_list ss ps

pub record PointsTold (low : ℕ) (rows : List Line) : Type 0 where
  pub points : List Point
  pub list : rows ≡ points_list points
  pub are : ArePoints low points

pub record StretchesTold (low : ℕ) (rows : List Line) : Type 0 where
  pub stretches : List StretchRow
  pub points : List Point
  pub list : rows ≡ stretches_list stretches points
  pub are : AreStretches low stretches
  pub behind : ArePoints 0 points

pub record FunctionsTold (low : ℕ) (rows : List Line) : Type 0 where
  pub functions : List Function
  pub stretches : List StretchRow
  pub points : List Point
  pub list : rows ≡ functions_list functions stretches points
  pub are : AreFunctions low functions
  pub next : AreStretches 0 stretches
  pub behind : ArePoints 0 points

not_ended : {P : Type 0} (s : Stage) → (s ≡ stage.Ended → ⊥) → Some s ≡ Some stage.Ended → P
not_ended s differs e = absurd (differs (some_is s stage.Ended e))

points_told : (low : ℕ) (rows : List Line) → stages (stage.Points low) rows ≡ Some stage.Ended → AllRows rows → PointsTold low rows
points_told low [] e h = not_ended (stage.Points low) (λ k. cc) e
points_told low (budget n ∷ rows) e h = none_not _ e
points_told low (function f ∷ rows) e h = none_not _ e
points_told low (stretch s ∷ rows) e h = none_not _ e
points_told low (end ∷ rows) e h = record { points = []; list = ap (λ r. end ∷ r) (ended_told rows e); are = tt }
points_told low (point p ∷ rows) e h =
    let a = then_some (points_behind (stage.Points low) p.address) (λ t. stages t rows) stage.Ended e in
    let i = if_some (nat_le low p.address) (stage.Points (p.address + 1)) a.0 a.1 in
    let r = points_told (p.address + 1) rows (ap (λ t. stages t rows) i.1 ∙ a.2) h.1 in
    record { points = p ∷ r.points; list = ap (λ l. point p ∷ l) r.list; are = (leb-true low p.address i.0, h.0, r.are) }

first_point : (p : Point) (rows : List Line) → stages (stage.Points (p.address + 1)) rows ≡ Some stage.Ended → IsPoint p → AllRows rows → PointsTold 0 (point p ∷ rows)
first_point p rows e is h =
    let r = points_told (p.address + 1) rows e h in
    record { points = p ∷ r.points; list = ap (λ l. point p ∷ l) r.list; are = (omega arith, is, r.are) }

stretches_told : (low : ℕ) (rows : List Line) → stages (stage.Stretches low) rows ≡ Some stage.Ended → AllRows rows → StretchesTold low rows
stretches_told low [] e h = not_ended (stage.Stretches low) (λ k. cc) e
stretches_told low (budget n ∷ rows) e h = none_not _ e
stretches_told low (function f ∷ rows) e h = none_not _ e
stretches_told low (end ∷ rows) e h = record { stretches = []; points = []; list = ap (λ r. end ∷ r) (ended_told rows e); are = tt; behind = tt }
stretches_told low (point p ∷ rows) e h = let r = first_point p rows e h.0 h.1 in record { stretches = []; points = r.points; list = r.list; are = tt; behind = r.are }
stretches_told low (stretch s ∷ rows) e h =
    let a = then_some (stretches_behind (stage.Stretches low) s.head) (λ t. stages t rows) stage.Ended e in
    let i = if_some (nat_le low s.head) (stage.Stretches (s.head + 1)) a.0 a.1 in
    let r = stretches_told (s.head + 1) rows (ap (λ t. stages t rows) i.1 ∙ a.2) h.1 in
    record { stretches = s ∷ r.stretches; points = r.points; list = ap (λ l. stretch s ∷ l) r.list; are = (leb-true low s.head i.0, h.0, r.are); behind = r.behind }

functions_told : (low : ℕ) (rows : List Line) → stages (stage.Functions low) rows ≡ Some stage.Ended → AllRows rows → FunctionsTold low rows
functions_told low [] e h = not_ended (stage.Functions low) (λ k. cc) e
functions_told low (budget n ∷ rows) e h = none_not _ e
functions_told low (end ∷ rows) e h = record { functions = []; stretches = []; points = []; list = ap (λ r. end ∷ r) (ended_told rows e); are = tt; next = tt; behind = tt }
functions_told low (point p ∷ rows) e h = let r = first_point p rows e h.0 h.1 in record { functions = []; stretches = []; points = r.points; list = r.list; are = tt; next = tt; behind = r.are }
functions_told low (stretch s ∷ rows) e h =
    let r = stretches_told (s.head + 1) rows e h.1 in
    record { functions = []; stretches = s ∷ r.stretches; points = r.points; list = ap (λ l. stretch s ∷ l) r.list; are = tt; next = (omega arith, h.0, r.are); behind = r.behind }
functions_told low (function f ∷ rows) e h =
    let a = then_some (functions_behind (stage.Functions low) f.start) (λ t. stages t rows) stage.Ended e in
    let i = if_some (nat_le low f.start) (stage.Functions (f.start + 1)) a.0 a.1 in
    let r = functions_told (f.start + 1) rows (ap (λ t. stages t rows) i.1 ∙ a.2) h.1 in
    record { functions = f ∷ r.functions; stretches = r.stretches; points = r.points; list = ap (λ l. function f ∷ l) r.list; are = (leb-true low f.start i.0, h.0, r.are); next = r.next; behind = r.behind }

pub record CertificateTold (rows : List Line) : Type 0 where
  pub whole : Certificate
  pub list : rows ≡ rows_of whole
  pub is : IsCertificate whole

first_told : (n : ℕ) (rows : List Line) → stages stage.First rows ≡ Some stage.Ended → IsNumber n → AllRows rows → CertificateTold (budget n ∷ rows)
first_told n [] e l h = not_ended stage.First (λ k. cc) e
first_told n (budget b ∷ rows) e l h = none_not _ e
first_told n (stretch s ∷ rows) e l h = none_not _ e
first_told n (point p ∷ rows) e l h = none_not _ e
first_told n (end ∷ rows) e l h = none_not _ e
first_told n (function f ∷ rows) e l h =
    let r = functions_told (f.start + 1) rows e h.1 in
    record {
      whole = record { budget = n; functions = f ∷ r.functions; stretches = r.stretches; points = r.points };
      list = ap (λ l. budget n ∷ function f ∷ l) r.list;
      is = record { budget = l; some = omega arith; functions = (omega arith, h.0, r.are); stretches = r.next; points = r.behind };
    }

pub certificate_told : (rows : List Line) → stages stage.Budget rows ≡ Some stage.Ended → AllRows rows → CertificateTold rows
certificate_told [] e h = not_ended stage.Budget (λ k. cc) e
certificate_told (budget n ∷ rows) e h = first_told n rows e h.0 h.1
certificate_told (function f ∷ rows) e h = none_not _ e
certificate_told (stretch s ∷ rows) e h = none_not _ e
certificate_told (point p ∷ rows) e h = none_not _ e
certificate_told (end ∷ rows) e h = none_not _ e

-- ---- The first line comes once

abbrev pub IsLater : Stage → Type 0
IsLater stage.Header = ⊥
IsLater _ = Unit {0}

budget_later : (s t : Stage) → budget_behind s ≡ Some t → IsLater t
budget_later stage.Budget t e = subst IsLater (some_is _ t e) tt
budget_later s t e = none_not _ e

functions_later : (x : ℕ) (s t : Stage) → functions_behind s x ≡ Some t → IsLater t
functions_later x stage.First t e = subst IsLater (some_is _ t e) tt
functions_later x (stage.Functions low) t e = subst IsLater (if_some (nat_le low x) (stage.Functions (x + 1)) t e).1 tt
functions_later x s t e = none_not _ e

stretches_later : (x : ℕ) (s t : Stage) → stretches_behind s x ≡ Some t → IsLater t
stretches_later x (stage.Functions low) t e = subst IsLater (some_is _ t e) tt
stretches_later x (stage.Stretches low) t e = subst IsLater (if_some (nat_le low x) (stage.Stretches (x + 1)) t e).1 tt
stretches_later x s t e = none_not _ e

points_later : (x : ℕ) (s t : Stage) → points_behind s x ≡ Some t → IsLater t
points_later x (stage.Functions low) t e = subst IsLater (some_is _ t e) tt
points_later x (stage.Stretches low) t e = subst IsLater (some_is _ t e) tt
points_later x (stage.Points low) t e = subst IsLater (if_some (nat_le low x) (stage.Points (x + 1)) t e).1 tt
points_later x s t e = none_not _ e

end_later : (s t : Stage) → end_behind s ≡ Some t → IsLater t
end_later (stage.Functions low) t e = subst IsLater (some_is _ t e) tt
end_later (stage.Stretches low) t e = subst IsLater (some_is _ t e) tt
end_later (stage.Points low) t e = subst IsLater (some_is _ t e) tt
end_later s t e = none_not _ e

pub later : (s : Stage) (r : Line) (t : Stage) → stage_behind s r ≡ Some t → IsLater t
later s (budget n) t e = budget_later s t e
later s (function f) t e = functions_later f.start s t e
later s (stretch row) t e = stretches_later row.head s t e
later s (point p) t e = points_later p.address s t e
later s end t e = end_later s t e

pub stages_later : (rows : List Line) (s t : Stage) → IsLater s → stages s rows ≡ Some t → IsLater t
stages_later [] s t l e = subst IsLater (some_is s t e) l
stages_later (r ∷ rows) s t l e =
    let k = then_some (stage_behind s r) (λ t. stages t rows) t e in
    stages_later rows k.0 t (later s r k.0 k.1) k.2

-- ---- What is read so far can be made whole

abbrev least : Function
least = record { start = 0; end = 0; height = 0; flat = None }

abbrev pub ending : Stage → List Line
ending stage.Header = []
ending stage.Budget = budget 0 ∷ function least ∷ end ∷ []
ending stage.First = function least ∷ end ∷ []
ending stage.Ended = []
ending _ = end ∷ []

pub ending_leads : (s : Stage) → IsLater s → stages s (ending s) ≡ Some stage.Ended
ending_leads stage.Header l = absurd l
ending_leads stage.Budget l = refl
ending_leads stage.First l = refl
ending_leads (stage.Functions low) l = refl
ending_leads (stage.Stretches low) l = refl
ending_leads (stage.Points low) l = refl
ending_leads stage.Ended l = refl

least_is : IsRow (function least)
least_is = (omega arith, omega arith, omega arith, tt)

pub ending_rows : (s : Stage) → AllRows (ending s)
ending_rows stage.Header = tt
ending_rows stage.Budget = (omega arith, (least_is, (tt, tt)))
ending_rows stage.First = (least_is, (tt, tt))
ending_rows (stage.Functions low) = (tt, tt)
ending_rows (stage.Stretches low) = (tt, tt)
ending_rows (stage.Points low) = (tt, tt)
ending_rows stage.Ended = tt
