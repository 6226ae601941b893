-- The sweep of operations one behind another, each behind a head where it has one.
use Rattle.std.proofs.Common.{◌≡◌, ℕ, ◌+◌, ◌*◌, ◌≤◌, ◌<◌, Bool, true, false, Option, Some, None, List, [], ◌∷◌, ◌++◌, refl, sym, ap, ◌∙◌, subst, arith}
use Rattle.std.specs.Prelude.{pos, ◌+ℤ◌, ◌≤ℤ◌, ◌||◌, ◌&&◌, is_some, slice_get, if◌then◌else◌}
use Rattle.std.proofs.lemmas.Int.{ints}
use Rattle.board_table.specs.declared.board.Board.{Board}
use Rattle.certificate.specs.declared.cert.StretchRow.{StretchRow}
use Rattle.certificate.specs.Rows.{Point}
use Rattle.msp430_isa.specs.declared.instr.Instr.{Instr}
use Rattle.msp430_isa.specs.Encoding.{length_of}
use Rattle.flow_graph.specs.declared.graph.Op.{Op}
use Rattle.flow_graph.specs.declared.graph.OpKind.{OpKind}
use Rattle.flow_graph.specs.declared.graph.OpKind.TheVariants as kind
use Rattle.op_cost.specs.Templates.{Counted, Homes, code_of, weight_of, length_in}
use Rattle.resumed_runs.specs.Code.{head}
use Rattle.cert_rules.specs.Forms.{is_form}
use Rattle.cert_rules.specs.Known.{Known, bare}
use Rattle.cert_rules.specs.Overhead.{wake_cost, sleep_cost}
use Rattle.cert_rules.specs.Words.{head_bytes}
use Rattle.cert_rules.specs.Tables.{point_at, head_at, contains}
use Rattle.cert_rules.specs.Sheet.{Sheet, is_head}
use Rattle.cert_rules.specs.Shapes.{turns_at, turns_fault}
use Rattle.cert_rules.specs.Going.{limit_of, point_implied}
use Rattle.cert_rules.specs.Sweep.{Swept, head as at_head}
use Rattle.cert_pieces.specs.Pieces.{Has, Falls, Lands, Here, AllStandWith, behind}
use Rattle.cert_pieces.proofs.Paying.{pays_to}
use Rattle.cert_pieces.proofs.Stepping.{both, falling_fault}
use Rattle.cert_pieces.proofs.Bare.{affords_plain, point_own}
use Rattle.cert_templates.specs.Frames.{Position, CodePasses, Ceases, LandsWithin, walked, inner_on, inner_by, points_on, bare_inner, bare_point, bytes_of_code, bytes_at, head_bytes_of, code_at, cost_to_head, stretch_rows, points_from, goes_through}
use Rattle.cert_images.proofs.Walking.{row_behind, row_later, walked_before}
use Rattle.cert_images.proofs.Coding.{CodeStands}

-- ---- The code of positions from an address on

abbrev pub head_at_start : Bool → ℕ → List Instr
head_at_start true a = head (a + 18)
head_at_start false a = []

abbrev pub code_from : Homes → ℕ → List Position → List Instr
code_from homes a [] = []
code_from homes a (p ∷ ps) = head_at_start p.has_head a ++ (code_of (code_at homes p) ++ code_from homes (a + bytes_at homes p) ps)

pub behind_is : (a : ℕ) (is : List Instr) → behind a is ≡ a + bytes_of_code is
behind_is a [] = none a
  where
    none : (n : ℕ) → n ≡ n + 0
    none n = omega arith
behind_is a (i ∷ is) = behind_is (a + 2 * length_of i) is ∙ shifted a (2 * length_of i) (bytes_of_code is)
  where
    shifted : (n m k : ℕ) → n + m + k ≡ n + (m + k)
    shifted n m k = omega arith

-- ---- Rows of positions

pub points_before : (b : Board) (homes : Homes) (st n a : ℕ) (falls : Bool) (ps : List Position) (x : ℕ) → x < a → point_at (points_from b homes st n a falls ps) x ≡ None
points_before b homes st n a falls [] x h = refl
points_before b homes st n a falls (p ∷ ps) x h =
    let at = a + head_bytes_of p.has_head in
    let here = if p.has_head then a else st in
    let so_far = if p.has_head then wake_cost b else n in
    let code = code_at homes p in
    let inner = inner_on (inner_by p.op.kind b (length_in p.op.array) code) in
    let own = walked here so_far at (code_of code) inner in
    row_behind (λ (q : Point). q.address) (if p.has_head || falls then [] else bare_point st n a ∷ []) _ x (none_bare (p.has_head || falls))
    ∙ row_behind (λ (q : Point). q.address) own _ x (walked_before here so_far at (code_of code) inner x (omega (arith, h)))
    ∙ points_before b homes here (so_far + weight_of b code) (a + bytes_at homes p) (goes_through p.op.kind) ps x (omega (arith, h))
  where
    none_bare : (c : Bool) → point_at (if c then [] else bare_point st n a ∷ []) x ≡ None
    none_bare true = refl
    none_bare false = row_later (λ (q : Point). q.address) (bare_point st n a) [] x (λ e. absurd (omega (arith, e, h)))

pub heads_before : (b : Board) (homes : Homes) (a : ℕ) (ps : List Position) (x : ℕ) → x < a → head_at (stretch_rows b homes a ps) x ≡ None
heads_before b homes a [] x h = refl
heads_before b homes a (p ∷ ps) x h =
    by p.has_head (heads_before b homes (a + bytes_at homes p) ps x (omega (arith, h)))
  where
    row : StretchRow
    row = record { head = a; chain = 1; turns = 0; cost = wake_cost b + sleep_cost b + (weight_of b (code_at homes p) + cost_to_head b homes ps) }

    by : (c : Bool) → head_at (stretch_rows b homes (a + bytes_at homes p) ps) x ≡ None
        → head_at (if c then record { head = a; chain = 1; turns = 0; cost = wake_cost b + sleep_cost b + (weight_of b (code_at homes p) + cost_to_head b homes ps) } ∷ stretch_rows b homes (a + bytes_at homes p) ps else stretch_rows b homes (a + bytes_at homes p) ps) x ≡ None
    by true e = row_later (λ (r : StretchRow). r.head) row _ x (λ k. absurd (omega (arith, k, h))) ∙ e
    by false e = e

-- ---- A part of a function, from an address on, where so much has been spent

pub record Suffix (t : Sheet) (homes : Homes) (ps : List Position) (a st n : ℕ) (falls : Bool) : Type 0 where
  pub code : CodeStands t a (code_from homes a ps)
  pub begun : t.here.start ≤ a
  pub points : (x : ℕ) → a ≤ x → point_at t.points x ≡ point_at (points_from t.board homes st n a falls ps) x
  pub heads : (x : ℕ) → a ≤ x → head_at t.stretches x ≡ head_at (stretch_rows t.board homes a ps) x
  pub pays : n + cost_to_head t.board homes ps + sleep_cost t.board ≤ limit_of t st

-- a head of the function, with no point on it
pub record HeadAt (t : Sheet) (x : ℕ) : Type 0 where
  pub head : is_head t x ≡ true
  pub inside : contains t.here x ≡ true
  pub none : point_at t.points x ≡ None

-- control comes behind an operation
abbrev pub comes_behind : OpKind → Bool
comes_behind kind.Go = false
comes_behind kind.Finish = false
comes_behind kind.Ret = false
comes_behind _ = true

abbrev pub leads_away : OpKind → Bool
leads_away kind.Go = true
leads_away kind.Test = true
leads_away kind.Below = true
leads_away _ = false

abbrev pub IsSome : List Position → Type 0
IsSome [] = ⊥
IsSome (p ∷ ps) = Unit {0}

-- what is asked of an operation's code
pub record Passing (t : Sheet) (homes : Homes) (p : Position) (ps : List Position) : Type 0 where
  pub passes : (st n : ℕ) → CodePasses p.op.kind t (code_at homes p) (inner_by p.op.kind t.board (length_in p.op.array) (code_at homes p)) p.target st n
  pub forms : (k : ℕ) (i : Instr) → slice_get (code_of (code_at homes p)) k ≡ Some i → is_form i ≡ true
  pub first : (i : Instr) × (slice_get (code_of (code_at homes p)) 0 ≡ Some i)
  pub begins : inner_on (inner_by p.op.kind t.board (length_in p.op.array) (code_at homes p)) 0 ≡ None
  pub goes : leads_away p.op.kind ≡ true → HeadAt t p.target
  pub on : comes_behind p.op.kind ≡ true → IsSome ps

abbrev pub AllPassing : Sheet → Homes → List Position → Type 0
AllPassing t homes [] = Unit {0}
AllPassing t homes (p ∷ ps) = Passing t homes p ps × AllPassing t homes ps

-- what holds from an address on
pub record Goes (t : Sheet) (ps : List Position) (a st n : ℕ) (falls : Bool) : Type 0 where
  pub falling : falls ≡ true → IsSome ps → Falls t (bare st n) a
  pub ceases : falls ≡ false → Ceases t a
  pub landing : falls ≡ false → IsSome ps → LandsWithin t st n a

-- ---- Heads

own_bare : (st n : ℕ) → Has (bare st n) (bare st n)
own_bare st n = point_own (bare_point st n 0) tt

pub swept_head : (t : Sheet) (a : ℕ) (incoming : Option Known) → a < t.here.end → is_head t a ≡ true → Falls t (bare a (wake_cost t.board)) (a + head_bytes) → Swept t a incoming None
swept_head t a incoming inside is falls =
    let κ = bare a (wake_cost t.board) in
    at_head a incoming None inside is
    (both _ _ (ap (λ n. turns_fault (a + 18) 0 n) falls.turns) (falling_fault t a (a + 18) (a + head_bytes) κ falls.inside (falls.paid κ (own_bare a (wake_cost t.board))) (falls.implied (a + 18) κ (own_bare a (wake_cost t.board)))))
    (falls.swept κ (own_bare a (wake_cost t.board)))

sleep_fits : (n s l : ℕ) → n + s ≤ l → (pos n +ℤ pos s) ≤ℤ pos l
sleep_fits n s l h = omega (arith, ints, h)

to_head : (t : Sheet) (x : ℕ) → is_head t x ≡ true → (if is_head t x then sleep_cost t.board else 0) ≤ sleep_cost t.board
to_head t x e = subst (λ c. (if c then sleep_cost t.board else 0) ≤ sleep_cost t.board) (sym e) (omega arith)

pub lands_head : (t : Sheet) (x st n : ℕ) → HeadAt t x → n + sleep_cost t.board ≤ limit_of t st → Lands t (bare st n) x
lands_head t x st n is paid = record {
  goes = ap (λ o. (is_some o || is_head t x) && contains t.here x) is.none ∙ ap (λ c. c && contains t.here x) is.head ∙ is.inside;
  paid = λ κ h. pays_to t x (sleep_cost t.board) (bare st n) κ (affords_plain t (sleep_cost t.board) (bare st n) (pos n) refl (sleep_fits n (sleep_cost t.board) (limit_of t st) paid)) (to_head t x is.head) h;
  implied = λ from κ h. ap (λ o. point_implied from κ o) is.none;
}

pub falls_to_head : (t : Sheet) (a st n : ℕ) → HeadAt t a → a < t.here.end → turns_at t a ≡ None → n + sleep_cost t.board ≤ limit_of t st → Falls t (bare a (wake_cost t.board)) (a + head_bytes) → Falls t (bare st n) a
falls_to_head t a st n is inside turns paid falls = record {
  inside = inside;
  paid = (lands_head t a st n is paid).paid;
  implied = (lands_head t a st n is paid).implied;
  turns = turns;
  swept = λ κ h. swept_head t a (Some κ) inside is.head falls;
}

-- ---- An operation's code

-- by its kind, from the points of its template on
pub here_by : (k : OpKind) (t : Sheet) (homes : Homes) (op : Op) (code : List Counted) (target at a st n : ℕ) (first : Option Point) (ps : List Position)
    → CodePasses k t code (inner_by k t.board (length_in op.array) code) target st n
    → AllStandWith t at (code_of code) (points_on first (bare_inner st n at code (inner_by k t.board (length_in op.array) code)))
    → n + weight_of t.board code + sleep_cost t.board ≤ limit_of t st → behind at (code_of code) ≡ a → (leads_away k ≡ true → HeadAt t target) → (comes_behind k ≡ true → IsSome ps)
    → Goes t ps a st (n + weight_of t.board code) (goes_through k) → Here t at (bare st n)
here_by kind.Go t homes op code target at a st n first ps passes stand pays ends goes on rest =
    passes at first stand (omega (arith, pays)) (λ m h. lands_head t target st m (goes refl) (omega (arith, h, pays))) (subst (λ x. Ceases t x) (sym ends) (rest.ceases refl))
here_by kind.Test t homes op code target at a st n first ps passes stand pays ends goes on rest =
    passes at first stand (omega (arith, pays)) (subst (λ x. LandsWithin t st (n + weight_of t.board code) x) (sym ends) (rest.landing refl (on refl)))
    (λ m h. lands_head t target st m (goes refl) (omega (arith, h, pays))) (subst (λ x. Ceases t x) (sym ends) (rest.ceases refl))
here_by kind.Below t homes op code target at a st n first ps passes stand pays ends goes on rest =
    passes at first stand (omega (arith, pays)) (subst (λ x. LandsWithin t st (n + weight_of t.board code) x) (sym ends) (rest.landing refl (on refl)))
    (λ m h. lands_head t target st m (goes refl) (omega (arith, h, pays))) (subst (λ x. Ceases t x) (sym ends) (rest.ceases refl))
here_by kind.Finish t homes op code target at a st n first ps passes stand pays ends goes on rest =
    passes at first stand (omega (arith, pays)) (subst (λ x. Ceases t x) (sym ends) (rest.ceases refl))
here_by kind.Call t homes op code target at a st n first ps passes stand pays ends goes on rest = absurd passes
here_by kind.Ret t homes op code target at a st n first ps passes stand pays ends goes on rest = absurd passes
here_by k t homes op code target at a st n first ps passes stand pays ends goes on rest =
    passes at first stand (omega (arith, pays)) (subst (λ x. Falls t (bare st (n + weight_of t.board code)) x) (sym ends) (rest.falling refl (on refl)))
