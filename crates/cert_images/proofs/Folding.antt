-- All operations of a function pass, from the last to the first.
use Rattle.std.proofs.Common.{◌≡◌, ℕ, zero, suc, ◌+◌, ◌*◌, ◌≤◌, ◌<◌, Bool, true, false, Option, Some, None, List, [], ◌∷◌, ◌++◌, refl, sym, ap, ◌∙◌, subst, arith}
use Rattle.std.specs.Prelude.{pos, ◌+ℤ◌, ◌≤ℤ◌, ◌||◌, ◌&&◌, nat_le, nat_lt, is_some, slice_get, if◌then◌else◌}
use Rattle.std.specs.Option.{option_map}
use Rattle.std.proofs.lemmas.Int.{ints}
use Rattle.std.proofs.lemmas.Bool.Decides.{nat_tests}
use Rattle.certificate.specs.declared.cert.StretchRow.{StretchRow}
use Rattle.certificate.specs.Rows.{Point}
use Rattle.msp430_isa.specs.declared.instr.Instr.{Instr}
use Rattle.msp430_isa.specs.Encoding.{length_of}
use Rattle.flow_graph.specs.declared.graph.Op.{Op}
use Rattle.op_cost.specs.Templates.{Counted, Homes, code_of, weight_of, length_in}
use Rattle.resumed_runs.specs.Code.{head}
use Rattle.cert_rules.specs.Known.{bare}
use Rattle.cert_rules.specs.Overhead.{wake_cost, sleep_cost}
use Rattle.cert_rules.specs.Words.{head_bytes}
use Rattle.cert_rules.specs.Tables.{point_at, head_at}
use Rattle.cert_rules.specs.Sheet.{Sheet, is_head}
use Rattle.cert_rules.specs.Shapes.{turns_at}
use Rattle.cert_rules.specs.Going.{limit_of, limit_by, row_cost}
use Rattle.cert_rules.specs.Sweep.{end}
use Rattle.cert_pieces.specs.Pieces.{Falls, Here, StandsWith, AllStandWith, address_in, behind}
use Rattle.cert_pieces.proofs.Straight.{fallen}
use Rattle.cert_pieces.proofs.Pointing.{spent_plain}
use Rattle.cert_pieces.proofs.Bare.{affords_plain, at_point, onto_point, plain_stands}
use Rattle.cert_templates.specs.Frames.{Inner, Position, placed, walked, inner_on, inner_by, points_on, bare_inner, bare_point, bytes_of_code, bytes_at, head_bytes_of, code_at, cost_to_head, stretch_rows, points_from, goes_through}
use Rattle.cert_images.proofs.Walking.{row_behind, row_before, row_first, row_later, walked_before, walked_behind, walked_at, walked_within, behind_above, address_above, address_below, length_some}
use Rattle.cert_images.proofs.Coding.{CodeStands, all_stand, stands_behind}
use Rattle.cert_images.proofs.Laying.{Suffix, Passing, AllPassing, HeadAt, Goes, head_at_start, code_from, behind_is, points_before, heads_before, swept_head, lands_head, falls_to_head, here_by}

-- a function with heads alone, none of whose stretches has turns
pub record Static (t : Sheet) : Type 0 where
  pub split : t.here.flat ≡ None
  pub turns : (x : ℕ) → turns_at t x ≡ None

-- ---- Addresses

address_first : (a : ℕ) (is : List Instr) → address_in a is 0 ≡ a
address_first a [] = refl
address_first a (i ∷ is) = refl

address_later : (a : ℕ) (is : List Instr) (k : ℕ) (i : Instr) → slice_get is (suc k) ≡ Some i → a < address_in a is (suc k)
address_later a [] k i e = absurd (let no : false ≡ true = ap (λ o. is_some o) e in cc)
address_later a (j ∷ is) k i e =
    let some = length_some j in
    let above = address_above (a + 2 * length_of j) is k in
    omega (arith, some, above)

pub some_bytes : (a : ℕ) (is : List Instr) (i : Instr) → slice_get is 0 ≡ Some i → a < behind a is
some_bytes a [] i e = absurd (let no : false ≡ true = ap (λ o. is_some o) e in cc)
some_bytes a (j ∷ is) i e =
    let some = length_some j in
    let above = behind_above (a + 2 * length_of j) is in
    omega (arith, some, above)

head_behind : (c : Bool) (a : ℕ) → behind a (head_at_start c a) ≡ a + head_bytes_of c
head_behind true a = behind_is a (head (a + 18))
head_behind false a = none a
  where
    none : (n : ℕ) → n ≡ n + 0
    none n = omega arith

pub bytes_behind : (a h : ℕ) (is : List Instr) → behind (a + h) is ≡ a + (h + bytes_of_code is)
bytes_behind a h is = behind_is (a + h) is ∙ moved a h (bytes_of_code is)
  where
    moved : (n m k : ℕ) → n + m + k ≡ n + (m + k)
    moved n m k = omega arith

-- ---- The stretch of an operation

abbrev pub stretch_of : Position → ℕ → ℕ → ℕ
stretch_of p a st = if p.has_head then a else st

abbrev pub spent_before : Sheet → Position → ℕ → ℕ
spent_before t p n = if p.has_head then wake_cost t.board else n

abbrev pub row_of : Sheet → Homes → Position → List Position → ℕ → StretchRow
row_of t homes p ps a = record { head = a; chain = 1; turns = 0; cost = wake_cost t.board + sleep_cost t.board + (weight_of t.board (code_at homes p) + cost_to_head t.board homes ps) }

limit_there : (t : Sheet) (a : ℕ) (row : StretchRow) → t.here.flat ≡ None → head_at t.stretches a ≡ Some row → limit_of t a ≡ row.cost
limit_there t a row split e = ap (λ f. limit_by t a f) split ∙ ap (λ o. row_cost o) e

module _ (t : Sheet) (homes : Homes) (static : Static t) (op : Op) (target : ℕ) (ps : List Position) (a st n : ℕ) (falls : Bool) where
  abbrev with_head : Bool → Position
  with_head c = record { op = op; target = target; has_head = c }

  head_there : Suffix t homes (with_head true ∷ ps) a st n falls → head_at t.stretches a ≡ Some (row_of t homes (with_head true) ps a)
  head_there s = s.heads a (omega arith) ∙ row_first (λ (r : StretchRow). r.head) (row_of t homes (with_head true) ps a) (stretch_rows t.board homes (a + bytes_at homes (with_head true)) ps) a refl

  pays_on : (c : Bool) → Suffix t homes (with_head c ∷ ps) a st n falls → spent_before t (with_head c) n + weight_of t.board (code_at homes (with_head c)) + cost_to_head t.board homes ps + sleep_cost t.board ≤ limit_of t (stretch_of (with_head c) a st)
  pays_on true s =
      let e = limit_there t a (row_of t homes (with_head true) ps a) static.split (head_there s) in
      omega (arith, e)
  pays_on false s = let h = s.pays in omega (arith, h)

  rows_later : (c : Bool) (x : ℕ) → a < x → head_at (stretch_rows t.board homes a (with_head c ∷ ps)) x ≡ head_at (stretch_rows t.board homes (a + bytes_at homes (with_head c)) ps) x
  rows_later true x h = row_later (λ (r : StretchRow). r.head) (row_of t homes (with_head true) ps a) _ x (λ e. absurd (omega (arith, e, h)))
  rows_later false x h = refl

  bare_later : (c : Bool) (x : ℕ) → a < x → point_at (if c then [] else bare_point st n a ∷ []) x ≡ None
  bare_later true x h = refl
  bare_later false x h = row_later (λ (q : Point). q.address) (bare_point st n a) [] x (λ e. absurd (omega (arith, e, h)))

  abbrev own_points : Bool → List Point
  own_points c = walked (stretch_of (with_head c) a st) (spent_before t (with_head c) n) (a + head_bytes_of c) (code_of (code_at homes (with_head c))) (inner_on (inner_by op.kind t.board (length_in op.array) (code_at homes (with_head c))))

  abbrev rest_points : Bool → List Point
  rest_points c = points_from t.board homes (stretch_of (with_head c) a st) (spent_before t (with_head c) n + weight_of t.board (code_at homes (with_head c))) (a + bytes_at homes (with_head c)) (goes_through op.kind) ps

  points_later : (c : Bool) (x : ℕ) → a < x → point_at (points_from t.board homes st n a falls (with_head c ∷ ps)) x ≡ point_at (own_points c ++ rest_points c) x
  points_later c x h = row_behind (λ (q : Point). q.address) (if c || falls then [] else bare_point st n a ∷ []) _ x (bare_later (c || falls) x h)

  abbrev code_here : Bool → List Instr
  code_here c = code_of (code_at homes (with_head c))

  ends_there : (c : Bool) → behind (a + head_bytes_of c) (code_here c) ≡ a + bytes_at homes (with_head c)
  ends_there c = bytes_behind a (head_bytes_of c) (code_here c)

  code_stands : (c : Bool) → Suffix t homes (with_head c ∷ ps) a st n falls → CodeStands t (a + head_bytes_of c) (code_here c ++ code_from homes (a + bytes_at homes (with_head c)) ps)
  code_stands c s = subst (λ x. CodeStands t x (code_here c ++ code_from homes (a + bytes_at homes (with_head c)) ps)) (head_behind c a) (stands_behind t a (head_at_start c a) _ s.code)

  pub next : (c : Bool) → Suffix t homes (with_head c ∷ ps) a st n falls → (i : Instr) → slice_get (code_here c) 0 ≡ Some i
      → Suffix t homes ps (a + bytes_at homes (with_head c)) (stretch_of (with_head c) a st) (spent_before t (with_head c) n + weight_of t.board (code_at homes (with_head c))) (goes_through op.kind)
  next c s i first =
      let some = some_bytes (a + head_bytes_of c) (code_here c) i first in
      let ends = ends_there c in
      record {
        code = subst (λ x. CodeStands t x (code_from homes (a + bytes_at homes (with_head c)) ps)) ends (stands_behind t (a + head_bytes_of c) (code_here c) _ (code_stands c s));
        begun = (let h = s.begun in omega (arith, h));
        points = λ x h.
            s.points x (omega (arith, h)) ∙ points_later c x (omega (arith, h, some, ends))
            ∙ row_behind (λ (q : Point). q.address) (own_points c) (rest_points c) x (walked_behind _ _ (a + head_bytes_of c) (code_here c) _ x (omega (arith, h, ends)));
        heads = λ x h. s.heads x (omega (arith, h)) ∙ rows_later c x (omega (arith, h, some, ends));
        pays = pays_on c s;
      }

  -- the template stands, with the points inside of it
  region : (c : Bool) → Suffix t homes (with_head c ∷ ps) a st n falls → Passing t homes (with_head c) ps → (first : Option Point) → point_at t.points (a + head_bytes_of c) ≡ first
      → ((x : ℕ) → a + head_bytes_of c ≤ x → x < behind (a + head_bytes_of c) (code_here c) → is_head t x ≡ false)
      → AllStandWith t (a + head_bytes_of c) (code_here c) (points_on first (bare_inner (stretch_of (with_head c) a st) (spent_before t (with_head c) n) (a + head_bytes_of c) (code_at homes (with_head c)) (inner_by op.kind t.board (length_in op.array) (code_at homes (with_head c)))))
  region c s p first zero_is heads =
      let at = a + head_bytes_of c in
      let is = code_here c in
      let inner = inner_on (inner_by op.kind t.board (length_in op.array) (code_at homes (with_head c))) in
      let ends = ends_there c in
      let own : (x : ℕ) → at < x → x < behind at is → point_at t.points x ≡ point_at (own_points c) x = λ x l r.
      s.points x (omega (arith, l)) ∙ points_later c x (omega (arith, l))
      ∙ row_before (λ (q : Point). q.address) (own_points c) (rest_points c) x (points_before t.board homes _ _ (a + bytes_at homes (with_head c)) (goes_through op.kind) ps x (omega (arith, r, ends))) in
      all_stand t at is (code_from homes (a + bytes_at homes (with_head c)) ps) _ (code_stands c s) p.forms (let h = s.begun in omega (arith, h)) static.turns heads
      (λ k i e. point_is at is inner own first zero_is k i e)
      (λ k i x e l r. (let above = address_above at is k in let below = address_below at is k i e in own x (omega (arith, above, l)) (omega (arith, below, r)) ∙ walked_within _ _ at is inner k i x e l r))
    where
      point_is : (at : ℕ) (is : List Instr) (inner : ℕ → Option Inner) → ((x : ℕ) → at < x → x < behind at is → point_at t.points x ≡ point_at (walked (stretch_of (with_head c) a st) (spent_before t (with_head c) n) at is inner) x)
          → (o : Option Point) → point_at t.points at ≡ o → (k : ℕ) (i : Instr) → slice_get is k ≡ Some i
          → point_at t.points (address_in at is k) ≡ points_on o (λ m. option_map (λ q. placed (stretch_of (with_head c) a st) (spent_before t (with_head c) n) (address_in at is m) q) (inner m)) k
      point_is at is inner own o z zero i e = ap (λ x. point_at t.points x) (address_first at is) ∙ z
      point_is at is inner own o z (suc k) i e =
          let later = address_later at is k i e in
          let below = address_below at is (suc k) i e in
          let some = length_some i in
          own (address_in at is (suc k)) later (omega (arith, below, some)) ∙ walked_at _ _ at is inner (suc k) i e

  contains_is : (start end' : ℕ) → start ≤ a → a < end' → nat_le start a && nat_lt a end' ≡ true
  contains_is start end' h k = grind (arith, nat_tests)

  -- a head, and no point on it
  pub head_stands : Suffix t homes (with_head true ∷ ps) a st n falls → (i : Instr) → slice_get (code_here true) 0 ≡ Some i → HeadAt t a
  head_stands s i first =
      let at = a + head_bytes in
      let is = code_here true in
      let ends = ends_there true in
      let some = some_bytes at is i first in
      let code = code_stands true s in
      let above = behind_above at (is ++ code_from homes (a + bytes_at homes (with_head true)) ps) in
      let finish = code.ends in
      record {
        head = ap (λ o. is_some o) (head_there s);
        inside = contains_is t.here.start t.here.end s.begun (omega (arith, above, finish));
        none = s.points a (omega arith)
            ∙ row_behind (λ (q : Point). q.address) (own_points true) (rest_points true) a (walked_before a (wake_cost t.board) at is _ a (omega arith))
            ∙ points_before t.board homes _ _ (a + bytes_at homes (with_head true)) (goes_through op.kind) ps a (omega (arith, some, ends));
      }

  -- an operation with a head
  with_its_head : Suffix t homes (with_head true ∷ ps) a st n falls → Passing t homes (with_head true) ps
      → Goes t ps (a + bytes_at homes (with_head true)) a (wake_cost t.board + weight_of t.board (code_at homes (with_head true))) (goes_through op.kind) → HeadAt t a × Goes t (with_head true ∷ ps) a st n falls
  with_its_head s p rest =
      let at = a + head_bytes in
      let code = code_at homes (with_head true) in
      let is = code_of code in
      let ends = ends_there true in
      let some = some_bytes at is p.first.0 p.first.1 in
      let none_at : point_at t.points at ≡ None =
      s.points at (omega arith) ∙ points_later true at (omega arith)
      ∙ row_before (λ (q : Point). q.address) (own_points true) (rest_points true) at (points_before t.board homes _ _ (a + bytes_at homes (with_head true)) (goes_through op.kind) ps at (omega (arith, some, ends)))
      ∙ ap (λ x. point_at (own_points true) x) (sym (address_first at is)) ∙ walked_at a (wake_cost t.board) at is _ 0 p.first.0 p.first.1 ∙ ap (λ o. option_map (λ q. placed a (wake_cost t.board) (address_in at is 0) q) o) p.begins in
      let no_heads : (x : ℕ) → at ≤ x → x < behind at is → is_head t x ≡ false = λ x l r.
      ap (λ o. is_some o) (s.heads x (omega (arith, l)) ∙ rows_later true x (omega (arith, l)) ∙ heads_before t.board homes (a + bytes_at homes (with_head true)) ps x (omega (arith, r, ends))) in
      let stand = region true s p None none_at no_heads in
      let pays = pays_on true s in
      let here : Here t at (bare a (wake_cost t.board)) =
      here_by op.kind t homes op code target at (a + bytes_at homes (with_head true)) a (wake_cost t.board) None ps (p.passes a (wake_cost t.board)) stand (omega (arith, pays)) ends p.goes p.on rest in
      let first = subst (λ x. StandsWith t x p.first.0 None) (address_first at is) (stand 0 p.first.0 p.first.1) in
      let enters : Falls t (bare a (wake_cost t.board)) at = fallen t at p.first.0 0 (bare a (wake_cost t.board)) (plain_stands t at p.first.0 first)
      (affords_plain t 0 (bare a (wake_cost t.board)) (pos (wake_cost t.board)) refl (within_limit (wake_cost t.board) (limit_of t a) (omega (arith, pays)))) here in
      let inside : a < t.here.end = let h = enters.inside in omega (arith, h) in
      let is_a_head = head_stands s p.first.0 p.first.1 in
      let mine = s.pays in (
        is_a_head,
        record {
          falling = λ e q. falls_to_head t a st n is_a_head inside (static.turns a) (omega (arith, mine)) enters;
          ceases = λ e. record { turns = static.turns a; begins = swept_head t a None inside is_a_head.head enters };
          landing = λ e q m h. lands_head t a st m is_a_head (omega (arith, mine, h));
        },
      )
    where
      within_limit : (m l : ℕ) → m ≤ l → (pos m +ℤ pos 0) ≤ℤ pos l
      within_limit m l h = omega (arith, ints, h)

  -- and one without
  without_head : Suffix t homes (with_head false ∷ ps) a st n falls → Passing t homes (with_head false) ps
      → Goes t ps (a + bytes_at homes (with_head false)) st (n + weight_of t.board (code_at homes (with_head false))) (goes_through op.kind) → Goes t (with_head false ∷ ps) a st n falls
  without_head s p rest = by falls refl
    where
      at : ℕ
      at = a + head_bytes_of false

      code : List Counted
      code = code_at homes (with_head false)

      stands_here : (first : Option Point) → point_at t.points (a + head_bytes_of false) ≡ first
          → (ends : behind (a + head_bytes_of false) (code_here false) ≡ a + bytes_at homes (with_head false)) → AllStandWith t (a + head_bytes_of false) (code_here false) (points_on first (bare_inner st n (a + head_bytes_of false) (code_at homes (with_head false)) (inner_by op.kind t.board (length_in op.array) (code_at homes (with_head false)))))
      stands_here first zero_is ends = region false s p first zero_is (λ x l r.
          ap (λ o. is_some o) (s.heads x (omega (arith, l)) ∙ heads_before t.board homes (a + bytes_at homes (with_head false)) ps x (omega (arith, r, ends))))

      passes_here : (first : Option Point) → point_at t.points (a + head_bytes_of false) ≡ first → Here t (a + head_bytes_of false) (bare st n) × StandsWith t (a + head_bytes_of false) p.first.0 first
      passes_here first zero_is =
          let ends = ends_there false in
          let stand = stands_here first zero_is ends in
          let pays = pays_on false s in (
            here_by op.kind t homes op (code_at homes (with_head false)) target (a + head_bytes_of false) (a + bytes_at homes (with_head false)) st n first ps (p.passes st n) stand (omega (arith, pays)) ends p.goes p.on rest,
            subst (λ x. StandsWith t x p.first.0 first) (address_first (a + head_bytes_of false) (code_here false)) (stand 0 p.first.0 p.first.1),
          )

      start : a + head_bytes_of false ≡ a
      start = omega arith

      within_limit : (m l : ℕ) → m ≤ l → (pos m +ℤ pos 0) ≤ℤ pos l
      within_limit m l h = omega (arith, ints, h)

      sum_le : (x y : ℕ) → x ≤ y → pos x ≤ℤ pos y
      sum_le x y h = omega (arith, ints, h)

      by : (c : Bool) → falls ≡ c → Goes t (with_head false ∷ ps) a st n falls
      by true e = record {
        falling = λ f q.
            let ends = ends_there false in
            let some = some_bytes (a + head_bytes_of false) (code_here false) p.first.0 p.first.1 in
            let none_at : point_at t.points (a + head_bytes_of false) ≡ None =
            s.points (a + head_bytes_of false) (omega arith)
            ∙ ap (λ c. point_at ((if c then [] else bare_point st n a ∷ []) ++ (own_points false ++ rest_points false)) (a + head_bytes_of false)) e
            ∙ row_before (λ (r : Point). r.address) (own_points false) (rest_points false) (a + head_bytes_of false) (points_before t.board homes _ _ (a + bytes_at homes (with_head false)) (goes_through op.kind) ps (a + head_bytes_of false) (omega (arith, some, ends)))
            ∙ ap (λ x. point_at (own_points false) x) (sym (address_first (a + head_bytes_of false) (code_here false))) ∙ walked_at st n (a + head_bytes_of false) (code_here false) _ 0 p.first.0 p.first.1
            ∙ ap (λ o. option_map (λ r. placed st n (address_in (a + head_bytes_of false) (code_here false) 0) r) o) p.begins in
            let passing = passes_here None none_at in
            let pays = s.pays in
            subst (λ x. Falls t (bare st n) x) start
            (fallen t (a + head_bytes_of false) p.first.0 0 (bare st n) (plain_stands t _ p.first.0 passing.1) (affords_plain t 0 (bare st n) (pos n) refl (within_limit n (limit_of t st) (omega (arith, pays)))) passing.0);
        ceases = λ f. absurd (let no : true ≡ false = sym e ∙ f in cc);
        landing = λ f q. absurd (let no : true ≡ false = sym e ∙ f in cc);
      }
      by false e =
          let first = bare_point st n a in
          let there : point_at t.points (a + head_bytes_of false) ≡ Some first =
          ap (λ x. point_at t.points x) start ∙ s.points a (omega arith)
          ∙ ap (λ c. point_at ((if c then [] else bare_point st n a ∷ []) ++ (own_points false ++ rest_points false)) a) e
          ∙ row_first (λ (r : Point). r.address) first (own_points false ++ rest_points false) a refl in
          let passing = passes_here (Some first) there in
          let stand = subst (λ x. StandsWith t x p.first.0 (Some first)) start passing.1 in
          let here = subst (λ x. Here t x (bare st n)) start passing.0 in
          let pays = s.pays in
          record {
            falling = λ f q. absurd (let no : false ≡ true = sym e ∙ f in cc);
            ceases = λ f. record { turns = static.turns a; begins = at_point t a p.first.0 first stand tt here };
            landing = λ f q m h. onto_point t a 0 p.first.0 first (bare st m) stand
                (record { stretch = refl; facts = tt; fresh = refl; spent = λ κ has. spent_plain (bare st m) κ first _ _ refl refl (sum_le m n h) has })
                (affords_plain t 0 (bare st m) (pos m) refl (within_limit m (limit_of t st) (omega (arith, pays, h))));
          }

  one_more : (c : Bool) → Suffix t homes (with_head c ∷ ps) a st n falls → Passing t homes (with_head c) ps
      → Goes t ps (a + bytes_at homes (with_head c)) (stretch_of (with_head c) a st) (spent_before t (with_head c) n + weight_of t.board (code_at homes (with_head c))) (goes_through op.kind) → Goes t (with_head c ∷ ps) a st n falls
  one_more true s p rest = (with_its_head s p rest).1
  one_more false s p rest = without_head s p rest

-- everything from an address on
pub all_go : (t : Sheet) (homes : Homes) → Static t → (ps : List Position) (a st n : ℕ) (falls : Bool) → AllPassing t homes ps → Suffix t homes ps a st n falls → Goes t ps a st n falls
all_go t homes static [] a st n falls all s = record {
  falling = λ e q. absurd q;
  ceases = λ e. record { turns = static.turns a; begins = end a None (let h = s.code.ends in omega (arith, h)) };
  landing = λ e q. absurd q;
}
all_go t homes static (p ∷ ps) a st n falls all s =
    one_more t homes static p.op p.target ps a st n falls p.has_head s all.0
    (all_go t homes static ps (a + bytes_at homes p) (stretch_of p a st) (spent_before t p n + weight_of t.board (code_at homes p)) (goes_through p.op.kind) all.1 (next t homes static p.op p.target ps a st n falls p.has_head s all.0.first.0 all.0.first.1))
