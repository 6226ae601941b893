-- The certificate of operations keeps the grammar of certificates.
use Rattle.std.proofs.Common.{◌≡◌, ℕ, zero, suc, ◌+◌, ◌*◌, ◌≤◌, ◌<◌, Bool, true, false, Option, Some, None, List, [], ◌∷◌, ◌++◌, length, refl, sym, ap, ◌∙◌, subst, arith}
use Rattle.std.specs.Prelude.{◌&&◌, ◌||◌, nat_le, if◌then◌else◌}
use Rattle.std.specs.List.{list_all}
use Rattle.std.proofs.lemmas.Bool.{and_parts, leb-true}
use Rattle.board_table.specs.declared.board.Board.{Board}
use Rattle.certificate.specs.Rows.{Point}
use Rattle.certificate.specs.declared.cert.StretchRow.{StretchRow}
use Rattle.certificate.specs.Grammar.{ArePoints, AreStretches, IsCertificate, IsPoint, all_fresh}
use Rattle.msp430_isa.specs.declared.instr.Instr.{Instr}
use Rattle.msp430_isa.specs.Encoding.{length_of}
use Rattle.op_cost.specs.Templates.{Counted, Homes, code_of, length_in, weight_of}
use Rattle.cert_rules.specs.Overhead.{sleep_code, sleep_cost, wake_code, wake_cost}
use Rattle.cert_templates.specs.Frames.{Inner, Position, bare_point, bytes_at, bytes_of_all, bytes_of_code, certificate_of, code_at, cost_to_head, goes_through, head_bytes_of, inner_by, inner_on, if_point, placed, points_from, stretch_rows, walked}
use Rattle.emit_certs.proofs.Costs.{length_some, sum_small}
use Rattle.emit_certs.proofs.EachKind.{first_bare, small_is}
use Rattle.emit_certs.proofs.Inside.{Few, IsGood, all_good, few_is, good_on, whole_small}

-- each array has at most 65,535 elements
abbrev pub AllFine : List Position → Type 0
AllFine [] = Unit {0}
AllFine (p ∷ ps) = (length_in p.op.array ≤ 65535) × AllFine ps

module _ (b : Board) (homes : Homes) where
  -- ---- The code of a position

  parts_small : (cs : List Counted) → (nat_le 1 (length cs) && (nat_le (length cs) 96 && list_all (λ c. nat_le c.times 16) cs)) ≡ true
      → (1 ≤ length cs) × (length cs ≤ 96) × Few cs
  parts_small cs h =
      let outer = and_parts (nat_le 1 (length cs)) (nat_le (length cs) 96 && list_all (λ c. nat_le c.times 16) cs) h in
      let inner = and_parts (nat_le (length cs) 96) (list_all (λ c. nat_le c.times 16) cs) outer.1 in
      let some = outer.0 in
      let short = inner.0 in
      (leb-true 1 (length cs) some, leb-true (length cs) 96 short, few_is cs inner.1)

  code_small : (p : Position) → (1 ≤ length (code_at homes p)) × (length (code_at homes p) ≤ 96) × Few (code_at homes p)
  code_small p = parts_small (code_at homes p) (small_is homes p.target p.op)

  weighs : (p : Position) → weight_of b (code_at homes p) ≤ 10752000000
  weighs p = let c = code_small p in whole_small b (code_at homes p) c.2 c.1

  good : (p : Position) → length_in p.op.array ≤ 65535 → (i : ℕ) (q : Inner) → inner_on (inner_by p.op.kind b (length_in p.op.array) (code_at homes p)) i ≡ Some q → IsGood b (code_at homes p) (code_small p).2 (code_small p).1 q
  good p fits i q e =
      good_on b (code_at homes p) (code_small p).2 (code_small p).1 (inner_by p.op.kind b (length_in p.op.array) (code_at homes p))
      (all_good b (code_at homes p) (code_small p).2 (code_small p).1 p.op.kind (length_in p.op.array) fits) i q e

  -- ---- Points

  module _ (st spent : ℕ) (low_stretch : st < 65536) (small : spent ≤ 900000000000000) (rest : List Point) (code : List Counted) (few : Few code) (short : length code ≤ 96) where
    is_point : (a : ℕ) (q : Inner) → a ≤ 0xFF80 → IsGood b code few short q → IsPoint (placed st spent a q)
    is_point a q low g = record {
      address = omega (arith, low);
      stretch = low_stretch;
      spent = (let s = g.spent in omega (arith, s, small), g.count, g.terms);
      facts = g.facts;
      spans = tt;
      together = ap (λ c. c && all_fresh [] q.facts) g.together ∙ g.registers;
    }

    walked_ruled : (is : List Instr) (inner : ℕ → Option Inner) (a low : ℕ) → ((i : ℕ) (q : Inner) → inner i ≡ Some q → IsGood b code few short q) → low ≤ a → a + bytes_of_code is ≤ 0xFF80
        → ((l : ℕ) → l ≤ a + bytes_of_code is → ArePoints l rest) → ArePoints low (walked st spent a is inner ++ rest)
    walked_ruled [] inner a low goods above room later = later low (omega (arith, above))
    walked_ruled (i ∷ is) inner a low goods above room later =
        let some = length_some i in
        by (inner 0) refl (λ l h. walked_ruled is (λ k. inner (suc k)) (a + 2 * length_of i) l (λ j q e. goods (suc j) q e) (omega (arith, h, some)) (omega (arith, room)) (λ m n. later m (omega (arith, n))))
      where
        by : (o : Option Inner) → inner 0 ≡ o → ((l : ℕ) → l ≤ a + 2 → ArePoints l (walked st spent (a + 2 * length_of i) is (λ k. inner (suc k)) ++ rest)) → ArePoints low (walked st spent a (i ∷ is) inner ++ rest)
        by None e behind = subst (λ x. ArePoints low ((if_point st spent a x ++ walked st spent (a + 2 * length_of i) is (λ k. inner (suc k))) ++ rest)) (sym e) (behind low (omega (arith, above)))
        by (Some q) e behind = subst (λ x. ArePoints low ((if_point st spent a x ++ walked st spent (a + 2 * length_of i) is (λ k. inner (suc k))) ++ rest)) (sym e)
            (above, is_point a q (omega (arith, room)) (goods 0 q e), behind (a + 1) (omega arith))

    -- where no point is on the first instruction
    walked_later : (cs : List Counted) → 1 ≤ length cs → (inner : ℕ → Option Inner) (a low : ℕ) → inner 0 ≡ None → ((i : ℕ) (q : Inner) → inner i ≡ Some q → IsGood b code few short q) → low ≤ a + 1
        → a + bytes_of_code (code_of cs) ≤ 0xFF80 → ((l : ℕ) → l ≤ a + bytes_of_code (code_of cs) → ArePoints l rest) → ArePoints low (walked st spent a (code_of cs) inner ++ rest)
    walked_later [] some inner a low none goods above room later = absurd (omega (arith, some))
    walked_later (c ∷ cs) some inner a low none goods above room later =
        let least = length_some c.instr in
        subst (λ x. ArePoints low ((if_point st spent a x ++ walked st spent (a + 2 * length_of c.instr) (code_of cs) (λ k. inner (suc k))) ++ rest)) (sym none)
        (walked_ruled (code_of cs) (λ k. inner (suc k)) (a + 2 * length_of c.instr) low (λ j q e. goods (suc j) q e) (omega (arith, above, least)) (omega (arith, room)) (λ m n. later m (omega (arith, n))))

  wake_small : wake_cost b ≤ 35000000
  wake_small = sum_small b wake_code

  sleep_small : sleep_cost b ≤ 28000000
  sleep_small = sum_small b sleep_code

  is_bare : (st n a : ℕ) → st < 65536 → n ≤ 900000000000000 → a ≤ 0xFF80 → IsPoint (bare_point st n a)
  is_bare st n a low small room = record { address = omega (arith, room); stretch = low; spent = (omega (arith, small), omega arith, tt); facts = tt; spans = tt; together = refl }

  points_ruled : (ps : List Position) (st n a : ℕ) (falls : Bool) (low : ℕ) → low ≤ a → st < 65536 → n + 10752000000 * length ps ≤ 900000000000000 → 35000000 + 10752000000 * length ps ≤ 900000000000000
      → a + bytes_of_all homes ps ≤ 0xFF80 → AllFine ps → ArePoints low (points_from b homes st n a falls ps)
  points_ruled [] st n a falls low above begun small wakes room fine = tt
  points_ruled (p ∷ ps) st n a falls low above begun small wakes room fine =
      by p.has_head falls room (λ st' m a' f l over early few fits. points_ruled ps st' m a' f l over early few (omega (arith, wakes)) fits fine.1)
    where
      code : List Counted
      code = code_at homes p

      Later : Type 0
      Later = (st' m a' : ℕ) (f : Bool) (l : ℕ) → l ≤ a' → st' < 65536 → m + 10752000000 * length ps ≤ 900000000000000 → a' + bytes_of_all homes ps ≤ 0xFF80 → ArePoints l (points_from b homes st' m a' f ps)

      inner : ℕ → Option Inner
      inner i = inner_on (inner_by p.op.kind b (length_in p.op.array) (code_at homes p)) i

      weight : weight_of b (code_at homes p) ≤ 10752000000
      weight = weighs p

      wake : wake_cost b ≤ 35000000
      wake = wake_small

      by : (has f : Bool) → a + (head_bytes_of has + bytes_of_code (code_of (code_at homes p)) + bytes_of_all homes ps) ≤ 0xFF80
          → Later → ArePoints low (points_from b homes st n a f (record { op = p.op; target = p.target; has_head = has } ∷ ps))
      by true f room' later =
          walked_ruled a (wake_cost b) (omega (arith, room')) (omega (arith, wake)) _ (code_at homes p) (code_small p).2 (code_small p).1 (code_of (code_at homes p)) inner (a + 22) low (good p fine.0) (omega (arith, above)) (omega (arith, room'))
          (λ l h. later a (wake_cost b + weight_of b (code_at homes p)) (a + (head_bytes_of true + bytes_of_code (code_of (code_at homes p)))) (goes_through p.op.kind) l (omega (arith, h)) (omega (arith, room')) (omega (arith, weight, wake, wakes)) (omega (arith, room')))
      by false true room' later =
          walked_ruled st n begun (omega (arith, small)) _ (code_at homes p) (code_small p).2 (code_small p).1 (code_of (code_at homes p)) inner (a + 0) low (good p fine.0) (omega (arith, above)) (omega (arith, room'))
          (λ l h. later st (n + weight_of b (code_at homes p)) (a + (head_bytes_of false + bytes_of_code (code_of (code_at homes p)))) (goes_through p.op.kind) l (omega (arith, h)) begun (omega (arith, weight, small)) (omega (arith, room')))
      by false false room' later = (
        above,
        is_bare st n a begun (omega (arith, small)) (omega (arith, room')),
        walked_later st n begun (omega (arith, small)) _ (code_at homes p) (code_small p).2 (code_small p).1 (code_at homes p) (code_small p).0 inner (a + 0) (a + 1) (first_bare b (length_in p.op.array) homes p.target p.op) (good p fine.0) (omega arith) (omega (arith, room'))
            (λ l h. later st (n + weight_of b (code_at homes p)) (a + (head_bytes_of false + bytes_of_code (code_of (code_at homes p)))) (goes_through p.op.kind) l (omega (arith, h)) begun (omega (arith, weight, small)) (omega (arith, room'))),
      )

  -- ---- Stretches

  to_head_small : (ps : List Position) → cost_to_head b homes ps ≤ 10752000000 * length ps
  to_head_small [] = omega arith
  to_head_small (p ∷ ps) = by p.has_head (to_head_small ps)
    where
      by : (has : Bool) → cost_to_head b homes ps ≤ 10752000000 * length ps → (if has then 0 else weight_of b (code_at homes p) + cost_to_head b homes ps) ≤ 10752000000 * length (p ∷ ps)
      by true h = omega arith
      by false h = let w = weighs p in omega (arith, w, h)

  rows_ruled : (ps : List Position) (a low : ℕ) → low ≤ a → 63000000 + 10752000000 * length ps ≤ 900000000000000 → a + bytes_of_all homes ps ≤ 0xFF80 → AreStretches low (stretch_rows b homes a ps)
  rows_ruled [] a low above small room = tt
  rows_ruled (p ∷ ps) a low above small room = by p.has_head room (λ a' l over fits. rows_ruled ps a' l over (omega (arith, small)) fits)
    where
      by : (has : Bool) → a + (head_bytes_of has + bytes_of_code (code_of (code_at homes p)) + bytes_of_all homes ps) ≤ 0xFF80
          → ((a' l : ℕ) → l ≤ a' → a' + bytes_of_all homes ps ≤ 0xFF80 → AreStretches l (stretch_rows b homes a' ps))
          → AreStretches low (stretch_rows b homes a (record { op = p.op; target = p.target; has_head = has } ∷ ps))
      by true room' later =
          let w = weighs p in
          let more = to_head_small ps in
          let wake = wake_small in
          let sleep = sleep_small in (
            above,
            (omega (arith, room'), omega arith, omega arith, omega (arith, w, more, wake, sleep, small)),
            later (a + (head_bytes_of true + bytes_of_code (code_of (code_at homes p)))) (a + 1) (omega arith) (omega (arith, room')),
          )
      by false room' later = later (a + (head_bytes_of false + bytes_of_code (code_of (code_at homes p)))) low (omega (arith, above)) (omega (arith, room'))

  pub is_certificate : (ps : List Position) → length ps ≤ 4096 → 0x8012 + bytes_of_all homes ps ≤ 0xFF80 → AllFine ps → IsCertificate (certificate_of b homes ps)
  is_certificate ps few room fine = record {
    budget = (let r = b.budget_range.1 in omega (arith, r));
    some = omega arith;
    functions = (omega arith, (omega arith, omega (arith, room), omega arith, tt), tt);
    stretches = rows_ruled ps 0x8012 0 (omega arith) (omega (arith, few)) room;
    points = points_ruled ps 0x8012 0 0x8012 false 0 (omega arith) (omega arith) (omega (arith, few)) (omega (arith, few)) room fine;
  }
