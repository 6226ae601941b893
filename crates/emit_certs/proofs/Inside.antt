-- The points inside a template keep the grammar of certificates.
use Rattle.std.proofs.Common.{◌≡◌, ℕ, zero, suc, ◌+◌, ◌-◌, ◌*◌, ◌≤◌, ◌<◌, Bool, true, false, Option, Some, None, List, [], ◌∷◌, ◌++◌, length, take, drop, refl, sym, ap, subst, arith}
use Rattle.std.specs.Prelude.{◌&&◌, ◌==◌, nat_le, if◌then◌else◌}
use Rattle.std.specs.List.{list_all}
use Rattle.std.proofs.lemmas.Bool.{and_parts, leb-true}
use Rattle.std.proofs.lemmas.Nat.{mul-le}
use Rattle.board_table.specs.declared.board.Board.{Board}
use Rattle.certificate.specs.declared.cert.Fact.{Fact}
use Rattle.certificate.specs.declared.cert.Slot.TheVariants.{Reg}
use Rattle.certificate.specs.Grammar.{AreFacts, AreTerms, IsFact, all_fresh, all_have_facts}
use Rattle.msp430_isa.specs.declared.instr.Instr.{Instr}
use Rattle.msp430_machine.specs.Cost.{instruction_cost}
use Rattle.flow_graph.specs.declared.graph.OpKind.{OpKind}
use Rattle.flow_graph.specs.declared.graph.OpKind.TheVariants as kind
use Rattle.op_cost.specs.Templates.{Counted, code_of, weight_of}
use Rattle.cert_rules.specs.Overhead.{cost_sum}
use Rattle.cert_templates.specs.Frames.{Inner, Loop, any_fact, compared_at, division_at, four, inner_by, inner_on, loop_at, operands, plain_at, ranging, shift_at, signed_at, trapping_at, turn_cost}
use Rattle.emit_certs.proofs.Costs.{cost_small}

-- ---- What code costs at most

abbrev pub Few : List Counted → Type 0
Few [] = Unit {0}
Few (c ∷ cs) = (c.times ≤ 16) × Few cs

pub few_is : (cs : List Counted) → list_all (λ c. nat_le c.times 16) cs ≡ true → Few cs
few_is [] h = tt
few_is (c ∷ cs) h =
    let both = and_parts (nat_le c.times 16) (list_all (λ x. nat_le x.times 16) cs) h in
    (leb-true c.times 16 both.0, few_is cs both.1)

weight_small : (b : Board) (cs : List Counted) → Few cs → weight_of b cs ≤ 112000000 * length cs
weight_small b [] h = omega arith
weight_small b (c ∷ cs) h =
    let one = mul-le c.times (instruction_cost b c.instr) 16 7000000 h.0 (cost_small b c.instr) in
    let rest = weight_small b cs h.1 in
    omega (arith, one, rest)

cost_small_all : (b : Board) (cs : List Counted) → cost_sum b (code_of cs) ≤ 7000000 * length cs
cost_small_all b [] = omega arith
cost_small_all b (c ∷ cs) = let one = cost_small b c.instr in let rest = cost_small_all b cs in omega (arith, one, rest)

take_few : (n : ℕ) (cs : List Counted) → Few cs → Few (take n cs)
take_few zero cs h = tt
take_few (suc n) [] h = tt
take_few (suc n) (c ∷ cs) h = (h.0, take_few n cs h.1)

take_short : (n : ℕ) (cs : List Counted) → length (take n cs) ≤ length cs
take_short zero cs = omega arith
take_short (suc n) [] = omega arith
take_short (suc n) (c ∷ cs) = let h = take_short n cs in omega (arith, h)

drop_short : (n : ℕ) (cs : List Counted) → length (drop n cs) ≤ length cs
drop_short zero cs = omega arith
drop_short (suc n) [] = omega arith
drop_short (suc n) (c ∷ cs) = let h = drop_short n cs in omega (arith, h)

pub whole_small : (b : Board) (code : List Counted) → Few code → length code ≤ 96 → weight_of b code ≤ 10752000000
whole_small b code few short = let w = weight_small b code few in omega (arith, w, short)

module _ (b : Board) (code : List Counted) (few : Few code) (short : length code ≤ 96) where
  before_small : (n : ℕ) → weight_of b (take n code) ≤ 10752000000
  before_small n = let w = weight_small b (take n code) (take_few n code few) in let s = take_short n code in omega (arith, w, s, short)

  part_small : (n m : ℕ) → cost_sum b (code_of (take n (drop m code))) ≤ 672000000
  part_small n m =
      let w = cost_small_all b (take n (drop m code)) in
      let s = take_short n (drop m code) in
      let d = drop_short m code in
      omega (arith, w, s, d, short)

  -- ---- Points

  pub record IsGood (q : Inner) : Type 0 where
    pub spent : q.spent ≤ 100000000000
    pub count : length q.terms ≤ 80
    pub terms : AreTerms 0 q.terms
    pub facts : AreFacts 0 q.facts
    pub registers : all_fresh [] q.facts ≡ true
    pub together : all_have_facts q.facts q.terms ≡ true

  abbrev pub AllGood : List Inner → Type 0
  AllGood [] = Unit {0}
  AllGood (q ∷ qs) = IsGood q × AllGood qs

  -- facts of registers, in their order
  abbrev Told : List Fact → Type 0
  Told facts = AreFacts 0 facts × (all_fresh [] facts ≡ true)

  plain : (n : ℕ) (facts : List Fact) → Told facts → IsGood (plain_at b code n facts)
  plain n facts are = record { spent = (let w = before_small n in omega (arith, w)); count = omega arith; terms = tt; facts = are.0; registers = are.1; together = refl }

  in_loop : (loop : Loop) (n : ℕ) (facts : List Fact) → loop.turns ≤ 16 → 4 ≤ loop.counter → loop.counter ≤ 15 → Told facts
      → all_have_facts facts (record { minus = true; factor = turn_cost b code loop; of = Reg loop.counter } ∷ []) ≡ true → IsGood (loop_at b code loop n facts)
  in_loop loop n facts few_turns low high are has = record {
    spent = (let before = before_small loop.first in
        let turn = part_small loop.instructions loop.first in
        let all = mul-le loop.turns (turn_cost b code loop) 16 672000000 few_turns turn in
        let inside = part_small (n - loop.first) loop.first in
        omega (arith, before, all, inside));
    count = omega arith;
    terms = ((omega arith, (low, high), let turn = part_small loop.instructions loop.first in omega (arith, turn)), tt);
    facts = are.0;
    registers = are.1;
    together = has;
  }

  fact : (low r least greatest : ℕ) → low ≤ r → 4 ≤ r → r ≤ 15 → least ≤ greatest → greatest ≤ 65535 → IsFact low (ranging r least greatest)
  fact low r least greatest a b' c d e = (a, (b', c), d, e)

  any : (low r : ℕ) → low ≤ r → 4 ≤ r → r ≤ 15 → IsFact low (any_fact r)
  any low r a b' c = (a, (b', c), omega arith, omega arith)

  one_fact : (r : ℕ) → 4 ≤ r → r ≤ 15 → Told (any_fact r ∷ [])
  one_fact r a c = ((any 0 r (omega arith) a c, tt), refl)

  two_facts : (r s : ℕ) → r < s → 4 ≤ r → s ≤ 15 → Told (any_fact r ∷ any_fact s ∷ [])
  two_facts r s less a c = ((any 0 r (omega arith) a (omega (arith, less, c)), (any (r + 1) s (omega (arith, less)) (omega (arith, less, a)) c, tt)), refl)

  four_facts : Told four
  four_facts = ((fact 0 12 1 16 (omega arith) (omega arith) (omega arith) (omega arith) (omega arith), (any 13 13 (omega arith) (omega arith) (omega arith), (any 14 14 (omega arith) (omega arith) (omega arith), (any 15 15 (omega arith) (omega arith) (omega arith), tt)))), refl)

  five_facts : Told (any_fact 11 ∷ four)
  five_facts = ((any 0 11 (omega arith) (omega arith) (omega arith), (fact 12 12 1 16 (omega arith) (omega arith) (omega arith) (omega arith) (omega arith), (any 13 13 (omega arith) (omega arith) (omega arith), (any 14 14 (omega arith) (omega arith) (omega arith), (any 15 15 (omega arith) (omega arith) (omega arith), tt))))), refl)

  three_facts : (r : ℕ) → 11 < r → r < 15 → Told (any_fact 11 ∷ any_fact r ∷ any_fact 15 ∷ [])
  three_facts r a c = ((any 0 11 (omega arith) (omega arith) (omega arith), (any 12 r (omega (arith, a)) (omega (arith, a)) (omega (arith, c)), (any (r + 1) 15 (omega (arith, c)) (omega arith) (omega arith), tt))), refl)

  operand_facts : Told operands
  operand_facts = two_facts 14 15 (omega arith) (omega arith) (omega arith)

  multiplying : AllGood (inner_by kind.Mul b 0 code)
  multiplying =
      let loop : Loop = record { first = 4; instructions = 7; turns = 16; counter = 12 } in
      (in_loop loop 4 four (omega arith) (omega arith) (omega arith) four_facts refl, (in_loop loop 7 four (omega arith) (omega arith) (omega arith) four_facts refl, (plain 11 (any_fact 13 ∷ []) (one_fact 13 (omega arith) (omega arith)), tt)))

  dividing : AllGood (inner_by kind.DivU b 0 code)
  dividing =
      let loop : Loop = record { first = 7; instructions = 9; turns = 16; counter = 12 } in (
        plain 4 [] (tt, refl),
        (
          plain 5 operands operand_facts,
          (
            in_loop loop 7 four (omega arith) (omega arith) (omega arith) four_facts refl,
            (
              in_loop loop 12 four (omega arith) (omega arith) (omega arith) four_facts refl,
              (in_loop loop 14 four (omega arith) (omega arith) (omega arith) four_facts refl, (plain 16 (any_fact 13 ∷ any_fact 15 ∷ []) (two_facts 13 15 (omega arith) (omega arith) (omega arith)), tt)),
            ),
          ),
        ),
      )

  signed : (n r : ℕ) → 4 ≤ r → r ≤ 15 → AllGood (trapping_at b code 4 operands ++ signed_at b code n r)
  signed n r a c =
      let loop : Loop = record { first = n + 6; instructions = 9; turns = 16; counter = 12 } in (
        plain 4 [] (tt, refl),
        (
          plain 5 operands operand_facts,
          (
            plain n (any_fact 11 ∷ operands) (three_facts 14 (omega arith) (omega arith)),
            (
              plain (n + 4) (any_fact 11 ∷ operands) (three_facts 14 (omega arith) (omega arith)),
              (
                in_loop loop (n + 6) (any_fact 11 ∷ four) (omega arith) (omega arith) (omega arith) five_facts refl,
                (
                  in_loop loop (n + 6 + 5) (any_fact 11 ∷ four) (omega arith) (omega arith) (omega arith) five_facts refl,
                  (
                    in_loop loop (n + 6 + 7) (any_fact 11 ∷ four) (omega arith) (omega arith) (omega arith) five_facts refl,
                    (plain (n + 6 + 9) (any_fact 11 ∷ any_fact 13 ∷ any_fact 15 ∷ []) (three_facts 13 (omega arith) (omega arith)), (plain (n + 19) (any_fact r ∷ []) (one_fact r a c), tt)),
                  ),
                ),
              ),
            ),
          ),
        ),
      )

  shifting : (shifts : ℕ) → AllGood (shift_at b code shifts)
  shifting shifts =
      let loop : Loop = record { first = 7; instructions = shifts + 2; turns = 15; counter = 14 } in (
        plain 4 [] (tt, refl),
        (
          plain 5 (ranging 14 0 15 ∷ any_fact 15 ∷ []) ((fact 0 14 0 15 (omega arith) (omega arith) (omega arith) (omega arith) (omega arith), (any 15 15 (omega arith) (omega arith) (omega arith), tt)), refl),
          (
            in_loop loop 7 (ranging 14 1 15 ∷ any_fact 15 ∷ []) (omega arith) (omega arith) (omega arith) ((fact 0 14 1 15 (omega arith) (omega arith) (omega arith) (omega arith) (omega arith), (any 15 15 (omega arith) (omega arith) (omega arith), tt)), refl) refl,
            (plain (shifts + 9) (any_fact 15 ∷ []) (one_fact 15 (omega arith) (omega arith)), tt),
          ),
        ),
      )

  comparing : AllGood (compared_at b code)
  comparing = (plain 6 (any_fact 13 ∷ []) (one_fact 13 (omega arith) (omega arith)), tt)

  pub all_good : (k : OpKind) (n : ℕ) → n ≤ 65535 → AllGood (inner_by k b n code)
  all_good kind.Mul n h = multiplying
  all_good kind.DivU n h = dividing
  all_good kind.RemU n h = dividing
  all_good kind.DivS n h = signed 11 15 (omega arith) (omega arith)
  all_good kind.RemS n h = signed 10 13 (omega arith) (omega arith)
  all_good kind.Shl n h = shifting 1
  all_good kind.ShrS n h = shifting 1
  all_good kind.ShrU n h = shifting 2
  all_good kind.Eq n h = comparing
  all_good kind.Ne n h = comparing
  all_good kind.LtS n h = comparing
  all_good kind.LtU n h = comparing
  all_good kind.LeS n h = comparing
  all_good kind.LeU n h = comparing
  all_good kind.Load n h = (plain 3 [] (tt, refl), (plain 4 (ranging 14 0 (n - 1) ∷ []) ((fact 0 14 0 (n - 1) (omega arith) (omega arith) (omega arith) (omega arith) (omega (arith, h)), tt), refl), tt))
  all_good kind.Store n h =
      (plain 4 [] (tt, refl), (plain 5 (ranging 14 0 (n - 1) ∷ any_fact 15 ∷ []) ((fact 0 14 0 (n - 1) (omega arith) (omega arith) (omega arith) (omega arith) (omega (arith, h)), (any 15 15 (omega arith) (omega arith) (omega arith), tt)), refl), tt))
  all_good kind.Test n h = (plain 3 [] (tt, refl), tt)
  all_good kind.Below n h = (plain 2 [] (tt, refl), tt)
  all_good _ n h = tt

  pub good_on : (qs : List Inner) → AllGood qs → (i : ℕ) (q : Inner) → inner_on qs i ≡ Some q → IsGood q
  good_on [] h i q e = absurd (cc)
  good_on (p ∷ qs) h i q e = by (p.index == i) (λ f. good_on qs h.1 i q f) e
    where
      by : (c : Bool) → (inner_on qs i ≡ Some q → IsGood q) → (if c then Some p else inner_on qs i) ≡ Some q → IsGood q
      by true later f = let same : p ≡ q = cc in subst (λ x. IsGood x) same h.0
      by false later f = later f
