-- The templates of divisions and remainders.
use Rattle.std.proofs.Common.{◌≡◌, ℕ, ◌+◌, ◌*◌, ◌≤◌, true, false, Option, Some, None, List, [], ◌∷◌, refl, sym, ap, ◌∙◌, subst, arith}
use Rattle.std.specs.Prelude.{pos, take, drop, ◌++◌, ◌+ℤ◌, ◌-ℤ◌, ◌≤ℤ◌}
use Rattle.std.proofs.lemmas.Int.{ints}
use Rattle.board_table.specs.declared.board.Board.{Board}
use Rattle.certificate.specs.declared.cert.Slot.TheVariants.{Reg}
use Rattle.certificate.specs.declared.cert.Fact.{Fact}
use Rattle.msp430_isa.specs.declared.instr.Src.TheVariants.{Short, Imm}
use Rattle.msp430_isa.specs.declared.instr.TwoOp.TheVariants.{Mov as MOV, Cmp as CMP}
use Rattle.msp430_isa.specs.declared.instr.Cond.TheVariants.{Jne as JNE}
use Rattle.msp430_isa.specs.declared.instr.Instr.{Instr}
use Rattle.msp430_isa.specs.declared.instr.Instr.TheVariants.{Jump}
use Rattle.msp430_machine.specs.Cost.{instruction_cost}
use Rattle.flow_graph.specs.declared.graph.Op.{Op}
use Rattle.op_cost.specs.Templates.{Counted, Homes, code_of, by, once, turns, weight_of, loads, stores, place_of, trap, sixteen, unsigned_core, div_turn}
use Rattle.cert_rules.specs.Ranges.{any_word}
use Rattle.cert_rules.specs.Overhead.{cost_sum}
use Rattle.cert_rules.specs.Known.{Known, Test, bare, known_at, is_set}
use Rattle.cert_rules.specs.Sheet.{Sheet}
use Rattle.cert_rules.specs.Going.{limit_of}
use Rattle.cert_pieces.specs.Pieces.{Here, Affords, Stands, StandsWith, AllTold, Free, narrower, address_in, puts, compares, pays, narrows_to}
use Rattle.cert_templates.specs.Frames.{CodeGoes, four, operands, any_fact, trapping_at, division_at}
use Rattle.cert_pieces.proofs.Writing.{any_range}
use Rattle.cert_rules.specs.Spending.{paying}
use Rattle.msp430_isa.specs.Encoding.{length_of}
use Rattle.cert_templates.specs.Frames.{OperandFits}
use Rattle.cert_pieces.proofs.Straight.{register_passes, passes_here, fallen}
use Rattle.cert_templates.proofs.Templates.{BinaryFits, fits_on}
use Rattle.cert_pieces.proofs.Pointing.{spent_plain}
use Rattle.cert_pieces.proofs.Bare.{gone, lost_all, to_bare, affords_plain, into_point, plain_stands, spent_enters}
use Rattle.cert_pieces.proofs.Edges.{jumps_unless_any}
use Rattle.cert_templates.proofs.Loading.{loads_word, puts_constant, stores_word, compares_register}
use Rattle.cert_templates.proofs.Turning.{turns_left, looped, plainly, told_by}
use Rattle.cert_templates.proofs.Checking.{ChecksAt, passed_at, checks}
use Rattle.cert_templates.proofs.Dividing.{LoopFacts, DivisionSums, divides}

-- ---- Sums of what code costs

-- code in two parts
pub weight_append : (b : Board) (xs ys : List Counted) → weight_of b (xs ++ ys) ≡ weight_of b xs + weight_of b ys
weight_append b [] ys = none (weight_of b ys)
  where
    none : (m : ℕ) → m ≡ 0 + m
    none m = omega arith
weight_append b (x ∷ xs) ys = moved (x.times * instruction_cost b x.instr) _ _ _ (weight_append b xs ys)
  where
    moved : (c w u v : ℕ) → w ≡ u + v → c + w ≡ c + u + v
    moved c w u v e = omega (arith, e)

-- a loop counts each of its instructions
pub weight_turns : (b : Board) (n : ℕ) (is : List Instr) → weight_of b (turns n is) ≡ n * cost_sum b is
weight_turns b n [] = none n
  where
    none : (m : ℕ) → 0 ≡ m * 0
    none m = omega arith
weight_turns b n (i ∷ is) = ap (λ m. n * instruction_cost b i + m) (weight_turns b n is) ∙ together n (instruction_cost b i) (cost_sum b is)
  where
    together : (m c w : ℕ) → m * c + m * w ≡ m * (c + w)
    together m c w = grind arith

-- ---- The divisor is tested

abbrev zero_test : Instr
zero_test = by CMP (Short 0) 14

pub loads_fit : (n c e g j y l : ℕ) → n + c + e + g + j ≤ y → y ≤ l → (pos n +ℤ pos (c + e)) ≤ℤ pos l
loads_fit n c e g j y l h k = omega (arith, ints, h, k)

pub test_fits : (n c e g j y l : ℕ) → n + c + e + g + j ≤ y → y ≤ l → (pos (n + c + e) +ℤ pos (g + j)) ≤ℤ pos l
test_fits n c e g j y l h k = omega (arith, ints, h, k)

pub edge_fits : (n c e g j y l : ℕ) → n + c + e + g + j ≤ y → y ≤ l → (pos (n + c + e + g + j) +ℤ pos 0) ≤ℤ pos l
edge_fits n c e g j y l h k = omega (arith, ints, h, k)

pub sum_le : (x y : ℕ) → x ≤ y → pos x ≤ℤ pos y
sum_le x y h = omega (arith, ints, h)

pub trap_fits : (y f l : ℕ) → y + f ≤ l → (pos y +ℤ pos (f + 0)) ≤ℤ pos l
trap_fits y f l h = omega (arith, ints, h)

pub less_fits : (y f l : ℕ) → y + f ≤ l → y ≤ l
less_fits y f l h = omega (arith, h)

-- the operands of a division, and the test of its divisor; from its point on the code goes on to its end
pub divisor_tested : (t : Sheet) (homes : Homes) (op : Op) (st n y y' x x' a : ℕ) (i : Instr) → OperandFits homes (λ q. false) op.a → OperandFits homes (λ q. false) op.b
    → Stands t a (loads homes 15 op.a) → StandsWith t (a + 2 * length_of (loads homes 15 op.a)) (loads homes 14 op.b) None
    → ChecksAt t (a + 2 * length_of (loads homes 15 op.a) + 2 * length_of (loads homes 14 op.b)) zero_test JNE 1 i (plainly x st y []) (plainly x' st y' operands)
    → n + instruction_cost t.board (loads homes 15 op.a) + instruction_cost t.board (loads homes 14 op.b) + instruction_cost t.board zero_test + instruction_cost t.board (Jump JNE (pos 2)) ≤ y
    → y ≤ y' → y + instruction_cost t.board (trap 1) ≤ limit_of t st
    → Here t (passed_at (a + 2 * length_of (loads homes 15 op.a) + 2 * length_of (loads homes 14 op.b)) zero_test 1) (known_at (plainly x' st y' operands))
    → Here t a (bare st n)
divisor_tested t homes op st n y y' x x' a i fits fits' first second at sum more enough here =
    let b = t.board in
    let s = bare st n in
    let l = limit_of t st in
    let c = instruction_cost b (loads homes 15 op.a) in
    let e = instruction_cost b (loads homes 14 op.b) in
    let g = instruction_cost b zero_test in
    let j = instruction_cost b (Jump JNE (pos 2)) in
    let limit = less_fits y (instruction_cost b (trap 1)) l enough in
    let one = puts (Reg 15) any_word c false None s in
    let two = puts (Reg 14) any_word e false None one in
    let test : Option Test = Some (record { of = Reg 14; with = 0; ordered = true }) in
    let v = compares g test two in
    let edge = narrows_to (Reg 14) any_word (pays j v) in
    let p = plainly x st y [] in
    let q = plainly x' st y' operands in
    let load = loads_word t homes 15 op.a s refl refl refl fits tt in
    let load' = loads_word t homes 14 op.b one refl refl refl fits' tt in
    let before : Affords t (c + e) s = affords_plain t _ s (pos n) refl (loads_fit n c e g j y l sum limit) in
    passes_here t gone a _ c s one load first
    (fallen t _ (loads homes 14 op.b) e one (plain_stands t _ _ second) (load.affords e before)
    (passes_here t gone _ _ e one two load' second.stands
    (checks t _ zero_test JNE 1 i two v edge edge p q at
    (record {
      more = j;
      compares = compares_register t (Short 0) 14 test two refl refl (omega arith) refl (λ κ. refl);
      is_trap = (omega arith, λ κ. refl);
      fails = record { stretch = refl; facts = tt; fresh = refl; spent = λ κ has. spent_plain edge κ p _ _ refl refl (sum_le _ _ sum) has };
      passes = record { stretch = refl; facts = (narrower _ _ any_range, (narrower _ _ any_range, tt)); fresh = refl; spent = λ κ has. spent_plain edge κ q _ _ refl refl (sum_le _ _ (through_le sum more)) has };
      first = affords_plain t _ two _ refl (test_fits n c e g j y l sum limit);
      failed = affords_plain t 0 edge _ refl (edge_fits n c e g j y l sum limit);
      passed = affords_plain t 0 edge _ refl (edge_fits n c e g j y l sum limit);
      trapped = affords_plain t _ (known_at p) _ refl (trap_fits y (instruction_cost b (trap 1)) l enough);
      words = tt;
      words_passed = (omega arith, (omega arith, tt));
      free = tt;
    })
    (λ falls lands begins. jumps_unless_any t _ 14 true (pos 2) v at.jump.stands refl refl falls lands begins)
    here)))
  where
    through_le : {m k o : ℕ} → m ≤ k → k ≤ o → m ≤ o
    through_le h k = omega (arith, h, k)

-- ---- The loop is entered

enters_fits : (z c e f y l : ℕ) → z + c + e + f * 16 ≤ y → y ≤ l → (pos z +ℤ pos (c + e)) ≤ℤ pos l
enters_fits z c e f y l h k = omega (arith, ints, h, k)

entered_fits : (z c e f y l : ℕ) → z + c + e + f * 16 ≤ y → y ≤ l → (pos (z + c + e) +ℤ pos 0) ≤ℤ pos l
entered_fits z c e f y l h k = omega (arith, ints, h, k)

middle_fits : (z c e f y l : ℕ) → z + c + e + f * 16 ≤ y → y ≤ l → (pos (z + c) +ℤ pos e) ≤ℤ pos l
middle_fits z c e f y l h k = omega (arith, ints, h, k)

entered_spent : (z c e f y : ℕ) → z + c + e + f * 16 ≤ y → (pos (z + c + e) -ℤ pos y +ℤ pos (f * 16)) ≤ℤ pos 0
entered_spent z c e f y h = omega (arith, ints, h)

abbrev pub zero_rest : Instr
zero_rest = by MOV (Short 0) 13

abbrev pub sixteen_turns : Instr
sixteen_turns = by MOV (Imm 16) 12

-- from a state in which R14 and R15 are set
pub enters_division : (t : Sheet) (a st z f y x : ℕ) (facts behind : List Fact) (i : Instr) (s : Known) → LoopFacts facts behind → StandsWith t (a + 2) sixteen_turns None → StandsWith t (a + 2 + 4) i (Some (looped x st y f 12 facts))
    → Stands t a zero_rest → s.stretch ≡ st → s.spent ≡ record { base = pos z; terms = [] } → z + instruction_cost t.board zero_rest + instruction_cost t.board sixteen_turns + f * 16 ≤ y → y ≤ limit_of t st
    → AllTold (puts (Reg 12) (turns_left 16) 0 false None (puts (Reg 13) any_word 0 false None s)) facts
    → Here t (a + 2 + 4) (known_at (looped x st y f 12 facts)) → Here t a s
enters_division t a st z f y x facts behind i s is second third first same spent sum limit told here =
    let b = t.board in
    let l = limit_of t s.stretch in
    let c = instruction_cost b zero_rest in
    let e = instruction_cost b sixteen_turns in
    let limit' : y ≤ l = subst (λ m. y ≤ limit_of t m) (sym same) limit in
    let u = puts (Reg 13) any_word c s.flags None s in
    let v = puts (Reg 12) (turns_left 16) e s.flags None u in
    let su = ap (λ m. paying c m) spent in
    let sv = ap (λ m. paying e m) su in
    let p = looped x st y f 12 facts in
    let count = register_passes t gone u MOV (Imm 16) 12 (turns_left 16) None (record { computes = refl; lost = refl; reads = omega arith; has = (refl, refl) }) refl (λ κ. refl)
    (subst (λ m. Free (Reg 12) m.terms) (sym su) tt) (lost_all (Reg 12)) (λ κ has. record { least = omega arith; greatest = omega arith; even = λ k. absurd (let no : false ≡ true = k in cc) }) in
    passes_here t gone a zero_rest c s u (puts_constant t 13 0 s refl refl (omega arith) (subst (λ m. Free (Reg 13) m.terms) (sym spent) tt)) first
    (fallen t (a + 2) sixteen_turns e u (plain_stands t _ _ second) (affords_plain t e u _ su (middle_fits z c e f y l sum limit'))
    (passes_here t gone (a + 2) sixteen_turns e u v count second.stands
    (into_point t (a + 2 + 4) 0 i p v third
    (record {
      stretch = same;
      facts = told_by (puts (Reg 12) (turns_left 16) 0 false None (puts (Reg 13) any_word 0 false None s)) v refl facts told;
      fresh = refl;
      spent = λ κ has. spent_enters v κ p _ _ f 12 (turns_left 16) sv refl refl (entered_spent z c e f y sum) has;
    })
    (affords_plain t 0 v _ sv (entered_fits z c e f y l sum limit')) is.words here)))

-- ---- What the points of the loop say

abbrev pub cost_of_turn : Board → ℕ
cost_of_turn b = cost_sum b div_turn

first_sum : (n w f d a j g u : ℕ) → n + (w + 16 * f + 0) + d + a + j + g + u ≤ n + (w + 16 * f + (d + (a + (j + (g + (u + 0))))))
first_sum n w f d a j g u = omega arith

second_sum : (n w f d a j g u c e : ℕ) → n + (w + 16 * f + (d + (a + (j + (g + (u + 0)))))) + c + e ≤ n + (w + 16 * f + (d + (a + (j + (g + (u + (c + (e + 0))))))))
second_sum n w f d a j g u c e = omega arith

third_sum : (n w d a j g u c e h k : ℕ) → n + (w + 16 * (d + (a + (j + (g + (u + (c + (e + (h + (k + 0))))))))) + (d + (a + (j + (g + (u + (c + (e + 0)))))))) + h + k
    ≤ n + (w + 16 * (d + (a + (j + (g + (u + (c + (e + (h + (k + 0))))))))) + 0) + (d + (a + (j + (g + (u + (c + (e + (h + (k + 0)))))))))
third_sum n w d a j g u c e h k = omega arith

loop_end : (n w v f : ℕ) → v ≡ w + 16 * f → n + (w + 16 * f + 0) ≤ n + v
loop_end n w v f e = omega (arith, e)

loop_limit : (n w v f l : ℕ) → v ≡ w + 16 * f → n + v ≤ l → n + (w + 16 * f + 0) ≤ l
loop_limit n w v f l e h = omega (arith, e, h)

pub division_sums : (t : Sheet) (st n w v : ℕ) → v ≡ w + 16 * cost_of_turn t.board → n + v ≤ limit_of t st
    → DivisionSums t st (cost_of_turn t.board) (n + (w + 16 * cost_of_turn t.board + 0)) (n + (w + 16 * cost_of_turn t.board + cost_sum t.board (take 5 div_turn)))
    (n + (w + 16 * cost_of_turn t.board + cost_sum t.board (take 7 div_turn))) (n + v)
division_sums t st n w v e limit = record {
  first = first_sum n w (cost_of_turn t.board) _ _ _ _ _;
  second = second_sum n w (cost_of_turn t.board) _ _ _ _ _ _ _;
  third = third_sum n w _ _ _ _ _ _ _ _ _;
  most = loop_end n w v (cost_of_turn t.board) e;
  limit = loop_limit n w v (cost_of_turn t.board) (limit_of t st) e limit;
}

-- ---- Unsigned

abbrev unsigned_division : ℕ → Homes → Op → List Counted
unsigned_division r homes op = once (loads homes 15 op.a ∷ loads homes 14 op.b ∷ []) ++ (unsigned_core ++ once (stores r (place_of homes op.dest) ∷ []))

unsigned_facts : LoopFacts four (any_fact 13 ∷ any_fact 15 ∷ [])
unsigned_facts = record {
  counter = refl;
  rest = refl;
  divisor = refl;
  quotient = refl;
  words = (omega arith, (omega arith, (omega arith, (omega arith, tt))));
  words_behind = (omega arith, (omega arith, tt));
  told = λ v t11 t12 t13 t14 t15. (t12, (t13, (t14, (t15, tt))));
  told_behind = λ v t11 t13 t15. (t13, (t15, tt));
}

pub tested_sum : (n c e g j : ℕ) → n + c + e + g + j ≤ n + (1 * c + (1 * e + (1 * g + (1 * j + 0))))
tested_sum n c e g j = omega arith

pub on_one : (n w v f : ℕ) → v ≡ w + (1 * f + 0) → n + w ≤ n + v
on_one n w v f e = omega (arith, e)

pub one_fits : (n w v f m k l : ℕ) → v ≡ w + (1 * f + 0) → m ≡ v + k → n + m ≤ l → n + w + f ≤ l
one_fits n w v f m k l e d h = omega (arith, e, d, h)

pub loop_sum : (n w v c e f : ℕ) → v ≡ w + (1 * c + (1 * e + 0)) → n + w + c + e + f * 16 ≤ n + (v + 16 * f + 0)
loop_sum n w v c e f d = omega (arith, d)

pub part_fits : (n v m k l : ℕ) → m ≡ v + k → n + m ≤ l → n + v ≤ l
part_fits n v m k l d h = omega (arith, d, h)

pub loop_weighs : (b : Board) (xs : List Counted) → weight_of b (xs ++ turns 16 div_turn) ≡ weight_of b xs + 16 * cost_of_turn b
loop_weighs b xs = weight_append b xs (turns 16 div_turn) ∙ ap (λ m. weight_of b xs + m) (weight_turns b 16 div_turn)

pub last_fits : (n v c m l : ℕ) → m ≡ v + (1 * c + 0) → n + m ≤ l → (pos (n + v) +ℤ pos c) ≤ℤ pos l
last_fits n v c m l d h = omega (arith, ints, d, h)

pub last_spent : (n v c m : ℕ) → m ≡ v + (1 * c + 0) → n + v + c ≡ n + m
last_spent n v c m d = omega (arith, d)

pub divides_unsigned : (t : Sheet) (homes : Homes) (op : Op) (st n r : ℕ) → BinaryFits t homes op (bare st n) → is_set (known_at (plainly 0 st 0 (any_fact 13 ∷ any_fact 15 ∷ []))) r ≡ true
    → CodeGoes t (unsigned_division r homes op) (trapping_at t.board (unsigned_division r homes op) 4 operands ++ division_at t.board (unsigned_division r homes op) 7 []) st n
divides_unsigned t homes op st n r fits set a start h paid falls =
    let b = t.board in
    let l = limit_of t st in
    let code = unsigned_division r homes op in
    let at : ℕ → ℕ = λ k. address_in a (code_of code) k in
    let spent : ℕ → ℕ = λ k. weight_of b (take k code) in
    let dest = place_of homes op.dest in
    let d = instruction_cost b (stores r dest) in
    let f = cost_of_turn b in
    let behind = any_fact 13 ∷ any_fact 15 ∷ [] in
    let trap_weighs : spent 5 ≡ spent 4 + (1 * instruction_cost b (trap 1) + 0) = weight_append b (take 4 code) (once (trap 1 ∷ [])) in
    let entry_weighs : spent 7 ≡ spent 5 + (1 * instruction_cost b zero_rest + (1 * instruction_cost b sixteen_turns + 0)) = weight_append b (take 5 code) (once sixteen) in
    let loop_is : spent 16 ≡ spent 7 + 16 * f = loop_weighs b (take 7 code) in
    let all_5 : weight_of b code ≡ spent 5 + weight_of b (drop 5 code) = weight_append b (take 5 code) (drop 5 code) in
    let all_16 : weight_of b code ≡ spent 16 + (1 * d + 0) = weight_append b (take 16 code) (once (stores r dest ∷ [])) in
    let pe = plainly (at 16) st (n + spent 16) behind in
    let sums = division_sums t st n (spent 7) (spent 16) loop_is (part_fits n (spent 16) (weight_of b code) (1 * d + 0) l all_16 paid) in
    let store : Here t (at 16) (known_at pe) =
    passes_here t gone _ (stores r dest) d (known_at pe) _ (stores_word t dest r (known_at pe) set (fits_on t dest (bare st n) (known_at pe) refl fits.dest) tt) (h 16 _ refl).stands
    (to_bare t _ st _ _ refl refl (ap (λ m. record { base = pos m; terms = [] }) (last_spent n (spent 16) d (weight_of b code) all_16)) falls) in
    let loop = divides t (at 7) st f _ _ _ _ (at 7) (at 12) (at 14) (at 16) four behind (stores r dest)
    (record { doubles = h 7 _ refl; carries = h 8 _ refl; jump = h 9 _ refl; compare = h 10 _ refl; unless = h 11 _ refl; takes = h 12 _ refl; counts = h 13 _ refl; lowers = h 14 _ refl; again = h 15 _ refl; leaves = h 16 _ refl })
    unsigned_facts sums store in
    let enters : Here t (at 5) (known_at (plainly (at 5) st (n + spent 5) operands)) =
    enters_division t (at 5) st (n + spent 5) f _ (at 7) four behind _ _ unsigned_facts (h 6 _ refl) (h 7 _ refl) (h 5 _ refl).stands refl refl
    (loop_sum n (spent 5) (spent 7) _ _ f entry_weighs) sums.limit
    (narrower _ _ (record { least = omega arith; greatest = omega arith; even = λ k. k }), (narrower _ _ any_range, (narrower _ _ any_range, (narrower _ _ any_range, tt)))) loop in
    divisor_tested t homes op st n (n + spent 4) (n + spent 5) (at 4) (at 5) a _ fits.a fits.b (h 0 _ refl).stands (h 1 _ refl)
    (record { compare = h 2 _ refl; jump = h 3 _ refl; traps = h 4 _ refl; passed = h 5 _ refl })
    (tested_sum n _ _ _ _) (on_one n (spent 4) (spent 5) _ trap_weighs) (one_fits n (spent 4) (spent 5) _ (weight_of b code) _ l trap_weighs all_5 paid) enters
