-- The templates of shifts.
use Rattle.std.proofs.Common.{◌≡◌, ℕ, ◌+◌, ◌*◌, ◌-◌, ◌≤◌, true, false, Option, Some, None, List, [], ◌∷◌, refl, sym, ap, ◌∙◌, subst, arith}
use Rattle.std.specs.Prelude.{ℤ, pos, negsuc, take, drop, ◌++◌, ◌+ℤ◌, ◌-ℤ◌, ◌≤ℤ◌}
use Rattle.std.proofs.lemmas.Int.{ints}
use Rattle.board_table.specs.declared.board.Board.{Board}
use Rattle.certificate.specs.declared.cert.Slot.TheVariants.{Reg}
use Rattle.certificate.specs.declared.cert.Fact.{Fact}
use Rattle.msp430_isa.specs.declared.instr.Src.TheVariants.{Reg as FromReg, Short, Imm}
use Rattle.msp430_isa.specs.declared.instr.TwoOp.TheVariants.{Add as ADD, And as AND, Sub as SUB, Cmp as CMP}
use Rattle.msp430_isa.specs.declared.instr.OneOp.TheVariants.{Rra as RRA}
use Rattle.msp430_isa.specs.declared.instr.Cond.TheVariants.{Jne as JNE, Jeq as JEQ, Jnc as JNC}
use Rattle.msp430_isa.specs.declared.instr.Instr.{Instr}
use Rattle.msp430_isa.specs.declared.instr.Instr.TheVariants.{One, Jump}
use Rattle.msp430_isa.specs.Encoding.{length_of}
use Rattle.msp430_machine.specs.Cost.{instruction_cost}
use Rattle.flow_graph.specs.declared.graph.Op.{Op}
use Rattle.op_cost.specs.Templates.{Counted, Homes, code_of, by, once, turns, weight_of, loads, stores, place_of, trap, left_core, right_core, logical_core}
use Rattle.cert_rules.specs.Ranges.{any_word}
use Rattle.cert_rules.specs.Overhead.{cost_sum}
use Rattle.cert_rules.specs.Known.{Test, bare, known_at}
use Rattle.cert_rules.specs.Sheet.{Sheet}
use Rattle.cert_rules.specs.Going.{limit_of}
use Rattle.cert_rules.specs.Outcomes.{target_of}
use Rattle.cert_pieces.specs.Pieces.{Lands, Here, Affords, narrower, Stands, StandsWith, address_in, puts, compares, pays, narrows_to}
use Rattle.cert_templates.specs.Frames.{CodeGoes, OperandFits, any_fact, ranging, shift_at}
use Rattle.cert_pieces.proofs.Writing.{any_range}
use Rattle.cert_pieces.proofs.Straight.{one_passes, passes_here, fallen}
use Rattle.cert_templates.proofs.Templates.{BinaryFits, fits_on}
use Rattle.cert_pieces.proofs.Pointing.{spent_plain}
use Rattle.cert_pieces.proofs.Jumping.{jumps_below, up_to}
use Rattle.cert_pieces.proofs.Bare.{gone, lost_all, to_bare, affords_plain, affords_turn, into_point, onto_point, at_point, plain_stands, spent_enters}
use Rattle.cert_pieces.proofs.Edges.{jumps_if_zero, at_least_one}
use Rattle.cert_templates.proofs.Loading.{loads_word, stores_word, writes_register, compares_register}
use Rattle.cert_templates.proofs.Turning.{turns_left, turn_ends, looped, plainly}
use Rattle.cert_templates.proofs.Checking.{ChecksAt, checks, passed_at}
use Rattle.cert_templates.proofs.Quotients.{weight_append, weight_turns, loads_fit, test_fits, edge_fits, sum_le, trap_fits, less_fits, tested_sum, on_one, one_fits, part_fits, last_spent}

-- ---- The count is tested

abbrev sixteen_test : Instr
sixteen_test = by CMP (Imm 16) 14

abbrev none_test : Instr
none_test = by CMP (Short 0) 14

abbrev counts : List Fact
counts = ranging 14 0 15 ∷ any_fact 15 ∷ []

abbrev turning : List Fact
turning = ranging 14 1 15 ∷ any_fact 15 ∷ []

count_fits : (y c e f z l : ℕ) → y + c + e + f * 15 ≤ z → z ≤ l → (pos (y + c) +ℤ pos 0) ≤ℤ pos l
count_fits y c e f z l h k = omega (arith, ints, h, k)

counted_fits : (y c e f z l : ℕ) → y + c + e + f * 15 ≤ z → z ≤ l → (pos (y + c + e) +ℤ pos 0) ≤ℤ pos l
counted_fits y c e f z l h k = omega (arith, ints, h, k)

entered_spent : (y c e f z : ℕ) → y + c + e + f * 15 ≤ z → (pos (y + c + e) -ℤ pos z +ℤ pos (f * 15)) ≤ℤ pos 0
entered_spent y c e f z h = omega (arith, ints, h)

none_spent : (y c e f z x : ℕ) → y + c + e + f * 15 ≤ z → z ≤ x → pos (y + c + e) ≤ℤ pos x
none_spent y c e f z x h k = omega (arith, ints, h, k)

le_through : (m k o : ℕ) → m ≤ k → k ≤ o → m ≤ o
le_through m k o h g = omega (arith, h, g)

-- where the operands and the tests of the count stand, with the loop and its end behind them
pub record ShiftsAt (t : Sheet) (homes : Homes) (op : Op) (a st f y yk yl ye x xk xl xe : ℕ) (words : ℤ) (il ie : Instr) (ae : ℕ) : Type 0 where
  pub first : Stands t a (loads homes 15 op.a)
  pub second : StandsWith t (a + 2 * length_of (loads homes 15 op.a)) (loads homes 14 op.b) None
  pub test : ChecksAt t (a + 2 * length_of (loads homes 15 op.a) + 2 * length_of (loads homes 14 op.b)) sixteen_test JNC 3 none_test (plainly x st y []) (plainly xk st yk counts)
  pub jump : StandsWith t (passed_at (a + 2 * length_of (loads homes 15 op.a) + 2 * length_of (loads homes 14 op.b)) sixteen_test 3 + 2) (Jump JEQ words) None
  pub loop : StandsWith t (passed_at (a + 2 * length_of (loads homes 15 op.a) + 2 * length_of (loads homes 14 op.b)) sixteen_test 3 + 2 + 2) il (Some (looped xl st yl f 14 turning))
  pub target : target_of (passed_at (a + 2 * length_of (loads homes 15 op.a) + 2 * length_of (loads homes 14 op.b)) sixteen_test 3 + 2 + 2) words ≡ ae
  pub behind : StandsWith t ae ie (Some (plainly xe st ye (any_fact 15 ∷ [])))

pub record ShiftSums (t : Sheet) (homes : Homes) (op : Op) (st n f y yk yl ye : ℕ) (words : ℤ) : Type 0 where
  pub tested : n + instruction_cost t.board (loads homes 15 op.a) + instruction_cost t.board (loads homes 14 op.b) + instruction_cost t.board sixteen_test + instruction_cost t.board (Jump JNC (pos 3)) ≤ y
  pub more : y ≤ yk
  pub trapped : y + instruction_cost t.board (trap 3) ≤ limit_of t st
  pub enters : yk + instruction_cost t.board none_test + instruction_cost t.board (Jump JEQ words) + f * 15 ≤ yl
  pub limit : yl ≤ limit_of t st
  pub most : yl ≤ ye

pub count_tested : (t : Sheet) (homes : Homes) (op : Op) (a st n f y yk yl ye x xk xl xe : ℕ) (words : ℤ) (il ie : Instr) (ae : ℕ) → OperandFits homes (λ q. false) op.a → OperandFits homes (λ q. false) op.b
    → ShiftsAt t homes op a st f y yk yl ye x xk xl xe words il ie ae → ShiftSums t homes op st n f y yk yl ye words
    → Here t (passed_at (a + 2 * length_of (loads homes 15 op.a) + 2 * length_of (loads homes 14 op.b)) sixteen_test 3 + 2 + 2) (known_at (looped xl st yl f 14 turning))
    → Here t a (bare st n)
count_tested t homes op a st n f y yk yl ye x xk xl xe words il ie ae fits fits' at sums here =
    let b = t.board in
    let s = bare st n in
    let l = limit_of t st in
    let c = instruction_cost b (loads homes 15 op.a) in
    let e = instruction_cost b (loads homes 14 op.b) in
    let g = instruction_cost b sixteen_test in
    let j = instruction_cost b (Jump JNC (pos 3)) in
    let u = instruction_cost b none_test in
    let v = instruction_cost b (Jump JEQ words) in
    let sum = sums.tested in
    let limit = less_fits y (instruction_cost b (trap 3)) l sums.trapped in
    let one = puts (Reg 15) any_word c false None s in
    let two = puts (Reg 14) any_word e false None one in
    let test : Option Test = Some (record { of = Reg 14; with = 16; ordered = true }) in
    let three = compares g test two in
    let fall = narrows_to (Reg 14) any_word (pays j three) in
    let jump = narrows_to (Reg 14) (up_to 16) (pays j three) in
    let p = plainly x st y [] in
    let k = plainly xk st yk counts in
    let pl = looped xl st yl f 14 turning in
    let pe = plainly xe st ye (any_fact 15 ∷ []) in
    let load = loads_word t homes 15 op.a s refl refl refl fits tt in
    let load' = loads_word t homes 14 op.b one refl refl refl fits' tt in
    let before : Affords t (c + e) s = affords_plain t _ s (pos n) refl (loads_fit n c e g j y l sum limit) in
    let none : Option Test = Some (record { of = Reg 14; with = 0; ordered = true }) in
    let at_k = known_at k in
    let four = compares u none at_k in
    let some = narrows_to (Reg 14) (at_least_one 15) (pays v four) in
    let no = narrows_to (Reg 14) any_word (pays v four) in
    let at_count : Here t _ at_k =
    passes_here t gone _ none_test u at_k four (compares_register t (Short 0) 14 none at_k refl refl (omega arith) refl (λ κ. refl)) at.test.passed.stands
    (fallen t _ (Jump JEQ words) 0 four (plain_stands t _ _ at.jump) (affords_plain t 0 four _ refl (count_fits yk u v f yl l sums.enters sums.limit))
    (jumps_if_zero t _ 14 15 true words four at.jump.stands refl refl refl (omega arith)
    (into_point t _ 0 il pl some at.loop
    (record {
      stretch = refl;
      facts = (narrower _ _ (record { least = omega arith; greatest = omega arith; even = λ q. q }), (narrower _ _ any_range, tt));
      fresh = refl;
      spent = λ κ has. spent_enters some κ pl _ _ f 14 (turns_left 15) refl refl refl (entered_spent yk u v f yl sums.enters) has;
    })
    (affords_plain t 0 some _ refl (counted_fits yk u v f yl l sums.enters sums.limit)) (omega arith, (omega arith, tt)) here)
    (subst (λ q. Lands t no q) (sym at.target)
    (onto_point t ae 0 ie pe no at.behind
    (record { stretch = refl; facts = (narrower _ _ any_range, tt); fresh = refl; spent = λ κ has. spent_plain no κ pe _ _ refl refl (none_spent yk u v f yl ye sums.enters sums.most) has })
    (affords_plain t 0 no _ refl (counted_fits yk u v f yl l sums.enters sums.limit))))
    (at_point t _ il pl at.loop (omega arith, (omega arith, tt)) here))) in
    passes_here t gone a _ c s one load at.first
    (fallen t _ (loads homes 14 op.b) e one (plain_stands t _ _ at.second) (load.affords e before)
    (passes_here t gone _ _ e one two load' at.second.stands
    (checks t _ sixteen_test JNC 3 none_test two three fall jump p k at.test
    (record {
      more = j;
      compares = compares_register t (Imm 16) 14 test two refl refl (omega arith) refl (λ κ. refl);
      is_trap = (omega arith, λ κ. refl);
      fails = record { stretch = refl; facts = tt; fresh = refl; spent = λ κ has. spent_plain fall κ p _ _ refl refl (sum_le _ _ sum) has };
      passes = record { stretch = refl; facts = (narrower _ _ (record { least = omega arith; greatest = omega arith; even = λ q. q }), (narrower _ _ any_range, tt)); fresh = refl; spent = λ κ has. spent_plain jump κ k _ _ refl refl (sum_le _ _ (le_through _ _ _ sum sums.more)) has };
      first = affords_plain t _ two _ refl (test_fits n c e g j y l sum limit);
      failed = affords_plain t 0 fall _ refl (edge_fits n c e g j y l sum limit);
      passed = affords_plain t 0 jump _ refl (edge_fits n c e g j y l sum limit);
      trapped = affords_plain t _ (known_at p) _ refl (trap_fits y (instruction_cost b (trap 3)) l sums.trapped);
      words = tt;
      words_passed = (omega arith, (omega arith, tt));
      free = tt;
    })
    (λ falls lands begins. jumps_below t _ 14 16 (pos 3) three at.test.jump.stands refl refl falls lands begins)
    at_count)))

-- ---- The loops

entry_sum : (n w v c e f : ℕ) → v ≡ w + (1 * c + (1 * e + 0)) → n + w + c + e + f * 15 ≤ n + (v + 15 * f + 0)
entry_sum n w v c e f d = omega (arith, d)

loop_end : (n w v f : ℕ) → v ≡ w + 15 * f → n + (w + 15 * f + 0) ≤ n + v
loop_end n w v f e = omega (arith, e)

loop_limit : (n w v f l : ℕ) → v ≡ w + 15 * f → n + v ≤ l → n + (w + 15 * f + 0) ≤ l
loop_limit n w v f l e h = omega (arith, e, h)

loop_weighs : (b : Board) (xs : List Counted) (is : List Instr) → weight_of b (xs ++ turns 15 is) ≡ weight_of b xs + 15 * cost_sum b is
loop_weighs b xs is = weight_append b xs (turns 15 is) ∙ ap (λ m. weight_of b xs + m) (weight_turns b 15 is)

turn_fits : (y c d f l : ℕ) → c + d ≤ f → y ≤ l → (pos (y + c) +ℤ pos 0) ≤ℤ (pos l +ℤ pos f)
turn_fits y c d f l h k = omega (arith, ints, h, k)

one_again : (y c d e : ℕ) → y + c + d + e ≤ y + (c + (d + (e + 0)))
one_again y c d e = omega arith

two_again : (y c g d e : ℕ) → y + c + g + d + e ≤ y + (c + (g + (d + (e + 0))))
two_again y c g d e = omega arith

one_left : (c d e : ℕ) → c + (d + e) ≤ c + (d + (e + 0))
one_left c d e = omega arith

first_left : (c g d e : ℕ) → c + (g + (d + e)) ≤ c + (g + (d + (e + 0)))
first_left c g d e = omega arith

both_fit : (y c g d e l : ℕ) → y ≤ l → (pos (y + c + g) +ℤ pos 0) ≤ℤ (pos l +ℤ pos (c + (g + (d + (e + 0)))))
both_fit y c g d e l k = omega (arith, ints, k)

short_back : (a : ℕ) → a + 2 + 2 + 2 - 6 ≡ a
short_back a = omega arith

long_back : (a : ℕ) → a + 2 + 4 + 2 + 2 - 10 ≡ a
long_back a = omega arith

short_over : (a : ℕ) → a + 6 ≡ a + 2 + 2 + 2
short_over a = omega arith

long_over : (a : ℕ) → a + 10 ≡ a + 2 + 4 + 2 + 2
long_over a = omega arith

abbrev left_shift : Homes → Op → List Counted
left_shift homes op = once (loads homes 15 op.a ∷ loads homes 14 op.b ∷ []) ++ (left_core ++ once (stores 15 (place_of homes op.dest) ∷ []))

pub shifts_left : (t : Sheet) (homes : Homes) (op : Op) (st n : ℕ) → BinaryFits t homes op (bare st n) → CodeGoes t (left_shift homes op) (shift_at t.board (left_shift homes op) 1) st n
shifts_left t homes op st n fits a start h paid falls =
    let b = t.board in
    let l = limit_of t st in
    let code = left_shift homes op in
    let at : ℕ → ℕ = λ k. address_in a (code_of code) k in
    let spent : ℕ → ℕ = λ k. weight_of b (take k code) in
    let dest = place_of homes op.dest in
    let d = instruction_cost b (stores 15 dest) in
    let body = by ADD (FromReg 15) 15 ∷ by SUB (Short 1) 14 ∷ Jump JNE (negsuc 2) ∷ [] in
    let f = cost_sum b body in
    let c = instruction_cost b (by ADD (FromReg 15) 15) in
    let e = instruction_cost b (by SUB (Short 1) 14) in
    let q = instruction_cost b (Jump JNE (negsuc 2)) in
    let trap_weighs : spent 5 ≡ spent 4 + (1 * instruction_cost b (trap 3) + 0) = weight_append b (take 4 code) (once (trap 3 ∷ [])) in
    let entry_weighs : spent 7 ≡ spent 5 + (1 * instruction_cost b none_test + (1 * instruction_cost b (Jump JEQ (pos 3)) + 0)) = weight_append b (take 5 code) (once (none_test ∷ Jump JEQ (pos 3) ∷ [])) in
    let loop_is : spent 10 ≡ spent 7 + 15 * f = loop_weighs b (take 7 code) body in
    let all_5 : weight_of b code ≡ spent 5 + weight_of b (drop 5 code) = weight_append b (take 5 code) (drop 5 code) in
    let all_is : weight_of b code ≡ spent 10 + (1 * d + 0) = weight_append b (take 10 code) (once (stores 15 dest ∷ [])) in
    let yl = n + (spent 7 + 15 * f + 0) in
    let limit : yl ≤ l = loop_limit n (spent 7) (spent 10) f l loop_is (part_fits n (spent 10) (weight_of b code) (1 * d + 0) l all_is paid) in
    let pe = plainly (at 10) st (n + spent 10) (any_fact 15 ∷ []) in
    let pl = looped (at 7) st yl f 14 turning in
    let store : Here t (at 10) (known_at pe) =
    passes_here t gone _ (stores 15 dest) d (known_at pe) _ (stores_word t dest 15 (known_at pe) refl (fits_on t dest (bare st n) (known_at pe) refl fits.dest) tt) (h 10 _ refl).stands
    (to_bare t _ st _ _ refl refl (ap (λ m. record { base = pos m; terms = [] }) (last_spent n (spent 10) d (weight_of b code) all_is)) falls) in
    let at_l = known_at pl in
    let once_shifted = puts (Reg 15) any_word c true None at_l in
    let turn : Here t (at 8) once_shifted = turn_ends t (at 8) (at 7) 14 15 f (yl + c) st (negsuc 2) (by ADD (FromReg 15) 15) (stores 15 dest) _ _ _ _ turning (any_fact 15 ∷ []) once_shifted
    (record {
      counts = record { computes = refl; scratch = refl; same = refl; held = refl };
      lowers = (h 8 _ refl).stands;
      jump = h 9 _ refl;
      target = short_back (at 7);
      loop = h 7 _ refl;
      behind = h 10 _ refl;
      stretch = refl;
      spent = refl;
      range = refl;
      few = omega arith;
      again = one_again yl c e q;
      most = loop_end n (spent 7) (spent 10) f loop_is;
      limit = limit;
      words_behind = (omega arith, tt);
      told = (narrower _ _ (record { least = omega arith; greatest = omega arith; even = λ k. k }), (narrower _ _ any_range, tt));
      told_behind = (narrower _ _ any_range, tt);
    }) store in
    let loop : Here t (at 7) at_l =
    passes_here t gone _ _ c at_l once_shifted (writes_register t ADD (FromReg 15) 15 at_l refl refl refl refl (refl, refl) (λ κ. refl) (refl, tt)) (h 7 _ refl).stands
    (fallen t _ _ 0 once_shifted (plain_stands t _ _ (h 8 _ refl)) (affords_turn t 0 f 14 15 once_shifted _ refl refl (turn_fits yl c (e + q) f l (one_left c e q) limit)) turn) in
    count_tested t homes op a st n f (n + spent 4) (n + spent 5) yl (n + spent 10) (at 4) (at 5) (at 7) (at 10) (pos 3) (by ADD (FromReg 15) 15) (stores 15 dest) (at 10) fits.a fits.b
    (record { first = (h 0 _ refl).stands; second = h 1 _ refl; test = record { compare = h 2 _ refl; jump = h 3 _ refl; traps = h 4 _ refl; passed = h 5 _ refl }; jump = h 6 _ refl; loop = h 7 _ refl; target = short_over (at 7); behind = h 10 _ refl })
    (record {
      tested = tested_sum n _ _ _ _;
      more = on_one n (spent 4) (spent 5) _ trap_weighs;
      trapped = one_fits n (spent 4) (spent 5) _ (weight_of b code) _ l trap_weighs all_5 paid;
      enters = entry_sum n (spent 5) (spent 7) _ _ f entry_weighs;
      limit = limit;
      most = loop_end n (spent 7) (spent 10) f loop_is;
    }) loop

abbrev right_shift : Homes → Op → List Counted
right_shift homes op = once (loads homes 15 op.a ∷ loads homes 14 op.b ∷ []) ++ (right_core ++ once (stores 15 (place_of homes op.dest) ∷ []))

pub shifts_right : (t : Sheet) (homes : Homes) (op : Op) (st n : ℕ) → BinaryFits t homes op (bare st n) → CodeGoes t (right_shift homes op) (shift_at t.board (right_shift homes op) 1) st n
shifts_right t homes op st n fits a start h paid falls =
    let b = t.board in
    let l = limit_of t st in
    let code = right_shift homes op in
    let at : ℕ → ℕ = λ k. address_in a (code_of code) k in
    let spent : ℕ → ℕ = λ k. weight_of b (take k code) in
    let dest = place_of homes op.dest in
    let d = instruction_cost b (stores 15 dest) in
    let body = One RRA false (FromReg 15) ∷ by SUB (Short 1) 14 ∷ Jump JNE (negsuc 2) ∷ [] in
    let f = cost_sum b body in
    let c = instruction_cost b (One RRA false (FromReg 15)) in
    let e = instruction_cost b (by SUB (Short 1) 14) in
    let q = instruction_cost b (Jump JNE (negsuc 2)) in
    let trap_weighs : spent 5 ≡ spent 4 + (1 * instruction_cost b (trap 3) + 0) = weight_append b (take 4 code) (once (trap 3 ∷ [])) in
    let entry_weighs : spent 7 ≡ spent 5 + (1 * instruction_cost b none_test + (1 * instruction_cost b (Jump JEQ (pos 3)) + 0)) = weight_append b (take 5 code) (once (none_test ∷ Jump JEQ (pos 3) ∷ [])) in
    let loop_is : spent 10 ≡ spent 7 + 15 * f = loop_weighs b (take 7 code) body in
    let all_5 : weight_of b code ≡ spent 5 + weight_of b (drop 5 code) = weight_append b (take 5 code) (drop 5 code) in
    let all_is : weight_of b code ≡ spent 10 + (1 * d + 0) = weight_append b (take 10 code) (once (stores 15 dest ∷ [])) in
    let yl = n + (spent 7 + 15 * f + 0) in
    let limit : yl ≤ l = loop_limit n (spent 7) (spent 10) f l loop_is (part_fits n (spent 10) (weight_of b code) (1 * d + 0) l all_is paid) in
    let pe = plainly (at 10) st (n + spent 10) (any_fact 15 ∷ []) in
    let pl = looped (at 7) st yl f 14 turning in
    let store : Here t (at 10) (known_at pe) =
    passes_here t gone _ (stores 15 dest) d (known_at pe) _ (stores_word t dest 15 (known_at pe) refl (fits_on t dest (bare st n) (known_at pe) refl fits.dest) tt) (h 10 _ refl).stands
    (to_bare t _ st _ _ refl refl (ap (λ m. record { base = pos m; terms = [] }) (last_spent n (spent 10) d (weight_of b code) all_is)) falls) in
    let at_l = known_at pl in
    let once_shifted = puts (Reg 15) any_word c true None at_l in
    let turn : Here t (at 8) once_shifted = turn_ends t (at 8) (at 7) 14 15 f (yl + c) st (negsuc 2) (One RRA false (FromReg 15)) (stores 15 dest) _ _ _ _ turning (any_fact 15 ∷ []) once_shifted
    (record {
      counts = record { computes = refl; scratch = refl; same = refl; held = refl };
      lowers = (h 8 _ refl).stands;
      jump = h 9 _ refl;
      target = short_back (at 7);
      loop = h 7 _ refl;
      behind = h 10 _ refl;
      stretch = refl;
      spent = refl;
      range = refl;
      few = omega arith;
      again = one_again yl c e q;
      most = loop_end n (spent 7) (spent 10) f loop_is;
      limit = limit;
      words_behind = (omega arith, tt);
      told = (narrower _ _ (record { least = omega arith; greatest = omega arith; even = λ k. k }), (narrower _ _ any_range, tt));
      told_behind = (narrower _ _ any_range, tt);
    }) store in
    let loop : Here t (at 7) at_l =
    passes_here t gone _ _ c at_l once_shifted (one_passes t gone at_l RRA 15 refl refl refl (refl, tt) (lost_all (Reg 15))) (h 7 _ refl).stands
    (fallen t _ _ 0 once_shifted (plain_stands t _ _ (h 8 _ refl)) (affords_turn t 0 f 14 15 once_shifted _ refl refl (turn_fits yl c (e + q) f l (one_left c e q) limit)) turn) in
    count_tested t homes op a st n f (n + spent 4) (n + spent 5) yl (n + spent 10) (at 4) (at 5) (at 7) (at 10) (pos 3) (One RRA false (FromReg 15)) (stores 15 dest) (at 10) fits.a fits.b
    (record { first = (h 0 _ refl).stands; second = h 1 _ refl; test = record { compare = h 2 _ refl; jump = h 3 _ refl; traps = h 4 _ refl; passed = h 5 _ refl }; jump = h 6 _ refl; loop = h 7 _ refl; target = short_over (at 7); behind = h 10 _ refl })
    (record {
      tested = tested_sum n _ _ _ _;
      more = on_one n (spent 4) (spent 5) _ trap_weighs;
      trapped = one_fits n (spent 4) (spent 5) _ (weight_of b code) _ l trap_weighs all_5 paid;
      enters = entry_sum n (spent 5) (spent 7) _ _ f entry_weighs;
      limit = limit;
      most = loop_end n (spent 7) (spent 10) f loop_is;
    }) loop

abbrev logical_shift : Homes → Op → List Counted
logical_shift homes op = once (loads homes 15 op.a ∷ loads homes 14 op.b ∷ []) ++ (logical_core ++ once (stores 15 (place_of homes op.dest) ∷ []))

pub shifts_logically : (t : Sheet) (homes : Homes) (op : Op) (st n : ℕ) → BinaryFits t homes op (bare st n) → CodeGoes t (logical_shift homes op) (shift_at t.board (logical_shift homes op) 2) st n
shifts_logically t homes op st n fits a start h paid falls =
    let b = t.board in
    let l = limit_of t st in
    let code = logical_shift homes op in
    let at : ℕ → ℕ = λ k. address_in a (code_of code) k in
    let spent : ℕ → ℕ = λ k. weight_of b (take k code) in
    let dest = place_of homes op.dest in
    let d = instruction_cost b (stores 15 dest) in
    let body = One RRA false (FromReg 15) ∷ by AND (Imm 0x7FFF) 15 ∷ by SUB (Short 1) 14 ∷ Jump JNE (negsuc 4) ∷ [] in
    let f = cost_sum b body in
    let c = instruction_cost b (One RRA false (FromReg 15)) in
    let g = instruction_cost b (by AND (Imm 0x7FFF) 15) in
    let e = instruction_cost b (by SUB (Short 1) 14) in
    let q = instruction_cost b (Jump JNE (negsuc 4)) in
    let trap_weighs : spent 5 ≡ spent 4 + (1 * instruction_cost b (trap 3) + 0) = weight_append b (take 4 code) (once (trap 3 ∷ [])) in
    let entry_weighs : spent 7 ≡ spent 5 + (1 * instruction_cost b none_test + (1 * instruction_cost b (Jump JEQ (pos 5)) + 0)) = weight_append b (take 5 code) (once (none_test ∷ Jump JEQ (pos 5) ∷ [])) in
    let loop_is : spent 11 ≡ spent 7 + 15 * f = loop_weighs b (take 7 code) body in
    let all_5 : weight_of b code ≡ spent 5 + weight_of b (drop 5 code) = weight_append b (take 5 code) (drop 5 code) in
    let all_is : weight_of b code ≡ spent 11 + (1 * d + 0) = weight_append b (take 11 code) (once (stores 15 dest ∷ [])) in
    let yl = n + (spent 7 + 15 * f + 0) in
    let limit : yl ≤ l = loop_limit n (spent 7) (spent 11) f l loop_is (part_fits n (spent 11) (weight_of b code) (1 * d + 0) l all_is paid) in
    let pe = plainly (at 11) st (n + spent 11) (any_fact 15 ∷ []) in
    let pl = looped (at 7) st yl f 14 turning in
    let store : Here t (at 11) (known_at pe) =
    passes_here t gone _ (stores 15 dest) d (known_at pe) _ (stores_word t dest 15 (known_at pe) refl (fits_on t dest (bare st n) (known_at pe) refl fits.dest) tt) (h 11 _ refl).stands
    (to_bare t _ st _ _ refl refl (ap (λ m. record { base = pos m; terms = [] }) (last_spent n (spent 11) d (weight_of b code) all_is)) falls) in
    let at_l = known_at pl in
    let once_shifted = puts (Reg 15) any_word c true None at_l in
    let shifted = puts (Reg 15) any_word g true None once_shifted in
    let turn : Here t (at 9) shifted = turn_ends t (at 9) (at 7) 14 15 f (yl + c + g) st (negsuc 4) (One RRA false (FromReg 15)) (stores 15 dest) _ _ _ _ turning (any_fact 15 ∷ []) shifted
    (record {
      counts = record { computes = refl; scratch = refl; same = refl; held = refl };
      lowers = (h 9 _ refl).stands;
      jump = h 10 _ refl;
      target = long_back (at 7);
      loop = h 7 _ refl;
      behind = h 11 _ refl;
      stretch = refl;
      spent = refl;
      range = refl;
      few = omega arith;
      again = two_again yl c g e q;
      most = loop_end n (spent 7) (spent 11) f loop_is;
      limit = limit;
      words_behind = (omega arith, tt);
      told = (narrower _ _ (record { least = omega arith; greatest = omega arith; even = λ k. k }), (narrower _ _ any_range, tt));
      told_behind = (narrower _ _ any_range, tt);
    }) store in
    let loop : Here t (at 7) at_l =
    passes_here t gone _ _ c at_l once_shifted (one_passes t gone at_l RRA 15 refl refl refl (refl, tt) (lost_all (Reg 15))) (h 7 _ refl).stands
    (fallen t _ _ 0 once_shifted (plain_stands t _ _ (h 8 _ refl)) (affords_turn t 0 f 14 15 once_shifted _ refl refl (turn_fits yl c (g + (e + q)) f l (first_left c g e q) limit))
    (passes_here t gone _ _ g once_shifted shifted (writes_register t AND (Imm 0x7FFF) 15 once_shifted refl refl refl (omega arith) (refl, refl) (λ κ. refl) (refl, tt)) (h 8 _ refl).stands
    (fallen t _ _ 0 shifted (plain_stands t _ _ (h 9 _ refl)) (affords_turn t 0 f 14 15 shifted _ refl refl (both_fit yl c g e q l limit)) turn))) in
    count_tested t homes op a st n f (n + spent 4) (n + spent 5) yl (n + spent 11) (at 4) (at 5) (at 7) (at 11) (pos 5) (One RRA false (FromReg 15)) (stores 15 dest) (at 11) fits.a fits.b
    (record { first = (h 0 _ refl).stands; second = h 1 _ refl; test = record { compare = h 2 _ refl; jump = h 3 _ refl; traps = h 4 _ refl; passed = h 5 _ refl }; jump = h 6 _ refl; loop = h 7 _ refl; target = long_over (at 7); behind = h 11 _ refl })
    (record {
      tested = tested_sum n _ _ _ _;
      more = on_one n (spent 4) (spent 5) _ trap_weighs;
      trapped = one_fits n (spent 4) (spent 5) _ (weight_of b code) _ l trap_weighs all_5 paid;
      enters = entry_sum n (spent 5) (spent 7) _ _ f entry_weighs;
      limit = limit;
      most = loop_end n (spent 7) (spent 11) f loop_is;
    }) loop
