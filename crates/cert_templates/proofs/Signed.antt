-- The templates of signed divisions and remainders.
use Rattle.std.proofs.Common.{◌≡◌, ℕ, ◌+◌, ◌*◌, ◌≤◌, true, false, None, List, [], ◌∷◌, refl, ap, arith}
use Rattle.std.specs.Prelude.{pos, take, drop, ◌++◌, ◌+ℤ◌, ◌≤ℤ◌}
use Rattle.std.proofs.lemmas.Int.{ints}
use Rattle.certificate.specs.declared.cert.Slot.TheVariants.{Reg}
use Rattle.certificate.specs.declared.cert.Fact.{Fact}
use Rattle.msp430_isa.specs.declared.instr.Src.TheVariants.{Reg as FromReg}
use Rattle.msp430_isa.specs.declared.instr.TwoOp.TheVariants.{Mov as MOV, Xor as XOR}
use Rattle.msp430_isa.specs.declared.instr.Instr.{Instr}
use Rattle.msp430_machine.specs.Cost.{instruction_cost}
use Rattle.flow_graph.specs.declared.graph.Op.{Op}
use Rattle.op_cost.specs.Templates.{Counted, Homes, code_of, by, once, weight_of, loads, stores, place_of, trap, sixteen, signed_core, sign_of_quotient, sign_of_remainder, unless_negative}
use Rattle.cert_rules.specs.Ranges.{any_word}
use Rattle.cert_rules.specs.Known.{bare, known_at}
use Rattle.cert_rules.specs.Sheet.{Sheet}
use Rattle.cert_rules.specs.Going.{limit_of}
use Rattle.cert_pieces.specs.Pieces.{Here, narrower, address_in, puts}
use Rattle.cert_templates.specs.Frames.{CodeGoes, four, operands, any_fact, trapping_at, signed_at}
use Rattle.cert_pieces.proofs.Writing.{any_range}
use Rattle.cert_pieces.proofs.Straight.{passes_here, fallen}
use Rattle.cert_templates.proofs.Templates.{BinaryFits, fits_on}
use Rattle.cert_pieces.proofs.Bare.{to_bare, affords_plain, plain_stands}
use Rattle.cert_templates.proofs.Loading.{stores_word, writes_register}
use Rattle.cert_templates.proofs.Turning.{plainly}
use Rattle.cert_templates.proofs.Dividing.{LoopFacts, divides, Signs, negates_unless}
use Rattle.cert_templates.proofs.Quotients.{weight_append, loop_weighs, cost_of_turn, division_sums, divisor_tested, enters_division, zero_rest, sixteen_turns, tested_sum, on_one, one_fits, loop_sum, part_fits, last_spent}

-- the loop of signed numbers has the sign of its result in R11
abbrev signed_four : List Fact
signed_four = any_fact 11 ∷ four

abbrev signed_operands : List Fact
signed_operands = any_fact 11 ∷ operands

abbrev signed_behind : List Fact
signed_behind = any_fact 11 ∷ any_fact 13 ∷ any_fact 15 ∷ []

signed_facts : LoopFacts signed_four signed_behind
signed_facts = record {
  counter = refl;
  rest = refl;
  divisor = refl;
  quotient = refl;
  words = (omega arith, (omega arith, (omega arith, (omega arith, (omega arith, tt)))));
  words_behind = (omega arith, (omega arith, (omega arith, tt)));
  told = λ v t11 t12 t13 t14 t15. (t11, (t12, (t13, (t14, (t15, tt)))));
  told_behind = λ v t11 t13 t15. (t11, (t13, (t15, tt)));
}

sign_of_15 : Signs 15 15
sign_of_15 = record { compares = λ κ. refl; kept = refl; computes = refl; scratch = refl; inverts = refl; adds = refl; untold_xor = refl; untold_add = refl; hit = refl }

sign_of_14 : Signs 14 14
sign_of_14 = record { compares = λ κ. refl; kept = refl; computes = refl; scratch = refl; inverts = refl; adds = refl; untold_xor = refl; untold_add = refl; hit = refl }

sign_to_15 : Signs 11 15
sign_to_15 = record { compares = λ κ. refl; kept = refl; computes = refl; scratch = refl; inverts = refl; adds = refl; untold_xor = refl; untold_add = refl; hit = refl }

sign_to_13 : Signs 11 13
sign_to_13 = record { compares = λ κ. refl; kept = refl; computes = refl; scratch = refl; inverts = refl; adds = refl; untold_xor = refl; untold_add = refl; hit = refl }

-- a sign is tested in between
negated_sum : (n w v c d e f : ℕ) → v ≡ w + (1 * c + (1 * d + (1 * e + (1 * f + 0)))) → n + w + c + d + e + f ≤ n + v
negated_sum n w v c d e f h = omega (arith, h)

copied_sum : (n w v s c d e f : ℕ) → v ≡ w + (1 * s + (1 * c + (1 * d + (1 * e + (1 * f + 0))))) → n + w + s + c + d + e + f ≤ n + v
copied_sum n w v s c d e f h = omega (arith, h)

mixed_sum : (n w v s x c d e f : ℕ) → v ≡ w + (1 * s + (1 * x + (1 * c + (1 * d + (1 * e + (1 * f + 0)))))) → n + w + s + x + c + d + e + f ≤ n + v
mixed_sum n w v s x c d e f h = omega (arith, h)

copied_fits : (n w v s c d e f l : ℕ) → v ≡ w + (1 * s + (1 * c + (1 * d + (1 * e + (1 * f + 0))))) → n + v ≤ l → (pos (n + w + s) +ℤ pos 0) ≤ℤ pos l
copied_fits n w v s c d e f l h k = omega (arith, ints, h, k)

copy_fits : (n w v s x c d e f l : ℕ) → v ≡ w + (1 * s + (1 * x + (1 * c + (1 * d + (1 * e + (1 * f + 0)))))) → n + v ≤ l → (pos (n + w + s) +ℤ pos 0) ≤ℤ pos l
copy_fits n w v s x c d e f l h k = omega (arith, ints, h, k)

mixed_fits : (n w v s x c d e f l : ℕ) → v ≡ w + (1 * s + (1 * x + (1 * c + (1 * d + (1 * e + (1 * f + 0)))))) → n + v ≤ l → (pos (n + w + s + x) +ℤ pos 0) ≤ℤ pos l
mixed_fits n w v s x c d e f l h k = omega (arith, ints, h, k)

abbrev copies_sign : Instr
copies_sign = by MOV (FromReg 15) 11

abbrev mixes_sign : Instr
mixes_sign = by XOR (FromReg 14) 11

abbrev signed_division : Homes → Op → List Counted
signed_division homes op = once (loads homes 15 op.a ∷ loads homes 14 op.b ∷ []) ++ (signed_core sign_of_quotient 15 ++ once (stores 15 (place_of homes op.dest) ∷ []))

pub divides_signed : (t : Sheet) (homes : Homes) (op : Op) (st n : ℕ) → BinaryFits t homes op (bare st n)
    → CodeGoes t (signed_division homes op) (trapping_at t.board (signed_division homes op) 4 operands ++ signed_at t.board (signed_division homes op) 11 15) st n
divides_signed t homes op st n fits a start h paid falls =
    let b = t.board in
    let l = limit_of t st in
    let code = signed_division homes op in
    let at : ℕ → ℕ = λ k. address_in a (code_of code) k in
    let spent : ℕ → ℕ = λ k. weight_of b (take k code) in
    let dest = place_of homes op.dest in
    let d = instruction_cost b (stores 15 dest) in
    let f = cost_of_turn b in
    let all_of : (k : ℕ) → ℕ = λ k. weight_of b (drop k code) in
    let trap_weighs : spent 5 ≡ spent 4 + (1 * instruction_cost b (trap 1) + 0) = weight_append b (take 4 code) (once (trap 1 ∷ [])) in
    let first_weighs = weight_append b (take 5 code) (once (sign_of_quotient ++ unless_negative 15 15)) in
    let second_weighs = weight_append b (take 11 code) (once (unless_negative 14 14)) in
    let entry_weighs : spent 17 ≡ spent 15 + (1 * instruction_cost b zero_rest + (1 * instruction_cost b sixteen_turns + 0)) = weight_append b (take 15 code) (once sixteen) in
    let loop_is : spent 26 ≡ spent 17 + 16 * f = loop_weighs b (take 17 code) in
    let third_weighs = weight_append b (take 26 code) (once (unless_negative 11 15)) in
    let all_is : weight_of b code ≡ spent 30 + (1 * d + 0) = weight_append b (take 30 code) (once (stores 15 dest ∷ [])) in
    let fits_5 = weight_append b (take 5 code) (drop 5 code) in
    let limit_1 : n + spent 11 ≤ l = part_fits n (spent 11) (weight_of b code) (all_of 11) l (weight_append b (take 11 code) (drop 11 code)) paid in
    let limit_2 : n + spent 15 ≤ l = part_fits n (spent 15) (weight_of b code) (all_of 15) l (weight_append b (take 15 code) (drop 15 code)) paid in
    let limit_3 : n + spent 26 ≤ l = part_fits n (spent 26) (weight_of b code) (all_of 26) l (weight_append b (take 26 code) (drop 26 code)) paid in
    let limit_4 : n + spent 30 ≤ l = part_fits n (spent 30) (weight_of b code) (1 * d + 0) l all_is paid in
    let p_end = plainly (at 30) st (n + spent 30) (any_fact 15 ∷ []) in
    let p_loop = plainly (at 26) st (n + spent 26) signed_behind in
    let p_both = plainly (at 15) st (n + spent 15) signed_operands in
    let p_one = plainly (at 11) st (n + spent 11) signed_operands in
    let p_operands = plainly (at 5) st (n + spent 5) operands in
    let store : Here t (at 30) (known_at p_end) =
    passes_here t _ _ (stores 15 dest) d (known_at p_end) _ (stores_word t dest 15 (known_at p_end) refl (fits_on t dest (bare st n) (known_at p_end) refl fits.dest) tt) (h 30 _ refl).stands
    (to_bare t _ st _ _ refl refl (ap (λ m. record { base = pos m; terms = [] }) (last_spent n (spent 30) d (weight_of b code) all_is)) falls) in
    let signed : Here t (at 26) (known_at p_loop) = negates_unless t (at 26) 11 15 st (n + spent 26) (n + spent 30) (any_fact 15 ∷ []) _ (at 30) (known_at p_loop) sign_to_15
    (record { compare = (h 26 _ refl).stands; jump = h 27 _ refl; inverts = h 28 _ refl; adds = h 29 _ refl; behind = h 30 _ refl })
    (record { set = refl; set_r = refl; stretch = refl; spent = refl; sum = negated_sum n (spent 26) (spent 30) _ _ _ _ third_weighs; limit = limit_4; words = (omega arith, tt); told = (narrower _ _ any_range, tt); told_negative = (narrower _ _ any_range, tt) }) store in
    let sums = division_sums t st n (spent 17) (spent 26) loop_is limit_3 in
    let loop = divides t (at 17) st f _ _ _ _ (at 17) (at 22) (at 24) (at 26) signed_four signed_behind _
    (record { doubles = h 17 _ refl; carries = h 18 _ refl; jump = h 19 _ refl; compare = h 20 _ refl; unless = h 21 _ refl; takes = h 22 _ refl; counts = h 23 _ refl; lowers = h 24 _ refl; again = h 25 _ refl; leaves = h 26 _ refl })
    signed_facts sums signed in
    let enters : Here t (at 15) (known_at p_both) =
    enters_division t (at 15) st (n + spent 15) f _ (at 17) signed_four signed_behind _ (known_at p_both) signed_facts (h 16 _ refl) (h 17 _ refl) (h 15 _ refl).stands refl refl
    (loop_sum n (spent 15) (spent 17) _ _ f entry_weighs) sums.limit
    (narrower _ _ any_range, (narrower _ _ (record { least = omega arith; greatest = omega arith; even = λ k. k }), (narrower _ _ any_range, (narrower _ _ any_range, (narrower _ _ any_range, tt))))) loop in
    let both_signs : Here t (at 11) (known_at p_one) = negates_unless t (at 11) 14 14 st (n + spent 11) (n + spent 15) signed_operands _ (at 15) (known_at p_one) sign_of_14
    (record { compare = (h 11 _ refl).stands; jump = h 12 _ refl; inverts = h 13 _ refl; adds = h 14 _ refl; behind = h 15 _ refl })
    (record { set = refl; set_r = refl; stretch = refl; spent = refl; sum = negated_sum n (spent 11) (spent 15) _ _ _ _ second_weighs; limit = limit_2; words = (omega arith, (omega arith, (omega arith, tt))); told = (narrower _ _ any_range, (narrower _ _ any_range, (narrower _ _ any_range, tt))); told_negative = (narrower _ _ any_range, (narrower _ _ any_range, (narrower _ _ any_range, tt))) }) enters in
    let cs = instruction_cost b copies_sign in
    let copied = puts (Reg 11) any_word cs false None (known_at p_operands) in
    let cx = instruction_cost b mixes_sign in
    let mixed = puts (Reg 11) any_word cx true None copied in
    let one_sign : Here t (at 7) mixed = negates_unless t (at 7) 15 15 st (n + spent 5 + cs + cx) (n + spent 11) signed_operands _ (at 11) mixed sign_of_15
    (record { compare = (h 7 _ refl).stands; jump = h 8 _ refl; inverts = h 9 _ refl; adds = h 10 _ refl; behind = h 11 _ refl })
    (record { set = refl; set_r = refl; stretch = refl; spent = refl; sum = mixed_sum n (spent 5) (spent 11) cs cx _ _ _ _ first_weighs; limit = limit_1; words = (omega arith, (omega arith, (omega arith, tt))); told = (narrower _ _ any_range, (narrower _ _ any_range, (narrower _ _ any_range, tt))); told_negative = (narrower _ _ any_range, (narrower _ _ any_range, (narrower _ _ any_range, tt))) }) both_signs in
    let copy : Here t (at 5) (known_at p_operands) =
    passes_here t _ _ copies_sign cs (known_at p_operands) copied (writes_register t MOV (FromReg 15) 11 (known_at p_operands) refl refl refl refl (refl, refl) (λ κ. refl) tt) (h 5 _ refl).stands
    (fallen t _ mixes_sign 0 copied (plain_stands t _ _ (h 6 _ refl)) (affords_plain t 0 copied _ refl (copy_fits n (spent 5) (spent 11) cs cx _ _ _ _ l first_weighs limit_1))
    (passes_here t _ _ mixes_sign cx copied mixed (writes_register t XOR (FromReg 14) 11 copied refl refl refl refl (refl, refl) (λ κ. refl) tt) (h 6 _ refl).stands
    (fallen t _ _ 0 mixed (plain_stands t _ _ (h 7 _ refl)) (affords_plain t 0 mixed _ refl (mixed_fits n (spent 5) (spent 11) cs cx _ _ _ _ l first_weighs limit_1)) one_sign))) in
    divisor_tested t homes op st n (n + spent 4) (n + spent 5) (at 4) (at 5) a _ fits.a fits.b (h 0 _ refl).stands (h 1 _ refl)
    (record { compare = h 2 _ refl; jump = h 3 _ refl; traps = h 4 _ refl; passed = h 5 _ refl })
    (tested_sum n _ _ _ _) (on_one n (spent 4) (spent 5) _ trap_weighs) (one_fits n (spent 4) (spent 5) _ (weight_of b code) (all_of 5) l trap_weighs fits_5 paid) copy

abbrev signed_remainder : Homes → Op → List Counted
signed_remainder homes op = once (loads homes 15 op.a ∷ loads homes 14 op.b ∷ []) ++ (signed_core sign_of_remainder 13 ++ once (stores 13 (place_of homes op.dest) ∷ []))

pub remains_signed : (t : Sheet) (homes : Homes) (op : Op) (st n : ℕ) → BinaryFits t homes op (bare st n)
    → CodeGoes t (signed_remainder homes op) (trapping_at t.board (signed_remainder homes op) 4 operands ++ signed_at t.board (signed_remainder homes op) 10 13) st n
remains_signed t homes op st n fits a start h paid falls =
    let b = t.board in
    let l = limit_of t st in
    let code = signed_remainder homes op in
    let at : ℕ → ℕ = λ k. address_in a (code_of code) k in
    let spent : ℕ → ℕ = λ k. weight_of b (take k code) in
    let dest = place_of homes op.dest in
    let d = instruction_cost b (stores 13 dest) in
    let f = cost_of_turn b in
    let all_of : (k : ℕ) → ℕ = λ k. weight_of b (drop k code) in
    let trap_weighs : spent 5 ≡ spent 4 + (1 * instruction_cost b (trap 1) + 0) = weight_append b (take 4 code) (once (trap 1 ∷ [])) in
    let first_weighs = weight_append b (take 5 code) (once (sign_of_remainder ++ unless_negative 15 15)) in
    let second_weighs = weight_append b (take 10 code) (once (unless_negative 14 14)) in
    let entry_weighs : spent 16 ≡ spent 14 + (1 * instruction_cost b zero_rest + (1 * instruction_cost b sixteen_turns + 0)) = weight_append b (take 14 code) (once sixteen) in
    let loop_is : spent 25 ≡ spent 16 + 16 * f = loop_weighs b (take 16 code) in
    let third_weighs = weight_append b (take 25 code) (once (unless_negative 11 13)) in
    let all_is : weight_of b code ≡ spent 29 + (1 * d + 0) = weight_append b (take 29 code) (once (stores 13 dest ∷ [])) in
    let fits_5 = weight_append b (take 5 code) (drop 5 code) in
    let limit_1 : n + spent 10 ≤ l = part_fits n (spent 10) (weight_of b code) (all_of 10) l (weight_append b (take 10 code) (drop 10 code)) paid in
    let limit_2 : n + spent 14 ≤ l = part_fits n (spent 14) (weight_of b code) (all_of 14) l (weight_append b (take 14 code) (drop 14 code)) paid in
    let limit_3 : n + spent 25 ≤ l = part_fits n (spent 25) (weight_of b code) (all_of 25) l (weight_append b (take 25 code) (drop 25 code)) paid in
    let limit_4 : n + spent 29 ≤ l = part_fits n (spent 29) (weight_of b code) (1 * d + 0) l all_is paid in
    let p_end = plainly (at 29) st (n + spent 29) (any_fact 13 ∷ []) in
    let p_loop = plainly (at 25) st (n + spent 25) signed_behind in
    let p_both = plainly (at 14) st (n + spent 14) signed_operands in
    let p_one = plainly (at 10) st (n + spent 10) signed_operands in
    let p_operands = plainly (at 5) st (n + spent 5) operands in
    let store : Here t (at 29) (known_at p_end) =
    passes_here t _ _ (stores 13 dest) d (known_at p_end) _ (stores_word t dest 13 (known_at p_end) refl (fits_on t dest (bare st n) (known_at p_end) refl fits.dest) tt) (h 29 _ refl).stands
    (to_bare t _ st _ _ refl refl (ap (λ m. record { base = pos m; terms = [] }) (last_spent n (spent 29) d (weight_of b code) all_is)) falls) in
    let signed : Here t (at 25) (known_at p_loop) = negates_unless t (at 25) 11 13 st (n + spent 25) (n + spent 29) (any_fact 13 ∷ []) _ (at 29) (known_at p_loop) sign_to_13
    (record { compare = (h 25 _ refl).stands; jump = h 26 _ refl; inverts = h 27 _ refl; adds = h 28 _ refl; behind = h 29 _ refl })
    (record { set = refl; set_r = refl; stretch = refl; spent = refl; sum = negated_sum n (spent 25) (spent 29) _ _ _ _ third_weighs; limit = limit_4; words = (omega arith, tt); told = (narrower _ _ any_range, tt); told_negative = (narrower _ _ any_range, tt) }) store in
    let sums = division_sums t st n (spent 16) (spent 25) loop_is limit_3 in
    let loop = divides t (at 16) st f _ _ _ _ (at 16) (at 21) (at 23) (at 25) signed_four signed_behind _
    (record { doubles = h 16 _ refl; carries = h 17 _ refl; jump = h 18 _ refl; compare = h 19 _ refl; unless = h 20 _ refl; takes = h 21 _ refl; counts = h 22 _ refl; lowers = h 23 _ refl; again = h 24 _ refl; leaves = h 25 _ refl })
    signed_facts sums signed in
    let enters : Here t (at 14) (known_at p_both) =
    enters_division t (at 14) st (n + spent 14) f _ (at 16) signed_four signed_behind _ (known_at p_both) signed_facts (h 15 _ refl) (h 16 _ refl) (h 14 _ refl).stands refl refl
    (loop_sum n (spent 14) (spent 16) _ _ f entry_weighs) sums.limit
    (narrower _ _ any_range, (narrower _ _ (record { least = omega arith; greatest = omega arith; even = λ k. k }), (narrower _ _ any_range, (narrower _ _ any_range, (narrower _ _ any_range, tt))))) loop in
    let both_signs : Here t (at 10) (known_at p_one) = negates_unless t (at 10) 14 14 st (n + spent 10) (n + spent 14) signed_operands _ (at 14) (known_at p_one) sign_of_14
    (record { compare = (h 10 _ refl).stands; jump = h 11 _ refl; inverts = h 12 _ refl; adds = h 13 _ refl; behind = h 14 _ refl })
    (record { set = refl; set_r = refl; stretch = refl; spent = refl; sum = negated_sum n (spent 10) (spent 14) _ _ _ _ second_weighs; limit = limit_2; words = (omega arith, (omega arith, (omega arith, tt))); told = (narrower _ _ any_range, (narrower _ _ any_range, (narrower _ _ any_range, tt))); told_negative = (narrower _ _ any_range, (narrower _ _ any_range, (narrower _ _ any_range, tt))) }) enters in
    let cs = instruction_cost b copies_sign in
    let copied = puts (Reg 11) any_word cs false None (known_at p_operands) in
    let one_sign : Here t (at 6) copied = negates_unless t (at 6) 15 15 st (n + spent 5 + cs) (n + spent 10) signed_operands _ (at 10) copied sign_of_15
    (record { compare = (h 6 _ refl).stands; jump = h 7 _ refl; inverts = h 8 _ refl; adds = h 9 _ refl; behind = h 10 _ refl })
    (record { set = refl; set_r = refl; stretch = refl; spent = refl; sum = copied_sum n (spent 5) (spent 10) cs _ _ _ _ first_weighs; limit = limit_1; words = (omega arith, (omega arith, (omega arith, tt))); told = (narrower _ _ any_range, (narrower _ _ any_range, (narrower _ _ any_range, tt))); told_negative = (narrower _ _ any_range, (narrower _ _ any_range, (narrower _ _ any_range, tt))) }) both_signs in
    let copy : Here t (at 5) (known_at p_operands) =
    passes_here t _ _ copies_sign cs (known_at p_operands) copied (writes_register t MOV (FromReg 15) 11 (known_at p_operands) refl refl refl refl (refl, refl) (λ κ. refl) tt) (h 5 _ refl).stands
    (fallen t _ _ 0 copied (plain_stands t _ _ (h 6 _ refl)) (affords_plain t 0 copied _ refl (copied_fits n (spent 5) (spent 10) cs _ _ _ _ l first_weighs limit_1)) one_sign) in
    divisor_tested t homes op st n (n + spent 4) (n + spent 5) (at 4) (at 5) a _ fits.a fits.b (h 0 _ refl).stands (h 1 _ refl)
    (record { compare = h 2 _ refl; jump = h 3 _ refl; traps = h 4 _ refl; passed = h 5 _ refl })
    (tested_sum n _ _ _ _) (on_one n (spent 4) (spent 5) _ trap_weighs) (one_fits n (spent 4) (spent 5) _ (weight_of b code) (all_of 5) l trap_weighs fits_5 paid) copy
