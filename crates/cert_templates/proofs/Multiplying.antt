-- The template of Mul.
use Rattle.std.proofs.Common.{◌≡◌, ℕ, ◌+◌, ◌*◌, ◌-◌, ◌≤◌, true, false, None, List, [], ◌∷◌, refl, ap, arith}
use Rattle.std.specs.Prelude.{pos, negsuc, ◌+ℤ◌, ◌-ℤ◌, ◌≤ℤ◌, ◌++◌}
use Rattle.std.proofs.lemmas.Int.{ints}
use Rattle.certificate.specs.declared.cert.Slot.TheVariants.{Reg}
use Rattle.msp430_isa.specs.declared.instr.Src.TheVariants.{Reg as FromReg, Short, Imm}
use Rattle.msp430_isa.specs.declared.instr.TwoOp.TheVariants.{Mov as MOV, Add as ADD, Sub as SUB, Bit as BIT}
use Rattle.msp430_isa.specs.declared.instr.OneOp.TheVariants.{Rra as RRA}
use Rattle.msp430_isa.specs.declared.instr.Cond.TheVariants.{Jne as JNE, Jeq as JEQ}
use Rattle.msp430_isa.specs.declared.instr.Instr.TheVariants.{One, Jump}
use Rattle.msp430_machine.specs.Cost.{instruction_cost}
use Rattle.flow_graph.specs.declared.graph.Op.{Op}
use Rattle.op_cost.specs.Templates.{Counted, Homes, code_of, by, once, loads, stores, place_of, mul_core}
use Rattle.cert_rules.specs.Ranges.{any_word}
use Rattle.cert_rules.specs.Known.{bare, known_at}
use Rattle.cert_rules.specs.Sheet.{Sheet}
use Rattle.cert_pieces.specs.Pieces.{Here, Promises, Narrower, narrower, address_in, done, puts, compares, pays}
use Rattle.cert_templates.specs.Frames.{CodeGoes, Loop, turn_cost, inner_point, plain_at, loop_at, four, any_fact}
use Rattle.cert_pieces.proofs.Writing.{any_range}
use Rattle.cert_pieces.proofs.Straight.{register_passes, compare_passes, one_passes, passes_here, fallen, runs_here}
use Rattle.cert_templates.proofs.Templates.{BinaryFits, chain, fits_on}
use Rattle.cert_pieces.proofs.Jumping.{jumps_blindly}
use Rattle.cert_pieces.proofs.Bare.{gone, lost_all, to_bare, affords_plain, affords_turn, into_point, onto_point, plain_stands, spent_enters, spent_same}
use Rattle.cert_templates.proofs.Loading.{loads_word, puts_constant, stores_word, writes_register}
use Rattle.cert_templates.proofs.Turning.{turns_left, turn_ends}

abbrev multiplying : Homes → Op → List Counted
multiplying homes op = once (loads homes 15 op.a ∷ loads homes 14 op.b ∷ []) ++ (mul_core ++ once (stores 13 (place_of homes op.dest) ∷ []))

-- its loop
abbrev mul_loop : Loop
mul_loop = record { first = 4; instructions = 7; turns = 16; counter = 12 }

first_paid : (n c e g i u v w x y z q d l : ℕ) → n + (1 * c + (1 * e + (1 * g + (1 * i + (16 * u + (16 * v + (16 * w + (16 * x + (16 * y + (16 * z + (16 * q + (1 * d + 0)))))))))))) ≤ l → (pos n +ℤ pos (c + (e + (g + (i + 0))) + 0)) ≤ℤ pos l
first_paid n c e g i u v w x y z q d l h = omega (arith, ints, h)

entry_paid : (n c e g i u v w x y z q d l : ℕ) → n + (1 * c + (1 * e + (1 * g + (1 * i + (16 * u + (16 * v + (16 * w + (16 * x + (16 * y + (16 * z + (16 * q + (1 * d + 0)))))))))))) ≤ l → (pos (n + c + e + g + i) +ℤ pos 0) ≤ℤ pos l
entry_paid n c e g i u v w x y z q d l h = omega (arith, ints, h)

bit_paid : (n c e g i u v w x y z q d l : ℕ) → n + (1 * c + (1 * e + (1 * g + (1 * i + (16 * u + (16 * v + (16 * w + (16 * x + (16 * y + (16 * z + (16 * q + (1 * d + 0)))))))))))) ≤ l → (pos ((n + ((1 * c + (1 * e + (1 * g + (1 * i + 0)))) + 16 * (u + (v + (w + (x + (y + (z + (q + 0))))))) + 0)) + u) +ℤ pos 0) ≤ℤ (pos l +ℤ pos (u + (v + (w + (x + (y + (z + (q + 0))))))))
bit_paid n c e g i u v w x y z q d l h = omega (arith, ints, h)

skip_paid : (n c e g i u v w x y z q d l : ℕ) → n + (1 * c + (1 * e + (1 * g + (1 * i + (16 * u + (16 * v + (16 * w + (16 * x + (16 * y + (16 * z + (16 * q + (1 * d + 0)))))))))))) ≤ l → (pos ((n + ((1 * c + (1 * e + (1 * g + (1 * i + 0)))) + 16 * (u + (v + (w + (x + (y + (z + (q + 0))))))) + 0)) + u + v) +ℤ pos 0) ≤ℤ (pos l +ℤ pos (u + (v + (w + (x + (y + (z + (q + 0))))))))
skip_paid n c e g i u v w x y z q d l h = omega (arith, ints, h)

sum_paid : (n c e g i u v w x y z q d l : ℕ) → n + (1 * c + (1 * e + (1 * g + (1 * i + (16 * u + (16 * v + (16 * w + (16 * x + (16 * y + (16 * z + (16 * q + (1 * d + 0)))))))))))) ≤ l → (pos ((n + ((1 * c + (1 * e + (1 * g + (1 * i + 0)))) + 16 * (u + (v + (w + (x + (y + (z + (q + 0))))))) + 0)) + u + v + w) +ℤ pos 0) ≤ℤ (pos l +ℤ pos (u + (v + (w + (x + (y + (z + (q + 0))))))))
sum_paid n c e g i u v w x y z q d l h = omega (arith, ints, h)

double_paid : (n c e g i u v w x y z q d l : ℕ) → n + (1 * c + (1 * e + (1 * g + (1 * i + (16 * u + (16 * v + (16 * w + (16 * x + (16 * y + (16 * z + (16 * q + (1 * d + 0)))))))))))) ≤ l → (pos ((n + ((1 * c + (1 * e + (1 * g + (1 * i + 0)))) + 16 * (u + (v + (w + (x + (y + (z + (q + 0))))))) + (u + (v + (w + 0))))) + x) +ℤ pos 0) ≤ℤ (pos l +ℤ pos (u + (v + (w + (x + (y + (z + (q + 0))))))))
double_paid n c e g i u v w x y z q d l h = omega (arith, ints, h)

halve_paid : (n c e g i u v w x y z q d l : ℕ) → n + (1 * c + (1 * e + (1 * g + (1 * i + (16 * u + (16 * v + (16 * w + (16 * x + (16 * y + (16 * z + (16 * q + (1 * d + 0)))))))))))) ≤ l → (pos ((n + ((1 * c + (1 * e + (1 * g + (1 * i + 0)))) + 16 * (u + (v + (w + (x + (y + (z + (q + 0))))))) + (u + (v + (w + 0))))) + x + y) +ℤ pos 0) ≤ℤ (pos l +ℤ pos (u + (v + (w + (x + (y + (z + (q + 0))))))))
halve_paid n c e g i u v w x y z q d l h = omega (arith, ints, h)

loop_paid : (n c e g i u v w x y z q d l : ℕ) → n + (1 * c + (1 * e + (1 * g + (1 * i + (16 * u + (16 * v + (16 * w + (16 * x + (16 * y + (16 * z + (16 * q + (1 * d + 0)))))))))))) ≤ l → (n + ((1 * c + (1 * e + (1 * g + (1 * i + 0)))) + 16 * (u + (v + (w + (x + (y + (z + (q + 0))))))) + 0)) ≤ l
loop_paid n c e g i u v w x y z q d l h = omega (arith, ints, h)

enters : (n c e g i u v w x y z q : ℕ) → (pos (n + c + e + g + i) -ℤ pos (n + ((1 * c + (1 * e + (1 * g + (1 * i + 0)))) + 16 * (u + (v + (w + (x + (y + (z + (q + 0))))))) + 0)) +ℤ pos ((u + (v + (w + (x + (y + (z + (q + 0))))))) * 16)) ≤ℤ pos 0
enters n c e g i u v w x y z q = omega (arith, ints)

skips : (n c e g i u v w x y z q : ℕ) → pos ((n + ((1 * c + (1 * e + (1 * g + (1 * i + 0)))) + 16 * (u + (v + (w + (x + (y + (z + (q + 0))))))) + 0)) + u + v) ≤ℤ pos (n + ((1 * c + (1 * e + (1 * g + (1 * i + 0)))) + 16 * (u + (v + (w + (x + (y + (z + (q + 0))))))) + (u + (v + (w + 0)))))
skips n c e g i u v w x y z q = omega (arith, ints)

sums : (n c e g i u v w x y z q : ℕ) → pos ((n + ((1 * c + (1 * e + (1 * g + (1 * i + 0)))) + 16 * (u + (v + (w + (x + (y + (z + (q + 0))))))) + 0)) + u + v + w) ≤ℤ pos (n + ((1 * c + (1 * e + (1 * g + (1 * i + 0)))) + 16 * (u + (v + (w + (x + (y + (z + (q + 0))))))) + (u + (v + (w + 0)))))
sums n c e g i u v w x y z q = omega (arith, ints)

again : (n c e g i u v w x y z q : ℕ) → (n + ((1 * c + (1 * e + (1 * g + (1 * i + 0)))) + 16 * (u + (v + (w + (x + (y + (z + (q + 0))))))) + (u + (v + (w + 0))))) + x + y + z + q ≤ (n + ((1 * c + (1 * e + (1 * g + (1 * i + 0)))) + 16 * (u + (v + (w + (x + (y + (z + (q + 0))))))) + 0)) + (u + (v + (w + (x + (y + (z + (q + 0)))))))
again n c e g i u v w x y z q = omega (arith, ints)

leaves_loop : (n c e g i u v w x y z q : ℕ) → (n + ((1 * c + (1 * e + (1 * g + (1 * i + 0)))) + 16 * (u + (v + (w + (x + (y + (z + (q + 0))))))) + 0)) ≤ (n + (1 * c + (1 * e + (1 * g + (1 * i + (16 * u + (16 * v + (16 * w + (16 * x + (16 * y + (16 * z + (16 * q + 0))))))))))))
leaves_loop n c e g i u v w x y z q = omega (arith, ints)

all_spent : (n c e g i u v w x y z q d : ℕ) → (n + (1 * c + (1 * e + (1 * g + (1 * i + (16 * u + (16 * v + (16 * w + (16 * x + (16 * y + (16 * z + (16 * q + 0)))))))))))) + d ≡ n + (1 * c + (1 * e + (1 * g + (1 * i + (16 * u + (16 * v + (16 * w + (16 * x + (16 * y + (16 * z + (16 * q + (1 * d + 0))))))))))))
all_spent n c e g i u v w x y z q d = omega arith

store_paid : (n c e g i u v w x y z q d l : ℕ) → n + (1 * c + (1 * e + (1 * g + (1 * i + (16 * u + (16 * v + (16 * w + (16 * x + (16 * y + (16 * z + (16 * q + (1 * d + 0)))))))))))) ≤ l → (pos (n + (1 * c + (1 * e + (1 * g + (1 * i + (16 * u + (16 * v + (16 * w + (16 * x + (16 * y + (16 * z + (16 * q + 0)))))))))))) +ℤ pos d) ≤ℤ pos l
store_paid n c e g i u v w x y z q d l h = omega (arith, ints, h)

-- any number of turns left is as many as are left at most
any_left : Narrower (turns_left 16) (turns_left 16)
any_left = record { least = omega arith; greatest = omega arith; even = λ k. k }

steps_back : (a : ℕ) → a + 2 + 2 + 2 + 2 + 2 + 2 + 2 - 14 ≡ a
steps_back a = omega arith

pub multiplies : (t : Sheet) (homes : Homes) (op : Op) (st n : ℕ) → BinaryFits t homes op (bare st n)
    → CodeGoes t (multiplying homes op)
    (loop_at t.board (multiplying homes op) mul_loop 4 four ∷ loop_at t.board (multiplying homes op) mul_loop 7 four ∷ plain_at t.board (multiplying homes op) 11 (any_fact 13 ∷ []) ∷ []) st n
multiplies t homes op st n fits a start h paid falls =
    let b = t.board in
    let code = multiplying homes op in
    let dest = place_of homes op.dest in
    let c = instruction_cost b (loads homes 15 op.a) in
    let e = instruction_cost b (loads homes 14 op.b) in
    let g = instruction_cost b (by MOV (Short 0) 13) in
    let i = instruction_cost b (by MOV (Imm 16) 12) in
    let u = instruction_cost b (by BIT (Short 1) 14) in
    let v = instruction_cost b (Jump JEQ (pos 1)) in
    let w = instruction_cost b (by ADD (FromReg 15) 13) in
    let x = instruction_cost b (by ADD (FromReg 15) 15) in
    let y = instruction_cost b (One RRA false (FromReg 14)) in
    let z = instruction_cost b (by SUB (Short 1) 12) in
    let q = instruction_cost b (Jump JNE (negsuc 6)) in
    let d = instruction_cost b (stores 13 dest) in
    let s = bare st n in
    let one = puts (Reg 15) any_word c false None s in
    let two = puts (Reg 14) any_word e false None one in
    let three = puts (Reg 13) any_word g false None two in
    let four_set = puts (Reg 12) (turns_left 16) i false None three in
    let pl = inner_point st n a (code_of code) (loop_at b code mul_loop 4 four) in
    let pn = inner_point st n a (code_of code) (loop_at b code mul_loop 7 four) in
    let pe = inner_point st n a (code_of code) (plain_at b code 11 (any_fact 13 ∷ [])) in
    let f = turn_cost b code mul_loop in
    let sixteen = register_passes t gone three MOV (Imm 16) 12 (turns_left 16) None (record { computes = refl; lost = refl; reads = omega arith; has = (refl, refl) }) refl (λ κ. refl) tt (lost_all (Reg 12))
    (λ κ has. record { least = omega arith; greatest = omega arith; even = λ k. absurd (let no : false ≡ true = k in cc) }) in
    let run = chain t gone s one four_set _ _ (loads_word t homes 15 op.a s refl refl refl fits.a tt) (chain t gone one two four_set _ _ (loads_word t homes 14 op.b one refl refl refl fits.b tt)
    (chain t gone two three four_set _ _ (puts_constant t 13 0 two refl refl (omega arith) tt) (chain t gone three four_set four_set _ _ sixteen (done four_set)))) in
    let store : Here t _ (known_at pe) =
    passes_here t gone _ (stores 13 dest) d (known_at pe) _ (stores_word t dest 13 (known_at pe) refl (fits_on t dest s (known_at pe) refl fits.dest) tt) (h 11 _ refl).stands
    (to_bare t _ st _ _ refl refl (ap (λ m. record { base = pos m; terms = [] }) (all_spent n c e g i u v w x y z q d)) falls) in
    let at_n = known_at pn in
    let doubled = puts (Reg 15) any_word x true None at_n in
    let halved = puts (Reg 14) any_word y true None doubled in
    let turn : Here t _ halved = turn_ends t (address_in a (code_of code) 9) (address_in a (code_of code) 4) 12 16 f _ st (negsuc 6) (by BIT (Short 1) 14) (stores 13 dest) _ _ _ _ four (any_fact 13 ∷ []) halved
    (record {
      counts = record { computes = refl; scratch = refl; same = refl; held = refl };
      lowers = (h 9 _ refl).stands;
      jump = h 10 _ refl;
      target = steps_back (address_in a (code_of code) 4);
      loop = h 4 _ refl;
      behind = h 11 _ refl;
      stretch = refl;
      spent = refl;
      range = refl;
      few = omega arith;
      again = again n c e g i u v w x y z q;
      most = leaves_loop n c e g i u v w x y z q;
      limit = loop_paid n c e g i u v w x y z q d _ paid;
      words_behind = (omega arith, tt);
      told = (narrower _ _ (record { least = omega arith; greatest = omega arith; even = λ k. k }), (narrower _ _ any_range, (narrower _ _ any_range, (narrower _ _ any_range, tt))));
      told_behind = (narrower _ _ any_range, tt);
    }) store in
    let at_skip : Here t _ at_n =
    passes_here t gone _ _ x at_n doubled (writes_register t ADD (FromReg 15) 15 at_n refl refl refl refl (refl, refl) (λ κ. refl) (refl, tt)) (h 7 _ refl).stands
    (fallen t _ _ 0 doubled (plain_stands t _ _ (h 8 _ refl)) (affords_turn t 0 f 12 16 doubled _ refl refl (double_paid n c e g i u v w x y z q d _ paid))
    (passes_here t gone _ _ y doubled halved (one_passes t gone doubled RRA 14 refl refl refl (refl, tt) (lost_all (Reg 14))) (h 8 _ refl).stands
    (fallen t _ _ 0 halved (plain_stands t _ _ (h 9 _ refl)) (affords_turn t 0 f 12 16 halved _ refl refl (halve_paid n c e g i u v w x y z q d _ paid)) turn))) in
    let at_l = known_at pl in
    let bit = compares u None at_l in
    let jumped = pays v bit in
    let summed = puts (Reg 13) any_word w true None jumped in
    let from_sum : Promises summed pn = record {
      stretch = refl;
      facts = (narrower _ _ any_left, (narrower _ _ any_range, (narrower _ _ any_range, (narrower _ _ any_range, tt))));
      fresh = refl;
      spent = λ κ has. spent_same summed κ pn _ _ f 12 refl refl refl (sums n c e g i u v w x y z q) has;
    } in
    let from_skip : Promises jumped pn = record {
      stretch = refl;
      facts = (narrower _ _ any_left, (narrower _ _ any_range, (narrower _ _ any_range, (narrower _ _ any_range, tt))));
      fresh = refl;
      spent = λ κ has. spent_same jumped κ pn _ _ f 12 refl refl refl (skips n c e g i u v w x y z q) has;
    } in
    let loop : Here t _ at_l =
    passes_here t gone _ _ u at_l bit (compare_passes t gone at_l BIT (Short 1) 14 None (record { computes = refl; lost = refl; reads = omega arith; has = (refl, refl) }) refl refl (λ κ. refl)) (h 4 _ refl).stands
    (fallen t _ _ 0 bit (plain_stands t _ _ (h 5 _ refl)) (affords_turn t 0 f 12 16 bit _ refl refl (bit_paid n c e g i u v w x y z q d _ paid))
    (jumps_blindly t _ JEQ (pos 1) bit (h 5 _ refl).stands refl refl refl
    (fallen t _ _ 0 jumped (plain_stands t _ _ (h 6 _ refl)) (affords_turn t 0 f 12 16 jumped _ refl refl (skip_paid n c e g i u v w x y z q d _ paid))
    (passes_here t gone _ _ w jumped summed (writes_register t ADD (FromReg 15) 13 jumped refl refl refl refl (refl, refl) (λ κ. refl) (refl, tt)) (h 6 _ refl).stands
    (into_point t _ 0 _ pn summed (h 7 _ refl) from_sum (affords_turn t 0 f 12 16 summed _ refl refl (sum_paid n c e g i u v w x y z q d _ paid)) (omega arith, (omega arith, (omega arith, (omega arith, tt)))) at_skip)))
    (onto_point t _ 0 _ pn jumped (h 7 _ refl) from_skip (affords_turn t 0 f 12 16 jumped _ refl refl (skip_paid n c e g i u v w x y z q d _ paid))))) in
    let entering : Promises four_set pl = record {
      stretch = refl;
      facts = (narrower _ _ any_left, (narrower _ _ any_range, (narrower _ _ any_range, (narrower _ _ any_range, tt))));
      fresh = refl;
      spent = λ κ has. spent_enters four_set κ pl _ _ f 12 (turns_left 16) refl refl refl (enters n c e g i u v w x y z q) has;
    } in
    runs_here t gone a 0 s four_set _ _ _ run ((h 0 _ refl).stands, (plain_stands t _ _ (h 1 _ refl), (plain_stands t _ _ (h 2 _ refl), (plain_stands t _ _ (h 3 _ refl), tt))))
    (affords_plain t _ s (pos n) refl (first_paid n c e g i u v w x y z q d _ paid))
    (into_point t _ 0 _ pl four_set (h 4 _ refl) entering (affords_plain t 0 four_set _ refl (entry_paid n c e g i u v w x y z q d _ paid)) (omega arith, (omega arith, (omega arith, (omega arith, tt)))) loop)
