-- What the divisions are made of: a negative where a sign asks for it, and the loop.
use Rattle.std.proofs.Common.{◌≡◌, ℕ, ◌+◌, ◌*◌, ◌-◌, ◌≤◌, Bool, true, false, Option, Some, None, List, [], refl, sym, ap, subst, arith}
use Rattle.std.specs.Prelude.{pos, negsuc, is_some, ◌&&◌, ◌+ℤ◌, ◌≤ℤ◌}
use Rattle.std.proofs.lemmas.Int.{ints}
use Rattle.certificate.specs.declared.cert.Slot.TheVariants.{Reg}
use Rattle.certificate.specs.declared.cert.Fact.{Fact}
use Rattle.msp430_isa.specs.declared.instr.Src.TheVariants.{Reg as FromReg, Short}
use Rattle.msp430_isa.specs.declared.instr.TwoOp.TheVariants.{Add as ADD, Addc as ADDC, Sub as SUB, Cmp as CMP, Xor as XOR}
use Rattle.msp430_isa.specs.declared.instr.Cond.TheVariants.{Jne as JNE, Jnc as JNC, Jc as JC, Jge as JGE}
use Rattle.msp430_isa.specs.declared.instr.Instr.{Instr}
use Rattle.msp430_isa.specs.declared.instr.Instr.TheVariants.{Jump}
use Rattle.msp430_machine.specs.Cost.{instruction_cost}
use Rattle.op_cost.specs.Templates.{by}
use Rattle.cert_rules.specs.Ranges.{Range, any_word}
use Rattle.cert_rules.specs.Slots.{same_slot, is_held}
use Rattle.cert_rules.specs.Spending.{paying}
use Rattle.cert_rules.specs.Forms.{Computes, kind_of}
use Rattle.cert_rules.specs.Known.{Known, Test, is_set, known_at, range_in}
use Rattle.cert_rules.specs.Accesses.{is_kept}
use Rattle.cert_rules.specs.Effects.{on_edge, test_of}
use Rattle.cert_rules.specs.Places.{Number, InReg}
use Rattle.cert_rules.specs.Sheet.{Sheet}
use Rattle.cert_rules.specs.Going.{limit_of}
use Rattle.cert_pieces.specs.Pieces.{Tells, anything, narrower, Lands, Here, Stands, StandsWith, AllTold, Free, puts, compares, pays, narrows_to}
use Rattle.cert_pieces.proofs.Writing.{any_range}
use Rattle.cert_pieces.proofs.Straight.{passes_here, fallen}
use Rattle.cert_pieces.proofs.Pointing.{spent_plain}
use Rattle.cert_pieces.proofs.Jumping.{jumps_blindly}
use Rattle.cert_pieces.proofs.Bare.{gone, affords_plain, affords_turn, into_point, onto_point, plain_stands, spent_same, OfWords}
use Rattle.cert_pieces.proofs.Edges.{jumps_freely, at_least_one}
use Rattle.cert_templates.proofs.Loading.{writes_register, compares_register}
use Rattle.cert_templates.proofs.Turning.{turns_left, counted, turn_ends, looped, plainly, told_by, some_hit}

-- ---- CMP #0,Rs; JGE; XOR #-1,Rr; ADD #1,Rr

abbrev negative_xor : ℕ → Instr
negative_xor r = by XOR (Short 65535) r

abbrev negative_add : ℕ → Instr
negative_add r = by ADD (Short 1) r

abbrev sign_test : ℕ → Instr
sign_test q = by CMP (Short 0) q

-- where these stand, and a point behind them
pub record NegatesAt (t : Sheet) (a q r st y : ℕ) (facts : List Fact) (i : Instr) (x : ℕ) : Type 0 where
  pub compare : Stands t a (sign_test q)
  pub jump : StandsWith t (a + 2) (Jump JGE (pos 2)) None
  pub inverts : StandsWith t (a + 2 + 2) (negative_xor r) None
  pub adds : StandsWith t (a + 2 + 2 + 2) (negative_add r) None
  pub behind : StandsWith t (a + 2 + 2 + 2 + 2) i (Some (plainly x st y facts))

-- what is asked of the state before them
pub record NegatesFrom (t : Sheet) (q r st z y : ℕ) (facts : List Fact) (s : Known) : Type 0 where
  pub set : is_set s q ≡ true
  pub set_r : is_set s r ≡ true
  pub stretch : s.stretch ≡ st
  pub spent : s.spent ≡ record { base = pos z; terms = [] }
  pub sum : z + instruction_cost t.board (sign_test q) + instruction_cost t.board (Jump JGE (pos 2)) + instruction_cost t.board (negative_xor r) + instruction_cost t.board (negative_add r) ≤ y
  pub limit : y ≤ limit_of t st
  pub words : OfWords facts
  pub told : AllTold s facts
  pub told_negative : AllTold (puts (Reg r) any_word 0 false None (puts (Reg r) any_word 0 false None s)) facts

-- two registers, one of them tested for its sign and one that is made negative
pub record Signs (q r : ℕ) : Type 0 where
  pub compares : (κ : Known) → test_of CMP (Number 0) (InReg q) ≡ Some (record { of = Reg q; with = 0; ordered = true })
  pub kept : is_kept q ≡ false
  pub computes : kind_of (sign_test q) ≡ Computes
  pub scratch : is_kept r ≡ false
  pub inverts : kind_of (negative_xor r) ≡ Computes
  pub adds : kind_of (negative_add r) ≡ Computes
  pub untold_xor : test_of XOR (Number 65535) (InReg r) ≡ None
  pub untold_add : test_of ADD (Number 1) (InReg r) ≡ None
  pub hit : same_slot (Reg r) (Reg r) && is_held (Reg r) ≡ true

free_jump : (x : Test) (taken : Bool) (κ : Known) → on_edge JGE taken (Some x) κ ≡ Some κ
free_jump x taken κ = refl

paid_0 : (z c d e f y l : ℕ) → z + c + d + e + f ≤ y → y ≤ l → (pos z +ℤ pos 0) ≤ℤ pos l
paid_0 z c d e f y l h k = omega (arith, ints, h, k)

paid_1 : (z c d e f y l : ℕ) → z + c + d + e + f ≤ y → y ≤ l → (pos (z + c) +ℤ pos 0) ≤ℤ pos l
paid_1 z c d e f y l h k = omega (arith, ints, h, k)

paid_2 : (z c d e f y l : ℕ) → z + c + d + e + f ≤ y → y ≤ l → (pos (z + c + d) +ℤ pos 0) ≤ℤ pos l
paid_2 z c d e f y l h k = omega (arith, ints, h, k)

paid_3 : (z c d e f y l : ℕ) → z + c + d + e + f ≤ y → y ≤ l → (pos (z + c + d + e) +ℤ pos 0) ≤ℤ pos l
paid_3 z c d e f y l h k = omega (arith, ints, h, k)

paid_4 : (z c d e f y l : ℕ) → z + c + d + e + f ≤ y → y ≤ l → (pos (z + c + d + e + f) +ℤ pos 0) ≤ℤ pos l
paid_4 z c d e f y l h k = omega (arith, ints, h, k)

spent_2 : (z c d e f y : ℕ) → z + c + d + e + f ≤ y → pos (z + c + d) ≤ℤ pos y
spent_2 z c d e f y h = omega (arith, ints, h)

spent_4 : (z c d e f y : ℕ) → z + c + d + e + f ≤ y → pos (z + c + d + e + f) ≤ℤ pos y
spent_4 z c d e f y h = omega (arith, ints, h)

over : (n : ℕ) → n + 2 * 2 ≡ n + 2 + 2
over n = omega arith

pub negates_unless : (t : Sheet) (a q r st z y : ℕ) (facts : List Fact) (i : Instr) (x : ℕ) (s : Known) → Signs q r → NegatesAt t a q r st y facts i x → NegatesFrom t q r st z y facts s
    → Here t (a + 2 + 2 + 2 + 2) (known_at (plainly x st y facts)) → Here t a s
negates_unless t a q r st z y facts i x s is at from here =
    let c = instruction_cost t.board (sign_test q) in
    let d = instruction_cost t.board (Jump JGE (pos 2)) in
    let e = instruction_cost t.board (negative_xor r) in
    let f = instruction_cost t.board (negative_add r) in
    let l = limit_of t s.stretch in
    let limit : y ≤ l = subst (λ m. y ≤ limit_of t m) (sym from.stretch) from.limit in
    let free : Free (Reg r) s.spent.terms = subst (λ m. Free (Reg r) m.terms) (sym from.spent) tt in
    let test : Option Test = Some (record { of = Reg q; with = 0; ordered = true }) in
    let u = compares c test s in
    let v = pays d u in
    let w = puts (Reg r) any_word e true None v in
    let o = puts (Reg r) any_word f true None w in
    let su = ap (λ m. paying c m) from.spent in
    let sv = ap (λ m. paying d m) su in
    let sw = ap (λ m. paying e m) sv in
    let so = ap (λ m. paying f m) sw in
    let p = plainly x st y facts in
    passes_here t gone a (sign_test q) c s u (compares_register t (Short 0) q test s is.computes is.kept (omega arith) from.set is.compares) at.compare
    (fallen t (a + 2) (Jump JGE (pos 2)) 0 u (plain_stands t _ _ at.jump) (affords_plain t 0 u _ su (paid_1 z c d e f y l from.sum limit))
    (jumps_freely t (a + 2) JGE (pos 2) u at.jump.stands refl refl (λ taken κ. refl)
    (fallen t (a + 2 + 2) (negative_xor r) 0 v (plain_stands t _ _ at.inverts) (affords_plain t 0 v _ sv (paid_2 z c d e f y l from.sum limit))
    (passes_here t gone (a + 2 + 2) (negative_xor r) e v w (writes_register t XOR (Short 65535) r v is.inverts is.scratch refl (omega arith) (from.set_r, refl) (λ κ. is.untold_xor) free) at.inverts.stands
    (fallen t (a + 2 + 2 + 2) (negative_add r) 0 w (plain_stands t _ _ at.adds) (affords_plain t 0 w _ sw (paid_3 z c d e f y l from.sum limit))
    (passes_here t gone (a + 2 + 2 + 2) (negative_add r) f w o (writes_register t ADD (Short 1) r w is.adds is.scratch refl (omega arith) (some_hit _ any_word (v.range (Reg r)) is.hit, refl) (λ κ. is.untold_add) free) at.adds.stands
    (into_point t (a + 2 + 2 + 2 + 2) 0 i p o at.behind
    (record {
      stretch = from.stretch;
      facts = told_by (puts (Reg r) any_word 0 false None (puts (Reg r) any_word 0 false None s)) o refl facts from.told_negative;
      fresh = refl;
      spent = λ κ has. spent_plain o κ p _ _ so refl (spent_4 z c d e f y from.sum) has;
    })
    (affords_plain t 0 o _ so (paid_4 z c d e f y l from.sum limit)) from.words here)))))
    (subst (λ b. Lands t v b) (sym (over (a + 2 + 2)))
    (onto_point t (a + 2 + 2 + 2 + 2) 0 i p v at.behind
    (record { stretch = from.stretch; facts = told_by s v refl facts from.told; fresh = refl; spent = λ κ has. spent_plain v κ p _ _ sv refl (spent_2 z c d e f y from.sum) has })
    (affords_plain t 0 v _ sv (paid_2 z c d e f y l from.sum limit))))))

-- ---- The loop

-- Facts of the loop's points: they tell R12 to R15, and maybe R11; and those of the point behind it, which tell R13 and R15 of these.
pub record LoopFacts (facts behind : List Fact) : Type 0 where
  pub counter : range_in facts (Reg 12) ≡ Some (turns_left 16)
  pub rest : range_in facts (Reg 13) ≡ Some any_word
  pub divisor : range_in facts (Reg 14) ≡ Some any_word
  pub quotient : range_in facts (Reg 15) ≡ Some any_word
  pub words : OfWords facts
  pub words_behind : OfWords behind
  pub told : (v : Known) → Tells (range_in facts (Reg 11)) (v.range (Reg 11)) → Tells (Some (turns_left 16)) (v.range (Reg 12)) → Tells (Some any_word) (v.range (Reg 13)) → Tells (Some any_word) (v.range (Reg 14))
      → Tells (Some any_word) (v.range (Reg 15)) → AllTold v facts
  pub told_behind : (v : Known) → Tells (range_in facts (Reg 11)) (v.range (Reg 11)) → Tells (Some any_word) (v.range (Reg 13)) → Tells (Some any_word) (v.range (Reg 15)) → AllTold v behind

abbrev doubling : Instr
doubling = by ADD (FromReg 15) 15

abbrev carrying : Instr
carrying = by ADDC (FromReg 13) 13

abbrev fitting : Instr
fitting = by CMP (FromReg 14) 13

abbrev taking_out : Instr
taking_out = by SUB (FromReg 14) 13

abbrev counting : Instr
counting = by ADD (Short 1) 15

abbrev counting_down : Instr
counting_down = by SUB (Short 1) 12

-- where the loop stands, and its points
pub record DividesAt (t : Sheet) (a st f yl ys yn ye xl xs xn xe : ℕ) (facts behind : List Fact) (i : Instr) : Type 0 where
  pub doubles : StandsWith t a doubling (Some (looped xl st yl f 12 facts))
  pub carries : StandsWith t (a + 2) carrying None
  pub jump : StandsWith t (a + 2 + 2) (Jump JC (pos 2)) None
  pub compare : StandsWith t (a + 2 + 2 + 2) fitting None
  pub unless : StandsWith t (a + 2 + 2 + 2 + 2) (Jump JNC (pos 2)) None
  pub takes : StandsWith t (a + 2 + 2 + 2 + 2 + 2) taking_out (Some (looped xs st ys f 12 facts))
  pub counts : StandsWith t (a + 2 + 2 + 2 + 2 + 2 + 2) counting None
  pub lowers : StandsWith t (a + 2 + 2 + 2 + 2 + 2 + 2 + 2) counting_down (Some (looped xn st yn f 12 facts))
  pub again : StandsWith t (a + 2 + 2 + 2 + 2 + 2 + 2 + 2 + 2) (Jump JNE (negsuc 8)) None
  pub leaves : StandsWith t (a + 2 + 2 + 2 + 2 + 2 + 2 + 2 + 2 + 2) i (Some (plainly xe st ye behind))

-- what its points say that has been spent
pub record DivisionSums (t : Sheet) (st f yl ys yn ye : ℕ) : Type 0 where
  pub first : yl + instruction_cost t.board doubling + instruction_cost t.board carrying + instruction_cost t.board (Jump JC (pos 2)) + instruction_cost t.board fitting + instruction_cost t.board (Jump JNC (pos 2)) ≤ ys
  pub second : ys + instruction_cost t.board taking_out + instruction_cost t.board counting ≤ yn
  pub third : yn + instruction_cost t.board counting_down + instruction_cost t.board (Jump JNE (negsuc 8)) ≤ yl + f
  pub most : yl ≤ ye
  pub limit : yl ≤ limit_of t st

-- where a sum of a turn is paid for
turn_paid : (z y f l : ℕ) → z ≤ y + f → y ≤ l → (pos z +ℤ pos 0) ≤ℤ (pos l +ℤ pos f)
turn_paid z y f l h k = omega (arith, ints, h, k)

sum_le : (x y : ℕ) → x ≤ y → pos x ≤ℤ pos y
sum_le x y h = omega (arith, ints, h)

tells_self : (o : Option Range) → Tells o o
tells_self None = anything None
tells_self (Some r) = narrower r r (record { least = omega arith; greatest = omega arith; even = λ h. h })

tells_as : (r : Range) (o : Option Range) → o ≡ Some r → Tells (Some r) o
tells_as r o e = subst (λ q. Tells (Some r) q) (sym e) (tells_self (Some r))

any_told : Tells (Some any_word) (Some any_word)
any_told = narrower _ _ any_range

steps_back : (a : ℕ) → a + 2 + 2 + 2 + 2 + 2 + 2 + 2 + 2 + 2 - 18 ≡ a
steps_back a = omega arith

within_1 : (s c d n e f l g : ℕ) → s + c + d ≤ n → n + e + f ≤ l + g → s + c ≤ l + g
within_1 s c d n e f l g h k = omega (arith, h, k)

within_2 : (s c d n e f l g : ℕ) → s + c + d ≤ n → n + e + f ≤ l + g → s + c + d ≤ l + g
within_2 s c d n e f l g h k = omega (arith, h, k)

part_1 : (l d a j f u s c e n g h t : ℕ) → l + d + a + j + f + u ≤ s → s + c + e ≤ n → n + g + h ≤ l + t → l + d ≤ l + t
part_1 l d a j f u s c e n g h t p q r = omega (arith, p, q, r)

part_2 : (l d a j f u s c e n g h t : ℕ) → l + d + a + j + f + u ≤ s → s + c + e ≤ n → n + g + h ≤ l + t → l + d + a ≤ l + t
part_2 l d a j f u s c e n g h t p q r = omega (arith, p, q, r)

part_3 : (l d a j f u s c e n g h t : ℕ) → l + d + a + j + f + u ≤ s → s + c + e ≤ n → n + g + h ≤ l + t → l + d + a + j ≤ l + t
part_3 l d a j f u s c e n g h t p q r = omega (arith, p, q, r)

part_4 : (l d a j f u s c e n g h t : ℕ) → l + d + a + j + f + u ≤ s → s + c + e ≤ n → n + g + h ≤ l + t → l + d + a + j + f ≤ l + t
part_4 l d a j f u s c e n g h t p q r = omega (arith, p, q, r)

part_5 : (l d a j f u s c e n g h t : ℕ) → l + d + a + j + f + u ≤ s → s + c + e ≤ n → n + g + h ≤ l + t → l + d + a + j + f + u ≤ l + t
part_5 l d a j f u s c e n g h t p q r = omega (arith, p, q, r)

skips_takes : (l d a j f u s c e n : ℕ) → l + d + a + j + f + u ≤ s → s + c + e ≤ n → l + d + a + j + f + u ≤ n
skips_takes l d a j f u s c e n p q = omega (arith, p, q)

skips_compare : (l d a j f u s : ℕ) → l + d + a + j + f + u ≤ s → l + d + a + j ≤ s
skips_compare l d a j f u s p = omega (arith, p)

pub divides : (t : Sheet) (a st f yl ys yn ye xl xs xn xe : ℕ) (facts behind : List Fact) (i : Instr) → DividesAt t a st f yl ys yn ye xl xs xn xe facts behind i → LoopFacts facts behind
    → DivisionSums t st f yl ys yn ye → Here t (a + 2 + 2 + 2 + 2 + 2 + 2 + 2 + 2 + 2) (known_at (plainly xe st ye behind)) → Here t a (known_at (looped xl st yl f 12 facts))
divides t a st f yl ys yn ye xl xs xn xe facts behind i at is sums here =
    let b = t.board in
    let l = limit_of t st in
    let pl = looped xl st yl f 12 facts in
    let ps = looped xs st ys f 12 facts in
    let pn = looped xn st yn f 12 facts in
    let first = sums.first in
    let second = sums.second in
    let third = sums.third in
    let s13 = ap (λ o. is_some o) is.rest in
    let s14 = ap (λ o. is_some o) is.divisor in
    let s15 = ap (λ o. is_some o) is.quotient in
    let t11 = tells_self (range_in facts (Reg 11)) in
    let t12 = tells_as (turns_left 16) _ is.counter in
    let t13 = tells_as any_word _ is.rest in
    let t14 = tells_as any_word _ is.divisor in
    let t15 = tells_as any_word _ is.quotient in
    let at_n = known_at pn in
    let turn : Here t (a + 2 + 2 + 2 + 2 + 2 + 2 + 2) at_n = turn_ends t (a + 2 + 2 + 2 + 2 + 2 + 2 + 2) a 12 16 f yn st (negsuc 8) doubling i xl yl xe ye facts behind at_n
    (record {
      counts = record { computes = refl; scratch = refl; same = refl; held = refl };
      lowers = at.lowers.stands;
      jump = at.again;
      target = steps_back a;
      loop = at.doubles;
      behind = at.leaves;
      stretch = refl;
      spent = refl;
      range = is.counter;
      few = omega arith;
      again = third;
      most = sums.most;
      limit = sums.limit;
      words_behind = is.words_behind;
      told = is.told (narrows_to (Reg 12) (at_least_one 15) (counted 12 16 f yn 0 at_n)) t11 (narrower _ _ (record { least = omega arith; greatest = omega arith; even = λ k. k })) t13 t14 t15;
      told_behind = is.told_behind (narrows_to (Reg 12) any_word (counted 12 16 f yn 0 at_n)) t11 t13 t15;
    }) here in
    let at_s = known_at ps in
    let ct = instruction_cost b taking_out in
    let cc = instruction_cost b counting in
    let less = puts (Reg 13) any_word ct true None at_s in
    let more = puts (Reg 15) any_word cc true None less in
    let at_takes : Here t (a + 2 + 2 + 2 + 2 + 2) at_s =
    passes_here t gone _ taking_out ct at_s less (writes_register t SUB (FromReg 14) 13 at_s refl refl refl s14 (s13, refl) (λ κ. refl) (refl, tt)) at.takes.stands
    (fallen t _ counting 0 less (plain_stands t _ _ at.counts) (affords_turn t 0 f 12 16 less _ refl is.counter (turn_paid (ys + ct) yl f l (within_1 ys ct cc yn _ _ yl f second third) sums.limit))
    (passes_here t gone _ counting cc less more (writes_register t ADD (Short 1) 15 less refl refl refl (omega arith) (s15, refl) (λ κ. refl) (refl, tt)) at.counts.stands
    (into_point t _ 0 counting_down pn more at.lowers
    (record { stretch = refl; facts = is.told more t11 t12 any_told t14 any_told; fresh = refl; spent = λ κ has. spent_same more κ pn _ _ f 12 refl refl refl (sum_le _ _ second) has })
    (affords_turn t 0 f 12 16 more _ refl is.counter (turn_paid (ys + ct + cc) yl f l (within_2 ys ct cc yn _ _ yl f second third) sums.limit)) is.words turn))) in
    let at_l = known_at pl in
    let cd = instruction_cost b doubling in
    let ca = instruction_cost b carrying in
    let cj = instruction_cost b (Jump JC (pos 2)) in
    let cf = instruction_cost b fitting in
    let cu = instruction_cost b (Jump JNC (pos 2)) in
    let doubled = puts (Reg 15) any_word cd true None at_l in
    let carried = puts (Reg 13) any_word ca true None doubled in
    let jumped = pays cj carried in
    let compared = compares cf None jumped in
    let unfit = pays cu compared in
    passes_here t gone a doubling cd at_l doubled (writes_register t ADD (FromReg 15) 15 at_l refl refl refl s15 (s15, refl) (λ κ. refl) (refl, tt)) at.doubles.stands
    (fallen t _ carrying 0 doubled (plain_stands t _ _ at.carries) (affords_turn t 0 f 12 16 doubled _ refl is.counter (turn_paid (yl + cd) yl f l (part_1 yl cd ca cj cf cu ys ct cc yn _ _ f first second third) sums.limit))
    (passes_here t gone _ carrying ca doubled carried (writes_register t ADDC (FromReg 13) 13 doubled refl refl refl s13 (s13, refl) (λ κ. refl) (refl, tt)) at.carries.stands
    (fallen t _ (Jump JC (pos 2)) 0 carried (plain_stands t _ _ at.jump) (affords_turn t 0 f 12 16 carried _ refl is.counter (turn_paid (yl + cd + ca) yl f l (part_2 yl cd ca cj cf cu ys ct cc yn _ _ f first second third) sums.limit))
    (jumps_blindly t _ JC (pos 2) carried at.jump.stands refl refl refl
    (fallen t _ fitting 0 jumped (plain_stands t _ _ at.compare) (affords_turn t 0 f 12 16 jumped _ refl is.counter (turn_paid (yl + cd + ca + cj) yl f l (part_3 yl cd ca cj cf cu ys ct cc yn _ _ f first second third) sums.limit))
    (passes_here t gone _ fitting cf jumped compared (compares_register t (FromReg 14) 13 None jumped refl refl s14 refl (λ κ. refl)) at.compare.stands
    (fallen t _ (Jump JNC (pos 2)) 0 compared (plain_stands t _ _ at.unless) (affords_turn t 0 f 12 16 compared _ refl is.counter (turn_paid (yl + cd + ca + cj + cf) yl f l (part_4 yl cd ca cj cf cu ys ct cc yn _ _ f first second third) sums.limit))
    (jumps_blindly t _ JNC (pos 2) compared at.unless.stands refl refl refl
    (into_point t _ 0 taking_out ps unfit at.takes
    (record { stretch = refl; facts = is.told unfit t11 t12 any_told t14 any_told; fresh = refl; spent = λ κ has. spent_same unfit κ ps _ _ f 12 refl refl refl (sum_le _ _ first) has })
    (affords_turn t 0 f 12 16 unfit _ refl is.counter (turn_paid (yl + cd + ca + cj + cf + cu) yl f l (part_5 yl cd ca cj cf cu ys ct cc yn _ _ f first second third) sums.limit)) is.words at_takes)
    (subst (λ q. Lands t unfit q) (sym (over (a + 2 + 2 + 2 + 2 + 2)))
    (onto_point t _ 0 counting_down pn unfit at.lowers
    (record { stretch = refl; facts = is.told unfit t11 t12 any_told t14 any_told; fresh = refl; spent = λ κ has. spent_same unfit κ pn _ _ f 12 refl refl refl (sum_le _ _ (skips_takes yl cd ca cj cf cu ys ct cc yn first second)) has })
    (affords_turn t 0 f 12 16 unfit _ refl is.counter (turn_paid (yl + cd + ca + cj + cf + cu) yl f l (part_5 yl cd ca cj cf cu ys ct cc yn _ _ f first second third) sums.limit))))))))
    (subst (λ q. Lands t jumped q) (sym (over (a + 2 + 2 + 2)))
    (onto_point t _ 0 taking_out ps jumped at.takes
    (record { stretch = refl; facts = is.told jumped t11 t12 any_told t14 any_told; fresh = refl; spent = λ κ has. spent_same jumped κ ps _ _ f 12 refl refl refl (sum_le _ _ (skips_compare yl cd ca cj cf cu ys first)) has })
    (affords_turn t 0 f 12 16 jumped _ refl is.counter (turn_paid (yl + cd + ca + cj) yl f l (part_3 yl cd ca cj cf cu ys ct cc yn _ _ f first second third) sums.limit))))))))
