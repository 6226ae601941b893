-- The templates that compare: 1 goes to R13, and 0 where the jump isn't taken.
use Rattle.std.proofs.Common.{◌≡◌, ℕ, ◌+◌, ◌*◌, ◌≤◌, true, false, None, List, [], ◌∷◌, refl, ap, arith}
use Rattle.std.specs.Prelude.{pos, ◌+ℤ◌, ◌≤ℤ◌}
use Rattle.std.proofs.lemmas.Int.{ints}
use Rattle.certificate.specs.declared.cert.Slot.TheVariants.{Reg}
use Rattle.msp430_isa.specs.declared.instr.Src.TheVariants.{Reg as FromReg, Short}
use Rattle.msp430_isa.specs.declared.instr.TwoOp.TheVariants.{Mov as MOV, Cmp as CMP}
use Rattle.msp430_isa.specs.declared.instr.Cond.{Cond}
use Rattle.msp430_isa.specs.declared.instr.Cond.TheVariants.{Jne as JNE, Jeq as JEQ, Jnc as JNC, Jc as JC, Jge as JGE, Jl as JL}
use Rattle.msp430_isa.specs.declared.instr.Instr.TheVariants.{Jump}
use Rattle.msp430_machine.specs.Cost.{instruction_cost}
use Rattle.flow_graph.specs.declared.graph.Op.{Op}
use Rattle.flow_graph.specs.declared.graph.OpKind.{OpKind}
use Rattle.flow_graph.specs.declared.graph.OpKind.TheVariants as kind
use Rattle.op_cost.specs.Templates.{Counted, Homes, code_of, by, once, loads, stores, place_of, length_in}
use Rattle.cert_rules.specs.Ranges.{any_word}
use Rattle.cert_rules.specs.Known.{Known, bare, is_set, known_at}
use Rattle.cert_rules.specs.Effects.{is_always}
use Rattle.cert_rules.specs.Sheet.{Sheet}
use Rattle.cert_pieces.specs.Pieces.{Here, Affords, Promises, Passes, puts, compares, pays, narrower}
use Rattle.cert_templates.specs.Frames.{CodeGoes, inner_by, template_as, compared_at, inner_point, plain_at, any_fact}
use Rattle.cert_pieces.proofs.Paying.{affords_pays}
use Rattle.cert_pieces.proofs.Writing.{any_range}
use Rattle.cert_pieces.proofs.Straight.{passes_here, passes_on, fallen, runs_here, runs_afford}
use Rattle.cert_templates.proofs.Templates.{BinaryFits, chain, fits_on}
use Rattle.cert_pieces.proofs.Pointing.{spent_plain}
use Rattle.cert_pieces.proofs.Jumping.{jumps_blindly}
use Rattle.cert_pieces.proofs.Bare.{gone, to_bare, affords_plain, into_point, onto_point, plain_stands}
use Rattle.cert_templates.proofs.Loading.{loads_word, puts_constant, stores_word, compares_register}
use Rattle.cert_pieces.specs.Pieces.{done}

abbrev comparing : Homes → Op → ℕ → ℕ → Cond → List Counted
comparing homes op q r on =
    once (loads homes 15 op.a ∷ loads homes 14 op.b ∷ by MOV (Short 1) 13 ∷ by CMP (FromReg q) r ∷ Jump on (pos 1) ∷ by MOV (Short 0) 13 ∷ stores 13 (place_of homes op.dest) ∷ [])

all_paid : (n a b c d e f g l : ℕ) → n + (1 * a + (1 * b + (1 * c + (1 * d + (1 * e + (1 * f + (1 * g + 0))))))) ≤ l → (pos n +ℤ pos ((a + (b + (c + (d + 0)))) + (e + (f + g)))) ≤ℤ pos l
all_paid n a b c d e f g l h = omega (arith, ints, h)

store_paid : (n a b c d e f g l : ℕ) → n + (1 * a + (1 * b + (1 * c + (1 * d + (1 * e + (1 * f + (1 * g + 0))))))) ≤ l → (pos (n + (1 * a + (1 * b + (1 * c + (1 * d + (1 * e + (1 * f + 0))))))) +ℤ pos g) ≤ℤ pos l
store_paid n a b c d e f g l h = omega (arith, ints, h)

promised_fall : (n a b c d e f : ℕ) → pos (n + a + b + c + d + e + f) ≤ℤ pos (n + (1 * a + (1 * b + (1 * c + (1 * d + (1 * e + (1 * f + 0)))))))
promised_fall n a b c d e f = omega (arith, ints)

promised_jump : (n a b c d e f : ℕ) → pos (n + a + b + c + d + e) ≤ℤ pos (n + (1 * a + (1 * b + (1 * c + (1 * d + (1 * e + (1 * f + 0)))))))
promised_jump n a b c d e f = omega (arith, ints)

all_spent : (n a b c d e f g : ℕ) → n + (1 * a + (1 * b + (1 * c + (1 * d + (1 * e + (1 * f + 0)))))) + g ≡ n + (1 * a + (1 * b + (1 * c + (1 * d + (1 * e + (1 * f + (1 * g + 0)))))))
all_spent n a b c d e f g = omega arith

pub compares_words : (t : Sheet) (homes : Homes) (op : Op) (st n q r : ℕ) (on : Cond) → is_always on ≡ false → BinaryFits t homes op (bare st n)
    → ((s : Known) → is_set s 14 ≡ true → is_set s 15 ≡ true → Passes t gone (by CMP (FromReg q) r) (instruction_cost t.board (by CMP (FromReg q) r)) s (compares (instruction_cost t.board (by CMP (FromReg q) r)) None s))
    → CodeGoes t (comparing homes op q r on) (compared_at t.board (comparing homes op q r on)) st n
compares_words t homes op st n q r on always fits compared a start h paid falls =
    let b = t.board in
    let code = comparing homes op q r on in
    let d = place_of homes op.dest in
    let s = bare st n in
    let one = puts (Reg 15) any_word (instruction_cost b (loads homes 15 op.a)) s.flags None s in
    let two = puts (Reg 14) any_word (instruction_cost b (loads homes 14 op.b)) one.flags None one in
    let three = puts (Reg 13) any_word (instruction_cost b (by MOV (Short 1) 13)) two.flags None two in
    let four = compares (instruction_cost b (by CMP (FromReg q) r)) None three in
    let jump = instruction_cost b (Jump on (pos 1)) in
    let c = instruction_cost b (by MOV (Short 0) 13) in
    let set = puts (Reg 13) any_word c true None (pays jump four) in
    let last = instruction_cost b (stores 13 d) in
    let p = inner_point st n a (code_of code) (plain_at b code 6 (any_fact 13 ∷ [])) in
    let run = chain t gone s one four _ _ (loads_word t homes 15 op.a s refl refl refl fits.a tt) (chain t gone one two four _ _ (loads_word t homes 14 op.b one refl refl refl fits.b tt)
    (chain t gone two three four _ _ (puts_constant t 13 1 two refl refl (omega arith) tt) (chain t gone three four four _ _ (compared three refl refl) (done four)))) in
    let first : Affords t _ s = affords_plain t _ s (pos n) refl (all_paid n _ _ _ _ jump c last _ paid) in
    let at_jump : Affords t (jump + (c + last)) four = runs_afford t gone s four _ _ (jump + (c + last)) run first in
    let behind_jump : Affords t (c + last) (pays jump four) = affords_pays t jump four (c + last) at_jump in
    let zero = puts_constant t 13 0 (pays jump four) refl refl (omega arith) tt in
    let stored : Here t _ (known_at p) =
    passes_here t gone _ (stores 13 d) last (known_at p) _ (stores_word t d 13 (known_at p) refl (fits_on t d s (known_at p) refl fits.dest) tt) (h 6 _ refl).stands
    (to_bare t _ st _ _ refl refl (ap (λ m. record { base = pos m; terms = [] }) (all_spent n _ _ _ _ _ _ _)) falls) in
    let from_fall : Promises set p = record { stretch = refl; facts = (narrower _ _ any_range, tt); fresh = refl; spent = λ κ has. spent_plain set κ p _ _ refl refl (promised_fall n _ _ _ _ _ _) has } in
    let from_jump : Promises (pays jump four) p = record { stretch = refl; facts = (narrower _ _ any_range, tt); fresh = refl; spent = λ κ has. spent_plain (pays jump four) κ p _ _ refl refl (promised_jump n _ _ _ _ _ c) has } in
    runs_here t gone a (jump + (c + last)) s four _ _ _ run ((h 0 _ refl).stands, (plain_stands t _ _ (h 1 _ refl), (plain_stands t _ _ (h 2 _ refl), (plain_stands t _ _ (h 3 _ refl), tt)))) first
    (fallen t _ _ (jump + (c + last)) four (plain_stands t _ _ (h 4 _ refl)) at_jump
    (jumps_blindly t _ on (pos 1) four (h 4 _ refl).stands always refl refl
    (passes_on t gone _ _ c last (pays jump four) set zero (plain_stands t _ _ (h 5 _ refl)) behind_jump
    (into_point t _ last _ p set (h 6 _ refl) from_fall (zero.affords last behind_jump) (omega arith, tt) stored))
    (onto_point t _ (c + last) _ p (pays jump four) (h 6 _ refl) from_jump behind_jump)))

-- the code of a comparison is this one
abbrev pub ComparisonGoes : Sheet → Homes → Op → OpKind → ℕ → ℕ → ℕ → Type 0
ComparisonGoes t homes op k target st n = BinaryFits t homes op (bare st n) → CodeGoes t (template_as k homes target op) (inner_by k t.board (length_in op.array) (template_as k homes target op)) st n

compared_15 : (t : Sheet) (s : Known) → is_set s 14 ≡ true → is_set s 15 ≡ true → Passes t gone (by CMP (FromReg 14) 15) (instruction_cost t.board (by CMP (FromReg 14) 15)) s (compares (instruction_cost t.board (by CMP (FromReg 14) 15)) None s)
compared_15 t s h k = compares_register t (FromReg 14) 15 None s refl refl h k (λ κ. refl)

compared_14 : (t : Sheet) (s : Known) → is_set s 14 ≡ true → is_set s 15 ≡ true → Passes t gone (by CMP (FromReg 15) 14) (instruction_cost t.board (by CMP (FromReg 15) 14)) s (compares (instruction_cost t.board (by CMP (FromReg 15) 14)) None s)
compared_14 t s h k = compares_register t (FromReg 15) 14 None s refl refl k h (λ κ. refl)

module _ (t : Sheet) (homes : Homes) (op : Op) (target st n : ℕ) where
  pub equals : ComparisonGoes t homes op kind.Eq target st n
  equals fits = compares_words t homes op st n 14 15 JEQ refl fits (compared_15 t)

  pub differs : ComparisonGoes t homes op kind.Ne target st n
  differs fits = compares_words t homes op st n 14 15 JNE refl fits (compared_15 t)

  pub is_less_signed : ComparisonGoes t homes op kind.LtS target st n
  is_less_signed fits = compares_words t homes op st n 14 15 JL refl fits (compared_15 t)

  pub is_less : ComparisonGoes t homes op kind.LtU target st n
  is_less fits = compares_words t homes op st n 14 15 JNC refl fits (compared_15 t)

  pub is_at_most_signed : ComparisonGoes t homes op kind.LeS target st n
  is_at_most_signed fits = compares_words t homes op st n 15 14 JGE refl fits (compared_14 t)

  pub is_at_most : ComparisonGoes t homes op kind.LeU target st n
  is_at_most fits = compares_words t homes op st n 15 14 JC refl fits (compared_14 t)
