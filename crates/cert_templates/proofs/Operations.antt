-- A template without points inside, where nothing is known but what has been spent.
use Rattle.std.proofs.Common.{◌≡◌, ℕ, suc, ◌+◌, ◌*◌, ◌≤◌, Option, None, List, [], ◌∷◌, refl, ◌∙◌, arith}
use Rattle.std.specs.Prelude.{pos, ◌+ℤ◌, ◌≤ℤ◌}
use Rattle.std.proofs.lemmas.Int.{ints}
use Rattle.certificate.specs.Rows.{Point}
use Rattle.msp430_isa.specs.declared.instr.Instr.{Instr}
use Rattle.msp430_isa.specs.Encoding.{length_of}
use Rattle.op_cost.specs.Templates.{Counted, code_of, weight_of}
use Rattle.cert_rules.specs.Known.{bare}
use Rattle.cert_rules.specs.Sheet.{Sheet}
use Rattle.cert_pieces.specs.Pieces.{AllPlain, AllStand, AllStandWith}
use Rattle.cert_templates.specs.Frames.{CodeGoes, PlainCodeFalls, leaves_word, points_on}
use Rattle.cert_pieces.proofs.Bare.{affords_plain, to_bare}

pub all_plain : (t : Sheet) (a : ℕ) (is : List Instr) (points : ℕ → Option Point) → ((k : ℕ) → points k ≡ None) → AllStandWith t a is points → AllPlain t a is
all_plain t a [] points none h = tt
all_plain t a (i ∷ is) points none h = (
  record { stands = (h 0 i refl).stands; none = (h 0 i refl).point ∙ none 0 },
  all_plain t (a + 2 * length_of i) is (λ k. points (suc k)) (λ k. none (suc k)) (λ k j e. h (suc k) j e),
)

pub all_stand : (t : Sheet) (a : ℕ) (is : List Instr) (first : Option Point) → AllStandWith t a is (points_on first (λ k. None)) → AllStand t a is
all_stand t a [] first h = tt
all_stand t a (i ∷ is) first h = ((h 0 i refl).stands, all_plain t (a + 2 * length_of i) is (λ k. None) (λ k. refl) (λ k j e. h (suc k) j e))

enough : (n w l : ℕ) → n + w ≤ l → (pos n +ℤ pos (w + 0)) ≤ℤ pos l
enough n w l h = omega (arith, ints, h)

-- code without points inside
pub straight_goes : (t : Sheet) (code : List Counted) (d st n : ℕ) → PlainCodeFalls t code (bare st n) (leaves_word d (weight_of t.board code) (bare st n)) → CodeGoes t code [] st n
straight_goes t code d st n passes a first h paid falls =
    passes a 0 (all_stand t a (code_of code) first h) (affords_plain t _ (bare st n) (pos n) refl (enough n (weight_of t.board code) _ paid))
    (to_bare t _ st _ _ refl refl refl falls)
