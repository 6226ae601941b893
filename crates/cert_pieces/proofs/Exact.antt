-- One instruction of the sweep from a state that is known exactly.
use Rattle.std.proofs.Common.{◌≡◌, ℕ, ◌+◌, ◌*◌, ◌<◌, true, Option, Some, None, sym, ap, ◌∙◌, subst}
use Rattle.std.specs.Prelude.{pos}
use Rattle.std.specs.Int.Signed.{le_z}
use Rattle.certificate.specs.Rows.{Point}
use Rattle.msp430_isa.specs.declared.instr.Instr.{Instr}
use Rattle.msp430_isa.specs.Encoding.{length_of}
use Rattle.cert_rules.specs.Forms.{kind_of}
use Rattle.cert_rules.specs.Known.{Known, known_at}
use Rattle.cert_rules.specs.Tables.{point_at}
use Rattle.cert_rules.specs.Sheet.{Sheet}
use Rattle.cert_rules.specs.Standing.{AnInstruction}
use Rattle.cert_rules.specs.Shapes.{turns_at, turns_fault, turns_at_point, counter_of}
use Rattle.cert_rules.specs.Outcomes.{falls_only, outcome_of}
use Rattle.cert_rules.specs.Going.{spent_to, limit_of, point_implied}
use Rattle.cert_rules.specs.Steps.{own_fault_by}
use Rattle.cert_rules.specs.Sweep.{Swept, known_here, or_point}
use Rattle.cert_pieces.specs.Pieces.{Has, Falls, Affords, Stands, Plain}
use Rattle.cert_pieces.proofs.Paying.{pays_for}
use Rattle.cert_pieces.proofs.Stepping.{steps, falling_fault}

-- The code falls into an address with just this state, and the sweep passes from there on.
pub record FallsAt (t : Sheet) (κ : Known) (a : ℕ) : Type 0 where
  pub inside : a < t.here.end
  pub paid : le_z (spent_to t a κ) (pos (limit_of t κ.stretch)) ≡ true
  pub implied : (from : ℕ) → point_implied from κ (point_at t.points a) ≡ None
  pub turns : turns_at t a ≡ None
  pub swept : Swept t a (Some κ) None

pub this_falls : (t : Sheet) (a : ℕ) (s κ : Known) → Has s κ → Falls t s a → FallsAt t κ a
this_falls t a s κ h falls = record {
  inside = falls.inside;
  paid = subst (λ n. le_z (spent_to t a κ) (pos (limit_of t n)) ≡ true) (sym h.stretch) (falls.paid κ h);
  implied = λ from. falls.implied from κ h;
  turns = falls.turns;
  swept = falls.swept κ h;
}

-- a plain instruction, where what comes is known exactly
pub this_fallen : (t : Sheet) (a more : ℕ) (i : Instr) (s κ : Known) → Has s κ → Plain t a i → Affords t more s → Swept t a (Some κ) None → FallsAt t κ a
this_fallen t a more i s κ h p affords swept = record {
  inside = p.stands.inside;
  paid = subst (λ n. le_z (spent_to t a κ) (pos (limit_of t n)) ≡ true) (sym h.stretch) (pays_for t a more s κ affords p.stands.head h);
  implied = λ from. ap (λ o. point_implied from κ o) p.none;
  turns = ap (λ o. turns_at_point t a o) p.none;
  swept = swept;
}

pub plain_here : (t : Sheet) (a : ℕ) (i : Instr) (κ : Known) → Plain t a i → known_here t a (Some κ) ≡ Some κ
plain_here t a i κ p = ap (λ o. or_point o (Some κ)) p.none

pub falls_on_this : (t : Sheet) (a : ℕ) (i : Instr) (incoming : Option Known) (κ after : Known) → Stands t a i → known_here t a incoming ≡ Some κ
    → own_fault_by t a κ i (kind_of i) ≡ None
    → outcome_of t (a + 2 * length_of i) κ i (kind_of i) ≡ falls_only after
    → κ.stretch ≡ after.stretch → FallsAt t after (a + 2 * length_of i) → Swept t a incoming None
falls_on_this t a i incoming κ after st here own goes same falls =
    let next = a + 2 * length_of i in
    steps t a i incoming κ (falls_only after) st here own goes
    (ap (λ n. turns_fault a (counter_of (AnInstruction i)) n) falls.turns)
    (falling_fault t κ.stretch a next after falls.inside (subst (λ h. le_z (spent_to t next after) (pos (limit_of t h)) ≡ true) (sym same) falls.paid) (falls.implied a))
    falls.swept

the_same : (κ ρ : Known) → Some κ ≡ Some ρ → κ ≡ ρ
the_same κ ρ e = cc

-- at a point what is known is what it says
pub is_at_point : (t : Sheet) (a : ℕ) (p : Point) (incoming : Option Known) (κ : Known) → point_at t.points a ≡ Some p → known_here t a incoming ≡ Some κ → κ ≡ known_at p
is_at_point t a p incoming κ e h = the_same κ (known_at p) (sym h ∙ ap (λ o. or_point o incoming) e)
