-- A test that traps where it fails.
use Rattle.std.proofs.Common.{ℕ, ◌+◌, ◌*◌, Some, None}
use Rattle.std.specs.Prelude.{pos}
use Rattle.certificate.specs.declared.cert.Slot.TheVariants.{Word}
use Rattle.certificate.specs.Rows.{Point}
use Rattle.msp430_isa.specs.declared.instr.Cond.{Cond}
use Rattle.msp430_isa.specs.declared.instr.Instr.{Instr}
use Rattle.msp430_isa.specs.declared.instr.Instr.TheVariants.{Jump}
use Rattle.msp430_isa.specs.Encoding.{length_of}
use Rattle.msp430_machine.specs.Addresses.{trap_port}
use Rattle.msp430_machine.specs.Cost.{instruction_cost}
use Rattle.op_cost.specs.Templates.{trap}
use Rattle.cert_rules.specs.Known.{Known, known_at}
use Rattle.cert_rules.specs.Sheet.{Sheet}
use Rattle.cert_pieces.specs.Pieces.{Falls, Lands, Begins, Here, Affords, Promises, Passes, StandsWith, Free}
use Rattle.cert_pieces.proofs.Straight.{passes_on, fallen}
use Rattle.cert_pieces.proofs.Bare.{gone, into_point, onto_point, at_point, plain_stands, OfWords}
use Rattle.cert_templates.proofs.Ending.{IsTrap, traps_here}

-- the address behind a comparison and its jump, and behind the trap
abbrev pub trap_at : ℕ → Instr → ℕ
trap_at a cmp = a + 2 * length_of cmp + 2

abbrev pub passed_at : ℕ → Instr → ℕ → ℕ
passed_at a cmp k = trap_at a cmp + 2 * length_of (trap k)

-- where these instructions stand, with points on the trap and behind it
pub record ChecksAt (t : Sheet) (a : ℕ) (cmp : Instr) (on : Cond) (k : ℕ) (i : Instr) (p q : Point) : Type 0 where
  pub compare : StandsWith t a cmp None
  pub jump : StandsWith t (a + 2 * length_of cmp) (Jump on (pos (length_of (trap k)))) None
  pub traps : StandsWith t (trap_at a cmp) (trap k) (Some p)
  pub passed : StandsWith t (passed_at a cmp k) i (Some q)

-- what is asked before it, behind the comparison, and on the edges of the jump
pub record ChecksFrom (t : Sheet) (cmp : Instr) (k : ℕ) (s v fall jump : Known) (p q : Point) : Type 0 where
  pub more : ℕ
  pub compares : Passes t gone cmp (instruction_cost t.board cmp) s v
  pub is_trap : IsTrap k
  pub fails : Promises fall p
  pub passes : Promises jump q
  pub first : Affords t (instruction_cost t.board cmp + more) s
  pub failed : Affords t 0 fall
  pub passed : Affords t 0 jump
  pub trapped : Affords t (instruction_cost t.board (trap k) + 0) (known_at p)
  pub words : OfWords p.facts
  pub words_passed : OfWords q.facts
  pub free : Free (Word trap_port) (known_at p).spent.terms

pub checks : (t : Sheet) (a : ℕ) (cmp : Instr) (on : Cond) (k : ℕ) (i : Instr) (s v fall jump : Known) (p q : Point) → ChecksAt t a cmp on k i p q → ChecksFrom t cmp k s v fall jump p q
    → (Falls t fall (trap_at a cmp) → Lands t jump (passed_at a cmp k) → Begins t (trap_at a cmp) → Here t (a + 2 * length_of cmp) v)
    → Here t (passed_at a cmp k) (known_at q) → Falls t s a
checks t a cmp on k i s v fall jump p q at from branches here =
    let c = instruction_cost t.board cmp in
    let trapping : Here t (trap_at a cmp) (known_at p) =
    traps_here t (trap_at a cmp) k 0 (known_at p) at.traps.stands from.is_trap from.free from.trapped at.passed.turns (at_point t (passed_at a cmp k) i q at.passed from.words_passed here) in
    passes_on t gone a cmp c from.more s v from.compares (plain_stands t a cmp at.compare) from.first
    (fallen t (a + 2 * length_of cmp) (Jump on (pos (length_of (trap k)))) from.more v (plain_stands t _ _ at.jump) (from.compares.affords from.more from.first)
    (branches
    (into_point t (trap_at a cmp) 0 (trap k) p fall at.traps from.fails from.failed from.words trapping)
    (onto_point t (passed_at a cmp k) 0 i q jump at.passed from.passes from.passed)
    (at_point t (trap_at a cmp) (trap k) p at.traps from.words trapping)))
