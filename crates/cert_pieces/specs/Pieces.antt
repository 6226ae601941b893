-- Code in pieces, each of which passes the sweep where what stands behind it does.
use Rattle.std.specs.Prelude.{is_some, ℕ, zero, suc, slice_get, ◌≡◌, ◌+◌, ◌+ℤ◌, ◌-◌, ◌*◌, ◌<◌, ◌≤◌, ◌%◌, ◌&&◌, ◌||◌, not, Bool, true, false, List, [], ◌∷◌, Option, Some, None, pos, if◌then◌else◌}
use Rattle.std.specs.Int.Signed.{le_z}
use Rattle.certificate.specs.declared.cert.Slot.{Slot}
use Rattle.certificate.specs.declared.cert.Slot.TheVariants.{Word}
use Rattle.certificate.specs.declared.cert.Term.{Term}
use Rattle.certificate.specs.declared.cert.Fact.{Fact}
use Rattle.certificate.specs.Rows.{Flat, Point}
use Rattle.msp430_isa.specs.declared.instr.Src.{Src}
use Rattle.msp430_isa.specs.declared.instr.Src.TheVariants.{Reg as FromReg, Abs as FromAbs, Imm, Short}
use Rattle.msp430_isa.specs.declared.instr.TwoOp.{TwoOp}
use Rattle.msp430_isa.specs.declared.instr.Instr.{Instr}
use Rattle.msp430_isa.specs.Encoding.{length_of}
use Rattle.msp430_isa.specs.Profile.{is_move}
use Rattle.cert_rules.specs.Ranges.{Range, any_word}
use Rattle.cert_rules.specs.Slots.{same_slot, is_held}
use Rattle.cert_rules.specs.Spending.{paying, lack}
use Rattle.cert_rules.specs.Known.{Known, Test, range_of, is_set, freshened}
use Rattle.cert_rules.specs.Places.{one_address, may_read}
use Rattle.cert_rules.specs.Tables.{point_at}
use Rattle.cert_rules.specs.Sheet.{Sheet, is_head, any_point}
use Rattle.cert_rules.specs.Standing.{AnInstruction, standing}
use Rattle.cert_rules.specs.Shapes.{form_fault, turns_at}
use Rattle.cert_rules.specs.Forms.{kind_of}
use Rattle.cert_rules.specs.Accesses.{stale, unnamed, needs_carry}
use Rattle.cert_rules.specs.Effects.{computed}
use Rattle.cert_rules.specs.Outcomes.{falls_only, outcome_of}
use Rattle.cert_rules.specs.Going.{greatest_spent, limit_of, spent_to, point_implied, may_go_to}
use Rattle.cert_rules.specs.Steps.{own_fault_by}
use Rattle.cert_rules.specs.Sweep.{Swept, known_here}

-- ---- Less known, and more

-- a value of the one range is in the other
pub record Narrower (inner outer : Range) : Type 0 where
  pub least : outer.least ≤ inner.least
  pub greatest : inner.greatest ≤ outer.greatest
  pub even : outer.even ≡ true → inner.even ≡ true

pub data Tells : Option Range → Option Range → Type 0 where
  anything : (o : Option Range) → Tells None o
  narrower : (outer inner : Range) → Narrower inner outer → Tells (Some outer) (Some inner)

-- The state that comes knows all that the other asks for, and has spent the same. What is asked for is a state too: a point's is `known_at`.
-- What the last comparison tells is asked for exactly, so that both edges of a jump can be computed.
pub record Has (asked κ : Known) : Type 0 where
  pub stretch : κ.stretch ≡ asked.stretch
  pub spent : κ.spent ≡ asked.spent
  pub range : (x : Slot) → Tells (asked.range x) (κ.range x)
  pub fresh : (a : ℕ) → asked.fresh a ≡ true → κ.fresh a ≡ true
  pub flags : asked.flags ≡ true → κ.flags ≡ true
  pub test : κ.test ≡ asked.test
  pub words : (x : Slot) → Narrower (range_of κ x) any_word

-- ---- Where code may go

-- A jump comes to an address with what is asked for. That speaks of the tables alone, so a loop needs no induction.
pub record Lands (t : Sheet) (asked : Known) (target : ℕ) : Type 0 where
  pub goes : may_go_to t target ≡ true
  pub paid : (κ : Known) → Has asked κ → le_z (spent_to t target κ) (pos (limit_of t asked.stretch)) ≡ true
  pub implied : (from : ℕ) (κ : Known) → Has asked κ → point_implied from κ (point_at t.points target) ≡ None

-- The code falls into an address, and the sweep passes from there on.
pub record Falls (t : Sheet) (asked : Known) (a : ℕ) : Type 0 where
  pub inside : a < t.here.end
  pub paid : (κ : Known) → Has asked κ → le_z (spent_to t a κ) (pos (limit_of t asked.stretch)) ≡ true
  pub implied : (from : ℕ) (κ : Known) → Has asked κ → point_implied from κ (point_at t.points a) ≡ None
  pub turns : turns_at t a ≡ None
  pub swept : (κ : Known) → Has asked κ → Swept t a (Some κ) None

-- Nothing falls into an address, and the sweep passes from there on: a point or a head is there, or the function ends.
abbrev pub Begins : Sheet → ℕ → Type 0
Begins t a = Swept t a None None

-- ---- What stands at an address

-- an instruction, with no head on it and no point within it
pub record Stands (t : Sheet) (a : ℕ) (i : Instr) : Type 0 where
  pub inside : a < t.here.end
  pub head : is_head t a ≡ false
  pub instr : standing t a ≡ AnInstruction i
  pub form : form_fault t a (AnInstruction i) ≡ None
  pub within : any_point t (a + 1) (2 * length_of i - 1) ≡ false

-- and no point on it
pub record Plain (t : Sheet) (a : ℕ) (i : Instr) : Type 0 where
  pub stands : Stands t a i
  pub none : point_at t.points a ≡ None

-- An instruction stands at an address of the function, with this point on it or none.
pub record StandsWith (t : Sheet) (a : ℕ) (i : Instr) (o : Option Point) : Type 0 where
  pub stands : Stands t a i
  pub point : point_at t.points a ≡ o
  pub begun : t.here.start ≤ a
  pub turns : turns_at t a ≡ None

-- the address of one of the instructions that stand from an address on
abbrev pub address_in : ℕ → List Instr → ℕ → ℕ
address_in a [] k = a
address_in a (i ∷ is) zero = a
address_in a (i ∷ is) (suc k) = address_in (a + 2 * length_of i) is k

-- instructions stand from an address on, with these points on them
abbrev pub AllStandWith : Sheet → ℕ → List Instr → (ℕ → Option Point) → Type 0
AllStandWith t a is points = (k : ℕ) (i : Instr) → slice_get is k ≡ Some i → StandsWith t (address_in a is k) i (points k)

-- The sweep passes from an address on, whatever comes, where what is known there has what is asked.
abbrev pub Here : Sheet → ℕ → Known → Type 0
Here t a s = (incoming : Option Known) (κ : Known) → known_here t a incoming ≡ Some κ → Has s κ → Swept t a incoming None

-- A point stands on an instruction of the function, outside heads, and no counted loop of a conditional stretch begins there.
pub record PointStands (t : Sheet) (a : ℕ) (p : Point) : Type 0 where
  pub at : point_at t.points a ≡ Some p
  pub inside : a < t.here.end
  pub head : is_head t a ≡ false
  pub goes : may_go_to t a ≡ true
  pub turns : turns_at t a ≡ None

abbrev pub range_of_fact : Fact → Range
range_of_fact f = record { least = f.least; greatest = f.greatest; even = f.even }

-- each fact is told at least as narrowly
abbrev pub AllTold : Known → List Fact → Type 0
AllTold s [] = Unit {0}
AllTold s (f ∷ facts) = Tells (Some (range_of_fact f)) (s.range f.of) × AllTold s facts

-- What is asked for implies what a point without fresh words promises.
pub record Promises (s : Known) (p : Point) : Type 0 where
  pub stretch : s.stretch ≡ p.stretch
  pub facts : AllTold s p.facts
  pub fresh : p.fresh ≡ []
  pub spent : (κ : Known) → Has s κ → le_z (lack (range_of κ) κ.spent p.spent) (pos 0) ≡ true

-- ---- What a piece leaves of what it was asked

-- a slot is written at this cost, and has a value of this range; whether flags are left and what they tell is said
abbrev pub puts : Slot → Range → ℕ → Bool → Option Test → Known → Known
puts w r c flags test κ = record κ {
  spent = paying c κ.spent;
  range = λ x. if same_slot x w && is_held w then Some r else κ.range x;
  flags = flags;
  test = test;
}

-- a word of memory is written, so it is fresh where it is in SRAM
abbrev pub puts_word : ℕ → Range → ℕ → Bool → Option Test → Known → Known
puts_word d r c flags test κ = freshened d d (puts (Word d) r c flags test κ)

-- nothing is written, and flags tell of a comparison or of nothing
abbrev pub compares : ℕ → Option Test → Known → Known
compares c test κ = record κ { spent = paying c κ.spent; flags = true; test = test }

-- a jump costs, and writes nothing
abbrev pub pays : ℕ → Known → Known
pays c κ = record κ { spent = paying c κ.spent; test = None }

-- a slot's value is in this range
abbrev pub narrows_to : Slot → Range → Known → Known
narrows_to w r κ = record κ { range = λ x. if same_slot x w && is_held w then Some r else κ.range x }

-- the bound on what is spent has no term of this slot
abbrev pub Free : Slot → List Term → Type 0
Free w [] = Unit {0}
Free w (t ∷ terms) = (same_slot t.of w ≡ false) × Free w terms

-- each slot of these terms has a range in what is asked
abbrev pub Ranged : Known → List Term → Type 0
Ranged κ [] = Unit {0}
Ranged κ (t ∷ terms) = (is_some (κ.range t.of) ≡ true) × Ranged κ terms

-- The cost of the stretch pays for what is asked, and for so much more.
pub record Affords (t : Sheet) (more : ℕ) (s : Known) : Type 0 where
  pub ranged : Ranged s s.spent.terms
  pub pays : le_z (greatest_spent s +ℤ pos more) (pos (limit_of t s.stretch)) ≡ true

-- ---- What operands are asked for

abbrev pub Named : Option Flat → ℕ → Type 0
Named None d = Unit {0}
Named (Some f) d = unnamed f.writes d ≡ false

-- a register is set, a word may be read and isn't stale, a constant is a word; other sources are dealt with by themselves
abbrev pub ReadsFrom : Known → Src → Type 0
ReadsFrom s (FromReg r) = is_set s r ≡ true
ReadsFrom s (FromAbs a) = (a % 2 ≡ 0) × (may_read (one_address a) ≡ true) × (stale s a ≡ false)
ReadsFrom s (Imm v) = v ≤ 65535
ReadsFrom s (Short v) = v ≤ 65535
ReadsFrom s src = ⊥

-- what an operation reads besides its source: its destination but for MOV, and the carry for ADDC
abbrev pub ReadsRegister : Known → TwoOp → ℕ → Type 0
ReadsRegister s op r = ((is_move op || is_set s r) ≡ true) × ((not (needs_carry op) || s.flags) ≡ true)

-- ---- Code that only computes

-- Slots that code may write, and what it leaves of a state at this cost: all but these.
pub record Keeps (lost : Slot → Bool) (c : ℕ) (s u : Known) : Type 0 where
  pub stretch : u.stretch ≡ s.stretch
  pub spent : u.spent ≡ paying c s.spent
  pub range : (x : Slot) → lost x ≡ false → u.range x ≡ s.range x
  pub fresh : (a : ℕ) → s.fresh a ≡ true → u.fresh a ≡ true

-- a slot is one of those
abbrev pub IsLost : (Slot → Bool) → Slot → Type 0
IsLost lost w = (x : Slot) → lost x ≡ false → same_slot x w ≡ false

-- no term is of one of those
abbrev pub AllKept : (Slot → Bool) → List Term → Type 0
AllKept lost [] = Unit {0}
AllKept lost (t ∷ terms) = (lost t.of ≡ false) × AllKept lost terms

-- what is told behind code that may write these, at this cost
abbrev pub leaves : (Slot → Bool) → ℕ → Known → Known
leaves lost c s = record s { spent = paying c s.spent; range = λ x. if lost x then None else s.range x; flags = false; test = None }

-- An instruction that only falls on, from each state that has what is asked, leaves at this cost what is told.
pub record Passes (t : Sheet) (lost : Slot → Bool) (i : Instr) (c : ℕ) (asked after : Known) : Type 0 where
  pub own : (a : ℕ) (κ : Known) → Has asked κ → own_fault_by t a κ i (kind_of i) ≡ None
  pub goes : (next : ℕ) (κ : Known) → Has asked κ → outcome_of t next κ i (kind_of i) ≡ falls_only (computed t.board i κ)
  pub has : (κ : Known) → Has asked κ → Has after (computed t.board i κ)
  pub affords : (more : ℕ) → Affords t (c + more) asked → Affords t more after
  pub keeps : Keeps lost c asked after

-- instructions one behind another, with the sum of what they cost
pub data Runs (t : Sheet) (lost : Slot → Bool) : Known → List Instr → ℕ → Known → Type 0 where
  done : (s : Known) → Runs t lost s [] 0 s
  next : (s u v : Known) (i : Instr) (is : List Instr) (c w : ℕ) → Passes t lost i c s u → Runs t lost u is w v → Runs t lost s (i ∷ is) (c + w) v

-- the address behind some instructions
abbrev pub behind : ℕ → List Instr → ℕ
behind a [] = a
behind a (i ∷ is) = behind (a + 2 * length_of i) is

-- the instructions stand from an address on, and no point on or in one of them
abbrev pub AllPlain : Sheet → ℕ → List Instr → Type 0
AllPlain t a [] = Unit {0}
AllPlain t a (i ∷ is) = Plain t a i × AllPlain t (a + 2 * length_of i) is

-- the first of some instructions may have a point on it
abbrev pub AllStand : Sheet → ℕ → List Instr → Type 0
AllStand t a [] = Unit {0}
AllStand t a (i ∷ is) = Stands t a i × AllPlain t (a + 2 * length_of i) is
