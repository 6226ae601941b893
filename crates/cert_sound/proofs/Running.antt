-- A run of certified code: what holds where it comes to an address, and how one instruction moves it on.
use Rattle.std.proofs.Common.{◌≡◌, ℕ, suc, ◌+◌, ◌*◌, ◌%◌, ◌<◌, ◌≤◌, Bool, true, false, Option, Some, None, List, [], ◌∷◌, length, refl, sym, ap, ◌∙◌, subst, arith}
use Rattle.std.specs.Prelude.{pos, ◌+ℤ◌}
use Rattle.std.specs.Int.Signed.{◌≤ℤ◌}
use Rattle.std.proofs.lemmas.Int.{ints}
use Rattle.board_table.specs.declared.board.Board.{Board}
use Rattle.certificate.specs.declared.cert.Slot.{Slot}
use Rattle.certificate.specs.declared.cert.StretchRow.{StretchRow}
use Rattle.certificate.specs.Rows.{Function, Flat}
use Rattle.msp430_isa.specs.declared.instr.Instr.{Instr}
use Rattle.msp430_isa.specs.Encoding.{length_of}
use Rattle.msp430_machine.specs.State.{Phase, Off, Awake, Asleep, Ended, Trapped, Faulted, State}
use Rattle.msp430_machine.specs.Steps.{Does, next}
use Rattle.power_core.specs.Agreement.{IsStopped}
use Rattle.cert_rules.specs.Known.{Known, range_of}
use Rattle.cert_rules.specs.Tables.{head_at, function_at}
use Rattle.cert_rules.specs.Sheet.{Sheet, is_head, instruction_of}
use Rattle.cert_rules.specs.Effects.{lost_by_call}
use Rattle.cert_rules.specs.Overhead.{sleep_cost}
use Rattle.cert_rules.specs.Going.{greatest_spent, limit_by, row_cost, limit_of, may_go_to}
use Rattle.cert_rules.specs.Sweep.{Swept}
use Rattle.cert_rules.proofs.SpendingLemmas.{bound_le_greatest}
use Rattle.cert_effects.specs.Written.{Written, ReadsOnly}
use Rattle.cert_effects.specs.Knows.{value_of, HoldsTest, IsOf, Holds, Knows}
use Rattle.cert_effects.proofs.Placing.{IsEnd}
use Rattle.cert_effects.proofs.Knowing.{More}
use Rattle.cert_effects.proofs.Performing.{NumbersLow}
use Rattle.cert_effects.proofs.Stack.{Stacked}
use Rattle.cert_sound.specs.Moments.{Moment}
use Rattle.cert_sound.specs.Sound.{Safe, IsNoFault}
use Rattle.cert_sound.proofs.Covering.{Covers, covers_less}
use Rattle.cert_code.proofs.Fetching.{Loaded}

-- what the stretch that resumes behind a head may cost
abbrev pub head_cost : List StretchRow → ℕ → ℕ
head_cost rows h = row_cost (head_at rows h)

-- What surrounds the code of a function that runs: the HEAD of the stretch, what it had spent when the function was called, the
-- return addresses on the call stack, and the state and what was written then. In a split function nothing had been spent.
pub record Around : Type 0 where
  pub head : ℕ
  pub origin : ℕ
  pub frames : List ℕ
  pub entry : State
  pub before : Written

-- the slots that a call may not change are as they were at the call, and nothing that was written is forgotten
pub record KeptSince (f : Flat) (x : Around) (s : State) (w : Written) : Type 0 where
  pub values : (z : Slot) → lost_by_call f z ≡ false → value_of s z ≡ value_of x.entry z
  pub more : More x.before w

abbrev pub Keeps : Option Flat → Around → State → Written → Type 0
Keeps None x s w = Unit {0}
Keeps (Some f) x s w = KeptSince f x s w

-- what the function may spend fits into the stretch, and the call stack has room for what it calls
pub record Placed (t : Sheet) (x : Around) (stretch : ℕ) : Type 0 where
  pub room : x.origin + limit_of t stretch ≤ head_cost t.stretches x.head
  pub deep : length x.frames + t.here.height ≤ 65
  pub split : t.here.flat ≡ None → (x.origin ≡ 0) × (x.head ≡ stretch)

-- awake at an address of this code, in a stretch that was resumed behind a head, never cut, within what the function may spend
pub record Stands (t : Sheet) (code : ℕ → ℕ) (x : Around) (a stretch spent : ℕ) (m : Moment) : Type 0 where
  pub awake : m.trail.state.phase ≡ Awake
  pub pc : m.trail.state.reg 0 ≡ a
  pub has_code : m.trail.state.code ≡ code
  pub no_cut : m.trail.cuts ≡ 0
  pub rich : t.board.budget ≤ m.trail.state.charge + m.trail.stretch
  pub counted : m.trail.stretch ≡ x.origin + spent
  pub within : spent ≤ limit_of t stretch
  pub resumes : m.resumes ≡ x.head + 18
  pub stacked : Stacked m.trail.state x.frames
  pub kept : Keeps t.here.flat x m.trail.state m.written

-- at a head, with its sleep paid for, and these return addresses on the call stack
pub record AtHead (b : Board) (rows : List StretchRow) (code : ℕ → ℕ) (frames : List ℕ) (a stretch : ℕ) (m : Moment) : Type 0 where
  pub awake : m.trail.state.phase ≡ Awake
  pub pc : m.trail.state.reg 0 ≡ a
  pub has_code : m.trail.state.code ≡ code
  pub no_cut : m.trail.cuts ≡ 0
  pub rich : b.budget ≤ m.trail.state.charge + m.trail.stretch
  pub room : m.trail.stretch + sleep_cost b ≤ head_cost rows stretch
  pub resumes : m.resumes ≡ stretch + 18
  pub stacked : Stacked m.trail.state frames
  pub values : (z : Slot) → value_of m.trail.state z < 65536

-- where a flat function begins
pub record AtStart (b : Board) (rows : List StretchRow) (code : ℕ → ℕ) (f : Flat) (x : Around) (a : ℕ) (m : Moment) : Type 0 where
  pub awake : m.trail.state.phase ≡ Awake
  pub pc : m.trail.state.reg 0 ≡ a
  pub has_code : m.trail.state.code ≡ code
  pub no_cut : m.trail.cuts ≡ 0
  pub rich : b.budget ≤ m.trail.state.charge + m.trail.stretch
  pub counted : m.trail.stretch ≡ x.origin
  pub room : x.origin + f.cost ≤ head_cost rows x.head
  pub resumes : m.resumes ≡ x.head + 18
  pub stacked : Stacked m.trail.state x.frames
  pub kept : KeptSince f x m.trail.state m.written
  pub values : (z : Slot) → value_of m.trail.state z < 65536

-- where a flat function returns to
pub record AtReturn (b : Board) (rows : List StretchRow) (code : ℕ → ℕ) (f : Flat) (x : Around) (a : ℕ) (frames : List ℕ) (m : Moment) : Type 0 where
  pub awake : m.trail.state.phase ≡ Awake
  pub pc : m.trail.state.reg 0 ≡ a
  pub has_code : m.trail.state.code ≡ code
  pub no_cut : m.trail.cuts ≡ 0
  pub rich : b.budget ≤ m.trail.state.charge + m.trail.stretch
  pub least : x.origin ≤ m.trail.stretch
  pub most : m.trail.stretch ≤ x.origin + f.cost
  pub resumes : m.resumes ≡ x.head + 18
  pub stacked : Stacked m.trail.state frames
  pub kept : KeptSince f x m.trail.state m.written
  pub values : (z : Slot) → value_of m.trail.state z < 65536

-- what n events more may come to where a function has returned: to a head, or behind the call of a flat function
module _ (b : Board) (rows : List StretchRow) (code : ℕ → ℕ) (input : List ℕ) where
  abbrev pub BackHead : Bool → ℕ → List ℕ → Type 0
  BackHead first n [] = first ≡ true
  BackHead first n (r ∷ frames) = (stretch : ℕ) (m : Moment) → AtHead b rows code frames r stretch m → Covers b input (Safe rows b) n m

  abbrev pub BackFlat : Flat → Around → ℕ → List ℕ → Type 0
  BackFlat f x n [] = ⊥
  BackFlat f x n (r ∷ frames) = (m : Moment) → AtReturn b rows code f x r frames m → Covers b input (Safe rows b) n m

  abbrev pub Back : Option Flat → Bool → Around → ℕ → Type 0
  Back None first x n = BackHead first n x.frames
  Back (Some f) first x n = BackFlat f x n x.frames

  pub head_less : (first : Bool) (n : ℕ) (frames : List ℕ) → BackHead first (suc n) frames → BackHead first n frames
  head_less first n [] h = h
  head_less first n (r ∷ frames) h = λ stretch m at. covers_less b input (Safe rows b) n (suc n) m (omega arith) (h stretch m at)

  flat_less : (f : Flat) (x : Around) (n : ℕ) (frames : List ℕ) → BackFlat f x (suc n) frames → BackFlat f x n frames
  flat_less f x n [] h = h
  flat_less f x n (r ∷ frames) h = λ m at. covers_less b input (Safe rows b) n (suc n) m (omega arith) (h m at)

  pub back_less : (o : Option Flat) (first : Bool) (x : Around) (n : ℕ) → Back o first x (suc n) → Back o first x n
  back_less None first x n h = head_less first n x.frames h
  back_less (Some f) first x n h = flat_less f x n x.frames h

-- the whole of what is assumed of the code of a function
pub record Sound (t : Sheet) (code : ℕ → ℕ) : Type 0 where
  pub loaded : Loaded t.blocks code
  pub low : 0x8012 ≤ t.here.start
  pub tall : 1 ≤ t.here.height
  pub callees : (target : ℕ) (g : Function) → function_at t.functions target ≡ Some g → 1 ≤ g.height
  pub limits : (h : ℕ) → head_cost t.stretches h ≤ t.board.budget
  pub top : t.here.end ≤ 65536
  pub heads_split : (h : ℕ) → is_head t h ≡ true → t.here.start ≤ h → h < t.here.end → t.here.flat ≡ None
  pub numbers : (a : ℕ) (i : Instr) → instruction_of t a ≡ Some i → 0x8000 ≤ a → a % 2 ≡ 0 → a + 2 * length_of i ≤ 0xFF80 → NumbersLow i × (1 ≤ length_of i)
  pub visited : (x : ℕ) → may_go_to t x ≡ true → (incoming : Option Known) × Swept t x incoming None

pub split_limit : (t : Sheet) (h : ℕ) → t.here.flat ≡ None → limit_of t h ≡ head_cost t.stretches h
split_limit t h split = ap (λ f. limit_by t h f) split

same_head : (h k : ℕ) → h + 18 ≡ k + 18 → h ≡ k
same_head h k e = omega (arith, e)

-- a moment within its stretch's cost is safe, where it has no fault and reads only what is written
pub safe_within : (t : Sheet) (code : ℕ → ℕ) (head : ℕ) (m : Moment) → Sound t code → m.trail.cuts ≡ 0 → IsNoFault m.trail.state.phase → m.trail.stretch ≤ head_cost t.stretches head → m.resumes ≡ head + 18
    → ((i : Instr) → m.trail.state.phase ≡ Awake → next m.trail.state ≡ Does i → ReadsOnly m.written m.trail.state i) → Safe t.stretches t.board m
safe_within t code head m c no_cut no_fault within resumes reads = record {
  no_cut = no_cut;
  no_fault = no_fault;
  power = omega (arith, within, c.limits head);
  within_row = λ row e r. (let same : head ≡ row.head = same_head head row.head (sym resumes ∙ r) in
      subst (λ z. m.trail.stretch ≤ z) (ap row_cost e) (subst (λ h. m.trail.stretch ≤ head_cost t.stretches h) same within));
  reads = reads;
}

-- ---- What is kept

pub more_then : (u v w : Written) → More u v → More v w → More u w
more_then u v w h k = record { registers = λ r e. k.registers r (h.registers r e); words = λ a e. k.words a (h.words a e); flags = λ e. k.flags (h.flags e) }

pub keeps_on : (o : Option Flat) (x : Around) (s u : State) (w v : Written) → Keeps o x s w → ((f : Flat) → o ≡ Some f → (z : Slot) → lost_by_call f z ≡ false → value_of u z ≡ value_of s z) → More w v → Keeps o x u v
keeps_on None x s u w v k same more = tt
keeps_on (Some f) x s u w v k same more = record { values = λ z e. same f refl z e ∙ k.values z e; more = more_then x.before w v k.more more }

-- ---- Numbers

pub spent_room : (κ : Known) (s : State) (w : Written) (n x limit : ℕ) → Holds κ s w n → (greatest_spent κ +ℤ pos x) ≤ℤ pos limit → n + x ≤ limit
spent_room κ s w n x limit h le = omega (arith, ints, h.bound, bound_le_greatest (range_of κ) (value_of s) κ.spent h.range, le)

pub spent_alone : (κ : Known) (s : State) (w : Written) (n limit : ℕ) → Holds κ s w n → greatest_spent κ ≤ℤ pos limit → n ≤ limit
spent_alone κ s w n limit h le = omega (arith, ints, h.bound, bound_le_greatest (range_of κ) (value_of s) κ.spent h.range, le)

pub knows_plain : (κ : Known) (s : State) (w : Written) (n : ℕ) → κ.test ≡ None → Holds κ s w n → Knows κ s w n
knows_plain κ s w n e h = record { all = h; test = subst (λ o. HoldsTest o s) (sym e) tt; tested = λ r k. absurd (subst (λ o. IsOf o r) e k) }

pub end_is_stop : (p : Phase) → IsEnd p → IsStopped p
end_is_stop (Ended v) h = tt
end_is_stop (Trapped v) h = tt
end_is_stop Off h = absurd h
end_is_stop Awake h = absurd h
end_is_stop Asleep h = absurd h
end_is_stop (Faulted why) h = absurd h

pub end_no_fault : (p : Phase) → IsEnd p → IsNoFault p
end_no_fault (Ended v) h = tt
end_no_fault (Trapped v) h = tt
end_no_fault Off h = absurd h
end_no_fault Awake h = absurd h
end_no_fault Asleep h = absurd h
end_no_fault (Faulted why) h = absurd h
