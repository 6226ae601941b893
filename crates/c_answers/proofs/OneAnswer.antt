-- Of what was found there is one answer.
use Rattle.std.proofs.Common.{◌≡◌, sym, ap, ◌∙◌, ℕ, ◌<◌, ◌≤◌, List, Option, Some, None, Result, Ok, Err, IfOk, IfErr, ◌⊎◌, inl, inr, arith}
use Rattle.std.proofs.lemmas.Bool.{cases_lt}
use Rattle.c_tree.specs.declared.tree.Program.{Program}
use Rattle.c_typing.specs.declared.call_site.CallSite.{CallSite}
use Rattle.c_typing.specs.declared.state.State.{State}
use Rattle.c_typing.specs.declared.type_fault.TypeFault.{TypeFault}
use Rattle.c_typing.specs.declared.type_fault.TypeFault.TheVariants as faults
use Rattle.c_typing.specs.FirstFaults.{first_of}
use Rattle.c_typing.specs.Cycles.{IsFirstOnCycle}
use Rattle.c_typing.specs.Programs.{IsTyped, IsSound, IsRecursive, LacksMain, IsFaulty, IsFirstCycle, main_in, program, recursion_at}

from_some : ℕ → Option ℕ → ℕ
from_some d None = d
from_some d (Some n) = n

-- two accepted programs are one
one_program : (s : State) (p q : Program) → IsTyped s p → IsTyped s q → q ≡ p
unfolding from_some
one_program s p q a b = b.is ∙ (ap (λ o. program s (from_some 0 o)) (sym b.main ∙ a.main) ∙ sym a.is)

no_call : CallSite
no_call = record { caller = 0; callee = 0; place = record { line = 0; column = 0 } }

-- no call lies on a cycle, or a first one does
no_both : (calls : List CallSite) (at : ℕ) → IsFirstOnCycle calls None → IsFirstOnCycle calls (Some at) → ⊥
no_both calls at none (lt, on, before) = none at no_call lt (on no_call)

-- none is first that stands behind another
no_later : (calls : List CallSite) (i j : ℕ) → IsFirstOnCycle calls (Some i) → IsFirstOnCycle calls (Some j) → i < j → ⊥
no_later calls i j (lt, on, before) (lt', on', before') h = before' i h no_call (on no_call)

one_first : (calls : List CallSite) (i j : ℕ) → IsFirstOnCycle calls (Some i) → IsFirstOnCycle calls (Some j) → i ≡ j
one_first calls i j a b = by (cases_lt i j) (cases_lt j i)
  where
    by : (i < j) ⊎ (j ≤ i) → (j < i) ⊎ (i ≤ j) → i ≡ j
    by (inl lt) _ = absurd (no_later calls i j a b lt)
    by (inr le) (inl lt) = absurd (no_later calls j i b a lt)
    by (inr le) (inr ge) = omega (arith, le, ge)

some_same : (a b : TypeFault) (o : Option TypeFault) → o ≡ Some a → o ≡ Some b → b ≡ a
some_same a b o h g = cc

one_recursion : (s : State) (a b : TypeFault) → IsRecursive s a → IsRecursive s b → b ≡ a
one_recursion s a b h g = some_same a b (recursion_at s.calls g.at) (ap (recursion_at s.calls) (one_first s.calls g.at h.at g.first h.first) ∙ h.is) g.is

not_some : (fault : TypeFault) (o : Option TypeFault) → o ≡ None → o ≡ Some fault → ⊥
not_some fault o h g = cc

one_fault : (s : State) (a b : TypeFault) → IsFaulty s a → IsFaulty s b → b ≡ a
one_fault s a b (inl h) (inl g) = some_same a b (first_of s.faults) h g
one_fault s a b (inl h) (inr (inl g)) = absurd (not_some a (first_of s.faults) g.faultless h)
one_fault s a b (inl h) (inr (inr g)) = absurd (not_some a (first_of s.faults) g.sound.faultless h)
one_fault s a b (inr (inl h)) (inl g) = absurd (not_some b (first_of s.faults) h.faultless g)
one_fault s a b (inr (inl h)) (inr (inl g)) = one_recursion s a b h g
one_fault s a b (inr (inl h)) (inr (inr g)) = absurd (no_both s.calls h.at g.sound.acyclic h.first)
one_fault s a b (inr (inr h)) (inl g) = absurd (not_some b (first_of s.faults) h.sound.faultless g)
one_fault s a b (inr (inr h)) (inr (inl g)) = absurd (no_both s.calls g.at h.sound.acyclic g.first)
one_fault s a b (inr (inr h)) (inr (inr g)) = g.is ∙ sym h.is

no_main : (k : ℕ) (o : Option ℕ) → o ≡ None → o ≡ Some k → ⊥
no_main k o h g = cc

not_both : (s : State) (p : Program) (fault : TypeFault) → IsTyped s p → IsFaulty s fault → ⊥
not_both s p fault h (inl g) = not_some fault (first_of s.faults) h.sound.faultless g
not_both s p fault h (inr (inl g)) = no_both s.calls g.at h.sound.acyclic g.first
not_both s p fault h (inr (inr g)) = no_main p.main (main_in 0 s.functions) g.none h.main

-- ---- of a call that answers to what was found

pub only_program : (s : State) (r : Result Program TypeFault) → IfOk r (λ p. IsTyped s p) → IfOk r (λ p. (other : Program) → IsTyped s other → other ≡ p)
only_program s (Ok p) h = λ other g. one_program s p other h g
only_program s (Err fault) h = tt

pub no_other_fault : (s : State) (r : Result Program TypeFault) → IfOk r (λ p. IsTyped s p) → IfOk r (λ p. (fault : TypeFault) → IsFaulty s fault → ⊥)
no_other_fault s (Ok p) h = λ fault g. not_both s p fault h g
no_other_fault s (Err fault) h = tt

pub only_fault : (s : State) (r : Result Program TypeFault) (A : TypeFault → Type 0) → IfErr r (λ fault. A fault → IsFaulty s fault) → IfErr r (λ fault. A fault → (other : TypeFault) → IsFaulty s other → other ≡ fault)
only_fault s (Ok p) A h = tt
only_fault s (Err fault) A h = λ a other g. one_fault s fault other (h a) g

pub no_program : (s : State) (r : Result Program TypeFault) (A : TypeFault → Type 0) → IfErr r (λ fault. A fault → IsFaulty s fault) → IfErr r (λ fault. A fault → (p : Program) → IsTyped s p → ⊥)
no_program s (Ok p) A h = tt
no_program s (Err fault) A h = λ a p g. not_both s p fault g (h a)

pub recursive : (s : State) (fault : TypeFault) → first_of s.faults ≡ None → IsFirstCycle s.calls (Some fault) → IsFaulty s fault
recursive s fault e (at, (first, is)) = inr (inl (record { faultless = e; at = at; first = first; is = is }))

pub accepted : (s : State) (r : Result Program TypeFault) → first_of s.faults ≡ None → IsFirstOnCycle s.calls None
    → IfOk r (λ p. (main_in 0 s.functions ≡ Some p.main) × (p ≡ program s p.main)) → IfOk r (λ p. IsTyped s p)
accepted s (Ok p) e none (main, is) = record { sound = record { faultless = e; acyclic = none }; main = main; is = is }
accepted s (Err fault) e none h = tt

pub lacking : (s : State) (r : Result Program TypeFault) (A : TypeFault → Type 0) → first_of s.faults ≡ None → IsFirstOnCycle s.calls None
    → IfErr r (λ fault. A fault → (main_in 0 s.functions ≡ None) × (fault ≡ faults.NoMain (record { line = 1; column = 1 }))) → IfErr r (λ fault. A fault → IsFaulty s fault)
lacking s (Ok p) A e none h = tt
lacking s (Err fault) A e none h = λ a. inr (inr (record { sound = record { faultless = e; acyclic = none }; none = (h a).0; is = (h a).1 }))
