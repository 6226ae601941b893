-- A tree has at most one typed program, at most one type fault to be answered, and never both.
use Rattle.std.proofs.Common.{◌≡◌, ◌<◌, ℕ, List, Option, Some, None, sym, ap, ◌∙◌, inl, inr, arith}
use Rattle.c_tree.specs.declared.tree.Program.{Program}
use Rattle.c_typing.specs.declared.call_site.CallSite.{CallSite}
use Rattle.c_typing.specs.declared.state.State.{State}
use Rattle.c_typing.specs.declared.type_fault.TypeFault.{TypeFault}
use Rattle.c_typing.specs.Cycles.{IsFirstOnCycle}
use Rattle.c_typing.specs.FirstFaults.{first_of}
use Rattle.c_typing.specs.Programs.{IsFaulty, IsRecursive, IsTyped, LacksMain, main_in, program, recursion_at}

abbrev number_in : Option ℕ → ℕ
number_in None = 0
number_in (Some n) = n

pub one_program : (s : State) (p q : Program) → IsTyped s p → IsTyped s q → p ≡ q
one_program s p q a b = a.is ∙ ap (λ o. program s (number_in o)) (sym a.main ∙ b.main) ∙ sym b.is

no_call : CallSite
no_call = record { caller = 0; callee = 0; place = record { line = 0; column = 0 } }

no_cycle : (calls : List CallSite) (at : ℕ) → IsFirstOnCycle calls None → IsFirstOnCycle calls (Some at) → ⊥
no_cycle calls at none (lt, on, before) = none at no_call lt (on no_call)

not_sooner : (calls : List CallSite) (i j : ℕ) → IsFirstOnCycle calls (Some i) → IsFirstOnCycle calls (Some j) → i < j → ⊥
not_sooner calls i j (lt, on, before) (also, there, none) less = none i less no_call (on no_call)

one_cycle : (calls : List CallSite) (i j : ℕ) → IsFirstOnCycle calls (Some i) → IsFirstOnCycle calls (Some j) → i ≡ j
one_cycle calls i j a b =
    let low : i < j → ⊥ = not_sooner calls i j a b in
    let high : j < i → ⊥ = not_sooner calls j i b a in
    omega (arith, low, high)

some_same : (f g : TypeFault) (o : Option TypeFault) → o ≡ Some f → o ≡ Some g → f ≡ g
some_same f g o a b = cc

some_none : (f : TypeFault) (o : Option TypeFault) → o ≡ Some f → o ≡ None → ⊥
some_none f o a b = cc

main_some_none : (n : ℕ) (o : Option ℕ) → o ≡ Some n → o ≡ None → ⊥
main_some_none n o a b = cc

module _ (s : State) where
  one_recursion : (f g : TypeFault) → IsRecursive s f → IsRecursive s g → f ≡ g
  one_recursion f g a b =
      some_same f g (recursion_at s.calls b.at) (ap (recursion_at s.calls) (sym (one_cycle s.calls a.at b.at a.first b.first)) ∙ a.is) b.is

  not_lacking : (f g : TypeFault) → IsRecursive s f → LacksMain s g → ⊥
  not_lacking f g a b = no_cycle s.calls a.at b.sound.acyclic a.first

  pub one_type_fault : (f g : TypeFault) → IsFaulty s f → IsFaulty s g → f ≡ g
  one_type_fault f g (inl a) (inl b) = some_same f g (first_of s.faults) a b
  one_type_fault f g (inl a) (inr (inl b)) = absurd (some_none f (first_of s.faults) a b.faultless)
  one_type_fault f g (inl a) (inr (inr b)) = absurd (some_none f (first_of s.faults) a b.sound.faultless)
  one_type_fault f g (inr (inl a)) (inl b) = absurd (some_none g (first_of s.faults) b a.faultless)
  one_type_fault f g (inr (inr a)) (inl b) = absurd (some_none g (first_of s.faults) b a.sound.faultless)
  one_type_fault f g (inr (inl a)) (inr (inl b)) = one_recursion f g a b
  one_type_fault f g (inr (inl a)) (inr (inr b)) = absurd (not_lacking f g a b)
  one_type_fault f g (inr (inr a)) (inr (inl b)) = absurd (not_lacking g f b a)
  one_type_fault f g (inr (inr a)) (inr (inr b)) = a.is ∙ sym b.is

  pub typed_or_faulty : (p : Program) (f : TypeFault) → IsTyped s p → IsFaulty s f → ⊥
  typed_or_faulty p f a (inl b) = some_none f (first_of s.faults) b a.sound.faultless
  typed_or_faulty p f a (inr (inl b)) = no_cycle s.calls b.at a.sound.acyclic b.first
  typed_or_faulty p f a (inr (inr b)) = main_some_none p.main (main_in 0 s.functions) a.main b.none
