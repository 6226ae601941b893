-- Words of a program after two numbers of steps, and a run that has stopped.
use Rattle.std.proofs.Common.{◌≡◌, ℕ, List, sym, ap, inl, inr, ⊎_elim, arith}
use Rattle.std.specs.Prelude.{◌≢◌}
use Rattle.std.proofs.lemmas.Bool.{cases_lt}
use Rattle.msp430_machine.specs.State.{Phase, Ended as AtEnd, Trapped as AtTrap}
use Rattle.plain_meaning.specs.Behaviour.{Behaviour, EndedWith, Going, IsSteady, Outcome, TrappedWith}
use Rattle.power_core.specs.Agreement.{StopsAs}
use Rattle.program_texts.specs.Shown.{end_of}
use Rattle.supplied_run.specs.declared.end.End.TheVariants.{Ended, Trapped}
use Rattle.run_and_say.specs.RunAndSay.{AreFronts}

module _ (program : Behaviour) (steady : IsSteady program) (input : List ℕ) where
  pub fronts : (m n : ℕ) → AreFronts (program input m).words (program input n).words
  fronts m n = ⊎_elim (λ few. inl (steady.more input m n (omega (arith, few)))) (λ more. inr (steady.more input n m more)) (cases_lt m n)

  -- two numbers of steps at which the program has stopped say the same
  pub same : (m n : ℕ) → (program input m).outcome ≢ Going → (program input n).outcome ≢ Going → program input m ≡ program input n
  same m n stopped ended =
      ⊎_elim (λ few. sym (steady.stopped input m n (omega (arith, few)) stopped)) (λ more. steady.stopped input n m more ended) (cases_lt m n)

pub not_going : (o : Outcome) (p : Phase) → StopsAs o p → o ≢ Going
not_going Going p h e = h
not_going (EndedWith v) p h e = cc
not_going (TrappedWith v) p h e = cc

pub ends_so : (o : Outcome) (w : ℕ) → StopsAs o (AtEnd w) → end_of o ≡ Ended w
ends_so Going w h = absurd h
ends_so (EndedWith v) w h = let same : w ≡ v = cc in ap (λ n. Ended n) (sym same)
ends_so (TrappedWith v) w h = cc

pub traps_so : (o : Outcome) (w : ℕ) → StopsAs o (AtTrap w) → end_of o ≡ Trapped w
traps_so Going w h = absurd h
traps_so (EndedWith v) w h = cc
traps_so (TrappedWith v) w h = let same : w ≡ v = cc in ap (λ n. Trapped n) (sym same)
