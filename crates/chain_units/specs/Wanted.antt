-- Which values are wanted behind a piece of code, and the weight as the planners of chains and loops take it.
use Rattle.std.specs.Prelude.{◌≡◌, ℕ, Bool, ◌||◌}
use Rattle.loop_checkpoints.specs.declared.LoopWeight.{LoopWeight}
use Rattle.chain_units.specs.declared.weighing.Behind.{Behind}
use Rattle.chain_units.specs.declared.weighing.Behind.TheVariants.{Before, After, BeforeEither}
use Rattle.chain_units.specs.Known.{Known}
use Rattle.chain_units.specs.Costs.{Weighed}

-- what is live before an operation, after one, or before one of two
abbrev pub wanted : Known → Behind → ℕ → Bool
wanted k (Before n) object = k.before n object
wanted k (After n) object = k.after n object
wanted k (BeforeEither n m) object = k.before n object || k.before m object

pub record IsWeightOf (w : LoopWeight) (e : Weighed) : Type 0 where
  pub fixed : w.fixed ≡ e.fixed
  pub base : w.base ≡ e.base
  pub objects : w.objects.items ≡ e.objects
