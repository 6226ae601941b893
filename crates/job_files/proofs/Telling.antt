-- Of what a store or an output tells, and of counts.
use Rattle.std.proofs.Common.{◌≡◌, ◌<◌, ℕ, Option, Some, None, IfSome, arith}

pub fill : {A : Type 0} (o : Option A) (P : A → Type 0) → ((x : A) → P x) → IfSome o P
fill None P f = tt
fill (Some x) P f = f x

pub map_told : {A : Type 0} (o : Option A) (P Q : A → Type 0) → ((x : A) → P x → Q x) → IfSome o P → IfSome o Q
map_told None P Q f h = tt
map_told (Some x) P Q f h = f x h

-- what holds under both
pub both_told : {A : Type 0} (o : Option A) (P Q R : A → Type 0) → ((x : A) → P x → Q x → R x) → IfSome o P → IfSome o Q → IfSome o R
both_told None P Q R f h k = tt
both_told (Some x) P Q R f h k = f x h k

pub grew_not : (before now : ℕ) → now ≡ before → before < now → ⊥
grew_not before now same less = omega arith
