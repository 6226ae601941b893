-- Of what a store tells.
use Rattle.std.proofs.Common.{◌≡◌, List, Option, Some, None}
use Rattle.base_io.specs.Files.{Files}
use Rattle.job_files.specs.Answers.{Answer}
use Rattle.job_files.specs.Text.{Text}
use Rattle.commands.specs.Left.{Leaves, LeavesTold}

pub same_told : (words : List Text) (a : Answer) → (let P : Files → Files → Type 0 = λ x y. y ≡ x → Leaves words a x y in (x y : Files) → P x y) →
    (o n : Option Files) → n ≡ o → LeavesTold words a o n
same_told words a f None None e = tt
same_told words a f (Some x) (Some y) e = f x y (files_same x y e)
  where
    files_same : (x y : Files) → (let s : Option Files = Some y in s ≡ Some x) → y ≡ x
    files_same x y e = cc
same_told words a f (Some x) None e = absurd (clash x e)
  where
    clash : (x : Files) → (let n : Option Files = None in n ≡ Some x) → ⊥
    clash x e = cc
same_told words a f None (Some y) e = absurd (clash y e)
  where
    clash : (y : Files) → (let s : Option Files = Some y in s ≡ None) → ⊥
    clash y e = cc
