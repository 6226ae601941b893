-- The last of several, and a place behind them all.
use Rattle.std.proofs.Common.{◌≡◌, refl, ap, ℕ, zero, suc, ◌≤◌, List, [], ◌∷◌, ◌++◌, length, arith}
use Rattle.std.proofs.Math.ListN.{set}
use Rattle.c_tree.specs.declared.tree.BlockItem.{BlockItem, out-BlockItem}
use Rattle.c_typing.specs.Functions.{ends_in_return, is_return_item}

pub ends_in_last : (others : List BlockItem) (last : BlockItem) → ends_in_return (others ++ last ∷ []) ≡ is_return_item (out-BlockItem last)
ends_in_last [] last = refl
ends_in_last (a ∷ []) last = refl
ends_in_last (a ∷ b ∷ others) last = ends_in_last (b ∷ others) last

pub set_nowhere : {A : Type 0} (xs : List A) (k : ℕ) (x : A) → length xs ≤ k → set xs k x ≡ xs
set_nowhere [] k x le = refl
set_nowhere (y ∷ ys) zero x le = absurd (omega (arith, le))
set_nowhere (y ∷ ys) (suc k) x le = ap (λ l. y ∷ l) (set_nowhere ys k x (omega (arith, le)))
