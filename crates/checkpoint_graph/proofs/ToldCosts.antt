-- A told weight costs no more in FRAM than the weight does.
use Rattle.std.specs.Prelude.{if◌then◌else◌}
use Rattle.std.proofs.Common.{◌≡◌, ◌==◌, ◌≤◌, ◌+◌, ◌*◌, ◌++◌, ℕ, zero, suc, Bool, true, false, List, [], ◌∷◌, ap, arith}
use Rattle.std.proofs.Math.Nat.{mul-le-mul_right}
use Rattle.board_table.specs.declared.board.Board.{Board}
use Rattle.item_weights.specs.declared.uses.Use.{Use}
use Rattle.item_weights.specs.Weights.{Weight, kept}
use Rattle.item_weights.specs.Costs.{cost_of, uses_cost}
use Rattle.board_weights.specs.OnBoard.{prices}
use Rattle.chain_units.specs.Known.{all_fram, weight_in_fram}
use Rattle.checkpoint_graph.specs.Knowing.{told, use_of, uses_from}

module _ (b : Board) where
  all_fram-append : (us vs : List Use) → all_fram b (us ++ vs) ≡ all_fram b us + all_fram b vs
  all_fram-append [] vs = omega arith
  all_fram-append (u ∷ us) vs = omega (arith, all_fram-append us vs)

  kept_product : (m f : ℕ) → kept m * f ≤ m * f
  kept_product m f = let le : kept m ≤ m = omega arith in mul-le-mul_right f le

  use_cost : (o r s : ℕ) → all_fram b (use_of o (kept r) (kept s)) ≤ r * b.access.fram_read + s * b.access.fram_write
  use_cost o r s = by (kept r + kept s == 0)
    where
      by : (t : Bool) → all_fram b (if t then [] else record { object = o; reads = kept r; writes = kept s } ∷ []) ≤ r * b.access.fram_read + s * b.access.fram_write
      by true = omega arith
      by false = omega (arith, kept_product r b.access.fram_read, kept_product s b.access.fram_write)

  module _ (w : Weight) where
    uses_below : (n o m : ℕ) → o + n ≡ m → all_fram b (uses_from w o n) + uses_cost (prices b []) w o ≤ uses_cost (prices b []) w m
    uses_below zero o m e =
        let at : o ≡ m = omega (arith, e) in
        let same = ap (λ (k : ℕ). uses_cost (prices b []) w k) at in omega (arith, same)
    uses_below (suc n) o m e =
        omega (arith, all_fram-append (use_of o (kept (w.reads o)) (kept (w.writes o))) (uses_from w (suc o) n), use_cost o (w.reads o) (w.writes o), uses_below n (suc o) m (omega (arith, e)))

    pub told_cost : (objects : ℕ) → weight_in_fram b (told objects w) ≤ cost_of (prices b []) objects w
    told_cost objects = omega (arith, uses_below objects 0 objects (omega arith))
