use Rattle.std.proofs.Common.{◌≡◌, ◌<◌, List, [], ◌∷◌, length, refl, arith}
use Rattle.board_table.specs.declared.board.Board.{Board}
use Rattle.item_weights.specs.declared.uses.Use.{Use}
use Rattle.chain_units.specs.Known.{all_fram}
use Rattle.chain_units.proofs.flat.weight_in_fram.Goals as goal

none_left : (b : Board) (uses : List Use) → length uses < 1 → all_fram b uses ≡ 0
none_left b [] few = refl
none_left b (u ∷ us) few = absurd (omega (arith, few))

pub returns : goal.returns
returns c = omega (arith, c.loop-left.invariant.same, c.loop-left.invariant.within, none_left c.args.board.now c.loop-left.left.now c.in_default.len_below)
