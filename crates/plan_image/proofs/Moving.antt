-- The moves of a section are those of code in stretches, and cost what the plan says.
use Rattle.std.proofs.Common.{◌≡◌, ℕ, ◌+◌, ◌*◌, true, false, [], ◌∷◌, refl, ap, arith}
use Rattle.board_table.specs.declared.board.Board.{Board}
use Rattle.msp430_machine.specs.Addresses.{region}
use Rattle.msp430_machine.specs.Cost.{instruction_cost, read_cost_in, write_cost_in}
use Rattle.laid_code.proofs.Homes.{Home, InFram, InSram}
use Rattle.laid_code.proofs.Words.{IsRoom, address, at_home, carries, region_of}
use Rattle.laid_code.proofs.Copying.{block_code, block_cost, turn_cost, turns_are}
use Rattle.chain_units.specs.Costs.{move_cost, move_word, restore_cost, save_cost}
use Rattle.plan_code.specs.PlanBlocks.{object_move}

-- ---- The code

pub word_code : (n : ℕ) (from to : Home) → object_move false n (address from 0) (address to 0) ≡ carries from to 0 ∷ []
word_code n from to = refl

pub array_code : (n : ℕ) (from to : Home) → object_move true n (address from 0) (address to 0) ≡ block_code from to n
array_code n from to = refl

-- ---- Its cost

module _ (b : Board) where
  lies : (h : Home) → IsRoom h 1 → region (address h 0) ≡ region_of h
  lies h room = (at_home h 1 0 room (omega arith)).inside.lies

  word_cost : (n : ℕ) (from to : Home) → IsRoom from 1 → IsRoom to 1 → instruction_cost b (carries from to 0) ≡ move_cost b false n (read_cost_in b (region_of from)) (write_cost_in b (region_of to))
  word_cost n from to room_from room_to =
      let r = ap (λ x. read_cost_in b x) (lies from room_from) in
      let w = ap (λ x. write_cost_in b x) (lies to room_to) in
      omega (arith, r, w)

  turn_same : (from to : Home) → turn_cost b from to ≡ ((move_word b (read_cost_in b (region_of from)) (write_cost_in b (region_of to)) + b.core.alu) + b.core.jump) + 2 * b.access.fetch
  turn_same from to = omega arith

  array_cost : (n : ℕ) (from to : Home) → block_cost b from to n ≡ move_cost b true n (read_cost_in b (region_of from)) (write_cost_in b (region_of to))
  array_cost n from to =
      let turns = turns_are b from to n in
      let each = ap (λ t. n * t) (turn_same from to) in
      omega (arith, turns, each)

  pub word_restored : (n v w : ℕ) → IsRoom (InFram v) 1 → IsRoom (InSram w) 1 → instruction_cost b (carries (InFram v) (InSram w) 0) ≡ restore_cost b false n
  word_restored n v w room_from room_to = word_cost n (InFram v) (InSram w) room_from room_to

  pub word_saved : (n v w : ℕ) → IsRoom (InFram v) 1 → IsRoom (InSram w) 1 → instruction_cost b (carries (InSram w) (InFram v) 0) ≡ save_cost b false n
  word_saved n v w room_from room_to = word_cost n (InSram w) (InFram v) room_to room_from

  pub array_restored : (n v w : ℕ) → block_cost b (InFram v) (InSram w) n ≡ restore_cost b true n
  array_restored n v w = array_cost n (InFram v) (InSram w)

  pub array_saved : (n v w : ℕ) → block_cost b (InSram w) (InFram v) n ≡ save_cost b true n
  array_saved n v w = array_cost n (InSram w) (InFram v)
