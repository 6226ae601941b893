-- What is spent in the stretches between heads, and where control goes.
use Rattle.std.proofs.Common.{◌≡◌, ℕ, suc, zero, ◌+◌, ◌≤◌, Bool, true, false, Option, Some, List, [], ◌∷◌, refl, sym, ap, ◌∙◌, arith}
use Rattle.std.specs.Prelude.{if◌then◌else◌, slice_get, sum_by, take, drop}
use Rattle.board_table.specs.declared.board.Board.{Board}
use Rattle.msp430_isa.specs.declared.instr.Instr.{Instr}
use Rattle.msp430_machine.specs.Cost.{instruction_cost}
use Rattle.flow_graph.specs.declared.graph.OpKind.{OpKind}
use Rattle.flow_graph.specs.declared.graph.OpKind.TheVariants as kind
use Rattle.flow_graph.specs.declared.graph.Graph.{Graph}
use Rattle.flow_graph.specs.declared.nodes.Next.{Next}
use Rattle.flow_graph.specs.declared.nodes.Next.TheVariants as next
use Rattle.flow_graph.specs.declared.nodes.Node.{Node}
use Rattle.flow_graph.specs.Operations.{passes}
use Rattle.flow_graph.specs.Closed.{IsNextOf}
use Rattle.resumed_runs.specs.Code.{boot, first_resume, head}
use Rattle.resumed_runs.specs.Need.{sleep_cost, wake_cost}
use Rattle.laid_code.specs.Flows.{Memory, Turn, On, Away}
use Rattle.graph_flow.specs.GraphFlow.{Place, away_at, effect_by, flow_of, operand, to_turn, turn_by}
use Rattle.graph_flow.specs.GraphFlow as graph
use Rattle.graph_code.specs.Pieces.{jumps_to}
use Rattle.graph_code.proofs.OrderLemmas.{effect_turns, turned_away}
use Rattle.op_cost.specs.Weights.{overhead, sleep_code, wake_code, weight}
use Rattle.each_image.specs.Image.{can_jump, left_at, up_to_head}
use Rattle.each_image.proofs.Performing.{jumped, no_end, weight_at}
use Rattle.each_image.proofs.Standing.{Stood}

-- ---- A wake and a sleep

same_code : (f : Instr → ℕ) → sum_by f wake_code + sum_by f sleep_code ≡ sum_by f (take 4 boot) + sum_by f (drop 4 (head first_resume)) + sum_by f (take 4 (head first_resume))
same_code f = omega arith

pub overhead_is : (b : Board) → overhead b ≡ wake_cost b + sleep_cost b
overhead_is b = same_code (λ i. instruction_cost b i)

-- ---- What is left

module _ (b : Board) (heads : ℕ → Bool) where
  pub left_step : (xs : List Node) (i : ℕ) (y : Node) → slice_get xs (suc i) ≡ Some y
      → left_at b heads xs i ≡ weight_at b xs i + (if heads y.op.number then 0 else left_at b heads xs (suc i))
  left_step [] i y e = absurd (cc)
  left_step (x ∷ []) zero y e = absurd (cc)
  left_step (x ∷ z ∷ xs) zero y e =
      let same : z ≡ y = cc in
      ap (λ (n : Node). weight b [] x.op + (if heads n.op.number then 0 else weight b [] z.op + up_to_head b heads xs)) same
  left_step (x ∷ xs) (suc i) y e = left_step xs i y e

  pub weight_within : (xs : List Node) (i : ℕ) → weight_at b xs i ≤ left_at b heads xs i
  weight_within [] i = omega arith
  weight_within (x ∷ xs) zero = omega arith
  weight_within (x ∷ xs) (suc i) = weight_within xs i

  -- all operations together
  abbrev pub total : List Node → ℕ
  total [] = 0
  total (x ∷ xs) = weight b [] x.op + total xs

  up_within : (xs : List Node) → up_to_head b heads xs ≤ total xs
  up_within [] = omega arith
  up_within (x ∷ xs) =
      let h = up_within xs in
      elim (heads x.op.number) as (λ c. (if c then 0 else weight b [] x.op + up_to_head b heads xs) ≤ weight b [] x.op + total xs) [ true ↦ omega arith | false ↦ omega (arith, h) ]

  pub left_within : (xs : List Node) (i : ℕ) → left_at b heads xs i ≤ total xs
  left_within [] i = omega arith
  left_within (x ∷ xs) zero = let h = up_within xs in omega (arith, h)
  left_within (x ∷ xs) (suc i) = let h = left_within xs i in omega (arith, h)

-- ---- A jump

jump_by : (k : OpKind) → to_turn k ≡ Away → can_jump k ≡ true
jump_by kind.Go e = refl
jump_by kind.Test e = refl
jump_by kind.Below e = refl
jump_by k e = let bad : On ≡ Away = e in absurd (cc)

test_jumps : (k : OpKind) → IsNextOf k (next.Either 0 0) → can_jump k ≡ true
test_jumps kind.Go e = refl
test_jumps kind.Test e = refl
test_jumps kind.Below e = refl
test_jumps k e = let bad : false ≡ true = e in absurd (cc)

can_turn : (k : OpKind) (y : Next) (passed : Bool) → IsNextOf k y → turn_by k y passed ≡ Away → can_jump k ≡ true
can_turn k (next.To n) passed by e = jump_by k e
can_turn k (next.Either n m) passed by e = test_jumps k by
can_turn k (next.Into f n) passed by e = let bad : On ≡ Away = e in absurd (cc)
can_turn k next.Returns passed by e = let bad : On ≡ Away = e in absurd (cc)
can_turn k next.Ends passed by e = let bad : On ≡ Away = e in absurd (cc)

-- an operation that jumps may jump, and goes to where it does
pub record Jumps (g : Graph) (q : Place) (o : Stood g q.at) : Type 0 where
  pub to : ((flow_of g).away q).at ≡ jumps_to o.node.next
  pub can : can_jump o.node.op.kind ≡ true

jumps_by : (g : Graph) (q : Place) (m : Memory) (w a b : ℕ) (o : Stood g q.at)
    → (effect_by o.node.op.kind o.node.op a b m w (turn_by o.node.op.kind o.node.next (passes o.node.op.kind a b))).turn ≡ Away → Jumps g q o
jumps_by g q m w a b o e =
    let turn : Turn = turn_by o.node.op.kind o.node.next (passes o.node.op.kind a b) in
    record {
      to = ap (λ (x : Option Node). (away_at x q).at) o.found ∙ jumped o.node.op.kind o.node.next q o.by o.no_call o.no_return (no_end o.node.op.kind o.node.op a b m w turn e);
      can = can_turn o.node.op.kind o.node.next (passes o.node.op.kind a b) o.by
          (turned_away turn (effect_by o.node.op.kind o.node.op a b m w turn) (effect_turns o.node.op.kind o.node.op a b m w turn) e);
    }

pub jumps : (g : Graph) (q : Place) (m : Memory) (w : ℕ) (o : Stood g q.at) → ((flow_of g).effect q m w).turn ≡ Away → Jumps g q o
jumps g q m w o e = jumps_by g q m w (operand m o.node.op.a) (operand m o.node.op.b) o (ap (λ (x : Option Node). (graph.effect_at x m w).turn) (sym o.found) ∙ e)
