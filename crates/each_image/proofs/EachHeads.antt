-- The heads of a graph where no plan says them stand where they have to, and one charge pays for each stretch.
use Rattle.std.proofs.Common.{◌≡◌, ℕ, zero, suc, ◌+◌, ◌≤◌, Bool, true, false, List, [], ◌∷◌, refl, sym, ap, ◌∙◌, arith}
use Rattle.std.specs.Prelude.{nat_le}
use Rattle.std.proofs.lemmas.Bool.{and_parts, false≢true}
use Rattle.std.proofs.lemmas.Bool.Decides.{nat_tests}
use Rattle.board_table.specs.declared.board.Board.{Board}
use Rattle.flow_graph.specs.declared.graph.Graph.{Graph}
use Rattle.flow_graph.specs.declared.nodes.Node.{Node}
use Rattle.flow_graph.specs.Nodes.{graph_nodes}
use Rattle.flow_graph.specs.Rules.{IsGraph}
use Rattle.flow_graph.proofs.ListLemmas.{item_at}
use Rattle.graph_code.specs.Heads.{has_head}
use Rattle.graph_code.specs.Order.{IsAlone}
use Rattle.op_cost.specs.Weights.{overhead, weight}
use Rattle.each_image.specs.Image.{HeadsStand, StretchesFit, left_at, up_to_head}
use Rattle.each_image.specs.Each.{EachFits, EachHeadsStand, all_weights, is_first_straight, one_stretch}
use Rattle.each_image.proofs.Performing.{weight_at, weight_there}
use Rattle.each_image.proofs.Straight.{straight_stays}
use Rattle.each_image.proofs.Stretches.{left_within, total}

at_most : (a n : ℕ) → nat_le a n ≡ true → a ≤ n
at_most a n e = grind (arith, nat_tests)

total_is : (b : Board) (heads : ℕ → Bool) (xs : List Node) → total b heads xs ≡ all_weights b xs
total_is b heads [] = refl
total_is b heads (x ∷ xs) = ap (λ n. weight b [] x.op + n) (total_is b heads xs)

-- where each has a head, each is a stretch of its own
none_more : (b : Board) (xs : List Node) → up_to_head b (has_head false) xs ≡ 0
none_more b [] = refl
none_more b (x ∷ xs) = refl

alone_left : (b : Board) (xs : List Node) (i : ℕ) → left_at b (has_head false) xs i ≡ weight_at b xs i
alone_left b [] i = refl
alone_left b (x ∷ xs) zero = let h = none_more b xs in omega (arith, h)
alone_left b (x ∷ xs) (suc i) = alone_left b xs i

module _ (b : Board) (g : Graph) (rules : IsGraph g) (alone : IsAlone g) (fits : EachFits b g) where
  by_choice : (one : Bool) → one_stretch b g ≡ one → HeadsStand (has_head one) g × StretchesFit b (has_head one) g
  by_choice false e = (
    record { first = refl; jumped = λ i x at can. refl },
    λ i low has.
        (let x = item_at (graph_nodes g) i low in
        let fit = fits i x.0 x.1 in
        let left = alone_left b (graph_nodes g) i in
        let weighs = weight_there b (graph_nodes g) i x.0 x.1 in
        omega (arith, fit, left, weighs)),
  )
  by_choice true e =
      let both = and_parts (is_first_straight g.functions) (nat_le (all_weights b (graph_nodes g) + overhead b) b.budget) e in (
        record { first = refl; jumped = λ i x at can. absurd (false≢true (sym (straight_stays g rules alone both.0 i x at) ∙ can)) },
        λ i low has.
            (let enough = at_most (all_weights b (graph_nodes g) + overhead b) b.budget both.1 in
            let within = left_within b (has_head true) (graph_nodes g) i in
            let all = total_is b (has_head true) (graph_nodes g) in
            omega (arith, enough, within, all)),
      )

  pub heads_stand : HeadsStand (has_head (one_stretch b g)) g × StretchesFit b (has_head (one_stretch b g)) g
  heads_stand = by_choice (one_stretch b g) refl

pub each_heads_stand : EachHeadsStand
each_heads_stand b g rules alone fits = heads_stand b g rules alone fits
