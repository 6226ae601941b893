-- An operation of a graph of one function: its node, and what the rules say of it.
use Rattle.std.proofs.Common.{◌≡◌, ◌≢◌, ℕ, suc, ◌<◌, false, true, List, [], ◌∷◌, length, Some, refl, sym, ap, ◌∙◌, subst}
use Rattle.std.specs.Prelude.{slice_get}
use Rattle.flow_graph.specs.declared.graph.OpKind.{OpKind}
use Rattle.flow_graph.specs.declared.graph.OpKind.TheVariants as kind
use Rattle.flow_graph.specs.declared.graph.Graph.{Graph}
use Rattle.flow_graph.specs.declared.nodes.Next.{Next}
use Rattle.flow_graph.specs.declared.nodes.Next.TheVariants as next
use Rattle.flow_graph.specs.declared.nodes.Node.{Node}
use Rattle.flow_graph.specs.declared.owned.Owned.{Owned}
use Rattle.flow_graph.specs.Nodes.{graph_nodes, node_in}
use Rattle.flow_graph.specs.Owned.{operations}
use Rattle.flow_graph.specs.Closed.{IsNextOf}
use Rattle.flow_graph.specs.Rules.{IsGraph, OpFits}
use Rattle.flow_graph.proofs.ListLemmas.{item_at}
use Rattle.flow_graph.proofs.ClosedLemmas.{closed, node_at, node_of, nodes, nodes-owned_from}
use Rattle.graph_code.specs.Order.{IsAlone}
use Rattle.graph_code.proofs.OrderLemmas.{in_main, no_call}

pub record Stood (g : Graph) (i : ℕ) : Type 0 where
  pub node : Node
  pub item : slice_get (graph_nodes g) i ≡ Some node
  pub found : node_in (graph_nodes g) i ≡ Some node
  pub number : node.op.number ≡ i
  pub fits : OpFits g node.op
  pub by : IsNextOf node.op.kind node.next
  pub no_call : node.op.kind ≢ kind.Call
  pub no_return : node.op.kind ≢ kind.Ret

nodes-length : (xs : List Owned) → length (nodes xs) ≡ length xs
nodes-length [] = refl
nodes-length (x ∷ xs) = ap (λ n. suc n) (nodes-length xs)

pub operations-length : (g : Graph) → length (graph_nodes g) ≡ length (operations g)
operations-length g = sym (ap (λ (xs : List Node). length xs) (nodes-owned_from 0 g.functions)) ∙ nodes-length (operations g)

calls_none : (k : OpKind) (y : Next) → IsNextOf k y → ((f n : ℕ) → y ≡ next.Into f n → ⊥) → k ≡ kind.Call → ⊥
calls_none k (next.To n) by none e = let bad : false ≡ true = subst (λ j. IsNextOf j (next.To n)) e by in absurd (cc)
calls_none k (next.Either n m) by none e = let bad : false ≡ true = subst (λ j. IsNextOf j (next.Either n m)) e by in absurd (cc)
calls_none k (next.Into f n) by none e = none f n refl
calls_none k next.Returns by none e = let bad : kind.Ret ≡ kind.Call = sym by ∙ e in absurd (cc)
calls_none k next.Ends by none e = let bad : kind.Finish ≡ kind.Call = sym by ∙ e in absurd (cc)

returns_none : (k : OpKind) (y : Next) → IsNextOf k y → (y ≡ next.Returns → ⊥) → k ≡ kind.Ret → ⊥
returns_none k (next.To n) by none e = let bad : false ≡ true = subst (λ j. IsNextOf j (next.To n)) e by in absurd (cc)
returns_none k (next.Either n m) by none e = let bad : false ≡ true = subst (λ j. IsNextOf j (next.Either n m)) e by in absurd (cc)
returns_none k (next.Into f n) by none e = let bad : kind.Call ≡ kind.Ret = sym by ∙ e in absurd (cc)
returns_none k next.Returns by none e = none refl
returns_none k next.Ends by none e = let bad : kind.Finish ≡ kind.Ret = sym by ∙ e in absurd (cc)

pub stood : (g : Graph) → IsGraph g → IsAlone g → (i : ℕ) → i < length (operations g) → Stood g i
stood g rules alone i low =
    let found = item_at (operations g) i low in
    by_node found.0 found.1
  where
    by_node : (x : Owned) → slice_get (operations g) i ≡ Some x → Stood g i
    by_node x at = record {
      node = x.node;
      item = subst (λ (ns : List Node). slice_get ns i ≡ Some x.node) (nodes-owned_from 0 g.functions) (node_of (operations g) i x at);
      found = node_at g i x (closed g rules).places at;
      number = (closed g rules).places i x at;
      fits = (closed g rules).fits i x at;
      by = (closed g rules).kinds i x at;
      no_call = calls_none x.node.op.kind x.node.next ((closed g rules).kinds i x at) (λ f n e. no_call g rules alone i x f n at e);
      no_return = returns_none x.node.op.kind x.node.next ((closed g rules).kinds i x at) (λ e. (closed g rules).returns i x at e (in_main g rules alone i x at));
    }
