-- Where the operations of a reached function stand in the graph.
use Rattle.std.proofs.Common.{◌≡◌, ℕ, zero, suc, true, false, Some, List, [], ◌∷◌, ◌++◌, ap, subst, ◌∙◌}
use Rattle.std.specs.Prelude.{slice_get, slice_index_or}
use Rattle.c_tree.specs.declared.tree.Function.{Function}
use Rattle.c_tree.specs.declared.tree.Program.{Program}
use Rattle.sound_programs.specs.SoundPrograms.{IsSound}
use Rattle.flow_graph.specs.declared.graph.Func.{Func}
use Rattle.flow_graph.specs.declared.graph.Graph.{Graph}
use Rattle.flow_graph.specs.declared.nodes.Node.{Node}
use Rattle.flow_graph.specs.Nodes.{first_in, first_of, laid_items, body_nodes, all_nodes, graph_nodes, around_body, entry}
use Rattle.flow_graph.proofs.NodeLemmas.{Finds, finds_all, numbered_differ}
use Rattle.lowered_graphs.specs.GraphOf.{reached, objects_before, homes_of, func_of, made_function, graph_of}
use Rattle.lowered_rules.proofs.GraphOrder.{graph_numbered}
use Rattle.lowered_meaning.specs.Tracks.{Has, Stand}
use Rattle.lowered_rules.proofs.PlaceLemmas.{before, place, StandsAt, stands_at}

-- ---- the nodes of a function

finds_left : (table xs ys : List Node) → Finds table (xs ++ ys) → Finds table xs
finds_left table [] ys h = tt
finds_left table (x ∷ xs) ys h = (h.0, finds_left table xs ys h.1)

finds_right : (table xs ys : List Node) → Finds table (xs ++ ys) → Finds table ys
finds_right table [] ys h = h
finds_right table (x ∷ xs) ys h = finds_right table xs ys h.1

finds_body : (table : List Node) (fs : List Func) (k : ℕ) (f : Func) → Finds table (all_nodes fs) → slice_get fs k ≡ Some f → Finds table (body_nodes f)
finds_body table [] k f h e = absurd (cc)
finds_body table (g ∷ fs) zero f h e = let same : g ≡ f = cc in subst (λ z. Finds table (body_nodes z)) same (finds_left table (body_nodes g) (all_nodes fs) h)
finds_body table (g ∷ fs) (suc k) f h e = finds_body table fs k f (finds_right table (body_nodes g) (all_nodes fs) h) e

has_found : (g : Graph) (xs : List Node) → Finds (graph_nodes g) xs → Has g xs
has_found g [] h = tt
has_found g (x ∷ xs) h = (h.0, has_found g xs h.1)

-- ---- the graph of a program

-- a reached function in the graph: the number of its first operation, and what stands at its place
pub record Body (p : Program) (n : ℕ) (f : Function) : Type 0 where
  pub op : ℕ
  pub stands : Stand (graph_of p) around_body (made_function p (homes_of p) n op (objects_before p n f (before p n)) f).items
  pub entered : entry (graph_of p) (place p n) ≡ first_of (laid_items (made_function p (homes_of p) n op (objects_before p n f (before p n)) f).items) 0

pub body_stands : (p : Program) → IsSound p → (n : ℕ) (f : Function) → slice_get p.functions n ≡ Some f → slice_index_or (reached p) n false ≡ true → Body p n f
body_stands p sound n f e r = record {
  op = at.body.op;
  stands = has_found g (body_nodes func) (finds_body (graph_nodes g) g.functions (place p n) func (finds_all (graph_nodes g) (numbered_differ 0 (graph_nodes g) (graph_numbered p))) found);
  entered = ap first_in found;
}
  where
    g : Graph
    g = graph_of p

    at : StandsAt p n f
    at = stands_at p sound n f e r

    func : Func
    func = func_of f (made_function p (homes_of p) n at.body.op (objects_before p n f (before p n)) f)

    found : slice_get g.functions (place p n) ≡ Some func
    found = at.there ∙ ap Some (at.body.same ∙ ap (λ b. func_of f (made_function p (homes_of p) n at.body.op b f)) at.body.base_is)
