-- The operations of a lowered program are numbered from 0 without a gap.
use Rattle.std.proofs.Common.{◌≡◌, ℕ, ◌+◌, Bool, true, false, Option, Some, None, List, [], ◌∷◌, length, refl, arith}
use Rattle.std.specs.Prelude.{if◌then◌else◌, slice_index_or}
use Rattle.base_io.specs.declared.place.Place.{Place}
use Rattle.c_values.specs.declared.ops.Ty.{Ty}
use Rattle.c_tree.specs.declared.tree.StmtKind.{out-StmtKind}
use Rattle.c_tree.specs.declared.tree.Function.{Function}
use Rattle.c_tree.specs.declared.tree.Program.{Program}
use Rattle.flow_graph.specs.declared.graph.OpKind.TheVariants as kind
use Rattle.flow_graph.specs.Nodes.{all_nodes, around_body, graph_nodes}
use Rattle.flow_graph.specs.Rules.{IsNumbered}
use Rattle.lowered_graphs.specs.declared.homes.Homes.{Homes}
use Rattle.lowered_graphs.specs.declared.numbering.Numbering.{Numbering}
use Rattle.lowered_graphs.specs.declared.positions.Position.TheVariants.{Body}
use Rattle.lowered_graphs.specs.Making.{Made, one, plain, zero_operand}
use Rattle.lowered_graphs.specs.Stmts.{Within, lowered_stmt}
use Rattle.lowered_graphs.specs.GraphOf.{Bodies, ends_by, return_zero, implied, body, within_of, reached, bodies_from, with_function, made_function, add_function, objects_before, homes_of, globals, graph_of, operations}
use Rattle.lowered_rules.proofs.ListedLemmas.{Range, range_none, range_append}
use Rattle.lowered_rules.proofs.OrderLemmas.{Orderly, orderly_on, orderly_pure, orderly_if, orderly_one}
use Rattle.lowered_rules.proofs.StmtOrder.{orderly_stmt}

orderly_zero : (w : Within) (ty : Option Ty) (at : Place) → Orderly (return_zero w ty at)
orderly_zero w None at = orderly_pure tt
orderly_zero w (Some ty) at = orderly_one _ (λ n. refl)

orderly_implied : (w : Within) (f : Function) → Orderly (implied w f)
orderly_implied w f = orderly_if w.is_main _ _ (orderly_one _ (λ n. refl))
    (orderly_on (return_zero w f.result f.end) (λ _. one (plain kind.Ret zero_operand f.end)) (orderly_zero w f.result f.end) (λ _. orderly_one _ (λ n. refl)))

pub orderly_body : (w : Within) (f : Function) → Orderly (body w f)
orderly_body w f = orderly_on ((lowered_stmt w f.body).emit Body) _ (orderly_stmt w f.body Body) (λ _. orderly_if (ends_by (out-StmtKind f.body.kind)) _ _ (orderly_pure tt) (orderly_implied w f))

-- ---- functions, one after another

abbrev Ranged : ℕ → Bodies → Type 0
Ranged op b = Range op b.ops (all_nodes b.functions)

ranged_one : (p : Program) (homes : Homes) (n op temp : ℕ) (f : Function) (b : Bodies) → Ranged (made_function p homes n op temp f).counts.op b → Ranged op (with_function f (made_function p homes n op temp f) b)
ranged_one p homes n op temp f b h =
    let m : Made (Unit {0}) = made_function p homes n op temp f in
    range_append op m.counts.op b.ops _ (all_nodes b.functions) ((orderly_body (within_of p homes n) f (record { op = op; temp = temp })).listed.range around_body) h

ranged_if : (t : Bool) (op : ℕ) (a b : Bodies) → Ranged op a → Ranged op b → Ranged op (if t then a else b)
ranged_if true op a b h k = h
ranged_if false op a b h k = k

ranged_from : (p : Program) (homes : Homes) (n op : ℕ) (m : Numbering) (fs : List Function) → Ranged op (bodies_from p homes n op m fs)
ranged_from p homes n op m [] = range_none op
ranged_from p homes n op m (f ∷ fs) =
    let made : Made (Unit {0}) = made_function p homes n op (objects_before p n f m) f in
    ranged_if (slice_index_or (reached p) n false) op _ _
    (ranged_one p homes n op (objects_before p n f m) f (bodies_from p homes (n + 1) made.counts.op (add_function p n f m) fs) (ranged_from p homes (n + 1) made.counts.op (add_function p n f m) fs))
    (ranged_from p homes (n + 1) op m fs)

pub graph_ranged : (p : Program) → Range 0 (operations p) (graph_nodes (graph_of p))
graph_ranged p = ranged_from p (homes_of p) 0 0 (globals p) p.functions

pub graph_numbered : (p : Program) → IsNumbered 0 (graph_nodes (graph_of p))
graph_numbered p = (graph_ranged p).numbered

pub graph_count : (p : Program) → length (graph_nodes (graph_of p)) ≡ operations p
graph_count p = let e = (graph_ranged p).count in omega (arith, e)
