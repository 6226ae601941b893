-- A compound assignment, part by part.
use Rattle.std.proofs.Common.{◌≡◌, Bool, Option, subst}
use Rattle.std.specs.Prelude.{Result, IfOk}
use Rattle.base_io.specs.declared.place.Place.{Place}
use Rattle.c_values.specs.declared.ops.Ty.{Ty}
use Rattle.c_values.specs.declared.ops.BinaryOp.{BinaryOp}
use Rattle.c_tree.specs.Nodes.{type_of}
use Rattle.c_tree.specs.declared.tree.Expr.{Expr}
use Rattle.c_tree.specs.declared.tree.Target.{Target}
use Rattle.flow_graph.specs.declared.graph.Operand.{Operand}
use Rattle.lowered_graphs.specs.Making.{◌>>=◌}
use Rattle.lowered_graphs.specs.Operators.{make_conversion}
use Rattle.lowered_graphs.specs.Exprs.{Setting}
use Rattle.lowered_graphs.specs.Stmts.{calls_in, index_of, load_from, right_side, finish_update, update}
use Rattle.c_lower.specs.Emitting.{Emits, Emitted}
use Rattle.c_lower.proofs.EmitLemmas.{emits_tail}

pub updated : (s : Setting) (to : Target) (at : Place) (op : BinaryOp) (ty from : Ty) (by : Option Expr) (late : Bool) (i w x y : Operand) {E : Type 0} (r : Result (Unit {0}) E) (a b c d e f : Emitted)
    → late ≡ calls_in s by → from ≡ type_of s.program to.variable
    → Emits (index_of s to.index late) i a b → Emits (load_from s to i late) w b c → Emits (make_conversion ty from w at) x c d → Emits (right_side s by) y d e
    → IfOk r (λ u. Emits (finish_update s to at op ty i x y) tt e f)
    → IfOk r (λ u. Emits (update s to at op ty by) tt a f)
updated s to at op ty from by late i w x y r a b c d e f late_is from_is h1 h2 h3 h4 h5 =
    let k1 = subst (λ (l : Bool). Emits (index_of s to.index l) i a b) late_is h1 in
    let k2 = subst (λ (l : Bool). Emits (load_from s to i l) w b c) late_is h2 in
    let k3 = subst (λ (t : Ty). Emits (make_conversion ty t w at) x c d) from_is h3 in
    emits_tail (index_of s to.index (calls_in s by))
    (λ i. load_from s to i (calls_in s by) >>= (λ w. make_conversion ty (type_of s.program to.variable) w at >>= (λ x. right_side s by >>= (λ y. finish_update s to at op ty i x y))))
    i r a b f k1
    (emits_tail (load_from s to i (calls_in s by)) (λ w. make_conversion ty (type_of s.program to.variable) w at >>= (λ x. right_side s by >>= (λ y. finish_update s to at op ty i x y))) w r b c f k2
    (emits_tail (make_conversion ty (type_of s.program to.variable) w at) (λ x. right_side s by >>= (λ y. finish_update s to at op ty i x y)) x r c d f k3
    (emits_tail (right_side s by) (λ y. finish_update s to at op ty i x y) y r d e f h4 h5)))
