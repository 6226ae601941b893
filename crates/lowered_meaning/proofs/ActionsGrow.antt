-- Temporaries of actions are counted upwards.
use Rattle.std.proofs.Common.{ℕ, ◌≤◌, Bool, true, false, Option, Some, None, arith}
use Rattle.std.specs.Prelude.{is_none, ◌&&◌, if◌then◌else◌}
use Rattle.base_io.specs.declared.place.Place.{Place}
use Rattle.c_tree.specs.declared.tree.Expr.{Expr}
use Rattle.c_tree.specs.declared.tree.Action.{Action}
use Rattle.c_tree.specs.declared.tree.Action.TheVariants as action
use Rattle.c_tree.specs.Runs.{Part}
use Rattle.c_tree.specs.Nodes.{type_of}
use Rattle.flow_graph.specs.declared.graph.Graph.{Graph}
use Rattle.flow_graph.specs.declared.graph.OpKind.{OpKind}
use Rattle.flow_graph.specs.declared.graph.OpKind.TheVariants as kind
use Rattle.flow_graph.specs.declared.graph.Operand.{Operand}
use Rattle.flow_graph.specs.declared.graph.Operand.TheVariants.{Object}
use Rattle.lowered_graphs.specs.Making as making
use Rattle.lowered_graphs.specs.Making.{Counts, Emit, Made, copy_into, store_into, zero_operand}
use Rattle.lowered_graphs.specs.Operators.{make_some, make_conversion, make_binary, conversion_kind}
use Rattle.lowered_graphs.specs.Exprs.{home, is_global, array_use, lowered, calls, full, read_scalar, load}
use Rattle.lowered_graphs.specs.Stmts.{calls_in, index_of, load_from, right_side, act}
use Rattle.lowered_meaning.specs.Keeps.{Ground, OwnsTemporaries, HasHomes}
use Rattle.lowered_meaning.specs.Leaves.{Upwards}
use Rattle.lowered_meaning.proofs.AssignActions.{OptOk}
use Rattle.lowered_meaning.proofs.AssignUpdates.{binary_temp}
use Rattle.lowered_meaning.proofs.AssignNodes.{ActFits}

module _ (g : Graph) (w : Ground) (scope : ℕ → Type 0) (most : ℕ) (f : Expr → Part ℕ) (owns : OwnsTemporaries w) (homes : HasHomes w scope) where
  index_up : (o : Option Expr) (later : Bool) (c : Counts) → OptOk g w scope most f o → c.temp ≤ (index_of w.setting o later c).counts.temp
  index_up None later c ok = omega arith
  index_up (Some e) later c ok = (ok later).grows c

  right_up : (o : Option Expr) (c : Counts) → OptOk g w scope most f o → c.temp ≤ (right_side w.setting o c).counts.temp
  right_up None c ok = omega arith
  right_up (Some e) c ok = (ok false).grows c

  some_up : (k : Option OpKind) (x : Operand) (at : Place) (c : Counts) → c.temp ≤ (make_some k x at c).counts.temp
  some_up None x at c = omega arith
  some_up (Some k) x at c = omega arith

  store_up : (b : Bool) (x : ℕ) (i a : Operand) (at : Place) (c : Counts) → c.temp ≤ ((if b then copy_into (home w.setting x) a at else store_into (array_use w.setting x) a i at) c).counts.temp
  store_up true x i a at c = omega arith
  store_up false x i a at c = omega arith

  scalar_up : (b : Bool) (x : ℕ) (at : Place) (c : Counts) → c.temp ≤ ((if b then making.make_of kind.Copy (Object (home w.setting x)) zero_operand at else making.pure (Object (home w.setting x))) c).counts.temp
  scalar_up true x at c = omega arith
  scalar_up false x at c = omega arith

  load_up : (b : Bool) (x : ℕ) (i : Operand) (at : Place) (later : Bool) (c : Counts) → c.temp ≤ ((if b then read_scalar w.setting x at later else load w.setting x i at) c).counts.temp
  load_up true x i at later c = scalar_up (later && is_global w.setting x) x at c
  load_up false x i at later c = omega arith

  pub act_up : (a : Action) → ActFits g w scope most f owns a → Upwards (act w.setting a)
  act_up (action.Value e) ok c = (ok false).grows c
  act_up (action.Assign to e) ok c =
      let i : Made Operand = index_of w.setting to.index (calls (lowered w.setting e)) c in
      let m : Made Operand = full w.setting e i.counts in
      omega (arith, index_up to.index (calls (lowered w.setting e)) c ok.1, (ok.2 false).grows i.counts, store_up (is_none to.index) to.variable i.value m.value to.place m.counts)
  act_up (action.Update to at op ty by) ok c =
      let i : Made Operand = index_of w.setting to.index (calls_in w.setting by) c in
      let u : Made Operand = load_from w.setting to i.value (calls_in w.setting by) i.counts in
      let v : Made Operand = make_conversion ty (type_of w.setting.program to.variable) u.value at u.counts in
      let y : Made Operand = right_side w.setting by v.counts in
      let r : Made Operand = make_binary op ty v.value y.value at y.counts in
      let z : Made Operand = make_conversion (type_of w.setting.program to.variable) ty r.value at r.counts in
      omega (
        arith,
        index_up to.index (calls_in w.setting by) c ok.3,
        load_up (is_none to.index) to.variable i.value to.place (calls_in w.setting by) i.counts,
        some_up (conversion_kind ty (type_of w.setting.program to.variable)) u.value at u.counts,
        right_up by v.counts ok.4,
        (binary_temp g w scope most owns homes op ty v.value y.value at y.counts).0,
        some_up (conversion_kind (type_of w.setting.program to.variable) ty) r.value at r.counts,
        store_up (is_none to.index) to.variable i.value z.value to.place z.counts,
      )
