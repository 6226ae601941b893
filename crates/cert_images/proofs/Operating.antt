-- That the templates of a graph's operations pass, with all objects in FRAM.
use Rattle.std.proofs.Common.{◌≡◌, ◌≢◌, ℕ, ◌≤◌, ◌%◌, true, false, Option, Some, None, refl, sym, ap, subst, arith}
use Rattle.std.specs.Prelude.{◌&&◌, slice_get}
use Rattle.std.proofs.lemmas.Bool.Decides.{nat_tests}
use Rattle.certificate.specs.Rows.{Flat}
use Rattle.msp430_machine.specs.Addresses.{out_port}
use Rattle.flow_graph.specs.declared.graph.ArrayUse.{ArrayUse}
use Rattle.flow_graph.specs.declared.graph.Object as declared
use Rattle.flow_graph.specs.declared.graph.Operand.{Operand}
use Rattle.flow_graph.specs.declared.graph.Operand.TheVariants.{Const, Object}
use Rattle.flow_graph.specs.declared.graph.Op.{Op}
use Rattle.flow_graph.specs.declared.graph.OpKind.{OpKind}
use Rattle.flow_graph.specs.declared.graph.OpKind.TheVariants as kind
use Rattle.flow_graph.specs.declared.graph.Graph.{Graph}
use Rattle.flow_graph.specs.Rules.{ArrayFits, CountFits, DestFits, HasWords, IsScalar, OperandFits as Fits, parts_of}
use Rattle.graph_flow.specs.GraphFlow.{size_of, sizes}
use Rattle.graph_code.specs.Homes.{HaveHomes}
use Rattle.op_cost.specs.Templates.{Homes, place_of, array_of, length_in}
use Rattle.each_image.specs.Image.{fram_homes}
use Rattle.cert_rules.specs.Slots.{is_sram, is_memory}
use Rattle.cert_rules.specs.Known.{bare}
use Rattle.cert_rules.specs.Places.{one_address, may_read, may_change, may_move_to}
use Rattle.cert_rules.specs.Outcomes.{is_end}
use Rattle.cert_rules.specs.Sheet.{Sheet}
use Rattle.cert_pieces.specs.Pieces.{Named}
use Rattle.cert_templates.specs.Frames.{OperandFits, WordFits, CodePasses, template_as, inner_by}
use Rattle.cert_templates.proofs.Templates.{UnaryFits, BinaryFits, copies, inverts, negates, to_u8s, to_s8s, adds, subtracts, ands, ors, xors, inputs, outputs}
use Rattle.cert_templates.proofs.Comparing.{equals, differs, is_less_signed, is_less, is_at_most_signed, is_at_most}
use Rattle.cert_templates.proofs.Leaving.{goes, finishes, raises, tests, stays_below, WordChanges}
use Rattle.cert_templates.proofs.Indexing.{ArrayLies}
use Rattle.cert_templates.proofs.Elements.{loads_element, stores_element}
use Rattle.cert_templates.proofs.Multiplying.{multiplies}
use Rattle.cert_templates.proofs.Quotients.{divides_unsigned}
use Rattle.cert_templates.proofs.Signed.{divides_signed, remains_signed}
use Rattle.cert_templates.proofs.Shifting.{shifts_left, shifts_right, shifts_logically}
use Rattle.cert_templates.proofs.Operations.{straight_goes}

-- ---- Words of FRAM

-- an even address of data
pub record InData (d : ℕ) : Type 0 where
  pub even : d % 2 ≡ 0
  pub low : 0x4400 ≤ d
  pub high : d ≤ 0x7EFE

data_read : (d : ℕ) → InData d → may_read (one_address d) ≡ true
data_read d h = let even = h.even in let low = h.low in let high = h.high in grind (arith, nat_tests, even, low, high)

data_moved : (d : ℕ) → InData d → may_move_to (one_address d) ≡ true
data_moved d h = let even = h.even in let low = h.low in let high = h.high in grind (arith, nat_tests, even, low, high)

data_changed : (d : ℕ) → InData d → may_change (one_address d) ≡ true
data_changed d h = let even = h.even in let low = h.low in let high = h.high in grind (arith, nat_tests, even, low, high)

data_no_sram : (d : ℕ) → InData d → is_sram d ≡ false
data_no_sram d h = let low = h.low in grind (arith, nat_tests, low)

data_memory : (d : ℕ) → InData d → is_memory d ≡ true
data_memory d h = let low = h.low in let high = h.high in grind (arith, nat_tests, low, high)

data_no_end : (d : ℕ) → InData d → is_end d ≡ false
data_no_end d h = let low = h.low in grind (arith, nat_tests, low)

unnamed_none : (o : Option Flat) (d : ℕ) → o ≡ None → Named o d
unnamed_none o d e = subst (λ f. Named f d) (sym e) tt

word_fits : (t : Sheet) (d st n : ℕ) → t.here.flat ≡ None → InData d → WordFits t d (bare st n)
word_fits t d st n split h = record { even = h.even; may = data_moved d h; goes_on = data_no_end d h; named = unnamed_none t.here.flat d split; kept = tt }

word_changes : (t : Sheet) (d st n : ℕ) → t.here.flat ≡ None → InData d → WordChanges t d (bare st n)
word_changes t d st n split h = record { fits = word_fits t d st n split h; may = data_changed d h; fresh = ap (λ c. c && true) (data_no_sram d h) }

-- ---- Objects

has_size : (x : Option declared.Object) (n : ℕ) → HasWords n x → size_of x ≡ n
has_size None n h = absurd h
has_size (Some x) n h = h

module _ (g : Graph) (homes : HaveHomes g) where
  scalar_data : (o : ℕ) → IsScalar g o → InData (fram_homes g o)
  scalar_data o h =
      let room = homes.room o in
      let one : sizes g o ≡ 1 = has_size (slice_get g.objects o) 1 h in
      record { even = omega arith; low = omega arith; high = omega (arith, room, one) }

  operand_fits : (a : Operand) → Fits g true a → OperandFits (fram_homes g) (λ x. false) a
  operand_fits (Const v) h = omega (arith, h)
  operand_fits (Object o) h =
      let d = scalar_data o h in
      (d.even, data_read (fram_homes g o) d, ap (λ c. c && true) (data_no_sram (fram_homes g o) d))

  dest_data : (dest : Option ℕ) → DestFits g true dest → InData (place_of (fram_homes g) dest)
  dest_data None h = absurd h
  dest_data (Some o) h = scalar_data o h

  array_lies : (array : Option ArrayUse) → ArrayFits g true array → ArrayLies (array_of (fram_homes g) array) (length_in array)
  array_lies None h = absurd h
  array_lies (Some u) h =
      let room = homes.room u.object in
      let n : sizes g u.object ≡ u.length = has_size (slice_get g.objects u.object) u.length h.0 in
      let some = h.1 in
      record { even = omega arith; some = some; low = omega arith; high = omega (arith, room, n, some) }

  module _ (t : Sheet) (split : t.here.flat ≡ None) (target st n : ℕ) where
    abbrev h' : Homes
    h' = fram_homes g

    unary_fits : (op : Op) → DestFits g true op.dest → Fits g true op.a → UnaryFits t h' op (bare st n)
    unary_fits op dest a = record { a = operand_fits op.a a; dest = word_fits t (place_of h' op.dest) st n split (dest_data op.dest dest) }

    binary_fits : (op : Op) → DestFits g true op.dest → Fits g true op.a → Fits g true op.b → BinaryFits t h' op (bare st n)
    binary_fits op dest a b = record { a = operand_fits op.a a; b = operand_fits op.b b; dest = word_fits t (place_of h' op.dest) st n split (dest_data op.dest dest) }

    out_fits : WordFits t out_port (bare st n)
    out_fits = record { even = refl; may = refl; goes_on = refl; named = unnamed_none t.here.flat out_port split; kept = tt }

    abbrev As : OpKind → Op → Op
    As k op = record op { kind = k }

    below_passes : (op : Op) → CountFits kind.Below op → Fits g true op.a → Fits g true op.b
        → CodePasses kind.Below t (template_as kind.Below h' target op) (inner_by kind.Below t.board (length_in op.array) (template_as kind.Below h' target op)) target st n
    below_passes op count a b = by op.a op.b count.2 count.3 a b
      where
        by : (x y : Operand) → x ≡ Object count.0 → y ≡ Const count.1 → Fits g true x → Fits g true y
            → CodePasses kind.Below t (template_as kind.Below h' target (record op { a = x; b = y })) (inner_by kind.Below t.board (length_in op.array) (template_as kind.Below h' target (record op { a = x; b = y }))) target st n
        by (Object i) (Const v) e f a b = (let d = scalar_data i a in stays_below t v (h' i) target st n (omega (arith, b)) (data_memory (h' i) d) (word_changes t (h' i) st n split d))
        by (Const u) y e f a b = absurd cc
        by (Object i) (Object j) e f a b = absurd cc

    pub by_kind : (k : OpKind) (op : Op) → k ≢ kind.Call → k ≢ kind.Ret → DestFits g (parts_of k).dest op.dest → Fits g (parts_of k).a op.a → Fits g (parts_of k).b op.b
        → ArrayFits g (parts_of k).array op.array → CountFits k op
        → CodePasses k t (template_as k h' target op) (inner_by k t.board (length_in op.array) (template_as k h' target op)) target st n
    by_kind kind.Copy op call ret dest a b array count = straight_goes t (template_as kind.Copy h' target op) (place_of h' op.dest) st n (copies t h' target (As kind.Copy op) (bare st n) refl (unary_fits (As kind.Copy op) dest a))
    by_kind kind.Neg op call ret dest a b array count = straight_goes t (template_as kind.Neg h' target op) (place_of h' op.dest) st n (negates t h' target (As kind.Neg op) (bare st n) refl (unary_fits (As kind.Neg op) dest a))
    by_kind kind.Inv op call ret dest a b array count = straight_goes t (template_as kind.Inv h' target op) (place_of h' op.dest) st n (inverts t h' target (As kind.Inv op) (bare st n) refl (unary_fits (As kind.Inv op) dest a))
    by_kind kind.ToU8 op call ret dest a b array count = straight_goes t (template_as kind.ToU8 h' target op) (place_of h' op.dest) st n (to_u8s t h' target (As kind.ToU8 op) (bare st n) refl (unary_fits (As kind.ToU8 op) dest a))
    by_kind kind.ToS8 op call ret dest a b array count = straight_goes t (template_as kind.ToS8 h' target op) (place_of h' op.dest) st n (to_s8s t h' target (As kind.ToS8 op) (bare st n) refl (unary_fits (As kind.ToS8 op) dest a))
    by_kind kind.Add op call ret dest a b array count = straight_goes t (template_as kind.Add h' target op) (place_of h' op.dest) st n (adds t h' target (As kind.Add op) (bare st n) refl (binary_fits (As kind.Add op) dest a b))
    by_kind kind.Sub op call ret dest a b array count = straight_goes t (template_as kind.Sub h' target op) (place_of h' op.dest) st n (subtracts t h' target (As kind.Sub op) (bare st n) refl (binary_fits (As kind.Sub op) dest a b))
    by_kind kind.BitAnd op call ret dest a b array count = straight_goes t (template_as kind.BitAnd h' target op) (place_of h' op.dest) st n (ands t h' target (As kind.BitAnd op) (bare st n) refl (binary_fits (As kind.BitAnd op) dest a b))
    by_kind kind.BitOr op call ret dest a b array count = straight_goes t (template_as kind.BitOr h' target op) (place_of h' op.dest) st n (ors t h' target (As kind.BitOr op) (bare st n) refl (binary_fits (As kind.BitOr op) dest a b))
    by_kind kind.BitXor op call ret dest a b array count = straight_goes t (template_as kind.BitXor h' target op) (place_of h' op.dest) st n (xors t h' target (As kind.BitXor op) (bare st n) refl (binary_fits (As kind.BitXor op) dest a b))
    by_kind kind.Mul op call ret dest a b array count = multiplies t h' (As kind.Mul op) st n (binary_fits (As kind.Mul op) dest a b)
    by_kind kind.DivU op call ret dest a b array count = divides_unsigned t h' (As kind.DivU op) st n 15 (binary_fits (As kind.DivU op) dest a b) refl
    by_kind kind.RemU op call ret dest a b array count = divides_unsigned t h' (As kind.RemU op) st n 13 (binary_fits (As kind.RemU op) dest a b) refl
    by_kind kind.DivS op call ret dest a b array count = divides_signed t h' (As kind.DivS op) st n (binary_fits (As kind.DivS op) dest a b)
    by_kind kind.RemS op call ret dest a b array count = remains_signed t h' (As kind.RemS op) st n (binary_fits (As kind.RemS op) dest a b)
    by_kind kind.Shl op call ret dest a b array count = shifts_left t h' (As kind.Shl op) st n (binary_fits (As kind.Shl op) dest a b)
    by_kind kind.ShrS op call ret dest a b array count = shifts_right t h' (As kind.ShrS op) st n (binary_fits (As kind.ShrS op) dest a b)
    by_kind kind.ShrU op call ret dest a b array count = shifts_logically t h' (As kind.ShrU op) st n (binary_fits (As kind.ShrU op) dest a b)
    by_kind kind.Eq op call ret dest a b array count = equals t h' op target st n (binary_fits op dest a b)
    by_kind kind.Ne op call ret dest a b array count = differs t h' op target st n (binary_fits op dest a b)
    by_kind kind.LtS op call ret dest a b array count = is_less_signed t h' op target st n (binary_fits op dest a b)
    by_kind kind.LtU op call ret dest a b array count = is_less t h' op target st n (binary_fits op dest a b)
    by_kind kind.LeS op call ret dest a b array count = is_at_most_signed t h' op target st n (binary_fits op dest a b)
    by_kind kind.LeU op call ret dest a b array count = is_at_most t h' op target st n (binary_fits op dest a b)
    by_kind kind.Load op call ret dest a b array count =
        loads_element t h' op.a (length_in op.array) (array_of h' op.array) (place_of h' op.dest) st n (operand_fits op.a a) (array_lies op.array array) (word_fits t (place_of h' op.dest) st n split (dest_data op.dest dest))
    by_kind kind.Store op call ret dest a b array count =
        stores_element t h' op.a op.b (length_in op.array) (array_of h' op.array) st n split (operand_fits op.a a) (operand_fits op.b b) (array_lies op.array array)
    by_kind kind.Input op call ret dest a b array count = straight_goes t (template_as kind.Input h' target op) (place_of h' op.dest) st n (inputs t h' target (As kind.Input op) (bare st n) refl (word_fits t (place_of h' op.dest) st n split (dest_data op.dest dest)))
    by_kind kind.Output op call ret dest a b array count = straight_goes t (template_as kind.Output h' target op) out_port st n (outputs t h' target (As kind.Output op) (bare st n) refl (operand_fits op.a a) out_fits)
    by_kind kind.Finish op call ret dest a b array count = finishes t h' op.a st n (operand_fits op.a a)
    by_kind kind.Test op call ret dest a b array count = tests t h' op.a target st n (operand_fits op.a a)
    by_kind kind.Below op call ret dest a b array count = below_passes op count a b
    by_kind kind.Step op call ret dest a b array count = raises t (place_of h' op.dest) st n (word_changes t (place_of h' op.dest) st n split (dest_data op.dest dest))
    by_kind kind.Go op call ret dest a b array count = goes t target st n
    by_kind kind.Call op call ret dest a b array count = absurd (call refl)
    by_kind kind.Ret op call ret dest a b array count = absurd (ret refl)
