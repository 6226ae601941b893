-- An operation has what its kind has.
use Rattle.std.proofs.Common.{◌≡◌, Bool, true, false, [], refl}
use Rattle.c_values.specs.declared.ops.Ty.{Ty}
use Rattle.c_values.specs.declared.ops.Ty.TheVariants.{I8, U8, I16, U16}
use Rattle.c_values.specs.declared.ops.BinaryOp.{BinaryOp}
use Rattle.c_values.specs.declared.ops.BinaryOp.TheVariants as binary
use Rattle.flow_graph.specs.declared.graph.OpKind.{OpKind}
use Rattle.flow_graph.specs.declared.graph.OpKind.TheVariants as kind
use Rattle.flow_graph.specs.declared.graph.Op.{Op}
use Rattle.flow_graph.specs.Rules.{parts, parts_of, CountFits, stands_alone, stored}
use Rattle.lowered_graphs.specs.Operators.{binary_kind, by_sign}

-- a kind that makes a word of one or two operands
pub record IsMaking (k : OpKind) (two : Bool) : Type 0 where
  pub has : parts_of k ≡ parts true true two false
  pub counts : (op : Op) → CountFits k op
  pub alone : stands_alone k ≡ true
  pub stores : (op : Op) → stored k op ≡ []

by_sign_makes : (ty : Ty) (k l : OpKind) → IsMaking k true → IsMaking l true → IsMaking (by_sign ty k l) true
by_sign_makes I8 k l h j = h
by_sign_makes I16 k l h j = h
by_sign_makes U8 k l h j = j
by_sign_makes U16 k l h j = j

pub binary_makes : (op : BinaryOp) (ty : Ty) → IsMaking (binary_kind op ty) true
binary_makes binary.Mul ty = record { has = refl; counts = λ op. tt; alone = refl; stores = λ op. refl }
binary_makes binary.Div ty = by_sign_makes ty kind.DivS kind.DivU (record { has = refl; counts = λ op. tt; alone = refl; stores = λ op. refl }) (record { has = refl; counts = λ op. tt; alone = refl; stores = λ op. refl })
binary_makes binary.Rem ty = by_sign_makes ty kind.RemS kind.RemU (record { has = refl; counts = λ op. tt; alone = refl; stores = λ op. refl }) (record { has = refl; counts = λ op. tt; alone = refl; stores = λ op. refl })
binary_makes binary.Add ty = record { has = refl; counts = λ op. tt; alone = refl; stores = λ op. refl }
binary_makes binary.Sub ty = record { has = refl; counts = λ op. tt; alone = refl; stores = λ op. refl }
binary_makes binary.Shl ty = record { has = refl; counts = λ op. tt; alone = refl; stores = λ op. refl }
binary_makes binary.Shr ty = by_sign_makes ty kind.ShrS kind.ShrU (record { has = refl; counts = λ op. tt; alone = refl; stores = λ op. refl }) (record { has = refl; counts = λ op. tt; alone = refl; stores = λ op. refl })
binary_makes binary.Less ty = by_sign_makes ty kind.LtS kind.LtU (record { has = refl; counts = λ op. tt; alone = refl; stores = λ op. refl }) (record { has = refl; counts = λ op. tt; alone = refl; stores = λ op. refl })
binary_makes binary.Greater ty = by_sign_makes ty kind.LtS kind.LtU (record { has = refl; counts = λ op. tt; alone = refl; stores = λ op. refl }) (record { has = refl; counts = λ op. tt; alone = refl; stores = λ op. refl })
binary_makes binary.LessEq ty = by_sign_makes ty kind.LeS kind.LeU (record { has = refl; counts = λ op. tt; alone = refl; stores = λ op. refl }) (record { has = refl; counts = λ op. tt; alone = refl; stores = λ op. refl })
binary_makes binary.GreaterEq ty = by_sign_makes ty kind.LeS kind.LeU (record { has = refl; counts = λ op. tt; alone = refl; stores = λ op. refl }) (record { has = refl; counts = λ op. tt; alone = refl; stores = λ op. refl })
binary_makes binary.Equal ty = record { has = refl; counts = λ op. tt; alone = refl; stores = λ op. refl }
binary_makes binary.NotEqual ty = record { has = refl; counts = λ op. tt; alone = refl; stores = λ op. refl }
binary_makes binary.BitAnd ty = record { has = refl; counts = λ op. tt; alone = refl; stores = λ op. refl }
binary_makes binary.BitXor ty = record { has = refl; counts = λ op. tt; alone = refl; stores = λ op. refl }
binary_makes binary.BitOr ty = record { has = refl; counts = λ op. tt; alone = refl; stores = λ op. refl }
binary_makes binary.And ty = record { has = refl; counts = λ op. tt; alone = refl; stores = λ op. refl }
binary_makes binary.Or ty = record { has = refl; counts = λ op. tt; alone = refl; stores = λ op. refl }
