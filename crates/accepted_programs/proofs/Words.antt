-- The values of constant expressions are words.
use Rattle.std.proofs.Common.{◌≡◌, subst, ℕ, zero, suc, ◌<◌, ◌^◌, Bool, true, false, Option, Some, None, arith}
use Rattle.std.specs.Prelude.{ℤ, pos, negsuc, nat_lt, if◌then◌else◌, ◌*ℤ◌}
use Rattle.std.specs.Option.{option_map, option_and_then}
use Rattle.std.proofs.lemmas.Bool.Decides.{nat_tests}
use Rattle.std.proofs.lemmas.Nat.{xor_lt, or_lt}
use Rattle.std.specs.Int.Bits.{and_lt}
use Rattle.c_values.specs.declared.ops.Ty.{Ty}
use Rattle.c_values.specs.declared.ops.UnaryOp.{UnaryOp}
use Rattle.c_values.specs.declared.ops.UnaryOp.TheVariants as unary
use Rattle.c_values.specs.declared.ops.BinaryOp.{BinaryOp}
use Rattle.c_values.specs.declared.ops.BinaryOp.TheVariants as binary
use Rattle.c_values.specs.Values.{Worked, Gives, Traps, word, kept, converted, from_test, is_set, unary_of, binary_of, unless_zero, shifted, value, wrapped, halved}
use Rattle.c_tree.specs.Nodes.{decides}
use Rattle.c_tree.specs.Layer.{ExprLayer}
use Rattle.c_tree.specs.declared.tree.Expr.{Expr, size-Expr}
use Rattle.c_tree.specs.declared.tree.ExprKind.{out-ExprKind}
use Rattle.c_tree.specs.declared.tree.ExprKind.TheOpen.{ExprKind-F}
use Rattle.c_typing.specs.Constants.{is_made, word_to, word_by, second_word, given, constant_of}

word_small : (z : ℤ) → word z < 2 ^ 16
word_small (pos a) = omega arith
word_small (negsuc a) = omega arith

test_small : (b : Bool) → from_test b < 2 ^ 16
test_small true = omega arith
test_small false = omega arith

abbrev SmallWorked : Worked → Type 0
SmallWorked (Gives n) = n < 2 ^ 16
SmallWorked (Traps t) = Unit {0}

abbrev SmallOption : Option ℕ → Type 0
SmallOption (Some n) = n < 2 ^ 16
SmallOption None = Unit {0}

unless_small : (d n : ℕ) → n < 2 ^ 16 → SmallWorked (unless_zero d n)
unless_small zero n h = tt
unless_small (suc d) n h = h

if_small : (b : Bool) (n t : ℕ) → n < 2 ^ 16 → SmallWorked (if b then Gives n else Traps t)
if_small true n t h = h
if_small false n t h = tt

shifted_small : (z : ℤ) (f : ℕ → ℕ) → ((n : ℕ) → f n < 2 ^ 16) → SmallWorked (shifted z f)
shifted_small (pos n) f h = if_small (nat_lt n 16) (f n) 3 (h n)
shifted_small (negsuc n) f h = tt

unary_small : (ty : Ty) (op : UnaryOp) (n : ℕ) → n < 2 ^ 16 → unary_of ty op n < 2 ^ 16
unary_small ty unary.Plus n h = h
unary_small ty unary.Minus n h = word_small _
unary_small ty unary.Inv n h = word_small _
unary_small ty unary.Not n h = test_small _

binary_small : (ty by : Ty) (op : BinaryOp) (x y : ℕ) → x < 2 ^ 16 → y < 2 ^ 16 → SmallWorked (binary_of ty by op x y)
binary_small ty by binary.Mul x y h k = word_small _
binary_small ty by binary.Div x y h k = unless_small y _ (word_small _)
binary_small ty by binary.Rem x y h k = unless_small y _ (word_small _)
binary_small ty by binary.Add x y h k = word_small _
binary_small ty by binary.Sub x y h k = word_small _
binary_small ty by binary.Shl x y h k = shifted_small (value by y) (λ n. kept ty (value ty x *ℤ pos (2 ^ n))) (λ n. word_small (wrapped ty (value ty x *ℤ pos (2 ^ n))))
binary_small ty by binary.Shr x y h k = shifted_small (value by y) (λ n. kept ty (halved (value ty x) n)) (λ n. word_small (wrapped ty (halved (value ty x) n)))
binary_small ty by binary.Less x y h k = test_small _
binary_small ty by binary.Greater x y h k = test_small _
binary_small ty by binary.LessEq x y h k = test_small _
binary_small ty by binary.GreaterEq x y h k = test_small _
binary_small ty by binary.Equal x y h k = test_small _
binary_small ty by binary.NotEqual x y h k = test_small _
binary_small ty by binary.BitAnd x y h k = and_lt 16 x y h k
binary_small ty by binary.BitXor x y h k = xor_lt 16 x y h k
binary_small ty by binary.BitOr x y h k = or_lt 16 x y h k
binary_small ty by binary.And x y h k = test_small _
binary_small ty by binary.Or x y h k = test_small _

given_small : (o : Worked) → SmallWorked o → SmallOption (given o)
given_small (Gives n) h = h
given_small (Traps t) h = tt

map_small : (f : ℕ → ℕ) (o : Option ℕ) → ((n : ℕ) → n < 2 ^ 16 → f n < 2 ^ 16) → SmallOption o → SmallOption (option_map f o)
map_small f (Some n) h k = h n k
map_small f None h k = tt

then_small : (f : ℕ → Option ℕ) (o : Option ℕ) → ((n : ℕ) → n < 2 ^ 16 → SmallOption (f n)) → SmallOption o → SmallOption (option_and_then f o)
then_small f (Some n) h k = h n k
then_small f None h k = tt

chosen_small : (b : Bool) (o p : Option ℕ) → SmallOption o → SmallOption p → SmallOption (if b then o else p)
chosen_small true o p h k = h
chosen_small false o p h k = k

word_by_small : (f : Expr → Option ℕ) (ty : Ty) (x : ExprLayer) → ((e : Expr) → SmallOption (f e)) → SmallOption (word_by f ty x)
word_by_small f ty (ExprKind-F.Number n) h = omega arith
word_by_small f ty (ExprKind-F.Convert e) h = map_small (converted ty e.ty) (f e) (λ n k. word_small _) (h e)
word_by_small f ty (ExprKind-F.Unary op a) h = map_small (unary_of a.ty op) (f a) (λ n k. unary_small a.ty op n k) (h a)
word_by_small f ty (ExprKind-F.Binary op a b) h =
    then_small (second_word f op a b) (f a)
    (λ x k. chosen_small (decides op x) (Some (from_test (is_set x))) _ (test_small (is_set x))
    (then_small (λ y. given (binary_of a.ty b.ty op x y)) (f b) (λ y l. given_small (binary_of a.ty b.ty op x y) (binary_small a.ty b.ty op x y k l)) (h b))) (h a)
word_by_small f ty _ h = tt

word_to_small : (n : ℕ) (e : Expr) → SmallOption (word_to n e)
unfolding word_to
word_to_small zero e = tt
word_to_small (suc n) e = word_by_small (word_to n) e.ty (out-ExprKind e.kind) (word_to_small n)

pub constant_word : (e : Expr) (n : ℕ) → constant_of e ≡ Some n → nat_lt n (2 ^ 16) ≡ true
constant_word e n h = by (constant_of e) h (chosen_small (is_made (size-Expr e) e) (word_to (size-Expr e) e) None (word_to_small (size-Expr e) e) tt)
  where
    by : (o : Option ℕ) → o ≡ Some n → SmallOption o → nat_lt n (2 ^ 16) ≡ true
    by None h k = cc
    by (Some m) h k = small n (subst (λ z. z < 2 ^ 16) (same m n h) k)
      where
        same : (m n : ℕ) → Some m ≡ Some n → m ≡ n
        same m n h = cc

        small : (n : ℕ) → n < 2 ^ 16 → nat_lt n (2 ^ 16) ≡ true
        small n h = grind (arith, nat_tests)
