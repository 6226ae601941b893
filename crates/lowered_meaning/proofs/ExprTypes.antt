-- What the types of a typed expression's parts are.
use Rattle.std.proofs.Common.{◌≡◌, ◌≢◌, Bool, true, false, Option, Some, None, List, refl, sym, ap, ◌∙◌, subst, ◌⊎◌, inl, inr}
use Rattle.std.specs.Prelude.{◌&&◌, ◌||◌, if◌then◌else◌}
use Rattle.c_values.specs.declared.ops.Ty.{Ty}
use Rattle.c_values.specs.declared.ops.Ty.TheVariants.{I8, U8, I16, U16}
use Rattle.c_values.specs.declared.ops.BinaryOp.{BinaryOp}
use Rattle.c_values.specs.declared.ops.BinaryOp.TheVariants as binary
use Rattle.c_tree.specs.declared.tree.Expr.{Expr}
use Rattle.c_tree.specs.declared.tree.ExprKind.{out-ExprKind}
use Rattle.c_tree.specs.declared.tree.ExprKind.TheOpen.{ExprKind-F}
use Rattle.c_tree.specs.declared.tree.Function.{Function}
use Rattle.c_tree.specs.declared.tree.Program.{Program}
use Rattle.c_tree.specs.Nodes.{same_type}
use Rattle.sound_programs.specs.Sound.{Typing, value_if, void_if, has_type, has_promoted, have_common, is_promoted, binary_fits, result_typing, call_typing, arguments_fit, typing_by, typing, known}
use Rattle.sound_programs.proofs.SoundLevels.{typing_level}
use Rattle.lowered_meaning.proofs.WordsSame.{IsWide, WideInt, WideUnsigned}

-- ---- the type of a value is the expression's own

abbrev some_type : Typing → Ty → Ty
some_type None d = d
some_type (Some None) d = d
some_type (Some (Some t)) d = t

value_type : (b : Bool) (ty t : Ty) → value_if b ty ≡ Some (Some t) → ty ≡ t
value_type true ty t e = ap (λ x. some_type x ty) e
value_type false ty t e = cc

void_type : (b : Bool) (ty t : Ty) → void_if b ≡ Some (Some t) → ty ≡ t
void_type true ty t e = let q : None ≡ Some t = ap inner e in cc
  where
    inner : Typing → Option Ty
    inner None = None
    inner (Some x) = x
void_type false ty t e = cc

result_type : (ty t : Ty) (r : Option Ty) → result_typing ty r ≡ Some (Some t) → ty ≡ t
result_type ty t None e = void_type (same_type ty U16) ty t e
result_type ty t (Some r) e = value_type (same_type ty r) ty t e

call_type : (p : Program) (args : List Typing) (ty t : Ty) (f : Option Function) → call_typing p args ty f ≡ Some (Some t) → ty ≡ t
call_type p args ty t None e = cc
call_type p args ty t (Some f) e = by_fit (arguments_fit p f.params args) e
  where
    by_fit : (b : Bool) → (if b then result_typing ty f.result else None) ≡ Some (Some t) → ty ≡ t
    by_fit true q = result_type ty t f.result q
    by_fit false q = cc

layer_type : (p : Program) (l : ExprKind-F (Ty → Typing) Typing) (ty t : Ty) → typing_by p l ty ≡ Some (Some t) → ty ≡ t
layer_type p (ExprKind-F.Number n) ty t e = value_type _ ty t e
layer_type p (ExprKind-F.Var x) ty t e = value_type _ ty t e
layer_type p (ExprKind-F.Element x i) ty t e = value_type _ ty t e
layer_type p (ExprKind-F.Convert a) ty t e = value_type _ ty t e
layer_type p (ExprKind-F.Unary op a) ty t e = value_type _ ty t e
layer_type p (ExprKind-F.Binary op a b) ty t e = value_type _ ty t e
layer_type p (ExprKind-F.Cond c a b) ty t e = value_type _ ty t e
layer_type p (ExprKind-F.Call f args) ty t e = call_type p args ty t _ e
layer_type p ExprKind-F.Input ty t e = value_type _ ty t e
layer_type p (ExprKind-F.Output a) ty t e = void_type _ ty t e

pub own_type : (p : Program) (e : Expr) (t : Ty) → typing p e ≡ Some (Some t) → e.ty ≡ t
own_type p e t h = layer_type p (known p (out-ExprKind e.kind)) e.ty t (typing_level p e ∙ h)

-- ---- promoted operands are int or unsigned int

pub promoted_wide : (p : Program) (e : Expr) (x : Typing) → typing p e ≡ x → has_promoted x ≡ true → IsWide e.ty
promoted_wide p e None h is = cc
promoted_wide p e (Some None) h is = cc
promoted_wide p e (Some (Some I8)) h is = cc
promoted_wide p e (Some (Some U8)) h is = cc
promoted_wide p e (Some (Some I16)) h is = subst IsWide (sym (own_type p e I16 h)) WideInt
promoted_wide p e (Some (Some U16)) h is = subst IsWide (sym (own_type p e U16 h)) WideUnsigned

pub has_wide : (p : Program) (e : Expr) (ty : Ty) (x : Typing) → typing p e ≡ x → is_promoted ty ≡ true → has_type ty x ≡ true → IsWide e.ty
has_wide p e I8 x h is has = cc
has_wide p e U8 x h is has = cc
has_wide p e I16 None h is has = cc
has_wide p e I16 (Some None) h is has = cc
has_wide p e I16 (Some (Some I8)) h is has = cc
has_wide p e I16 (Some (Some U8)) h is has = cc
has_wide p e I16 (Some (Some I16)) h is has = subst IsWide (sym (own_type p e I16 h)) WideInt
has_wide p e I16 (Some (Some U16)) h is has = cc
has_wide p e U16 None h is has = cc
has_wide p e U16 (Some None) h is has = cc
has_wide p e U16 (Some (Some I8)) h is has = cc
has_wide p e U16 (Some (Some U8)) h is has = cc
has_wide p e U16 (Some (Some I16)) h is has = cc
has_wide p e U16 (Some (Some U16)) h is has = subst IsWide (sym (own_type p e U16 h)) WideUnsigned

-- ---- operators of two operands

both_parts : (a b : Bool) → (a && b) ≡ true → (a ≡ true) × (b ≡ true)
both_parts true b e = (refl, e)
both_parts false b e = cc

either_part : (a b : Bool) → (a || b) ≡ true → (a ≡ true) ⊎ (b ≡ true)
either_part true b e = inl refl
either_part false b e = inr e

module _ (p : Program) (a b : Expr) (ty : Ty) where
  shift_wide : (is_promoted ty && (has_type ty (typing p a) && has_promoted (typing p b))) ≡ true → IsWide a.ty × IsWide b.ty
  shift_wide e =
      let h = both_parts (is_promoted ty) (has_type ty (typing p a) && has_promoted (typing p b)) e in
      let i = both_parts (has_type ty (typing p a)) (has_promoted (typing p b)) h.1 in
      (has_wide p a ty (typing p a) refl h.0 i.0, promoted_wide p b (typing p b) refl i.1)

  same_wide : (is_promoted ty && (has_type ty (typing p a) && has_type ty (typing p b))) ≡ true → IsWide a.ty × IsWide b.ty
  same_wide e =
      let h = both_parts (is_promoted ty) (has_type ty (typing p a) && has_type ty (typing p b)) e in
      let i = both_parts (has_type ty (typing p a)) (has_type ty (typing p b)) h.1 in
      (has_wide p a ty (typing p a) refl h.0 i.0, has_wide p b ty (typing p b) refl h.0 i.1)

  common_wide : (have_common (typing p a) (typing p b) && same_type ty I16) ≡ true → IsWide a.ty × IsWide b.ty
  common_wide e = by_type (either_part (has_type I16 (typing p a) && has_type I16 (typing p b)) (has_type U16 (typing p a) && has_type U16 (typing p b)) (both_parts (have_common (typing p a) (typing p b)) (same_type ty I16) e).0)
    where
      by_type : (((has_type I16 (typing p a) && has_type I16 (typing p b)) ≡ true) ⊎ ((has_type U16 (typing p a) && has_type U16 (typing p b)) ≡ true)) → IsWide a.ty × IsWide b.ty
      by_type (inl h) = let i = both_parts (has_type I16 (typing p a)) (has_type I16 (typing p b)) h in (has_wide p a I16 (typing p a) refl refl i.0, has_wide p b I16 (typing p b) refl refl i.1)
      by_type (inr h) = let i = both_parts (has_type U16 (typing p a)) (has_type U16 (typing p b)) h in (has_wide p a U16 (typing p a) refl refl i.0, has_wide p b U16 (typing p b) refl refl i.1)

  -- operands of ordinary operators are int or unsigned int
  pub binary_wide : (op : BinaryOp) → binary_fits op (typing p a) (typing p b) ty ≡ true → op ≢ binary.And → op ≢ binary.Or → IsWide a.ty × IsWide b.ty
  binary_wide binary.Mul e ne ne' = same_wide e
  binary_wide binary.Div e ne ne' = same_wide e
  binary_wide binary.Rem e ne ne' = same_wide e
  binary_wide binary.Add e ne ne' = same_wide e
  binary_wide binary.Sub e ne ne' = same_wide e
  binary_wide binary.BitAnd e ne ne' = same_wide e
  binary_wide binary.BitXor e ne ne' = same_wide e
  binary_wide binary.BitOr e ne ne' = same_wide e
  binary_wide binary.Shl e ne ne' = shift_wide e
  binary_wide binary.Shr e ne ne' = shift_wide e
  binary_wide binary.Less e ne ne' = common_wide e
  binary_wide binary.Greater e ne ne' = common_wide e
  binary_wide binary.LessEq e ne ne' = common_wide e
  binary_wide binary.GreaterEq e ne ne' = common_wide e
  binary_wide binary.Equal e ne ne' = common_wide e
  binary_wide binary.NotEqual e ne ne' = common_wide e
  binary_wide binary.And e ne ne' = absurd (ne refl)
  binary_wide binary.Or e ne ne' = absurd (ne' refl)
