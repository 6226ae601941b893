-- What the rules make of expressions is good.
use Rattle.std.proofs.Common.{◌≡◌, refl, sym, ap, subst, ◌∙◌, ℕ, ◌+◌, add-zero, Bool, true, false, Option, Some, None, List, [], ◌∷◌, arith}
use Rattle.std.specs.Prelude.{slice_get, is_none, is_some, if◌then◌else◌}
use Rattle.std.specs.Str.{bytes_eq}
use Rattle.base_io.specs.declared.place.Place.{Place}
use Rattle.c_values.specs.declared.ops.Ty.{Ty}
use Rattle.c_values.specs.declared.ops.Ty.TheVariants.{U16}
use Rattle.c_values.specs.declared.ops.UnaryOp.{UnaryOp}
use Rattle.c_values.specs.declared.ops.BinaryOp.{BinaryOp}
use Rattle.c_tree.specs.Nodes.{same_type}
use Rattle.c_tree.specs.declared.tree.Expr.{Expr}
use Rattle.c_tree.specs.declared.tree.ExprKind.{ExprKind}
use Rattle.c_tree.specs.declared.tree.ExprKind.TheVariants as kind
use Rattle.c_tree.specs.declared.tree.Variable.{Variable}
use Rattle.c_typing.specs.declared.meaning.Meaning.{Meaning}
use Rattle.c_typing.specs.declared.meaning.Meaning.TheVariants as meaning
use Rattle.c_typing.specs.declared.state.Signature.{Signature}
use Rattle.c_typing.specs.declared.state.Role.{Role}
use Rattle.c_typing.specs.declared.state.Role.TheVariants as role
use Rattle.c_typing.specs.declared.value.Value.{Value}
use Rattle.c_typing.specs.declared.type_fault.TypeFault.TheVariants as fault
use Rattle.c_typing.specs.Parts.{pure}
use Rattle.c_typing.specs.Scopes.{find, find_in}
use Rattle.c_typing.specs.Conversions as to
use Rattle.c_typing.specs.Judged.{Judged, absent}
use Rattle.c_typing.specs.Expressions as rule
use Rattle.sound_programs.specs.Sound.{Typing, is_scalar, is_array}
use Rattle.accepted_programs.proofs.Walk.{World, Env, Makes, Saw, Known, makes_pure, makes_if, makes_then, count_then, fails, note_if_then, either_of}
use Rattle.accepted_programs.proofs.Types.{same_refl, same_is}
use Rattle.accepted_programs.proofs.Trees.{Good, value, tree, both, good_var, good_element, good_convert, good_unary, good_binary, good_choice}

-- `in` has no parameter, and `out` has one
abbrev pub RoleFits : Role → List Ty → Type 0
RoleFits role.Input params = params ≡ []
RoleFits role.Output params = params ≡ U16 ∷ []
RoleFits _ params = Unit {0}

-- the variables and functions in scope are those of the world
pub record Fit (w : World) (e : Env) : Type 0 where
  pub variables : (name : List ℕ) (x : ℕ) (ty : Ty) (size : Option ℕ) (constant : Bool) → find name e.scopes ≡ Some (meaning.Variable x ty size constant) → (v : Variable) × (slice_get w.program.variables x ≡ Some v) × (v.ty ≡ ty) × (v.length ≡ size)
  pub functions : (name : List ℕ) (f : ℕ) → find name e.scopes ≡ Some (meaning.Function f) → (find_in name w.file ≡ Some (meaning.Function f)) × ((g : Signature) × (slice_get e.signatures f ≡ Some g))
  pub signatures : (f : ℕ) (g : Signature) → slice_get e.signatures f ≡ Some g → Known w f g × RoleFits g.role g.params
  pub defined : e.defined ≡ w.defined

abbrev pub typing_of : Value → Typing
typing_of v = if v.is_void then Some None else value v.tree.ty

abbrev pub GoodExpr : World → Env → Expr → ℕ → Type 0
GoodExpr w e x n = Good w e (value x.ty) x n

abbrev pub GoodValue : World → Env → Value → ℕ → Type 0
GoodValue w e v n = Good w e (typing_of v) v.tree n

-- what is judged of an expression
abbrev pub IsExpr : World → Judged → Type 0
IsExpr w j = (e : Env) → Makes w e (Fit w e) j.expr (GoodValue w e)

pub re_count : (w : World) (e : Env) (t : Typing) (x : Expr) (m n : ℕ) → m ≡ n → Good w e t x m → Good w e t x n
re_count w e t x m n h g = subst (λ k. Good w e t x k) h g

-- ---- what is seen

meant_by : (b : Bool) (o : Option Meaning) (m : Meaning) → (if b then None else o) ≡ Some m → o ≡ Some m
meant_by true o m h = cc
meant_by false o m h = h

pub meant : (e : Env) (name : List ℕ) (m : Meaning) → Saw e (rule.meaning_at name) (Some m) → find name e.scopes ≡ Some m
meant e name m saw = ap (λ (z : Env). find name z.scopes) (sym saw.same) ∙ meant_by (bytes_eq name saw.at.unready) (find name saw.at.scopes) m saw.is

module _ (w : World) (e : Env) where
  pub valued_makes : (X : Type 0) (place : Place) (ty : Ty) (k : ExprKind) (F : Value → ℕ → Type 0) → (X → F (record { tree = tree place ty k; is_void = false }) 1) → Makes w e X (rule.valued place ty k) F
  valued_makes X place ty k F h s = λ some. (refl, λ ends. (ends, λ x is. record { more = 1; same = is; nodes = refl; fits = h x }))

  pub void_makes : (X : Type 0) (place : Place) (k : ExprKind) (F : Value → ℕ → Type 0) → (X → F (record { tree = tree place U16 k; is_void = true }) 1) → Makes w e X (rule.void_node place k) F
  void_makes X place k F h s = λ some. (refl, λ ends. (ends, λ x is. record { more = 1; same = is; nodes = refl; fits = h x }))

  used_if : (b : Bool) (t : Typing) (ty : Ty) → b ≡ false → (if b then Some None else value ty) ≡ value ty
  used_if b t ty h = ap (λ c. if c then Some None else value ty) h

  pub used_makes : (X : Type 0) (v : Value) (n : ℕ) → (X → GoodValue w e v n) → Makes w e X (rule.used v) (λ x m. GoodExpr w e x (n + m))
  used_makes X v n h =
      note_if_then w e X v.is_void (fault.BadAssign v.tree.place) (pure v.tree) (λ x m. GoodExpr w e x (n + m))
      (makes_pure w e (X × (v.is_void ≡ false)) v.tree (λ x m. GoodExpr w e x (n + m))
      (λ q. re_count w e (value v.tree.ty) v.tree n (n + 0) (sym (add-zero n)) (subst (λ t. Good w e t v.tree n) (used_if v.is_void None v.tree.ty q.1) (h q.0))))

  pub value_makes : (X : Type 0) (j : Judged) → (X → Fit w e) → IsExpr w j → Makes w e X (rule.value_of j) (GoodExpr w e)
  value_makes X j fit is =
      makes_then w e X j.expr rule.used (GoodValue w e) (GoodExpr w e)
      (makes_if w e X (Fit w e) j.expr (GoodValue w e) (GoodValue w e) fit (λ a n x f. f) (is e))
      (λ v n. used_makes (X × GoodValue w e v n) v n (λ q. q.1))

  -- a conversion, where it is none and where it is one
  pub converted_makes : (X : Type 0) (ty : Ty) (x : Expr) (n : ℕ) → (X → GoodExpr w e x n) → Makes w e X (rule.converted ty x) (λ y m. (y.ty ≡ ty) × Good w e (value ty) y (n + m))
  converted_makes X ty x n h =
      let F : Expr → ℕ → Type 0 = λ y m. (y.ty ≡ ty) × Good w e (value ty) y (n + m) in
      either_of w e X (same_type ty x.ty) (pure x) (rule.node x.place ty (kind.Convert x)) F
      (makes_pure w e (X × (same_type ty x.ty ≡ true)) x F (λ q. let same : ty ≡ x.ty = same_is ty x.ty q.1 in
      (sym same, re_count w e (value ty) x n (n + 0) (sym (add-zero n)) (subst (λ t. Good w e (value t) x n) (sym same) (h q.0)))))
      (count_then w e (X × (same_type ty x.ty ≡ false)) 1 (pure (tree x.place ty (kind.Convert x))) F
      (makes_pure w e (X × (same_type ty x.ty ≡ false)) (tree x.place ty (kind.Convert x)) (λ y m. F y (1 + m))
      (λ q. (refl, re_count w e (value ty) (tree x.place ty (kind.Convert x)) (1 + n) (n + (1 + 0)) (omega arith) (good_convert w e x.place ty x n q.1 (h q.0))))))

  -- ---- operators

  pub unary_made_makes : (X : Type 0) (place : Place) (op : UnaryOp) (a : Expr) (n : ℕ) → (X → GoodExpr w e a n) → Makes w e X (rule.unary_made place op a) (λ v m. GoodValue w e v (n + m))
  unary_made_makes X place op a n h =
      let ty : Ty = to.operand_type op a.ty in
      makes_then w e X (rule.converted ty a) (rule.unary_node place op (to.unary_type op a.ty)) (λ y m. (y.ty ≡ ty) × Good w e (value ty) y (n + m)) (λ v m. GoodValue w e v (n + m))
      (converted_makes X ty a n h)
      (λ y m. valued_makes _ place (to.unary_type op a.ty) (kind.Unary op y) (λ v k. GoodValue w e v (n + (m + k)))
      (λ q. re_count w e (value (to.unary_type op a.ty)) (tree place (to.unary_type op a.ty) (kind.Unary op y)) (1 + (n + m)) (n + (m + 1)) (omega arith) (good_unary w e place op a.ty y (n + m) q.1.1)))

  pub cast_made_makes : (X : Type 0) (place : Place) (ty : Ty) (a : Expr) (n : ℕ) → (X → GoodExpr w e a n) → Makes w e X (rule.cast_made place ty a) (λ v m. GoodValue w e v (n + m))
  cast_made_makes X place ty a n h =
      let F : Value → ℕ → Type 0 = λ v m. GoodValue w e v (n + m) in
      either_of w e X (same_type ty a.ty) (pure (record { tree = a; is_void = false })) (rule.valued place ty (kind.Convert a)) F
      (makes_pure w e (X × (same_type ty a.ty ≡ true)) (record { tree = a; is_void = false }) F (λ q. re_count w e (value a.ty) a n (n + 0) (sym (add-zero n)) (h q.0)))
      (valued_makes (X × (same_type ty a.ty ≡ false)) place ty (kind.Convert a) F
      (λ q. re_count w e (value ty) (tree place ty (kind.Convert a)) (1 + n) (n + 1) (omega arith) (good_convert w e place ty a n q.1 (h q.0))))

  pub binary_made_makes : (X : Type 0) (place : Place) (op : BinaryOp) (a b : Expr) (m n : ℕ) → (X → GoodExpr w e a m × GoodExpr w e b n)
      → Makes w e X (rule.binary_made place op a b) (λ v k. GoodValue w e v ((m + n) + k))
  binary_made_makes X place op a b m n h =
      let l : Ty = to.left_type op a.ty b.ty in
      let r : Ty = to.right_type op a.ty b.ty in
      let t : Ty = to.result_type op a.ty b.ty in
      makes_then w e X (rule.converted l a) (rule.right_converted place op a.ty b) (λ y k. (y.ty ≡ l) × Good w e (value l) y (m + k)) (λ v k. GoodValue w e v ((m + n) + k))
      (converted_makes X l a m (λ x. (h x).0))
      (λ y i. makes_then w e (X × ((y.ty ≡ l) × Good w e (value l) y (m + i))) (rule.converted r b) (rule.binary_node place op t y) (λ z k. (z.ty ≡ r) × Good w e (value r) z (n + k)) (λ v k. GoodValue w e v ((m + n) + (i + k)))
      (converted_makes _ r b n (λ q. (h q.0).1))
      (λ z j. valued_makes _ place t (kind.Binary op y z) (λ v k. GoodValue w e v ((m + n) + (i + (j + k))))
      (λ q. re_count w e (value t) (tree place t (kind.Binary op y z)) (1 + ((m + i) + (n + j))) ((m + n) + (i + (j + 1))) (omega arith)
      (good_binary w e place op a.ty b.ty y z (m + i) (n + j) q.0.1.1 q.1.1))))

  pub choice_made_makes : (X : Type 0) (place : Place) (c a b : Expr) (k m n : ℕ) → (X → GoodExpr w e c k × GoodExpr w e a m × GoodExpr w e b n)
      → Makes w e X (rule.choice_made place c a b) (λ v i. GoodValue w e v ((k + (m + n)) + i))
  choice_made_makes X place c a b k m n h =
      let t : Ty = to.common a.ty b.ty in
      makes_then w e X (rule.converted t a) (rule.no_converted place c t b) (λ y i. (y.ty ≡ t) × Good w e (value t) y (m + i)) (λ v i. GoodValue w e v ((k + (m + n)) + i))
      (converted_makes X t a m (λ x. (h x).1))
      (λ y i. makes_then w e (X × ((y.ty ≡ t) × Good w e (value t) y (m + i))) (rule.converted t b) (rule.choice_node place t c y) (λ z j. (z.ty ≡ t) × Good w e (value t) z (n + j)) (λ v j. GoodValue w e v ((k + (m + n)) + (i + j)))
      (converted_makes _ t b n (λ q. (h q.0).2))
      (λ z j. valued_makes _ place t (kind.Cond c y z) (λ v g. GoodValue w e v ((k + (m + n)) + (i + (j + g))))
      (λ q. re_count w e (value t) (tree place t (kind.Cond c y z)) (1 + (k + ((m + i) + (n + j)))) ((k + (m + n)) + (i + (j + 1))) (omega arith)
      (good_choice w e place c y z a.ty b.ty k (m + i) (n + j) (h q.0.0).0 q.0.1.1 q.1.1))))

  -- ---- names

  scalar_if : (o : Option Variable) (v : Variable) (ty : Ty) → o ≡ Some v → v.ty ≡ ty → v.length ≡ None → is_scalar ty o ≡ true
  scalar_if o v ty h t n = ap (is_scalar ty) h ∙ both _ _ (ap is_none n) (ap (λ z. same_type z ty) t ∙ same_refl ty)

  array_if : (o : Option Variable) (v : Variable) (ty : Ty) (size : ℕ) → o ≡ Some v → v.ty ≡ ty → v.length ≡ Some size → is_array ty o ≡ true
  array_if o v ty size h t n = ap (is_array ty) h ∙ both _ _ (ap is_some n) (ap (λ z. same_type z ty) t ∙ same_refl ty)

  pub name_makes : (X : Type 0) (name : List ℕ) (place : Place) (m : Option Meaning) → (X → Fit w e × Saw e (rule.meaning_at name) m) → Makes w e X (rule.name_value place m) (GoodValue w e)
  name_makes X name place None h = fails w e X (fault.Unknown place) (absent place) (GoodValue w e)
  name_makes X name place (Some (meaning.Variable x ty None constant)) h =
      valued_makes X place ty (kind.Var x) (GoodValue w e)
      (λ q. let found = meant e name (meaning.Variable x ty None constant) (h q).1 in
      let v = (h q).0.variables name x ty None constant found in
      good_var w e place ty x (scalar_if _ v.0 ty v.1 v.2 v.3) (λ scope covers. covers name x ty None constant found))
  name_makes X name place (Some (meaning.Variable x ty (Some n) constant)) h = fails w e X (fault.BadArray place) (absent place) (GoodValue w e)
  name_makes X name place (Some (meaning.Function f)) h = fails w e X (fault.WrongArgs place) (absent place) (GoodValue w e)

  pub element_makes : (X : Type 0) (name : List ℕ) (place : Place) (m : Option Meaning) (i : Expr) (n : ℕ) → (X → Fit w e × Saw e (rule.meaning_at name) m × GoodExpr w e i n)
      → Makes w e X (rule.element_value place m i) (λ v k. GoodValue w e v (n + k))
  element_makes X name place None i n h = fails w e X (fault.Unknown place) (absent place) (λ v k. GoodValue w e v (n + k))
  element_makes X name place (Some (meaning.Variable x ty None constant)) i n h = fails w e X (fault.BadArray place) (absent place) (λ v k. GoodValue w e v (n + k))
  element_makes X name place (Some (meaning.Variable x ty (Some size) constant)) i n h =
      valued_makes X place ty (kind.Element x i) (λ v k. GoodValue w e v (n + k))
      (λ q. let found = meant e name (meaning.Variable x ty (Some size) constant) (h q).1 in
      let v = (h q).0.variables name x ty (Some size) constant found in
      re_count w e (value ty) (tree place ty (kind.Element x i)) (1 + n) (n + 1) (omega arith)
      (good_element w e place ty x i n (array_if _ v.0 ty size v.1 v.2 v.3) (λ scope covers. covers name x ty (Some size) constant found) (h q).2))
  element_makes X name place (Some (meaning.Function f)) i n h = fails w e X (fault.WrongArgs place) (absent place) (λ v k. GoodValue w e v (n + k))
