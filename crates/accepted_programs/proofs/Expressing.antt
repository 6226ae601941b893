-- What the rules of expressions make is good, where it is of their parts.
use Rattle.std.proofs.Common.{◌≡◌, refl, sym, subst, ℕ, ◌+◌, ◌^◌, Bool, true, false, List, [], ◌∷◌, arith}
use Rattle.std.specs.Prelude.{nat_lt, codes}
use Rattle.base_io.specs.declared.place.Place.{Place}
use Rattle.c_lex.specs.declared.token.TokenKind.{TokenKind}
use Rattle.c_lex.specs.declared.token.TokenKind.TheVariants as token
use Rattle.c_values.specs.declared.ops.Ty.TheVariants.{I16, U16}
use Rattle.c_tree.specs.declared.tree.ExprKind.TheVariants as kind
use Rattle.c_typing.specs.declared.value.Value.{Value}
use Rattle.c_typing.specs.Parts.{Part, either, looked}
use Rattle.c_typing.specs.Judged.{Judged, spells}
use Rattle.c_typing.specs.Expressions as rule
use Rattle.c_typing.specs.Texts.{unary_op, binary_op}
use Rattle.accepted_programs.proofs.Walk.{World, Env, Makes, makes_if, makes_then, looked_then}
use Rattle.accepted_programs.proofs.Trees.{good_number}
use Rattle.accepted_programs.proofs.Values.{Fit, GoodExpr, GoodValue, IsExpr, re_count, valued_makes, value_makes, unary_made_makes, cast_made_makes, binary_made_makes, choice_made_makes, name_makes}
use Rattle.accepted_programs.proofs.Calling.{ArePairs, call_makes, element_by_makes}

-- a part that makes good values
abbrev pub IsValue : World → Part Value → Type 0
IsValue w p = (e : Env) → Makes w e (Fit w e) p (GoodValue w e)

pub either_true : {A : Type 0} (w : World) (e : Env) (X : Type 0) (b : Bool) (p q : Part A) (F : A → ℕ → Type 0) → b ≡ true → Makes w e X p F → Makes w e X (either b p q) F
either_true w e X b p q F h m = subst (λ c. Makes w e X (either c p q) F) (sym h) m

pub either_false : {A : Type 0} (w : World) (e : Env) (X : Type 0) (b : Bool) (p q : Part A) (F : A → ℕ → Type 0) → b ≡ false → Makes w e X q F → Makes w e X (either b p q) F
either_false w e X b p q F h m = subst (λ c. Makes w e X (either c p q) F) (sym h) m

module _ (w : World) where
  pub choice_good : (test question a colon b : Judged) → IsExpr w test → IsExpr w a → IsExpr w b → IsValue w (rule.choice_by (test ∷ question ∷ a ∷ colon ∷ b ∷ []))
  choice_good test question a colon b f g h e =
      let X : Type 0 = Fit w e in
      makes_then w e X (rule.value_of test) (rule.arms question.place a b) (GoodExpr w e) (GoodValue w e) (value_makes w e X test (λ x. x) f)
      (λ t k. makes_then w e (X × GoodExpr w e t k) (rule.value_of a) (rule.last_arm question.place b t) (GoodExpr w e) (λ v i. GoodValue w e v (k + i)) (value_makes w e _ a (λ q. q.0) g)
      (λ y m. makes_then w e ((X × GoodExpr w e t k) × GoodExpr w e y m) (rule.value_of b) (rule.choice_made question.place t y) (GoodExpr w e) (λ v i. GoodValue w e v (k + (m + i))) (value_makes w e _ b (λ q. q.0.0) h)
      (λ z n. makes_if w e (((X × GoodExpr w e t k) × GoodExpr w e y m) × GoodExpr w e z n) (((X × GoodExpr w e t k) × GoodExpr w e y m) × GoodExpr w e z n) (rule.choice_made question.place t y z)
      (λ v i. GoodValue w e v ((k + (m + n)) + i)) (λ v i. GoodValue w e v (k + (m + (n + i)))) (λ q. q) (λ v i q d. re_count w e _ v.tree ((k + (m + n)) + i) (k + (m + (n + i))) (omega arith) d)
      (choice_made_makes w e _ question.place t y z k m n (λ q. (q.0.0.1, q.0.1, q.1))))))

  pub binary_good : (a operator b : Judged) → IsExpr w a → IsExpr w b → IsValue w (rule.binary_by (a ∷ operator ∷ b ∷ []))
  binary_good a operator b f g e =
      let X : Type 0 = Fit w e in
      makes_then w e X (rule.value_of a) (rule.second_operand operator.place (binary_op operator.text) b) (GoodExpr w e) (GoodValue w e) (value_makes w e X a (λ x. x) f)
      (λ x m. makes_then w e (X × GoodExpr w e x m) (rule.value_of b) (rule.binary_made operator.place (binary_op operator.text) x) (GoodExpr w e) (λ v i. GoodValue w e v (m + i)) (value_makes w e _ b (λ q. q.0) g)
      (λ y n. makes_if w e ((X × GoodExpr w e x m) × GoodExpr w e y n) ((X × GoodExpr w e x m) × GoodExpr w e y n) (rule.binary_made operator.place (binary_op operator.text) x y)
      (λ v i. GoodValue w e v ((m + n) + i)) (λ v i. GoodValue w e v (m + (n + i))) (λ q. q) (λ v i q d. re_count w e _ v.tree ((m + n) + i) (m + (n + i)) (omega arith) d)
      (binary_made_makes w e _ operator.place (binary_op operator.text) x y m n (λ q. (q.0.1, q.1)))))

  pub unary_good : (operator a : Judged) → IsExpr w a → IsValue w (rule.unary_by (operator ∷ a ∷ []))
  unary_good operator a f e =
      let X : Type 0 = Fit w e in
      makes_then w e X (rule.value_of a) (rule.unary_made operator.place (unary_op operator.text)) (GoodExpr w e) (GoodValue w e) (value_makes w e X a (λ x. x) f)
      (λ x n. unary_made_makes w e (X × GoodExpr w e x n) operator.place (unary_op operator.text) x n (λ q. q.1))

  pub cast_good : (bracket type close a : Judged) → IsExpr w a → IsValue w (rule.unary_by (bracket ∷ type ∷ close ∷ a ∷ []))
  cast_good bracket type close a f e =
      let X : Type 0 = Fit w e in
      makes_then w e X (rule.value_of a) (rule.cast_made bracket.place type.ty) (GoodExpr w e) (GoodValue w e) (value_makes w e X a (λ x. x) f)
      (λ x n. cast_made_makes w e (X × GoodExpr w e x n) bracket.place type.ty x n (λ q. q.1))

  number_good : (place : Place) (n : ℕ) (u : Bool) → nat_lt n (2 ^ 16) ≡ true → IsValue w (rule.number_value place (token.Number n u))
  number_good place n true lt e = valued_makes w e (Fit w e) place U16 (kind.Number n) (GoodValue w e) (λ q. good_number w e place U16 n refl lt)
  number_good place n false lt e = valued_makes w e (Fit w e) place I16 (kind.Number n) (GoodValue w e) (λ q. good_number w e place I16 n refl lt)

  token_number : (place : Place) (text : List ℕ) (k : TokenKind) (n : ℕ) (u : Bool) → k ≡ token.Number n u → nat_lt n (2 ^ 16) ≡ true
      → IsValue w (either (rule.is_name k) (looked (rule.meaning_at text) (rule.name_value place)) (rule.number_value place k))
  token_number place text k n u is lt = subst (λ k. IsValue w (either (rule.is_name k) (looked (rule.meaning_at text) (rule.name_value place)) (rule.number_value place k))) (sym is) (number_good place n u lt)

  token_name : (place : Place) (text : List ℕ) (k : TokenKind) → k ≡ token.Name
      → IsValue w (either (rule.is_name k) (looked (rule.meaning_at text) (rule.name_value place)) (rule.number_value place k))
  token_name place text k is = subst (λ k. IsValue w (either (rule.is_name k) (looked (rule.meaning_at text) (rule.name_value place)) (rule.number_value place k))) (sym is)
      (λ e. looked_then w e (Fit w e) (rule.meaning_at text) (rule.name_value place) (GoodValue w e) (λ m. name_makes w e _ text place m (λ q. q)))

  pub primary_number : (part : Judged) (n : ℕ) (u : Bool) → part.kind ≡ token.Number n u → nat_lt n (2 ^ 16) ≡ true → IsValue w (rule.primary_by (part ∷ []))
  primary_number part n u is lt = token_number part.place part.text part.kind n u is lt

  pub primary_name : (part : Judged) → part.kind ≡ token.Name → IsValue w (rule.primary_by (part ∷ []))
  primary_name part is = token_name part.place part.text part.kind is

  pub primary_grouped : (first second third : Judged) → spells (codes "(") first ≡ true → IsExpr w second → IsValue w (rule.primary_by (first ∷ second ∷ third ∷ []))
  primary_grouped first second third h f e =
      either_true w e (Fit w e) (spells (codes "(") first) second.expr (rule.named_by first second (third ∷ [])) (GoodValue w e) h (f e)

  pub primary_element : (name sign index close : Judged) → spells (codes "(") name ≡ false → spells (codes "[") sign ≡ true → IsExpr w index → IsValue w (rule.primary_by (name ∷ sign ∷ index ∷ close ∷ []))
  primary_element name sign index close h k f e =
      either_false w e (Fit w e) (spells (codes "(") name) sign.expr (rule.named_by name sign (index ∷ close ∷ [])) (GoodValue w e) h
      (looked_then w e (Fit w e) (rule.meaning_at name.text) (rule.indexed_or_called name sign (index ∷ close ∷ [])) (GoodValue w e)
      (λ m. either_true w e _ (spells (codes "[") sign) (rule.element_by name (index ∷ close ∷ []) m) (rule.call_by name (index ∷ close ∷ []) m) (GoodValue w e) k
      (element_by_makes w e _ name index (close ∷ []) m (λ q. q) f)))

  pub primary_call : (name sign : Judged) (parts : List Judged) → spells (codes "(") name ≡ false → spells (codes "[") sign ≡ false → ((e : Env) → ArePairs w e parts) → IsValue w (rule.primary_by (name ∷ sign ∷ parts))
  primary_call name sign parts h k f e =
      either_false w e (Fit w e) (spells (codes "(") name) sign.expr (rule.named_by name sign parts) (GoodValue w e) h
      (looked_then w e (Fit w e) (rule.meaning_at name.text) (rule.indexed_or_called name sign parts) (GoodValue w e)
      (λ m. either_false w e _ (spells (codes "[") sign) (rule.element_by name parts m) (rule.call_by name parts m) (GoodValue w e) k
      (call_makes w e _ name parts m (λ q. q) (f e))))
