-- Operators between operands, taken from the left.
use Rattle.std.proofs.Common.{◌≡◌, refl, sym, ap, ◌∙◌, subst, ℕ, ◌+◌, ◌≤◌, List, [], ◌∷◌, Result, Ok, Err, arith}
use Rattle.c_parse.specs.declared.raw.Raw.{Raw}
use Rattle.c_parse.specs.declared.raw.Raw.TheVariants.{Node}
use Rattle.c_parse.specs.declared.raw.RawRule.TheVariants as rule
use Rattle.c_tree.specs.declared.tree.Expr.{Expr}
use Rattle.c_typing.specs.declared.state.State.{State}
use Rattle.c_typing.specs.Parts.{Part, Got, Gives, go_on, ◌>>=◌, pure, Makes}
use Rattle.c_typing.specs.Expressions.{value_of, used}
use Rattle.c_typing.specs.Programs.{judged}
use Rattle.c_typing.specs.Sizes.{size, total}
use Rattle.c_typing.proofs.Judging.{judged_node, size_node}
use Rattle.c_expressions.specs.declared.trees.Operation.{Operation}
use Rattle.c_expressions.specs.Operations.{behind_left, operated, rests_of, rights}

-- the tree is this operation
abbrev pub Is : Raw → Operation → Type 0
Is raw o = raw ≡ Node rule.Binary (o.left.now ∷ o.operator.now ∷ o.right.now ∷ [])

-- one value, and then nothing behind it
on_pure : {A : Type 0} (got : Got A) → go_on got pure ≡ got
on_pure (Gives a s) = refl

-- four parts, one after another, however they are put together
turned : {A B C D : Type 0} (got : Got A) (f : A → Part B) (g : B → Part C) (h : C → Part D) → go_on (go_on (go_on got f) g) h ≡ go_on got (λ a s. go_on (go_on (f a s) g) h)
turned (Gives a s) f g h = refl

pub operands_below : (raw : Raw) (o : Operation) → Is raw o → size o.right.now + size o.left.now + 1 ≤ size raw
operands_below raw o is = omega (arith, ap size is, size_node rule.Binary (o.left.now ∷ o.operator.now ∷ o.right.now ∷ []))

-- an operation is its left operand and what comes behind it
parted : (raw : Raw) (o : Operation) → Is raw o → (judged raw).expr ≡ (value_of (judged o.left.now) >>= behind_left o)
parted raw o is = ap (λ r. (judged r).expr) is ∙ ap (λ j. j.expr) (judged_node rule.Binary (o.left.now ∷ o.operator.now ∷ o.right.now ∷ []))

-- the tree's value is that of the part `at`, and then of what is kept
abbrev pub Comes : Raw → Raw → List Operation → Type 0
Comes raw at os = (s : State) → value_of (judged raw) s ≡ (value_of (judged at) >>= rests_of os) s

pub comes_first : (raw : Raw) (os : List Operation) → os ≡ [] → Comes raw raw os
comes_first raw os q s = sym (ap (λ l. (value_of (judged raw) >>= rests_of l) s) q ∙ on_pure (value_of (judged raw) s))

pub comes_next : (raw at : Raw) (o : Operation) (os new : List Operation) → Is at o → new ≡ o ∷ os → Comes raw at os → Comes raw o.left.now new
comes_next raw at o os new is q h s =
    h s
    ∙ (ap (λ part. go_on (go_on (part s) used) (rests_of os)) (parted at o is)
    ∙ (turned (value_of (judged o.left.now) s) (behind_left o) used (rests_of os)
    ∙ ap (λ l. (value_of (judged o.left.now) >>= rests_of l) s) (sym q)))

pub comes_makes : {E : Type 0} (raw at : Raw) (os : List Operation) (s s' s'' : State) (x : Expr) (r : Result Expr E)
    → Comes raw at os → value_of (judged at) s ≡ Gives x s' → Makes (rests_of os x) s' r s'' → Makes (value_of (judged raw)) s r s''
comes_makes raw at os s s' s'' x (Ok y) h e m = h s ∙ (ap (λ g. go_on g (rests_of os)) e ∙ m)
comes_makes raw at os s s' s'' x (Err y) h e m = tt

-- what is kept, and then the rest
pub rests_next : (os new : List Operation) (o : Operation) (x y : Expr) (s s' : State) → os ≡ o ∷ new → operated o x s ≡ Gives y s' → rests_of os x s ≡ rests_of new y s'
rests_next os new o x y s s' q e = ap (λ l. rests_of l x s) q ∙ ap (λ g. go_on g (rests_of new)) e

pub rights_next : (os new : List Operation) (o : Operation) → os ≡ o ∷ new → rights os ≡ size o.right.now + rights new
rights_next os new o q = ap rights q
