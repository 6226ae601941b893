-- How the words of first operands that lie within each other stand to the parts of the meaning.
use Rattle.std.proofs.Common.{◌≡◌, ℕ, zero, suc, ◌≤◌, List, [], ◌∷◌, ◌++◌, Some, None, refl, sym, ap, ◌∙◌, subst, arith, append_assoc, append-nil}
use Rattle.std.specs.Prelude.{Result, Ok, Err}
use Rattle.c_values.specs.declared.ops.Ty.{Ty}
use Rattle.c_tree.specs.declared.tree.Program.{Program}
use Rattle.c_tree.specs.declared.tree.Expr.{Expr}
use Rattle.c_tree.specs.declared.tree.ExprKind.{out-ExprKind}
use Rattle.c_tree.specs.declared.tree.ExprKind.TheOpen.{ExprKind-F}
use Rattle.c_tree.specs.Layer.{ExprLayer}
use Rattle.c_tree.specs.Runs.{Event, State, Got, Done, Trapped, Stopped, Part, behind_events, go_on, begin, pure}
use Rattle.c_tree.specs.Nodes.{Within, expr_by, to_depth}
use Rattle.c_tree.specs.Chains.{first_of, rest_of, leaf_of, rests_of}
use Rattle.c_tree.specs.Lines.{Seen}
use Rattle.c_tree.specs.declared.halt.Halt.{Halt}
use Rattle.c_tree.specs.declared.halt.Halt.TheVariants as halt
use Rattle.c_tree.specs.Follows.{Follows, Leads}
use Rattle.c_tree.proofs.Chain.{follows_ok, fails, gives_up, expr_begun, expr_stopped, begun_left}

behind_both : {A : Type 0} (es fs : List Event) (got : Got A) → behind_events (es ++ fs) got ≡ behind_events es (behind_events fs got)
behind_both es fs (Done gs a s) = ap (λ l. Done l a s) (append_assoc es fs gs)
behind_both es fs (Trapped gs t) = ap (λ l. Trapped l t) (append_assoc es fs gs)
behind_both es fs (Stopped gs) = ap Stopped (append_assoc es fs gs)

on_behind : {A B : Type 0} (es : List Event) (got : Got A) (f : A → Part B) → go_on (behind_events es got) f ≡ behind_events es (go_on got f)
on_behind es (Done fs a s) f = behind_both es fs (f a s)
on_behind es (Trapped fs t) f = refl
on_behind es (Stopped fs) f = refl

-- three parts, one after another, however they are put together
on_assoc : {A B C : Type 0} (got : Got A) (f : A → Part B) (g : B → Part C) → go_on (go_on got f) g ≡ go_on got (λ a s. go_on (f a s) g)
on_assoc (Done es a s) f g = on_behind es (f a s) g
on_assoc (Trapped es t) f g = refl
on_assoc (Stopped es) f g = refl

on_pure : {A : Type 0} (got : Got A) → go_on got pure ≡ got
on_pure (Done es a s) = ap (λ l. Done l a s) (append-nil es)
on_pure (Trapped es t) = refl
on_pure (Stopped es) = refl

-- an expression is its first operand and what comes behind it
parted : (p : Program) (d : Within) (ty : Ty) (l : ExprLayer) (a : Expr) (s : State) → first_of l ≡ Some a → expr_by p d ty l s ≡ go_on (d.expr a s) (rest_of d ty l)
parted p d ty (ExprKind-F.Number w) a s h = cc
parted p d ty (ExprKind-F.Var x) a s h = cc
parted p d ty (ExprKind-F.Element x i) a s h = let q : i ≡ a = cc in rw (← q) refl
parted p d ty (ExprKind-F.Convert e) a s h = let q : e ≡ a = cc in rw (← q) refl
parted p d ty (ExprKind-F.Unary op e) a s h = let q : e ≡ a = cc in rw (← q) refl
parted p d ty (ExprKind-F.Binary op e b) a s h = let q : e ≡ a = cc in rw (← q) refl
parted p d ty (ExprKind-F.Cond e y n) a s h = let q : e ≡ a = cc in rw (← q) refl
parted p d ty (ExprKind-F.Call f args) a s h = cc
parted p d ty ExprKind-F.Input a s h = cc
parted p d ty (ExprKind-F.Output e) a s h = let q : e ≡ a = cc in rw (← q) refl

-- an expression that has none
leafed : (p : Program) (d : Within) (ty : Ty) (l : ExprLayer) (s : State) → first_of l ≡ None → expr_by p d ty l s ≡ leaf_of p d l s
leafed p d ty (ExprKind-F.Number w) s h = refl
leafed p d ty (ExprKind-F.Var x) s h = refl
leafed p d ty (ExprKind-F.Element x i) s h = cc
leafed p d ty (ExprKind-F.Convert e) s h = cc
leafed p d ty (ExprKind-F.Unary op e) s h = cc
leafed p d ty (ExprKind-F.Binary op e b) s h = cc
leafed p d ty (ExprKind-F.Cond e y n) s h = cc
leafed p d ty (ExprKind-F.Call f args) s h = refl
leafed p d ty ExprKind-F.Input s h = refl
leafed p d ty (ExprKind-F.Output e) s h = cc

-- its first operand fails
pub node_fails : (p : Program) (d : Within) (ty : Ty) (l : ExprLayer) (e : Expr) (s s1 : State) (a b : Seen) (h : Halt) (r : Result ℕ Halt) → first_of l ≡ Some e → r ≡ Err h
    → Follows (d.expr e s) s a (Err h) s1 b → Follows (expr_by p d ty l s) s a r s1 b
node_fails p d ty l e s s1 a b h r f q k =
    subst (λ got. Follows got s a r s1 b) (sym (parted p d ty l e s f)) (fails (d.expr e s) (rest_of d ty l) s s1 a b h r q k)

-- its first operand gives a word, and then what comes behind it
pub node_parted : (p : Program) (d : Within) (ty : Ty) (l : ExprLayer) (e : Expr) (s s1 s2 : State) (a b c : Seen) (w : ℕ) (r : Result ℕ Halt) → first_of l ≡ Some e
    → Follows (d.expr e s) s a (Ok w) s1 b → Follows (rest_of d ty l w s1) s1 b r s2 c → Follows (expr_by p d ty l s) s a r s2 c
node_parted p d ty l e s s1 s2 a b c w r f k m =
    subst (λ got. Follows got s a r s2 c) (sym (parted p d ty l e s f)) (follows_ok (d.expr e s) (rest_of d ty l) s s1 s2 a b c w r k m)

pub node_leaf : (p : Program) (d : Within) (ty : Ty) (l : ExprLayer) (s s1 : State) (a b : Seen) (r : Result ℕ Halt) → first_of l ≡ None
    → Follows (leaf_of p d l s) s a r s1 b → Follows (expr_by p d ty l s) s a r s1 b
node_leaf p d ty l s s1 a b r f k = subst (λ got. Follows got s a r s1 b) (sym (leafed p d ty l s f)) k

pub chain_start : (p : Program) (e : Expr) (es : List Expr) (d : ℕ) (s : State) (a : Seen) → es ≡ [] → Leads ((to_depth p d).expr e s) s a (go_on ((to_depth p d).expr e s) (rests_of p d es)) s a
chain_start p e es d s a h = λ r s2 a2 k.
    subst (λ got. Follows got s a r s2 a2) (on_pure ((to_depth p d).expr e s)) (subst (λ l. Follows (go_on ((to_depth p d).expr e s) (rests_of p d l)) s a r s2 a2) h k)

-- a node begun, behind which its first operand follows a level deeper
pub chain_on : (p : Program) (e part : Expr) (es new : List Expr) (d : ℕ) (s s1 : State) (a b : Seen) → first_of (out-ExprKind e.kind) ≡ Some part → new ≡ e ∷ es → s.left ≤ d
    → Follows (begin s) s a (Ok tt) s1 b → (n : ℕ) × (s1.left ≤ n) × Leads (go_on ((to_depth p d).expr e s) (rests_of p d es)) s a (go_on ((to_depth p n).expr part s1) (rests_of p n new)) s1 b
unfolding to_depth
chain_on p e part es new zero s s1 a b f q le k = absurd (omega (arith, le, begun_left s s1 a b k))
chain_on p e part es new (suc n) s s1 a b f q le k =
    let within : Part ℕ = expr_by p (to_depth p n) e.ty (out-ExprKind e.kind) in (
      n,
      omega (arith, le, begun_left s s1 a b k),
      λ r s2 a2 last.
          let inner : Follows (go_on ((to_depth p n).expr part s1) (λ w t. go_on (rest_of (to_depth p n) e.ty (out-ExprKind e.kind) w t) (rests_of p (suc n) es))) s1 b r s2 a2 =
          subst (λ l. Follows (go_on ((to_depth p n).expr part s1) (rests_of p n l)) s1 b r s2 a2) q last in
          let whole : Follows (go_on (within s1) (rests_of p (suc n) es)) s1 b r s2 a2 =
          subst (λ got. Follows got s1 b r s2 a2)
          (sym (ap (λ got. go_on got (rests_of p (suc n) es)) (parted p (to_depth p n) e.ty (out-ExprKind e.kind) part s1 f)
          ∙ on_assoc ((to_depth p n).expr part s1) (rest_of (to_depth p n) e.ty (out-ExprKind e.kind)) (rests_of p (suc n) es))) inner in
          subst (λ got. Follows got s a r s2 a2) (sym (on_assoc (begin s) (λ _. within) (rests_of p (suc n) es)))
          (follows_ok (begin s) (λ _ t. go_on (within t) (rests_of p (suc n) es)) s s1 s2 a b a2 tt r k whole),
    )

-- no step is left for a node
pub chain_stopped : (p : Program) (e : Expr) (es : List Expr) (d : ℕ) (s s1 : State) (a b : Seen) (h : Halt) (r : Result ℕ Halt) → s.left ≤ d → r ≡ Err h
    → Follows (begin s) s a (Err h) s1 b → Follows (go_on ((to_depth p d).expr e s) (rests_of p d es)) s a r s1 b
chain_stopped p e es d s s1 a b h r le q k =
    fails ((to_depth p d).expr e s) (rests_of p d es) s s1 a b h r q (expr_stopped p e d s s1 a b h (Err h) le refl k)

-- memory runs out behind the step
pub chain_gives_up : (p : Program) (e : Expr) (es : List Expr) (d : ℕ) (s s1 : State) (a b : Seen) (r : Result ℕ Halt) → s.left ≤ d → r ≡ Err halt.Memory
    → Follows (begin s) s a (Ok tt) s1 b → Follows (go_on ((to_depth p d).expr e s) (rests_of p d es)) s a r s1 b
chain_gives_up p e es d s s1 a b r le q k =
    fails ((to_depth p d).expr e s) (rests_of p d es) s s1 a b halt.Memory r q
    (expr_begun p e d s s1 s1 a b b (Err halt.Memory) le k (λ n l. gives_up (expr_by p (to_depth p n) e.ty (out-ExprKind e.kind) s1) s1 s1 b))

-- what comes behind a first operand, and then the rest
pub rests_on : (p : Program) (e : Expr) (es new : List Expr) (n w v : ℕ) (s s1 : State) (a b : Seen) → es ≡ e ∷ new → s.left ≤ n → s1.left ≤ s.left
    → Follows (rest_of (to_depth p n) e.ty (out-ExprKind e.kind) w s) s a (Ok v) s1 b → (m : ℕ) × (s1.left ≤ m) × Leads (rests_of p n es w s) s a (rests_of p m new v s1) s1 b
rests_on p e es new n w v s s1 a b q le le1 k = (
  suc n,
  omega (arith, le, le1),
  λ r s2 a2 last.
      subst (λ l. Follows (rests_of p n l w s) s a r s2 a2) (sym q)
      (follows_ok (rest_of (to_depth p n) e.ty (out-ExprKind e.kind) w s) (rests_of p (suc n) new) s s1 s2 a b a2 v r k last),
)

pub rests_fail : (p : Program) (e : Expr) (es new : List Expr) (n w : ℕ) (s s1 : State) (a b : Seen) (h : Halt) (r : Result ℕ Halt) → es ≡ e ∷ new → r ≡ Err h
    → Follows (rest_of (to_depth p n) e.ty (out-ExprKind e.kind) w s) s a (Err h) s1 b → Follows (rests_of p n es w s) s a r s1 b
rests_fail p e es new n w s s1 a b h r q x k =
    subst (λ l. Follows (rests_of p n l w s) s a r s1 b) (sym q)
    (fails (rest_of (to_depth p n) e.ty (out-ExprKind e.kind) w s) (rests_of p (suc n) new) s s1 a b h r x k)

pub chain_next : (p : Program) (e part : Expr) (es new : List Expr) (got : Got ℕ) (s0 s s1 : State) (a0 a b : Seen) → first_of (out-ExprKind e.kind) ≡ Some part → new ≡ e ∷ es
    → Follows (begin s) s a (Ok tt) s1 b → (n : ℕ) × (s.left ≤ n) × Leads got s0 a0 (go_on ((to_depth p n).expr e s) (rests_of p n es)) s a
    → (n : ℕ) × (s1.left ≤ n) × Leads got s0 a0 (go_on ((to_depth p n).expr part s1) (rests_of p n new)) s1 b
chain_next p e part es new got s0 s s1 a0 a b f q k h =
    let m = chain_on p e part es new h.0 s s1 a b f q h.1 k in
    (m.0, m.1, λ r s2 a2 last. h.2 r s2 a2 (m.2 r s2 a2 last))

pub rests_next : (p : Program) (e : Expr) (es new : List Expr) (w v : ℕ) (got : Got ℕ) (s0 s s1 : State) (a0 a b : Seen) → es ≡ e ∷ new → s1.left ≤ s.left
    → ((n : ℕ) → s.left ≤ n → Follows (rest_of (to_depth p n) e.ty (out-ExprKind e.kind) w s) s a (Ok v) s1 b) → (n : ℕ) × (s.left ≤ n) × Leads got s0 a0 (rests_of p n es w s) s a
    → (n : ℕ) × (s1.left ≤ n) × Leads got s0 a0 (rests_of p n new v s1) s1 b
rests_next p e es new w v got s0 s s1 a0 a b q le k h =
    let m = rests_on p e es new h.0 w v s s1 a b q h.1 le (k h.0 h.1) in
    (m.0, m.1, λ r s2 a2 last. h.2 r s2 a2 (m.2 r s2 a2 last))
