-- An object is live at an operation just where a path leads from there to a goal, by the arcs and roles of the graph.
use Rattle.std.proofs.Common.{◌≡◌, ◌⊎◌, ◌↔◌, ◌+◌, ◌<◌, ◌≤◌, ℕ, zero, suc, Bool, true, false, List, [], ◌∷◌, ◌++◌, length, get_or, refl, sym, ap, subst, inl, inr, ◌∙◌, arith, zero-add}
use Rattle.std.specs.Prelude.{slice_get, nat_lt, if◌then◌else◌, Vec, replicate}
use Rattle.std.specs.List.{AllByRecursion, Contains}
use Rattle.std.specs.declared.alloc.Global.{Global}
use Rattle.std.proofs.lemmas.Bool.{cases_Bool, ltb-false}
use borrow.Author.Tests.{ltb-true}
use Rattle.std.proofs.lemmas.Option.{slice_get_past, slice_get_within}
use Rattle.std.proofs.lemmas.List.{get_or_append_left, get_or_past, get_or-append-add, get_or-replicate}
use Rattle.std.proofs.lemmas.List.Elements.{Contains-append_cases, Contains-append_left, Contains-append_right}
use Rattle.graph_paths.specs.declared.arcs.Arc.{Arc}
use Rattle.graph_paths.specs.declared.Role.{Role}
use Rattle.graph_paths.specs.declared.Role.TheVariants.{Goal, Wall, Open}
use Rattle.graph_paths.specs.Paths.{IsPath, Reaches, role_of}
use Rattle.graph_paths.specs.Arcs.{IsGrouped, arc}
use Rattle.flow_graph.specs.declared.graph.Op.{Op}
use Rattle.flow_graph.specs.declared.graph.Func.{Func}
use Rattle.flow_graph.specs.declared.graph.Graph.{Graph}
use Rattle.flow_graph.specs.declared.nodes.Next.{Next}
use Rattle.flow_graph.specs.declared.nodes.Next.TheVariants.{To, Either, Into, Returns, Ends}
use Rattle.flow_graph.specs.declared.nodes.Node.{Node}
use Rattle.flow_graph.specs.Nodes.{body_nodes, entry, first_in}
use Rattle.flow_graph.specs.declared.owned.Owned.{Owned}
use Rattle.flow_graph.specs.Owned.{owned, owned_from, operations, IsAt}
use Rattle.live_objects.specs.Live.{needs, writes, Follows, IsLivePath, IsLiveBefore}
use Rattle.live_objects.specs.GraphArcs.{entries, to_operation, from_end, arcs_of, arcs_from, role_by, roles_by}
use Rattle.live_objects.specs.Rows.{IsLiveBehind, IsRow, place_roles}

-- ---- lists

pub ltb_tells : (a b : ℕ) → ((nat_lt a b ≡ true) × (a < b)) ⊎ ((nat_lt a b ≡ false) × (a < b → ⊥))
ltb_tells a b = elim (cases_Bool (nat_lt a b)) [ inl t ↦ inl (t, ltb-true a b t) | inr f ↦ inr (f, λ lt. let le = ltb-false a b f in omega arith) ]

in_one : {X : Type 0} (y x : X) → Contains (y ∷ []) x → y ≡ x
in_one y x (zero, lt, e) = e
in_one y x (suc k, lt, e) = absurd (omega arith)

one_in : {X : Type 0} (x : X) → Contains (x ∷ []) x
one_in x = (0, omega arith, refl)

in_none : {X : Type 0} (x : X) → Contains [] x → ⊥
in_none x c = let lt = c.1 in omega arith

-- ---- the arcs of one operation

-- the arc from a to b is one of operation i of function f, behind which this is next
abbrev pub IsArcOf : ℕ → List ℕ → ℕ → ℕ → Next → ℕ → ℕ → Type 0
IsArcOf count entries i f (To n) a b = (a ≡ i) × (b ≡ n) × (b < count)
IsArcOf count entries i f (Either n m) a b = ((a ≡ i) × (b ≡ n) × (b < count)) ⊎ ((a ≡ i) × (b ≡ m) × (b < count))
IsArcOf count entries i f (Into c n) a b = ((a ≡ i) × (b ≡ get_or entries c 0) × (b < count)) ⊎ ((c < length entries) × ((a ≡ count + c) × (b ≡ n) × (b < count)))
IsArcOf count entries i f Returns a b = (a ≡ i) × (b ≡ count + f)
IsArcOf count entries i f Ends a b = ⊥

pub if_true : {X : Type 0} (b : Bool) (x y : X) → b ≡ true → (if b then x else y) ≡ x
if_true b x y e = ap (λ (c : Bool). if c then x else y) e

pub if_false : {X : Type 0} (b : Bool) (x y : X) → b ≡ false → (if b then x else y) ≡ y
if_false b x y e = ap (λ (c : Bool). if c then x else y) e

of_operation : (count i j a b : ℕ) → Contains (to_operation count i j) (arc a b) → (a ≡ i) × (b ≡ j) × (b < count)
of_operation count i j a b c = elim (ltb_tells j count) [
  | inl t ↦ let e = in_one (arc i j) (arc a b) (subst (λ (xs : List Arc). Contains xs (arc a b)) (if_true (nat_lt j count) (arc i j ∷ []) [] t.0) c) in
      (sym (ap (λ (x : Arc). x.from) e), sym (ap (λ (x : Arc). x.to) e), subst (λ n. n < count) (ap (λ (x : Arc). x.to) e) t.1)
  | inr f ↦ absurd (in_none (arc a b) (subst (λ (xs : List Arc). Contains xs (arc a b)) (if_false (nat_lt j count) (arc i j ∷ []) [] f.0) c))
]

to_it : (count i j : ℕ) → j < count → Contains (to_operation count i j) (arc i j)
to_it count i j lt = elim (ltb_tells j count) [
  | inl t ↦ subst (λ (xs : List Arc). Contains xs (arc i j)) (sym (if_true (nat_lt j count) (arc i j ∷ []) [] t.0)) (one_in (arc i j))
  | inr f ↦ absurd (f.1 lt)
]

of_end : (count functions f j a b : ℕ) → Contains (from_end count functions f j) (arc a b) → (f < functions) × ((a ≡ count + f) × (b ≡ j) × (b < count))
of_end count functions f j a b c = elim (ltb_tells f functions) [
  | inl t ↦ (t.1, of_operation count (count + f) j a b (subst (λ (xs : List Arc). Contains xs (arc a b)) (if_true (nat_lt f functions) (to_operation count (count + f) j) [] t.0) c))
  | inr n ↦ absurd (in_none (arc a b) (subst (λ (xs : List Arc). Contains xs (arc a b)) (if_false (nat_lt f functions) (to_operation count (count + f) j) [] n.0) c))
]

end_to_it : (count functions f j : ℕ) → f < functions → j < count → Contains (from_end count functions f j) (arc (count + f) j)
end_to_it count functions f j lf lt = elim (ltb_tells f functions) [
  | inl t ↦ subst (λ (xs : List Arc). Contains xs (arc (count + f) j)) (sym (if_true (nat_lt f functions) (to_operation count (count + f) j) [] t.0)) (to_it count (count + f) j lt)
  | inr n ↦ absurd (n.1 lf)
]

is_arc_of : (count : ℕ) (es : List ℕ) (i f : ℕ) (next : Next) (a b : ℕ) → Contains (arcs_of count es i f next) (arc a b) → IsArcOf count es i f next a b
is_arc_of count es i f (To n) a b c = of_operation count i n a b c
is_arc_of count es i f (Either n m) a b c = elim (Contains-append_cases (to_operation count i n) (to_operation count i m) (arc a b) c) [ inl d ↦ inl (of_operation count i n a b d) | inr d ↦ inr (of_operation count i m a b d) ]
is_arc_of count es i f (Into k n) a b c = elim (Contains-append_cases (to_operation count i (get_or es k 0)) (from_end count (length es) k n) (arc a b) c) [
  | inl d ↦ inl (of_operation count i (get_or es k 0) a b d)
  | inr d ↦ inr (of_end count (length es) k n a b d)
]
is_arc_of count es i f Returns a b c = let e = in_one (arc i (count + f)) (arc a b) c in (sym (ap (λ (x : Arc). x.from) e), sym (ap (λ (x : Arc). x.to) e))
is_arc_of count es i f Ends a b c = in_none (arc a b) c

-- ---- the arcs of all

in_arcs : (count : ℕ) (es : List ℕ) (base : ℕ) (xs : List Owned) (m : ℕ) (x : Owned) (b : Arc) → IsAt xs m x → Contains (arcs_of count es (base + m) x.function x.node.next) b → Contains (arcs_from count es base xs) b
in_arcs count es base [] m x b at c = let lt = slice_get_within [] m x at in absurd (omega arith)
in_arcs count es base (y ∷ ys) zero x b at c =
    Contains-append_left (arcs_of count es base y.function y.node.next) (arcs_from count es (base + 1) ys) b
    (let same : y ≡ x = cc in let n : base + 0 ≡ base = omega arith in subst (λ (z : Owned). Contains (arcs_of count es base z.function z.node.next) b) (sym same) (subst (λ k. Contains (arcs_of count es k x.function x.node.next) b) n c))
in_arcs count es base (y ∷ ys) (suc m) x b at c =
    Contains-append_right (arcs_of count es base y.function y.node.next) (arcs_from count es (base + 1) ys) b
    (in_arcs count es (base + 1) ys m x b at (let n : base + suc m ≡ base + 1 + m = omega arith in subst (λ k. Contains (arcs_of count es k x.function x.node.next) b) n c))

pub record FromOne (count : ℕ) (es : List ℕ) (base : ℕ) (xs : List Owned) (b : Arc) : Type 0 where
  pub place : ℕ
  pub op : Owned
  pub at : IsAt xs place op
  pub among : Contains (arcs_of count es (base + place) op.function op.node.next) b

of_arcs : (count : ℕ) (es : List ℕ) (base : ℕ) (xs : List Owned) (b : Arc) → Contains (arcs_from count es base xs) b → FromOne count es base xs b
of_arcs count es base [] b c = absurd (in_none b c)
of_arcs count es base (y ∷ ys) b c = elim (Contains-append_cases (arcs_of count es base y.function y.node.next) (arcs_from count es (base + 1) ys) b c) [
  | inl d ↦ record { place = 0; op = y; at = refl; among = let n : base ≡ base + 0 = omega arith in subst (λ k. Contains (arcs_of count es k y.function y.node.next) b) n d }
  | inr d ↦ let r = of_arcs count es (base + 1) ys b d in
      record { place = suc r.place; op = r.op; at = r.at; among = let n : base + 1 + r.place ≡ base + suc r.place = omega arith in subst (λ k. Contains (arcs_of count es k r.op.function r.op.node.next) b) n r.among }
]

-- ---- functions

all_append : (n : ℕ) (xs ys : List Owned) → AllByRecursion (λ x. x.function < n) xs → AllByRecursion (λ x. x.function < n) ys → AllByRecursion (λ x. x.function < n) (xs ++ ys)
all_append n [] ys p q = q
all_append n (x ∷ xs) ys p q = (p.0, all_append n xs ys p.1 q)

all_owned : (n f : ℕ) (xs : List Node) → f < n → AllByRecursion (λ x. x.function < n) (owned f xs)
all_owned n f [] lt = tt
all_owned n f (x ∷ xs) lt = (lt, all_owned n f xs lt)

pub functions_within : (n f : ℕ) (bs : List Func) → f + length bs ≤ n → AllByRecursion (λ x. x.function < n) (owned_from f bs)
functions_within n f [] le = tt
functions_within n f (b ∷ bs) le = all_append n (owned f (body_nodes b)) (owned_from (f + 1) bs) (all_owned n f (body_nodes b) (omega arith)) (functions_within n (f + 1) bs (omega arith))

function_at : (n : ℕ) (xs : List Owned) (i : ℕ) (x : Owned) → AllByRecursion (λ y. y.function < n) xs → IsAt xs i x → x.function < n
function_at n [] i x all at = let lt = slice_get_within [] i x at in absurd (omega arith)
function_at n (y ∷ ys) zero x all at = let same : y ≡ x = cc in subst (λ (z : Owned). z.function < n) same all.0
function_at n (y ∷ ys) (suc i) x all at = function_at n ys i x all.1 at

pub so_many_entries : (fs : List Func) → length (entries fs) ≡ length fs
so_many_entries [] = refl
so_many_entries (f ∷ fs) = let h = so_many_entries fs in omega arith

entries_at : (fs : List Func) (c : ℕ) → get_or (entries fs) c 0 ≡ first_in (slice_get fs c)
entries_at [] c = get_or_past [] c 0 (omega arith) ∙ sym (ap first_in (slice_get_past [] c (omega arith)))
entries_at (f ∷ fs) zero = refl
entries_at (f ∷ fs) (suc c) = entries_at fs c

pub entry_is : (g : Graph) (c : ℕ) → get_or (entries g.functions) c 0 ≡ entry g c
entry_is g c = entries_at g.functions c

-- ---- roles

pub roles_length : (o : ℕ) (xs : List Owned) → length (roles_by o xs) ≡ length xs
roles_length o [] = refl
roles_length o (x ∷ xs) = let h = roles_length o xs in omega arith

role_here : (o : ℕ) (xs : List Owned) (i : ℕ) (x : Owned) → IsAt xs i x → get_or (roles_by o xs) i Wall ≡ role_by x.node.op o
role_here o [] i x at = let lt = slice_get_within [] i x at in absurd (omega arith)
role_here o (y ∷ ys) zero x at = let same : y ≡ x = cc in ap (λ (z : Owned). role_by z.node.op o) same
role_here o (y ∷ ys) (suc i) x at = role_here o ys i x at

role_op : (o : ℕ) (xs : List Owned) (functions i : ℕ) (x : Owned) → IsAt xs i x → role_of (place_roles o xs functions) i ≡ role_by x.node.op o
role_op o xs functions i x at =
    let lt = slice_get_within xs i x at in let n = roles_length o xs in
    get_or_append_left (roles_by o xs) (replicate functions Open) Wall i (omega arith) ∙ role_here o xs i x at

role_end : (o : ℕ) (xs : List Owned) (functions f : ℕ) → f < functions → role_of (place_roles o xs functions) (length xs + f) ≡ Open
role_end o xs functions f lt =
    ap (λ n. role_of (place_roles o xs functions) (n + f)) (sym (roles_length o xs))
    ∙ (get_or-append-add (roles_by o xs) (replicate functions Open) f Wall ∙ get_or-replicate functions f Open Wall lt)

needed_goal : (op : Op) (o : ℕ) → needs op o ≡ true → role_by op o ≡ Goal
needed_goal op o e = if_true (needs op o) Goal (if writes op o then Wall else Open) e

kept_open : (op : Op) (o : ℕ) → needs op o ≡ false → writes op o ≡ false → role_by op o ≡ Open
kept_open op o e f = if_false (needs op o) Goal (if writes op o then Wall else Open) e ∙ if_false (writes op o) Wall Open f

goal_needed : (op : Op) (o : ℕ) → role_by op o ≡ Goal → needs op o ≡ true
goal_needed op o r = elim (cases_Bool (needs op o)) [
  | inl t ↦ t
  | inr f ↦ elim (cases_Bool (writes op o)) [
    | inl w ↦ let e : Wall ≡ Goal = sym (if_true (writes op o) Wall Open w) ∙ (sym (if_false (needs op o) Goal (if writes op o then Wall else Open) f) ∙ r) in absurd (cc)
    | inr v ↦ let e : Open ≡ Goal = sym (kept_open op o f v) ∙ r in absurd (cc)
  ]
]

open_kept : (op : Op) (o : ℕ) → role_by op o ≡ Open → writes op o ≡ false
open_kept op o r = elim (cases_Bool (needs op o)) [
  | inl t ↦ let e : Goal ≡ Open = sym (needed_goal op o t) ∙ r in absurd (cc)
  | inr f ↦ elim (cases_Bool (writes op o)) [
    | inl w ↦ let e : Wall ≡ Open = sym (if_true (writes op o) Wall Open w) ∙ (sym (if_false (needs op o) Goal (if writes op o then Wall else Open) f) ∙ r) in absurd (cc)
    | inr v ↦ v
  ]
]

-- ---- both directions

graph_arcs : Graph → List Arc
graph_arcs g = arcs_from (length (operations g)) (entries g.functions) 0 (operations g)

abbrev places : Graph → ℕ
places g = length (operations g) + length g.functions

abbrev roles_in : Graph → ℕ → List Role
roles_in g o = place_roles o (operations g) (length g.functions)

pub live_within : (g : Graph) (o j : ℕ) (path : List ℕ) → IsLivePath g o j path → j < length (operations g)
live_within g o j [] h = slice_get_within (operations g) j h.op h.is_op
live_within g o j (k ∷ path) h = slice_get_within (operations g) j h.0.op h.0.is_op

arc_at : (g : Graph) (i : ℕ) (x : Owned) (b : Arc) → IsAt (operations g) i x → Contains (arcs_of (length (operations g)) (entries g.functions) i x.function x.node.next) b → Contains (graph_arcs g) b
unfolding graph_arcs
arc_at g i x b at c = in_arcs (length (operations g)) (entries g.functions) 0 (operations g) i x b at
    (subst (λ k. Contains (arcs_of (length (operations g)) (entries g.functions) k x.function x.node.next) b) (sym (zero-add i)) c)

step_to : (g : Graph) (o : ℕ) (before : List (Vec ℕ Global)) (i j : ℕ) → IsGrouped (places g) (graph_arcs g) before → role_of (roles_in g o) i ≡ Open → i < places g → j < places g
    → Contains (graph_arcs g) (arc i j) → Reaches before (roles_in g o) j → Reaches before (roles_in g o) i
step_to g o before i j grouped open' li lj c r = record { path = j ∷ r.path; leads = (open', grouped.leads i j c li lj, r.leads) }

pub owner_within : (g : Graph) (i : ℕ) (x : Owned) → IsAt (operations g) i x → x.function < length g.functions
owner_within g i x at = function_at (length g.functions) (operations g) i x (functions_within (length g.functions) 0 g.functions (omega (arith, zero-add (length g.functions)))) at

follow_reach : (g : Graph) (o : ℕ) (before : List (Vec ℕ Global)) (i j : ℕ) (x : Owned) (next : Next) → IsGrouped (places g) (graph_arcs g) before → IsAt (operations g) i x → x.node.next ≡ next
    → role_of (roles_in g o) i ≡ Open → j < length (operations g) → Follows g x.function next j → Reaches before (roles_in g o) j → Reaches before (roles_in g o) i
follow_reach g o before i j x (To n) grouped at e open' lj f r =
    let li = slice_get_within (operations g) i x at in
    step_to g o before i j grouped open' (omega arith) (omega arith)
    (arc_at g i x (arc i j) at (subst (λ k. Contains (arcs_of (length (operations g)) (entries g.functions) i x.function k) (arc i j)) (sym e)
    (subst (λ k. Contains (to_operation (length (operations g)) i k) (arc i j)) f (to_it (length (operations g)) i j lj)))) r
follow_reach g o before i j x (Either n m) grouped at e open' lj f r =
    let li = slice_get_within (operations g) i x at in
    step_to g o before i j grouped open' (omega arith) (omega arith)
    (arc_at g i x (arc i j) at (subst (λ k. Contains (arcs_of (length (operations g)) (entries g.functions) i x.function k) (arc i j)) (sym e)
    (elim f [
      | inl s ↦ Contains-append_left (to_operation (length (operations g)) i n) (to_operation (length (operations g)) i m) (arc i j)
          (subst (λ k. Contains (to_operation (length (operations g)) i k) (arc i j)) s (to_it (length (operations g)) i j lj))
      | inr s ↦ Contains-append_right (to_operation (length (operations g)) i n) (to_operation (length (operations g)) i m) (arc i j)
          (subst (λ k. Contains (to_operation (length (operations g)) i k) (arc i j)) s (to_it (length (operations g)) i j lj))
    ]))) r
follow_reach g o before i j x (Into c n) grouped at e open' lj f r =
    let li = slice_get_within (operations g) i x at in
    step_to g o before i j grouped open' (omega arith) (omega arith)
    (arc_at g i x (arc i j) at (subst (λ k. Contains (arcs_of (length (operations g)) (entries g.functions) i x.function k) (arc i j)) (sym e)
    (Contains-append_left (to_operation (length (operations g)) i (get_or (entries g.functions) c 0)) (from_end (length (operations g)) (length (entries g.functions)) c n) (arc i j)
    (subst (λ k. Contains (to_operation (length (operations g)) i k) (arc i j)) (f ∙ sym (entry_is g c)) (to_it (length (operations g)) i j lj))))) r
follow_reach g o before i j x Returns grouped at e open' lj f r =
    let li = slice_get_within (operations g) i x at in
    let lf = owner_within g i x at in
    let ends = length (operations g) + x.function in
    let through = step_to g o before ends j grouped (role_end o (operations g) (length g.functions) x.function lf) (omega arith) (omega arith)
    (arc_at g f.call f.op (arc ends j) f.is_call (subst (λ k. Contains (arcs_of (length (operations g)) (entries g.functions) f.call f.op.function k) (arc ends j)) (sym f.calls)
    (Contains-append_right (to_operation (length (operations g)) f.call (get_or (entries g.functions) x.function 0)) (from_end (length (operations g)) (length (entries g.functions)) x.function j) (arc ends j)
    (end_to_it (length (operations g)) (length (entries g.functions)) x.function j (let n = so_many_entries g.functions in omega arith) lj)))) r in
    step_to g o before i ends grouped open' (omega arith) (omega arith)
    (arc_at g i x (arc i ends) at (subst (λ k. Contains (arcs_of (length (operations g)) (entries g.functions) i x.function k) (arc i ends)) (sym e) (one_in (arc i ends)))) through
follow_reach g o before i j x Ends grouped at e open' lj f r = absurd f

lives_reach : (g : Graph) (o : ℕ) (before : List (Vec ℕ Global)) → IsGrouped (places g) (graph_arcs g) before → (i : ℕ) (path : List ℕ) → IsLivePath g o i path → Reaches before (roles_in g o) i
lives_reach g o before grouped i [] h = record { path = []; leads = role_op o (operations g) (length g.functions) i h.op h.is_op ∙ needed_goal h.op.node.op o h.needed }
lives_reach g o before grouped i (j ∷ path) h =
    let k = h.0 in let l = h.1 in
    let role = role_op o (operations g) (length g.functions) i k.op k.is_op in
    elim (cases_Bool (needs k.op.node.op o)) [
      | inl t ↦ record { path = []; leads = role ∙ needed_goal k.op.node.op o t }
      | inr f ↦ follow_reach g o before i j l.op l.op.node.next grouped l.is_op refl (role ∙ kept_open k.op.node.op o f k.kept) (live_within g o j path h.2) l.follows (lives_reach g o before grouped j path h.2)
    ]

-- what a path from a place shows
abbrev Shows : Graph → ℕ → ℕ → Type 0
Shows g o i = (i < length (operations g) → IsLiveBefore g i o) × ((f : ℕ) → i ≡ length (operations g) + f → f < length g.functions → IsLiveBehind g f o)

pub op_at : (xs : List Owned) (i : ℕ) → i < length xs → (x : Owned) × IsAt xs i x
op_at [] i lt = absurd (omega arith)
op_at (x ∷ xs) zero lt = (x, refl)
op_at (x ∷ xs) (suc i) lt = op_at xs i (omega arith)

live_by : (g : Graph) (o i j : ℕ) (x : Owned) → IsAt (operations g) i x → role_of (roles_in g o) i ≡ Open → Follows g x.function x.node.next j → IsLiveBefore g j o → IsLiveBefore g i o
live_by g o i j x at open' f l = record {
  path = j ∷ l.path;
  lives = (record { op = x; is_op = at; kept = open_kept x.node.op o (sym (role_op o (operations g) (length g.functions) i x at) ∙ open') }, record { op = x; is_op = at; follows = f }, l.lives);
}

arc_shows : (g : Graph) (o i j m : ℕ) (x : Owned) (next : Next) → IsAt (operations g) m x → x.node.next ≡ next → role_of (roles_in g o) i ≡ Open → Shows g o j
    → IsArcOf (length (operations g)) (entries g.functions) m x.function next i j → Shows g o i
arc_shows g o i j m x (To n) at e open' s a = (
  λ li. live_by g o i j x (subst (λ k. IsAt (operations g) k x) (sym a.0) at) open' (subst (λ k. Follows g x.function k j) (sym e) a.1) (s.0 a.2),
  λ f q lf. let lm = slice_get_within (operations g) m x at in let p = a.0 in absurd (omega arith),
)
arc_shows g o i j m x (Either n k) at e open' s a = elim a [
  | inl b ↦ (
    λ li. live_by g o i j x (subst (λ k. IsAt (operations g) k x) (sym b.0) at) open' (subst (λ k. Follows g x.function k j) (sym e) (inl b.1)) (s.0 b.2),
    λ f q lf. let lm = slice_get_within (operations g) m x at in let p = b.0 in absurd (omega arith),
  )
  | inr b ↦ (
    λ li. live_by g o i j x (subst (λ k. IsAt (operations g) k x) (sym b.0) at) open' (subst (λ k. Follows g x.function k j) (sym e) (inr b.1)) (s.0 b.2),
    λ f q lf. let lm = slice_get_within (operations g) m x at in let p = b.0 in absurd (omega arith),
  )
]
arc_shows g o i j m x (Into c n) at e open' s a = elim a [
  | inl b ↦ (
    λ li. live_by g o i j x (subst (λ k. IsAt (operations g) k x) (sym b.0) at) open' (subst (λ k. Follows g x.function k j) (sym e) (b.1 ∙ entry_is g c)) (s.0 b.2),
    λ f q lf. let lm = slice_get_within (operations g) m x at in let p = b.0 in absurd (omega arith),
  )
  | inr b ↦ (
    λ li. let p = b.1.0 in absurd (omega arith),
    λ f q lf. let p = b.1.0 in let same : c ≡ f = omega arith in
        record { behind = j; follows = record { call = m; op = x; is_call = at; calls = e ∙ (ap (λ k. Into k n) same ∙ ap (Into f) (sym b.1.1)) }; live = s.0 b.1.2 },
  )
]
arc_shows g o i j m x Returns at e open' s a = (
  λ li. let l = s.1 x.function a.1 (owner_within g m x at) in
      live_by g o i l.behind x (subst (λ k. IsAt (operations g) k x) (sym a.0) at) open' (subst (λ k. Follows g x.function k l.behind) (sym e) l.follows) l.live,
  λ f q lf. let lm = slice_get_within (operations g) m x at in let p = a.0 in absurd (omega arith),
)
arc_shows g o i j m x Ends at e open' s a = absurd a

path_shows : (g : Graph) (o : ℕ) (before : List (Vec ℕ Global)) → IsGrouped (places g) (graph_arcs g) before → (i : ℕ) (path : List ℕ) → IsPath before (roles_in g o) i path → Shows g o i
unfolding graph_arcs
path_shows g o before grouped i [] h = (
  λ li. let x = op_at (operations g) i li in
      record { path = []; lives = record { op = x.0; is_op = x.1; needed = goal_needed x.0.node.op o (sym (role_op o (operations g) (length g.functions) i x.0 x.1) ∙ h) } },
  λ f q lf. let e : Open ≡ Goal = sym (role_end o (operations g) (length g.functions) f lf) ∙ (ap (role_of (roles_in g o)) (sym q) ∙ h) in absurd (cc),
)
path_shows g o before grouped i (j ∷ path) h =
    let r = of_arcs (length (operations g)) (entries g.functions) 0 (operations g) (arc i j) (grouped.is_arc i j h.1) in
    arc_shows g o i j r.place r.op r.op.node.next r.at refl h.0 (path_shows g o before grouped j path h.2)
    (subst (λ k. IsArcOf (length (operations g)) (entries g.functions) k r.op.function r.op.node.next i j) (zero-add r.place)
    (is_arc_of (length (operations g)) (entries g.functions) (0 + r.place) r.op.function r.op.node.next i j r.among))

behind_reach : (g : Graph) (o : ℕ) (before : List (Vec ℕ Global)) (f : ℕ) → IsGrouped (places g) (graph_arcs g) before → f < length g.functions → IsLiveBehind g f o
    → Reaches before (roles_in g o) (length (operations g) + f)
behind_reach g o before f grouped lf l =
    let lj = live_within g o l.behind l.live.path l.live.lives in
    let b = l.follows in
    step_to g o before (length (operations g) + f) l.behind grouped (role_end o (operations g) (length g.functions) f lf) (omega arith) (omega arith)
    (arc_at g b.call b.op (arc (length (operations g) + f) l.behind) b.is_call
    (subst (λ k. Contains (arcs_of (length (operations g)) (entries g.functions) b.call b.op.function k) (arc (length (operations g) + f) l.behind)) (sym b.calls)
    (Contains-append_right (to_operation (length (operations g)) b.call (get_or (entries g.functions) f 0)) (from_end (length (operations g)) (length (entries g.functions)) f l.behind) (arc (length (operations g) + f) l.behind)
    (end_to_it (length (operations g)) (length (entries g.functions)) f l.behind (let n = so_many_entries g.functions in omega arith) lj))))
    (lives_reach g o before grouped l.behind l.live.path l.live.lives)

pub row_is : (g : Graph) (o : ℕ) (before : List (Vec ℕ Global)) (row : ℕ → Bool)
    → IsGrouped (length (operations g) + length g.functions) (arcs_from (length (operations g)) (entries g.functions) 0 (operations g)) before
    → ((i : ℕ) → (row i ≡ true) ↔ Reaches before (place_roles o (operations g) (length g.functions)) i) → IsRow g o row
unfolding graph_arcs
row_is g o before row grouped h = record {
  before = λ i li. (λ e. let r = (h i).0 e in (path_shows g o before grouped i r.path r.leads).0 li, λ l. (h i).1 (lives_reach g o before grouped i l.path l.lives));
  behind = λ f lf. (λ e. let r = (h (length (operations g) + f)).0 e in (path_shows g o before grouped (length (operations g) + f) r.path r.leads).1 f refl lf, λ l. (h (length (operations g) + f)).1 (behind_reach g o before f grouped lf l));
}
