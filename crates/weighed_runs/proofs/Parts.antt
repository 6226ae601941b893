-- What the rules for items say of their parts.
use Rattle.std.proofs.Common.{◌≡◌, ℕ, ◌+◌, ◌-◌, ◌≤◌, true, false, Option, None, Some, List, [], ◌∷◌, refl, sym, ap, arith}
use Rattle.std.specs.Prelude.{◌&&◌, ◌==◌}
use Rattle.std.proofs.lemmas.Bool.{and_parts, eqb-true, false≢true}
use Rattle.flow_graph.specs.declared.graph.Operand.{Operand}
use Rattle.flow_graph.specs.declared.graph.Operand.TheVariants.{Const, Object}
use Rattle.flow_graph.specs.declared.graph.Op.{Op}
use Rattle.flow_graph.specs.declared.graph.OpKind.{OpKind}
use Rattle.flow_graph.specs.declared.graph.OpKind.TheVariants as kind
use Rattle.flow_graph.specs.declared.nodes.Next.TheVariants as next
use Rattle.flow_graph.specs.Nodes.{next_of}
use Rattle.flow_graph.specs.Flow.{Spot, Went}
use Rattle.flow_graph.specs.Rules.{Fitting, Open, MayGo, Where, branch_fits, counted_by, counted_fits, counts_up, has_none, in_loop as where_in_loop, is_from, is_kind, is_step, list_fits, loop_fits, same_dest, stands_alone}
use Rattle.item_weights.specs.Weights.{Weight, joined}
use Rattle.weighed_runs.proofs.Effecting.{is_below_kind, is_copy_kind, is_go_kind, is_step_kind, is_test_kind}

pub joined_parts : (join : Weight → Weight → Weight) (a b : Option Weight) (q : Weight) → joined join a b ≡ Some q → (v : Weight) × (w : Weight) × (a ≡ Some v) × (b ≡ Some w) × (join v w ≡ q)
joined_parts join (Some v) (Some w) q e = let same : join v w ≡ q = cc in (v, w, refl, refl, same)
joined_parts join (Some v) None q e = absurd (cc)
joined_parts join None b q e = absurd (cc)

same_dest_is : (dest : Option ℕ) (i : ℕ) → same_dest dest i ≡ true → dest ≡ Some i
same_dest_is None i e = absurd (false≢true e)
same_dest_is (Some o) i e = ap Some (eqb-true o i e)

pub plain_next : (k : OpKind) (n : ℕ) → stands_alone k ≡ true → next_of k n ≡ next.To n
plain_next kind.Ret n e = absurd (false≢true e)
plain_next kind.Finish n e = absurd (false≢true e)
plain_next _ n e = refl

pub branch_parts : (w : Where) (test : Op) (a b : List Fitting) → branch_fits w test a b ≡ true → (test.kind ≡ kind.Test) × (list_fits w MayGo None a ≡ true) × (list_fits w Open None b ≡ true)
branch_parts w test a b h =
    let p = and_parts (is_kind test.kind kind.Test) _ h in
    let q = and_parts _ (list_fits w MayGo None a && list_fits w Open None b) p.1 in
    let r = and_parts (list_fits w MayGo None a) (list_fits w Open None b) q.1 in (is_test_kind test.kind p.0, r.0, r.1)

-- the copy before a loop that counts
pub record IsFrom (before : Option Op) (i bound c : ℕ) : Type 0 where
  pub copy : Op
  pub from : ℕ
  pub is_before : before ≡ Some copy
  pub copies : copy.kind ≡ kind.Copy
  pub into : copy.dest ≡ Some i
  pub constant : copy.a ≡ Const from
  pub turns : bound - from ≡ c

from_by : (copy : Op) (o : Operand) (i bound c : ℕ) → copy.a ≡ o → is_from (Some (record copy { a = o })) i bound c ≡ true → IsFrom (Some copy) i bound c
from_by copy (Const a) i bound c e h =
    let p = and_parts (is_kind copy.kind kind.Copy) (same_dest copy.dest i && (c == bound - a)) h in
    let q = and_parts (same_dest copy.dest i) (c == bound - a) p.1 in
    record { copy = copy; from = a; is_before = refl; copies = is_copy_kind copy.kind p.0; into = same_dest_is copy.dest i q.0; constant = e; turns = sym (eqb-true c (bound - a) q.1) }
from_by copy (Object o) i bound c e h =
    let p = and_parts (is_kind copy.kind kind.Copy) (same_dest copy.dest i && false) h in
    let q = and_parts (same_dest copy.dest i) false p.1 in absurd (false≢true q.1)

from_is : (before : Option Op) (i bound c : ℕ) → is_from before i bound c ≡ true → IsFrom before i bound c
from_is None i bound c h = absurd (false≢true h)
from_is (Some copy) i bound c h = from_by copy copy.a i bound c refl h

-- the one step of it
pub record IsOneStep (step : List Fitting) (i : ℕ) : Type 0 where
  pub only : Fitting
  pub op : Op
  pub is_only : step ≡ only ∷ []
  pub is_alone : only.alone ≡ Some op
  pub steps : op.kind ≡ kind.Step
  pub into : op.dest ≡ Some i

one_step : (step : List Fitting) (i : ℕ) → counts_up step i ≡ true → IsOneStep step i
one_step [] i h = absurd (false≢true h)
one_step (x ∷ []) i h = by_alone x.alone refl h
  where
    by_alone : (o : Option Op) → x.alone ≡ o → is_step o i ≡ true → IsOneStep (x ∷ []) i
    by_alone None e s = absurd (false≢true s)
    by_alone (Some op) e s =
        let p = and_parts (is_kind op.kind kind.Step) (same_dest op.dest i) s in
        record { only = x; op = op; is_only = refl; is_alone = e; steps = is_step_kind op.kind p.0; into = same_dest_is op.dest i p.1 }
one_step (x ∷ y ∷ rest) i h = absurd (false≢true h)

pub record IsCounted (test : Op) (step : List Fitting) (before : Option Op) (c : ℕ) : Type 0 where
  pub i : ℕ
  pub bound : ℕ
  pub variable : test.a ≡ Object i
  pub limit : test.b ≡ Const bound
  pub from : IsFrom before i bound c
  pub step_is : IsOneStep step i

counted_operands : (test : Op) (step : List Fitting) (before : Option Op) (c : ℕ) (a b : Operand) → test.a ≡ a → test.b ≡ b → counted_by step before c a b ≡ true → IsCounted test step before c
counted_operands test step before c (Object i) (Const b) ea eb h =
    let p = and_parts (is_from before i b c) (counts_up step i) h in
    record { i = i; bound = b; variable = ea; limit = eb; from = from_is before i b c p.0; step_is = one_step step i p.1 }
counted_operands test step before c (Object i) (Object b) ea eb h = absurd (false≢true h)
counted_operands test step before c (Const a) b ea eb h = absurd (false≢true h)

pub record CountedParts (w : Where) (test : Op) (pre post step : List Fitting) (back : Op) (before : Option Op) (c : ℕ) : Type 0 where
  pub goes_back : back.kind ≡ kind.Go
  pub tests : test.kind ≡ kind.Below
  pub no_pre : has_none pre ≡ true
  pub counted : IsCounted test step before c
  pub post_fits : list_fits (where_in_loop w (Some c)) Open None post ≡ true

pub counted_parts : (w : Where) (before : Option Op) (pre : List Fitting) (test : Op) (post step : List Fitting) (back : Op) (c : ℕ) → loop_fits w before pre test post step back (Some c) ≡ true
    → CountedParts w test pre post step back before c
counted_parts w before pre test post step back c h =
    let y = list_fits (where_in_loop w (Some c)) Open None post in
    let by = counted_by step before c test.a test.b in
    let p = and_parts (is_kind back.kind kind.Go) (counted_fits test pre step before c && y) h in
    let q = and_parts (counted_fits test pre step before c) y p.1 in
    let r = and_parts (is_kind test.kind kind.Below) (has_none pre && by) q.0 in
    let s = and_parts (has_none pre) by r.1 in
    record { goes_back = is_go_kind back.kind p.0; tests = is_below_kind test.kind r.0; no_pre = s.0; counted = counted_operands test step before c test.a test.b refl refl s.1; post_fits = q.1 }

pub went : (ws vs : List ℕ) (u t : Spot) → Went ws u ≡ Went vs t → u ≡ t
went ws vs u t e = cc

pub under : (a b c k : ℕ) → a ≡ b → c ≤ k → a + c ≤ b + k
under a b c k e le = omega (arith, e, le)

pub alone_under : (a b k : ℕ) → a ≡ b → a + 0 ≤ b + k
alone_under a b k e = omega (arith, e)
