-- Parts of a lowering number their operations upwards without a gap, and give no more temporaries than operations.
use Rattle.std.proofs.Common.{◌≡◌, ℕ, ◌+◌, ◌≤◌, Bool, true, false, Option, [], ◌∷◌, ◌++◌, refl, arith}
use Rattle.std.specs.Prelude.{if◌then◌else◌}
use Rattle.base_io.specs.declared.place.Place.{Place}
use Rattle.flow_graph.specs.declared.graph.Operand.{Operand}
use Rattle.flow_graph.specs.declared.graph.OpKind.{OpKind}
use Rattle.flow_graph.specs.declared.graph.ArrayUse.{ArrayUse}
use Rattle.flow_graph.specs.declared.graph.LeaveTo.{LeaveTo}
use Rattle.flow_graph.specs.declared.graph.Op.{Op}
use Rattle.flow_graph.specs.declared.graph.Item.TheVariants as item
use Rattle.lowered_graphs.specs.Making.{Counts, Made, Emit, behind_items, made_on, pure, one, leave, make, numbered}
use Rattle.lowered_rules.proofs.ListedLemmas.{Listed, listed_none, listed_append, listed_one, listed_leave, listed_branch, listed_loop}

pub record InOrder {A : Type 0} (c : Counts) (m : Made A) : Type 0 where
  pub listed : Listed c.op m.counts.op m.items
  pub temps : c.temp ≤ m.counts.temp
  pub pace : m.counts.temp + c.op ≤ c.temp + m.counts.op

abbrev pub Orderly : {A : Type 0} → Emit A → Type 0
Orderly e = (c : Counts) → InOrder c (e c)

-- an operation that takes its number
abbrev pub Numbers : (ℕ → Op) → Type 0
Numbers f = (n : ℕ) → (f n).number ≡ n

-- ---- one part and then another

pub order_on : {A B : Type 0} (c : Counts) (m : Made A) (n : Made B) → InOrder c m → InOrder m.counts n → InOrder c (behind_items m.items n)
order_on c m n h k = record {
  listed = listed_append c.op m.counts.op n.counts.op m.items n.items h.listed k.listed;
  temps = omega (arith, h.temps, k.temps);
  pace = omega (arith, h.pace, k.pace);
}

pub orderly_on : {A B : Type 0} (p : Emit A) (f : A → Emit B) → Orderly p → ((a : A) → Orderly (f a)) → Orderly (λ c. made_on (p c) f)
orderly_on p f h k c = order_on c (p c) (f (p c).value (p c).counts) (h c) (k (p c).value (p c).counts)

pub orderly_pure : {A : Type 0} (a : A) → Orderly (pure a)
orderly_pure a c = record { listed = listed_none c.op; temps = omega arith; pace = omega arith }

pub orderly_if : {A : Type 0} (b : Bool) (p q : Emit A) → Orderly p → Orderly q → Orderly (if b then p else q)
orderly_if true p q h k = h
orderly_if false p q h k = k

-- ---- operations

pub orderly_one : (f : ℕ → Op) → Numbers f → Orderly (one f)
orderly_one f e c = record { listed = listed_one c.op (f c.op) (e c.op); temps = omega arith; pace = omega arith }

pub orderly_leave : (to : LeaveTo) (f : ℕ → Op) → Numbers f → Orderly (leave to f)
orderly_leave to f e c = record { listed = listed_leave c.op (f c.op) to (e c.op); temps = omega arith; pace = omega arith }

pub orderly_make : (k : OpKind) (a b : Operand) (array : Option ArrayUse) (at : Place) → Orderly (make k a b array at)
orderly_make k a b array at c = record { listed = listed_one c.op _ refl; temps = omega arith; pace = omega arith }

-- ---- branches and loops, whose tests have been numbered

abbrev pub next : Counts → Counts
next c = record { op = c.op + 1; temp = c.temp }

pub order_branch : {A B C : Type 0} (c : Counts) (test : Op) (x : Made A) (y : Made B) (v : C) → test.number ≡ c.op → InOrder (next c) x → InOrder x.counts y
    → InOrder {A = C} c (record { items = item.Branch test x.items y.items ∷ []; value = v; counts = y.counts })
order_branch c test x y v e h k = record {
  listed = listed_branch c.op x.counts.op y.counts.op test x.items y.items e h.listed k.listed;
  temps = omega (arith, h.temps, k.temps);
  pace = omega (arith, h.pace, k.pace);
}

-- what is numbered by a test, after which the parts of a loop go on
pub record TestOrder (c : Counts) (m : Made Op) : Type 0 where
  pub before : ℕ
  pub listed : Listed c.op before m.items
  pub number : m.value.number ≡ before
  pub behind : m.counts.op ≡ before + 1
  pub temps : c.temp ≤ m.counts.temp
  pub pace : m.counts.temp + c.op ≤ c.temp + before

pub order_loop : {A B C : Type 0} (c : Counts) (pre : Made Op) (post : Made A) (step : Made B) (count : Option ℕ) (back : Op) (v : C)
    → TestOrder c pre → InOrder pre.counts post → InOrder post.counts step → back.number ≡ step.counts.op
    → InOrder {A = C} c (record { items = item.Loop pre.items pre.value post.items step.items back count ∷ []; value = v; counts = next step.counts })
order_loop c pre post step count back v t h k e = record {
  listed = listed_loop c.op t.before post.counts.op step.counts.op pre.items pre.value post.items step.items back count t.listed t.number
      (let same : pre.counts.op ≡ t.before + 1 = t.behind in rw same at h.listed) k.listed e;
  temps = omega (arith, t.temps, h.temps, k.temps);
  pace = omega (arith, t.pace, t.behind, h.pace, k.pace);
}

-- a test behind what it tests
pub test_numbered : (f : ℕ → Op) → Numbers f → (c : Counts) → TestOrder c (numbered f c)
test_numbered f e c = record { before = c.op; listed = listed_none c.op; number = e c.op; behind = refl; temps = omega arith; pace = omega arith }

pub test_on : {A : Type 0} (c : Counts) (m : Made A) (t : Made Op) → InOrder c m → TestOrder m.counts t → TestOrder c (behind_items m.items t)
test_on c m t h k = record {
  before = k.before;
  listed = listed_append c.op m.counts.op k.before m.items t.items h.listed k.listed;
  number = k.number;
  behind = k.behind;
  temps = omega (arith, h.temps, k.temps);
  pace = omega (arith, h.pace, k.pace);
}

-- a branch behind its test
pub order_tested : {A B C : Type 0} (c : Counts) (m : Made Op) (x : Made A) (y : Made B) (v : C) → TestOrder c m → InOrder m.counts x → InOrder x.counts y
    → InOrder {A = C} c (record { items = m.items ++ item.Branch m.value x.items y.items ∷ []; value = v; counts = y.counts })
order_tested c m x y v t h k = record {
  listed = listed_append c.op t.before y.counts.op m.items (item.Branch m.value x.items y.items ∷ []) t.listed
      (listed_branch t.before x.counts.op y.counts.op m.value x.items y.items t.number (let same : m.counts.op ≡ t.before + 1 = t.behind in rw same at h.listed) k.listed);
  temps = omega (arith, t.temps, h.temps, k.temps);
  pace = omega (arith, t.pace, t.behind, h.pace, k.pace);
}
