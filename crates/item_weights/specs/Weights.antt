-- What items weigh before homes are chosen: a base in energy units, and how often each object is read and written.
use Rattle.std.specs.Prelude.{ℕ, ◌≡◌, ◌+◌, ◌*◌, ◌^◌, ◌<◌, ◌≤◌, ◌==◌, ⊤, Option, Some, None, List, [], ◌∷◌, max, min, slice_get, if◌then◌else◌}
use Rattle.std.specs.List.{AllByRecursion}
use Rattle.flow_graph.specs.declared.graph.Op.{Op}
use Rattle.flow_graph.specs.declared.graph.Item.{Item}
use Rattle.flow_graph.specs.declared.graph.Item.TheFolds.{fold-Item}
use Rattle.flow_graph.specs.declared.graph.Item.TheOpen.{Item-F}
use Rattle.item_weights.specs.declared.uses.Use.{Use}
use Rattle.item_weights.specs.declared.uses.Weights.{Weights}

pub record Weight : Type 0 where
  pub base : ℕ
  pub reads : ℕ → ℕ
  pub writes : ℕ → ℕ

-- the weight of one operation, which its template says
abbrev pub Own : Type 0
Own = Op → Weight

abbrev pub no_weight : Weight
no_weight = record { base = 0; reads = λ o. 0; writes = λ o. 0 }

-- one behind the other
abbrev pub plus : Weight → Weight → Weight
plus v w = record { base = v.base + w.base; reads = λ o. v.reads o + w.reads o; writes = λ o. v.writes o + w.writes o }

-- one or the other: the greater base, and of each object the greater reads and the greater writes
abbrev pub greater : Weight → Weight → Weight
greater v w = record { base = max v.base w.base; reads = λ o. max (v.reads o) (w.reads o); writes = λ o. max (v.writes o) (w.writes o) }

-- so many times
abbrev pub times : ℕ → Weight → Weight
times n w = record { base = n * w.base; reads = λ o. n * w.reads o; writes = λ o. n * w.writes o }

abbrev pub with_base : ℕ → Weight → Weight
with_base n w = record w { base = w.base + n }

-- 1 at one place alone
abbrev pub one_at : ℕ → ℕ → ℕ
one_at p o = if p == o then 1 else 0

-- an object is read, or written, once more
abbrev pub with_read : ℕ → Weight → Weight
with_read p w = record w { reads = λ o. w.reads o + one_at p o }

abbrev pub with_write : ℕ → Weight → Weight
with_write p w = record w { writes = λ o. w.writes o + one_at p o }

-- where both have a weight
abbrev pub joined : (Weight → Weight → Weight) → Option Weight → Option Weight → Option Weight
joined f (Some v) (Some w) = Some (f v w)
joined f (Some v) None = None
joined f None w = None

abbrev pub all_of : List (Option Weight) → Option Weight
all_of [] = Some no_weight
all_of (w ∷ ws) = joined plus w (all_of ws)

-- a turn is counted as often as the loop goes round, at least once, and the test once more
abbrev pub turns : Option ℕ → Weight → Option Weight → Option Weight
turns None test turn = None
turns (Some n) test None = None
turns (Some n) test (Some w) = Some (plus (times (max n 1) w) test)

abbrev pub call : Weight → Option (Option ℕ) → Option Weight
call w None = None
call w (Some None) = None
call w (Some (Some n)) = Some (with_base n w)

-- An item that holds a leave, a loop of unknown count, or a call of a function that has no number has no weight. `flats` has the number of each
-- function that has one.
abbrev pub weight_by : Own → List (Option ℕ) → Item-F (Option Weight) → Option Weight
weight_by own flats (Item-F.One op) = Some (own op)
weight_by own flats (Item-F.Branch test a b) = joined plus (Some (own test)) (joined greater (all_of a) (all_of b))
weight_by own flats (Item-F.Loop pre test post step back count) =
    turns count (own test) (joined plus (all_of pre) (joined plus (Some (own test)) (joined plus (all_of post) (joined plus (all_of step) (Some (own back))))))
weight_by own flats (Item-F.Switch items) = all_of items
weight_by own flats (Item-F.CallTo op f) = call (own op) (slice_get flats f)
weight_by own flats (Item-F.Leave op to) = None

unfoldable pub item_weight : Own → List (Option ℕ) → Item → Option Weight
item_weight own flats item = fold-Item (Option Weight) (weight_by own flats) item

abbrev pub item_weights : Own → List (Option ℕ) → List Item → List (Option Weight)
item_weights own flats [] = []
item_weights own flats (x ∷ xs) = item_weight own flats x ∷ item_weights own flats xs

-- what items weigh one after another
abbrev pub items_weight : Own → List (Option ℕ) → List Item → Option Weight
items_weight own flats items = all_of (item_weights own flats items)

-- ---- what is told of a weight

-- numbers stop at 2^63
abbrev pub kept : ℕ → ℕ
kept n = min n (2 ^ 63)

abbrev pub reads_in : List Use → ℕ → ℕ
reads_in [] o = 0
reads_in (u ∷ us) o = if u.object == o then u.reads else reads_in us o

abbrev pub writes_in : List Use → ℕ → ℕ
writes_in [] o = 0
writes_in (u ∷ us) o = if u.object == o then u.writes else writes_in us o

-- the objects rise strictly from a number on
abbrev pub Rise : ℕ → List Use → Type 0
Rise n [] = ⊤
Rise n (u ∷ us) = (n ≤ u.object) × Rise (u.object + 1) us

abbrev pub IsTouched : Use → Type 0
IsTouched u = 0 < u.reads + u.writes

-- of so many objects: each that is read or written is listed, in the order of the objects, and no other
pub record Tells (objects : ℕ) (w : Weight) (told : Weights) : Type 0 where
  pub base : told.base ≡ kept w.base
  pub reads : (o : ℕ) → o < objects → reads_in told.uses.items o ≡ kept (w.reads o)
  pub writes : (o : ℕ) → o < objects → writes_in told.uses.items o ≡ kept (w.writes o)
  pub rise : Rise 0 told.uses.items
  pub within : AllByRecursion (λ u. u.object < objects) told.uses.items
  pub touched : AllByRecursion IsTouched told.uses.items

abbrev pub TellsOption : ℕ → Option Weight → Option Weights → Type 0
TellsOption objects None None = ⊤
TellsOption objects (Some w) (Some told) = Tells objects w told
TellsOption objects _ _ = ⊥
