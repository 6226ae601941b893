-- The reads and the writes of an operation, added to a tally; and its base, from what it costs in FRAM.
use Rattle.std.proofs.Common.{◌≡◌, ◌+◌, ◌*◌, ◌≤◌, ◌<◌, ◌^◌, ℕ, zero, suc, Bool, List, [], ◌∷◌, ◌++◌, length, get_or, sym, ap, inl, inr, ◌∙◌, arith}
use Rattle.std.specs.Prelude.{None, Some, if◌then◌else◌, nat_le}
use Rattle.std.proofs.lemmas.Bool.Decides.{leb_tells}
use Rattle.board_table.specs.declared.board.Board.{Board}
use Rattle.flow_graph.specs.declared.graph.Op.{Op}
use Rattle.op_cost.specs.Weights.{weight}
use Rattle.item_weights.specs.declared.weighing.Tally.{Tally}
use Rattle.item_weights.specs.Weights.{Weight, kept, plus, with_base, with_read, with_write}
use Rattle.item_weights.specs.Tallies.{IsTally}
use Rattle.item_weights.specs.Costs.{uses_cost}
use Rattle.item_weights.proofs.Tallying.{kept_sum, kept_times, tally_same}
use Rattle.board_weights.specs.OnBoard.{base_of, fram_cost, own, prices, reads_by, times_in, with_reads, with_writes, writes_by}
use Rattle.board_weights.specs.Sums.{uses_sum}
use Rattle.board_weights.proofs.Uses.{all_cost}
use Rattle.board_weights.proofs.EachKind.{by_kind_is}

-- ---- reads and writes

times-append : (xs ys : List ℕ) (o : ℕ) → times_in (xs ++ ys) o ≡ times_in xs o + times_in ys o
times-append [] ys o = omega arith
times-append (x ∷ xs) ys o = let h = times-append xs ys o in omega (arith, h)

pub reads_none : (n : ℕ) (v : Weight) (t : Tally) → IsTally n v t → IsTally n (with_reads [] v) t
reads_none n v t a = tally_same n v (with_reads [] v) t (record { base = omega arith; reads = λ o. omega arith; writes = λ o. omega arith }) a

pub reads_one : (n p : ℕ) (v : Weight) (t : Tally) → IsTally n (with_read p v) t → IsTally n (with_reads (p ∷ []) v) t
reads_one n p v t a = tally_same n (with_read p v) (with_reads (p ∷ []) v) t (record { base = omega arith; reads = λ o. omega arith; writes = λ o. omega arith }) a

pub reads_both : (n : ℕ) (xs ys : List ℕ) (v : Weight) (t : Tally) → IsTally n (with_reads ys (with_reads xs v)) t → IsTally n (with_reads (xs ++ ys) v) t
reads_both n xs ys v t a =
    tally_same n (with_reads ys (with_reads xs v)) (with_reads (xs ++ ys) v) t (record { base = omega arith; reads = λ o. let h = times-append xs ys o in omega (arith, h); writes = λ o. omega arith }) a

pub writes_none : (n : ℕ) (v : Weight) (t : Tally) → IsTally n v t → IsTally n (with_writes [] v) t
writes_none n v t a = tally_same n v (with_writes [] v) t (record { base = omega arith; reads = λ o. omega arith; writes = λ o. omega arith }) a

pub writes_one : (n p : ℕ) (v : Weight) (t : Tally) → IsTally n (with_write p v) t → IsTally n (with_writes (p ∷ []) v) t
writes_one n p v t a = tally_same n (with_write p v) (with_writes (p ∷ []) v) t (record { base = omega arith; reads = λ o. omega arith; writes = λ o. omega arith }) a

-- its base, reads and writes are its weight
pub own_added : (n : ℕ) (v : Weight) (base : ℕ) (b : Board) (op : Op) (t : Tally) → base ≡ base_of b op → IsTally n (with_writes (writes_by op.kind op) (with_reads (reads_by op.kind op) (with_base base v))) t → IsTally n (plus v (own b op)) t
own_added n v base b op t e a =
    tally_same n (with_writes (writes_by op.kind op) (with_reads (reads_by op.kind op) (with_base base v))) (plus v (own b op)) t (record { base = ap (λ k. v.base + k) (sym e); reads = λ o. omega arith; writes = λ o. omega arith }) a

-- ---- the base

read_costs : (b : Board) (xs : List ℕ) → all_cost (λ o. (prices b []).read o) xs ≡ length xs * b.access.fram_read
read_costs b [] = omega arith
read_costs b (x ∷ xs) = let h = read_costs b xs in omega (arith, h)

write_costs : (b : Board) (xs : List ℕ) → all_cost (λ o. (prices b []).write o) xs ≡ length xs * b.access.fram_write
write_costs b [] = omega arith
write_costs b (x ∷ xs) = let h = write_costs b xs in omega (arith, h)

pub base_left : (b : Board) (op : Op) → weight b [] op ≡ base_of b op + (length (reads_by op.kind op) * b.access.fram_read + length (writes_by op.kind op) * b.access.fram_write)
base_left b op =
    let k = by_kind_is b [] op op.kind in
    let r = read_costs b (reads_by op.kind op) in
    let w = write_costs b (writes_by op.kind op) in
    omega (arith, k, r, w)

-- ---- what a tally costs

commuted : (x y : ℕ) → x * y ≡ y * x
commuted x y = omega arith

by_number : (p m i : ℕ) → i ≡ kept m → kept (i * p) ≡ kept (m * p)
by_number p m i e = ap (λ j. kept (j * p)) e ∙ (ap kept (commuted (kept m) p) ∙ (kept_times p m ∙ ap kept (sym (commuted m p))))

sum_so_far : (b : Board) (n : ℕ) (w : Weight) (t : Tally) (k : ℕ) → k ≤ n → IsTally n w t → uses_sum b t.reads.items t.writes.items k ≡ kept (uses_cost (prices b []) w k)
sum_so_far b n w t zero le a = omega arith
sum_so_far b n w t (suc k) le a =
    let h = sum_so_far b n w t k (omega (arith, le)) a in
    let r = a.reads k (omega (arith, le)) in
    let q = a.writes k (omega (arith, le)) in
    let x : kept (get_or t.reads.items k 0 * b.access.fram_read) ≡ kept (w.reads k * b.access.fram_read) = by_number b.access.fram_read (w.reads k) (get_or t.reads.items k 0) r in
    let y : kept (get_or t.writes.items k 0 * b.access.fram_write) ≡ kept (w.writes k * b.access.fram_write) = by_number b.access.fram_write (w.writes k) (get_or t.writes.items k 0) q in
    let z = kept_sum (w.reads k * b.access.fram_read) (w.writes k * b.access.fram_write) in
    let s = kept_sum (w.reads k * b.access.fram_read + w.writes k * b.access.fram_write) (uses_cost (prices b []) w k) in
    ap (λ i. kept (kept (i + kept (get_or t.writes.items k 0 * b.access.fram_write)) + uses_sum b t.reads.items t.writes.items k)) x
    ∙ (ap (λ i. kept (kept (kept (w.reads k * b.access.fram_read) + i) + uses_sum b t.reads.items t.writes.items k)) y
    ∙ (ap (λ i. kept (i + uses_sum b t.reads.items t.writes.items k)) z ∙ (ap (λ i. kept (kept (w.reads k * b.access.fram_read + w.writes k * b.access.fram_write) + i)) h ∙ s)))

pub sum_told : (b : Board) (n : ℕ) (w : Weight) (t : Tally) (r : ℕ) → r ≡ uses_sum b t.reads.items t.writes.items (length t.reads.items) → IsTally n w t → kept (t.base + r) ≡ kept (fram_cost b n w)
sum_told b n w t r e a =
    let u = e ∙ (ap (λ k. uses_sum b t.reads.items t.writes.items k) a.so_many_reads ∙ sum_so_far b n w t n (omega arith) a) in
    ap (λ k. kept (k + r)) a.base ∙ (ap (λ k. kept (kept w.base + k)) u ∙ kept_sum w.base (uses_cost (prices b []) w n))

-- ---- whether a charge pays for it

pub number_fits : (cost r call over budget : ℕ) → r ≡ kept cost → call + r + over ≤ budget → budget < 2 ^ 63 → Some r ≡ (if nat_le (call + cost + over) budget then Some cost else None)
number_fits cost r call over budget e le small =
    let same : r ≡ cost = omega (arith, e, le, small) in
    elim (leb_tells (call + cost + over) budget) [
      | inl t ↦ ap Some same ∙ sym (ap (λ (x : Bool). if x then Some cost else None) t.0)
      | inr f ↦ absurd (let h = f.1 in omega (arith, h, le, same))
    ]

pub number_none : (cost r call over budget : ℕ) → r ≡ kept cost → (call + r + over ≤ budget → ⊥) → None ≡ (if nat_le (call + cost + over) budget then Some cost else None)
number_none cost r call over budget e dear = elim (leb_tells (call + cost + over) budget) [
  | inl t ↦ absurd (let h = t.1 in dear (omega (arith, h, e)))
  | inr f ↦ sym (ap (λ (x : Bool). if x then Some cost else None) f.0)
]
