-- Laws of counts of faults, for calls that follow each other.
use Rattle.std.proofs.Common.{ℕ, ◌-◌, ◌^◌, ◌≤◌, Ok, Err, sym, subst, arith}
use Rattle.std.proofs.lemmas.Bool.{true≢false}
use Rattle.std.specs.Prelude.{Result, IsOk, IsErr}
use Rattle.base_io.specs.Counts.{one_more, Rose, CountsFaults}

pub rose_later : (before now later : ℕ) → Rose before now → now ≤ later → Rose before later
rose_later before now later rose le = omega arith

pub rose_earlier : (earlier before now : ℕ) → earlier ≤ before → Rose before now → Rose earlier now
rose_earlier earlier before now le rose = omega arith

-- A count that stands is one that rose only at its type's end.
pub rose_standing : (before : ℕ) → Rose before before → 2 ^ 64 - 1 ≤ before
rose_standing before rose = omega arith

pub one_more-rose : (n : ℕ) → (n ≤ one_more n) × Rose n (one_more n)
one_more-rose n = (omega arith, omega arith)

-- An Ok, and then another put.
pub counts_more : {T U E F : Type 0} (s : Result T F) (r : Result U E) (old mid new : ℕ) → IsOk s → CountsFaults s old mid → CountsFaults r mid new → CountsFaults r old new
counts_more (Ok t) r old mid new ok first second = subst (λ n. CountsFaults r n new) first second
counts_more (Err e) r old mid new ok first second = absurd (true≢false (sym ok))

-- A fault is answered only where the count rose, in the words of a caller that knows both counts.
pub counts_rose : {T E : Type 0} (r : Result T E) (before now : ℕ) → IsErr r → CountsFaults r before now → Rose before now
counts_rose (Err e) before now failed counts = counts.1
counts_rose (Ok t) before now failed counts = absurd (true≢false (sym failed))

pub counts_later : {T E : Type 0} (r : Result T E) (before now : ℕ) → CountsFaults r before now → before ≤ now
counts_later (Ok t) before now counts = omega arith
counts_later (Err e) before now counts = counts.0
