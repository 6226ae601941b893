-- Reads and writes that follow each other, where the bytes of the stream are known.
use Rattle.std.proofs.Common.{◌≡◌, ℕ, ◌+◌, ◌-◌, ◌≤◌, List, ◌++◌, length, take, drop, Option, Some, None, sym, ap, subst, ◌∙◌, append_assoc, drop-drop, length-drop, arith}
use Rattle.std.proofs.Math.Seq.{take-add}
use Rattle.std.proofs.lemmas.List.{take_rest}
use Rattle.std.specs.Io.KnownBytes.{Appends, Consumes, Keeps}

pub consumes_more : (a b c : Option (List ℕ)) (x y : List ℕ) → Consumes a b x → Consumes b c y → Consumes a c (x ++ y)
consumes_more None b c x y first second = tt
consumes_more (Some a) None c x y first second = absurd first
consumes_more (Some a) (Some b) None x y first second = absurd second
consumes_more (Some a) (Some b) (Some c) x y first second = first ∙ ap (λ m. x ++ m) second ∙ sym (append_assoc x y c)

pub appends_more : (a b c : Option (List ℕ)) (x y : List ℕ) → Appends a b x → Appends b c y → Appends a c (x ++ y)
appends_more None b c x y first second = tt
appends_more (Some a) None c x y first second = absurd first
appends_more (Some a) (Some b) None x y first second = absurd second
appends_more (Some a) (Some b) (Some c) x y first second = second ∙ ap (λ m. m ++ y) first ∙ append_assoc a x y

pub appends_kept : (a b c : Option (List ℕ)) (x : List ℕ) → Appends a b x → Keeps b c → Appends a c x
appends_kept None b c x first kept = tt
appends_kept (Some a) None c x first kept = absurd first
appends_kept (Some a) (Some b) None x first kept = absurd kept
appends_kept (Some a) (Some b) (Some c) x first kept = kept ∙ first

-- A front of the bytes was written, and then more of what follows it.
pub front_more : (bytes rest : List ℕ) (n count : ℕ) (old mid new : Option (List ℕ)) → n ≤ length bytes → rest ≡ drop n bytes → count ≤ length rest
    → Appends old mid (take n bytes) → Appends mid new (take count rest)
    → (m : ℕ) × (m ≤ length bytes) × (take (length rest - count) (drop count rest) ≡ drop m bytes) × Appends old new (take m bytes)
front_more bytes rest n count old mid new le is fits first second = (
  n + count,
  omega (arith, length-drop n bytes, ap length is),
  take_rest rest count ∙ ap (drop count) is ∙ drop-drop count n bytes,
  subst (Appends old new) (ap (λ r. take n bytes ++ take count r) is ∙ sym (take-add n count bytes)) (appends_more old mid new (take n bytes) (take count rest) first second),
)
