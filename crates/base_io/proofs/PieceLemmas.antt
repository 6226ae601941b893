-- Laws of puts into a sink: what one tells, and what puts that follow each other add.
-- An answer `Ok _` or `Err _` meets `IsOk` or `IsErr` by `refl`.
use Rattle.std.proofs.Common.{◌≡◌, ℕ, ◌+◌, ◌≤◌, List, [], ◌∷◌, ◌++◌, length, take, Option, Some, None, Ok, Err, refl, sym, ap, ◌∙◌, append_assoc, append-nil, length-append, arith}
use Rattle.std.proofs.lemmas.Bool.{true≢false}
use Rattle.std.specs.Prelude.{Result, IsOk, IsErr, MatchResult}
use Rattle.std.specs.List.{concat}
use Rattle.std.proofs.lemmas.List.{take-append-le}
use Rattle.std.proofs.lemmas.List.Folds.{concat-append}
use Rattle.std.proofs.Math.Seq.{take-append-add, take-append_seam}
use Rattle.base_io.specs.Pieces.{Adds, AddsTold}

-- What a sink that tells its bytes tells after the call: all of the new ones, or a front of them.
pub told_result : {T E : Type 0} (bytes : List ℕ) (r : Result T E) (old : List ℕ) (new : Option (List ℕ)) → AddsTold bytes r (Some old) new
    → MatchResult r (λ _. new ≡ Some (old ++ bytes)) (λ _. (n : ℕ) × (n ≤ length bytes) × (new ≡ Some (old ++ take n bytes)))
told_result bytes (Ok t) old (Some new) told = ap (λ xs. Some xs) told
told_result bytes (Err e) old (Some new) told = (told.0, told.1, ap (λ xs. Some xs) told.2)
told_result bytes r old None told = absurd told

-- A sink that tells nothing goes on so.
pub untold : {T E : Type 0} (bytes : List ℕ) (r : Result T E) (new : Option (List ℕ)) → AddsTold bytes r None new → new ≡ None
untold bytes r (Some new) told = absurd told
untold bytes r None told = refl

-- What was there stays at the front.
pub told_front : {T E : Type 0} (bytes : List ℕ) (r : Result T E) (old new : List ℕ) → AddsTold bytes r (Some old) (Some new) → take (length old) new ≡ old
told_front bytes (Ok t) old new told = ap (λ xs. take (length old) xs) told ∙ take-append_seam old bytes
told_front bytes (Err e) old new told = ap (λ xs. take (length old) xs) told.2 ∙ take-append_seam old (take told.0 bytes)

-- No put adds no bytes.
pub told_none : {T E : Type 0} (r : Result T E) (old : Option (List ℕ)) → IsOk r → AddsTold [] r old old
told_none (Ok t) (Some old) ok = sym (append-nil old)
told_none (Ok t) None ok = tt
told_none (Err e) old ok = absurd (true≢false (sym ok))

-- The fact is that of the bytes: it holds for each answer Ok, whatever its type.
pub told_done : {T U E F : Type 0} (bytes : List ℕ) (r : Result T E) (s : Result U F) (old new : Option (List ℕ)) → IsOk r → IsOk s → AddsTold bytes r old new → AddsTold bytes s old new
told_done bytes (Ok t) (Ok u) (Some old) (Some new) ok done told = told
told_done bytes (Ok t) (Ok u) (Some old) None ok done told = told
told_done bytes (Ok t) (Ok u) None (Some new) ok done told = told
told_done bytes (Ok t) (Ok u) None None ok done told = told
told_done bytes (Err e) s old new ok done told = absurd (true≢false (sym ok))
told_done bytes (Ok t) (Err f) old new ok done told = absurd (true≢false (sym done))

-- A put that failed has added a front of any bytes that begin with its own: what comes behind it isn't put.
pub told_stops : {T U E F : Type 0} (bytes behind : List ℕ) (r : Result T E) (s : Result U F) (old new : Option (List ℕ)) → IsErr r → IsErr s → AddsTold bytes r old new
    → AddsTold (bytes ++ behind) s old new
told_stops bytes behind (Err e) (Err f) (Some old) (Some new) failed fails told =
    (told.0, omega (arith, length-append bytes behind, told.1), told.2 ∙ ap (λ xs. old ++ xs) (sym (take-append-le told.0 bytes behind told.1)))
told_stops bytes behind (Err e) (Err f) (Some old) None failed fails told = told
told_stops bytes behind (Err e) (Err f) None (Some new) failed fails told = told
told_stops bytes behind (Err e) (Err f) None None failed fails told = told
told_stops bytes behind (Ok t) s old new failed fails told = absurd (true≢false (sym failed))
told_stops bytes behind (Err e) (Ok u) old new failed fails told = absurd (true≢false (sym fails))

adds_more : {U E : Type 0} (a b : List ℕ) (r : Result U E) (old mid new : List ℕ) → mid ≡ old ++ a → Adds b r mid new → Adds (a ++ b) r old new
adds_more a b (Ok u) old mid new first second = second ∙ ap (λ m. m ++ b) first ∙ append_assoc old a b
adds_more a b (Err e) old mid new first second =
    (length a + second.0, omega (arith, length-append a b, second.1), second.2 ∙ ap (λ m. m ++ take second.0 b) first ∙ append_assoc old a (take second.0 b) ∙ ap (λ x. old ++ x) (sym (take-append-add a b second.0)))

-- An Ok, and then another put.
pub told_more : {T U E F : Type 0} (a b : List ℕ) (s : Result T F) (r : Result U E) (old mid new : Option (List ℕ)) → IsOk s → AddsTold a s old mid → AddsTold b r mid new
    → AddsTold (a ++ b) r old new
told_more a b (Ok t) r (Some old) (Some mid) (Some new) ok first second = adds_more a b r old mid new first second
told_more a b (Ok t) r (Some old) (Some mid) None ok first second = second
told_more a b (Ok t) r (Some old) None new ok first second = absurd first
told_more a b (Ok t) r None (Some mid) new ok first second = absurd first
told_more a b (Ok t) r None None (Some new) ok first second = second
told_more a b (Ok t) r None None None ok first second = second
told_more a b (Err e) r old mid new ok first second = absurd (true≢false (sym ok))

-- A row of pieces, and then one more put.
pub told_row : {T U E F : Type 0} (pieces : List (List ℕ)) (last : List ℕ) (s : Result T F) (r : Result U E) (old mid new : Option (List ℕ)) → IsOk s
    → AddsTold (concat pieces) s old mid → AddsTold last r mid new → AddsTold (concat (pieces ++ last ∷ [])) r old new
told_row pieces last s r old mid new ok first second =
    rw (concat-append pieces (last ∷ []), append-nil last) (told_more (concat pieces) last s r old mid new ok first second)

-- A row of pieces of which one failed: the pieces behind it aren't put.
pub told_row_stops : {T U E F : Type 0} (pieces behind : List (List ℕ)) (r : Result T E) (s : Result U F) (old new : Option (List ℕ)) → IsErr r → IsErr s
    → AddsTold (concat pieces) r old new → AddsTold (concat (pieces ++ behind)) s old new
told_row_stops pieces behind r s old new failed fails told =
    rw (concat-append pieces behind) (told_stops (concat pieces) (concat behind) r s old new failed fails told)
