-- Objects from an address on: their addresses, and the blocks of the words that they begin with.
use Rattle.std.proofs.Common.{◌≡◌, ◌≢◌, ℕ, zero, suc, ◌+◌, ◌*◌, ◌<◌, Bool, true, false, List, [], ◌∷◌, ◌++◌, length, refl, sym, ap, ◌∙◌, arith, append_assoc, append-nil, length-append}
use Rattle.std.specs.Prelude.{◌==◌, if◌then◌else◌, slice_index_or, sum_by}
use Rattle.std.proofs.lemmas.Bool.{eq-eqb, ne_eqb}
use Rattle.std.proofs.lemmas.List.Sums.{sum_by-cons}
use Rattle.ti_txt.specs.Image.{Block}
use Rattle.flow_graph.specs.declared.graph.Object.{Object}
use Rattle.resumed_runs.specs.Bytes.{bytes_of}
use Rattle.graph_code.specs.Homes.{words_before}
use Rattle.each_image.specs.Image.{blocks_from, joined}
use Rattle.each_image.proofs.Loaded.{bytes-length}
use Rattle.emit_each.specs.Parts.{addresses_from, blocks_at, led_by}

pub words_cons : (x : Object) (xs : List Object) → sum_by (λ y. y.words) (x ∷ xs) ≡ x.words + sum_by (λ y. y.words) xs
words_cons x xs = sum_by-cons (λ (y : Object). y.words) x xs

-- ---- Addresses

pub addresses-length : (a : ℕ) (xs : List Object) → length (addresses_from a xs) ≡ length xs
addresses-length a [] = refl
addresses-length a (x ∷ xs) = ap suc (addresses-length (a + 2 * x.words) xs)

pub address_at : (k : ℕ) (xs : List Object) (o : ℕ) → o < length xs → slice_index_or (addresses_from (2 * k) xs) o 0 ≡ 2 * (k + words_before xs o)
address_at k [] o low = absurd (omega (arith, low))
address_at k (x ∷ xs) zero low = let e : 2 * k ≡ 2 * (k + 0) = omega arith in e
address_at k (x ∷ xs) (suc o) low =
    let e : 2 * k + 2 * x.words ≡ 2 * (k + x.words) = omega arith in
    let sum : 2 * (k + x.words + words_before xs o) ≡ 2 * (k + (x.words + words_before xs o)) = omega arith in
    ap (λ a. slice_index_or (addresses_from a xs) o 0) e ∙ (address_at (k + x.words) xs o (omega (arith, low)) ∙ sum)

-- ---- Blocks

abbrev block : ℕ → List ℕ → Block
block a cs = record { start = a; bytes = cs }

pub led_on : (s at : ℕ) (cs ws : List ℕ) (blocks : List Block) → s + length cs ≡ at → led_by s (cs ++ ws) blocks ≡ led_by s cs (led_by at ws blocks)
led_on s at [] ws blocks e = let same : s ≡ at = omega (arith, e) in ap (λ a. led_by a ws blocks) same
led_on s at (c ∷ cs) [] blocks e = ap (λ l. led_by s l blocks) (append-nil (c ∷ cs))
led_on s at (c ∷ cs) (w ∷ ws) [] e =
    sym (ap (λ t. if t then block s (c ∷ cs ++ w ∷ ws) ∷ [] else block s (c ∷ cs) ∷ block at (w ∷ ws) ∷ []) (eq-eqb at (s + length (c ∷ cs)) (sym e)))
led_on s at (c ∷ cs) (w ∷ ws) (x ∷ blocks) e =
    ap (λ t. if t then block s ((c ∷ cs ++ w ∷ ws) ++ x.bytes) ∷ blocks else block s (c ∷ cs ++ w ∷ ws) ∷ x ∷ blocks) there ∙ by_test (x.start == at + length (w ∷ ws))
  where
    there : (x.start == s + length (c ∷ cs ++ w ∷ ws)) ≡ (x.start == at + length (w ∷ ws))
    there =
        let both = length-append (c ∷ cs) (w ∷ ws) in
        let end : s + length (c ∷ cs ++ w ∷ ws) ≡ at + length (w ∷ ws) = omega (arith, both, e) in
        ap (λ n. x.start == n) end

    here : (at == s + length (c ∷ cs)) ≡ true
    here = eq-eqb at (s + length (c ∷ cs)) (sym e)

    by_test : (t : Bool) → (if t then block s ((c ∷ cs ++ w ∷ ws) ++ x.bytes) ∷ blocks else block s (c ∷ cs ++ w ∷ ws) ∷ x ∷ blocks) ≡ led_by s (c ∷ cs) (if t then block at (w ∷ ws ++ x.bytes) ∷ blocks else block at (w ∷ ws) ∷ x ∷ blocks)
    by_test true =
        ap (λ l. block s l ∷ blocks) (append_assoc (c ∷ cs) (w ∷ ws) x.bytes)
        ∙ sym (ap (λ t. if t then block s (c ∷ cs ++ (w ∷ ws ++ x.bytes)) ∷ blocks else block s (c ∷ cs) ∷ block at (w ∷ ws ++ x.bytes) ∷ blocks) here)
    by_test false = sym (ap (λ t. if t then block s (c ∷ cs ++ w ∷ ws) ∷ x ∷ blocks else block s (c ∷ cs) ∷ block at (w ∷ ws) ∷ x ∷ blocks) here)

pub led_apart : (s at : ℕ) (cs ws : List ℕ) (blocks : List Block) → 0 < length ws → s + length cs ≢ at → led_by s cs [] ++ led_by at ws blocks ≡ led_by s cs (led_by at ws blocks)
led_apart s at [] ws blocks some ne = refl
led_apart s at (c ∷ cs) [] blocks some ne = absurd (omega (arith, some))
led_apart s at (c ∷ cs) (w ∷ ws) [] some ne =
    sym (ap (λ t. if t then block s (c ∷ cs ++ w ∷ ws) ∷ [] else block s (c ∷ cs) ∷ block at (w ∷ ws) ∷ []) (ne_eqb at (s + length (c ∷ cs)) (λ e. ne (sym e))))
led_apart s at (c ∷ cs) (w ∷ ws) (x ∷ blocks) some ne = by_test (x.start == at + length (w ∷ ws))
  where
    here : (at == s + length (c ∷ cs)) ≡ false
    here = ne_eqb at (s + length (c ∷ cs)) (λ e. ne (sym e))

    by_test : (t : Bool) → block s (c ∷ cs) ∷ (if t then block at (w ∷ ws ++ x.bytes) ∷ blocks else block at (w ∷ ws) ∷ x ∷ blocks)
        ≡ led_by s (c ∷ cs) (if t then block at (w ∷ ws ++ x.bytes) ∷ blocks else block at (w ∷ ws) ∷ x ∷ blocks)
    by_test true = sym (ap (λ t. if t then block s (c ∷ cs ++ (w ∷ ws ++ x.bytes)) ∷ blocks else block s (c ∷ cs) ∷ block at (w ∷ ws ++ x.bytes) ∷ blocks) here)
    by_test false = sym (ap (λ t. if t then block s (c ∷ cs ++ w ∷ ws) ∷ x ∷ blocks else block s (c ∷ cs) ∷ block at (w ∷ ws) ∷ x ∷ blocks) here)

pub led_none : (at : ℕ) (ws : List ℕ) (blocks : List Block) → length ws ≡ 0 → led_by at (bytes_of ws) blocks ≡ blocks
led_none at [] blocks none = refl
led_none at (w ∷ ws) blocks none = absurd (omega (arith, none))

pub some_bytes : (ws : List ℕ) → length ws ≢ 0 → 0 < length (bytes_of ws)
some_bytes ws some = let long = bytes-length ws in omega (arith, some, long)

-- ---- They are the graph's

joined_is : (k : ℕ) (ws : List ℕ) (blocks : List Block) → joined k ws blocks ≡ led_by (2 * k) (bytes_of ws) blocks
joined_is k [] blocks = refl
joined_is k (w ∷ ws) [] = refl
joined_is k (w ∷ ws) (x ∷ blocks) =
    let long = bytes-length (w ∷ ws) in
    let end : 2 * (k + length (w ∷ ws)) ≡ 2 * k + length (bytes_of (w ∷ ws)) = omega (arith, long) in
    ap (λ n. if x.start == n then block (2 * k) (bytes_of (w ∷ ws) ++ x.bytes) ∷ blocks else block (2 * k) (bytes_of (w ∷ ws)) ∷ x ∷ blocks) end

pub blocks_same : (k : ℕ) (xs : List Object) → blocks_from k xs ≡ blocks_at (2 * k) xs
blocks_same k [] = refl
blocks_same k (x ∷ xs) =
    let e : 2 * (k + x.words) ≡ 2 * k + 2 * x.words = omega arith in
    ap (λ l. joined k x.first l) (blocks_same (k + x.words) xs ∙ ap (λ a. blocks_at a xs) e) ∙ joined_is k x.first (blocks_at (2 * k + 2 * x.words) xs)
