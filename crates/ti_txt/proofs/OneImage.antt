-- An image is determined by its bytes.
use Rattle.std.proofs.Common.{◌≡◌, ℕ, zero, suc, ◌+◌, ◌-◌, ◌<◌, ⊎_elim, List, [], ◌∷◌, length, Some, None, refl, sym, ap, ◌∙◌, arith, subst}
use Rattle.std.specs.Prelude.{slice_get}
use Rattle.std.proofs.lemmas.Bool.{cases_lt, cases_order}
use Rattle.ti_txt.specs.Bytes.{byte_in}
use Rattle.ti_txt.specs.Image.{Ascend, Block, end_of}
use Rattle.ti_txt.proofs.Complete.{none_some, some_same}
use Rattle.ti_txt.proofs.Swept.{in_block, below_block, above_block}

-- no byte stands below the first block
none_below : (low : ℕ) (bs : List Block) (a : ℕ) → Ascend low bs → a < low → byte_in bs a ≡ None
none_below low [] a h l = refl
none_below low (b ∷ bs) a h l =
    below_block b bs a (omega (arith, h.0, l)) ∙ none_below (end_of b + 1) bs a h.3 (omega (arith, h.0, l))

some_within : (xs : List ℕ) (k : ℕ) → k < length xs → (x : ℕ) × (slice_get xs k ≡ Some x)
some_within [] k h = absurd (omega (arith, h))
some_within (x ∷ xs) zero h = (x, refl)
some_within (x ∷ xs) (suc k) h = some_within xs k (omega (arith, h))

-- lists with the same elements at each place
same_lists : (xs ys : List ℕ) → length xs ≡ length ys → ((k : ℕ) → k < length xs → slice_get xs k ≡ slice_get ys k) → xs ≡ ys
same_lists [] [] e h = refl
same_lists [] (y ∷ ys) e h = absurd (omega (arith, e))
same_lists (x ∷ xs) [] e h = absurd (omega (arith, e))
same_lists (x ∷ xs) (y ∷ ys) e h =
    let f : x ≡ y = some_same x y (h 0 (omega arith)) in
    let g : xs ≡ ys = same_lists xs ys (omega (arith, e)) (λ k l. h (suc k) (omega (arith, l))) in
    ap (λ z. z ∷ xs) f ∙ ap (λ zs. y ∷ zs) g

-- a byte of the first block
there : (low : ℕ) (b : Block) (bs : List Block) (k : ℕ) → k < length b.bytes → byte_in (b ∷ bs) (b.start + k) ≡ slice_get b.bytes k
there low b bs k h = let e : b.start + k - b.start ≡ k = omega arith in in_block b bs (b.start + k) (omega arith) (omega (arith, h)) ∙ ap (slice_get b.bytes) e

-- the first block of one doesn't begin below that of the other
no_sooner : (low : ℕ) (b : Block) (bs : List Block) (c : Block) (cs : List Block) → Ascend low (b ∷ bs) → Ascend low (c ∷ cs) → ((a : ℕ) → byte_in (b ∷ bs) a ≡ byte_in (c ∷ cs) a) → b.start < c.start → ⊥
no_sooner low b bs c cs h i same l =
    let x = some_within b.bytes 0 h.1 in
    let e : b.start + 0 ≡ b.start = omega arith in
    none_some x.0 (sym (below_block c cs b.start l ∙ none_below (end_of c + 1) cs b.start i.3 (omega (arith, l)))
    ∙ (sym (same b.start) ∙ (ap (byte_in (b ∷ bs)) (sym e) ∙ (there low b bs 0 h.1 ∙ x.1))))

-- nor is it shorter
no_shorter : (low : ℕ) (b : Block) (bs : List Block) (c : Block) (cs : List Block) → Ascend low (b ∷ bs) → Ascend low (c ∷ cs) → ((a : ℕ) → byte_in (b ∷ bs) a ≡ byte_in (c ∷ cs) a)
    → b.start ≡ c.start → length b.bytes < length c.bytes → ⊥
no_shorter low b bs c cs h i same s l =
    let x = some_within c.bytes (length b.bytes) l in
    let e : c.start + length b.bytes ≡ end_of b = omega (arith, s) in
    none_some x.0 (sym (above_block b bs (end_of b) (omega arith) ∙ none_below (end_of b + 1) bs (end_of b) h.3 (omega arith))
    ∙ (same (end_of b) ∙ (ap (byte_in (c ∷ cs)) (sym e) ∙ (there low c cs (length b.bytes) l ∙ x.1))))

same_rest : (low : ℕ) (b : Block) (bs : List Block) (c : Block) (cs : List Block) → Ascend low (b ∷ bs) → Ascend low (c ∷ cs) → ((a : ℕ) → byte_in (b ∷ bs) a ≡ byte_in (c ∷ cs) a)
    → end_of b ≡ end_of c → (a : ℕ) → byte_in bs a ≡ byte_in cs a
same_rest low b bs c cs h i same e a = ⊎_elim
    (λ l. none_below (end_of b + 1) bs a h.3 l ∙ sym (none_below (end_of c + 1) cs a i.3 (omega (arith, l, e))))
    (λ l. sym (above_block b bs a (omega (arith, l))) ∙ (same a ∙ above_block c cs a (omega (arith, l, e))))
    (cases_lt a (end_of b + 1))

-- Images with the same bytes are the same.
pub one_image : (low : ℕ) (bs cs : List Block) → Ascend low bs → Ascend low cs → ((a : ℕ) → byte_in bs a ≡ byte_in cs a) → bs ≡ cs
one_image low [] [] h i same = refl
one_image low [] (c ∷ cs) h i same =
    let x = some_within c.bytes 0 i.1 in absurd (none_some x.0 (same (c.start + 0) ∙ (there low c cs 0 i.1 ∙ x.1)))
one_image low (b ∷ bs) [] h i same =
    let x = some_within b.bytes 0 h.1 in absurd (none_some x.0 (sym (same (b.start + 0)) ∙ (there low b bs 0 h.1 ∙ x.1)))
one_image low (b ∷ bs) (c ∷ cs) h i same =
    let s : b.start ≡ c.start = ⊎_elim (λ e. e) (⊎_elim (λ l. absurd (no_sooner low b bs c cs h i same l)) (λ l. absurd (no_sooner low c cs b bs i h (λ a. sym (same a)) l))) (cases_order b.start c.start) in
    let n : length b.bytes ≡ length c.bytes = ⊎_elim (λ e. e)
    (⊎_elim (λ l. absurd (no_shorter low b bs c cs h i same s l)) (λ l. absurd (no_shorter low c cs b bs i h (λ a. sym (same a)) (sym s) l))) (cases_order (length b.bytes) (length c.bytes)) in
    let e : end_of b ≡ end_of c = omega (arith, s, n) in
    let same_at : (k : ℕ) → b.start + k ≡ c.start + k = λ k. omega (arith, s) in
    let same_bytes : b.bytes ≡ c.bytes = same_lists b.bytes c.bytes n (λ k l.
    sym (there low b bs k l) ∙ (same (b.start + k) ∙ (ap (byte_in (c ∷ cs)) (same_at k) ∙ there low c cs k (omega (arith, l, n))))) in
    let rest : bs ≡ cs = one_image (end_of b + 1) bs cs h.3 (subst (λ k. Ascend (k + 1) cs) (sym e) i.3) (same_rest low b bs c cs h i same e) in
    let first : b ≡ c = ap (λ k. let r : Block = record { start = k; bytes = b.bytes } in r) s ∙ ap (λ xs. let r : Block = record { start = c.start; bytes = xs } in r) same_bytes in
    ap (λ d. d ∷ bs) first ∙ ap (λ ds. c ∷ ds) rest
