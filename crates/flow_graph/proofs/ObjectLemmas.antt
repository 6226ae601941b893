-- One word of an object is written.
use Rattle.std.proofs.Common.{◌≡◌, ◌≢◌, ℕ, ◌<◌, ◌≤◌, [], length, set, sym, ap, ◌∙◌, subst, inl, inr, arith}
use Rattle.std.specs.Prelude.{Bool, ◌==◌, ◌&&◌, if◌then◌else◌, slice_index_or}
use Rattle.std.proofs.lemmas.Bool.{cases_eq, cases_lt}
use Rattle.std.proofs.lemmas.Bool.Decides.{eqb_tells}
use Rattle.std.proofs.lemmas.List.{get_or-set_same, get_or-set_other, get_or_past, length-set}
use Rattle.flow_graph.specs.Operations.{Words, words_of, word_at, with_word}

-- ---- the words of an object

pub object_same : (objects : Words) (o k w : ℕ) → o < length objects → words_of (with_word objects o k w) o ≡ set (words_of objects o) k w
object_same objects o k w lt = get_or-set_same objects o (set (words_of objects o) k w) [] lt

pub object_other : (objects : Words) (o k w p : ℕ) → p ≢ o → words_of (with_word objects o k w) p ≡ words_of objects p
object_other objects o k w p ne = get_or-set_other objects o p (set (words_of objects o) k w) [] ne

pub object_past : (objects : Words) (o : ℕ) → length objects ≤ o → words_of objects o ≡ []
object_past objects o le = get_or_past objects o [] le

pub object_past_same : (objects : Words) (o k w : ℕ) → length objects ≤ o → words_of (with_word objects o k w) o ≡ []
object_past_same objects o k w le = let n = length-set objects o (set (words_of objects o) k w) in object_past (with_word objects o k w) o (omega arith)

-- ---- one word

pub element_same : (objects : Words) (o k w : ℕ) → o < length objects → k < length (words_of objects o) → word_at (with_word objects o k w) o k ≡ w
element_same objects o k w ho hk = ap (λ l. slice_index_or l k 0) (object_same objects o k w ho) ∙ get_or-set_same (words_of objects o) k w 0 hk

pub element_other : (objects : Words) (o k w p j : ℕ) → o < length objects → ((p ≡ o) × (j ≡ k) → ⊥) → word_at (with_word objects o k w) p j ≡ word_at objects p j
element_other objects o k w p j ho differ =
    elim (cases_eq p o) [
      | inl same ↦
          subst (λ z. word_at (with_word objects o k w) z j ≡ word_at objects z j) (sym same)
          (ap (λ l. slice_index_or l j 0) (object_same objects o k w ho) ∙ get_or-set_other (words_of objects o) k j w 0 (λ e. differ (same, e)))
      | inr other ↦ ap (λ l. slice_index_or l j 0) (object_other objects o k w p other)
    ]

-- each word behind the write
pub word_written : (objects : Words) (o k w p j : ℕ) → o < length objects → k < length (words_of objects o)
    → (if p == o && j == k then w else word_at objects p j) ≡ word_at (with_word objects o k w) p j
word_written objects o k w p j ho hk = elim (eqb_tells p o) [
  | inl t ↦ elim (eqb_tells j k) [
    | inl u ↦ ap (λ (b : Bool). if b && j == k then w else word_at objects p j) t.0 ∙ (ap (λ (b : Bool). if b then w else word_at objects p j) u.0
        ∙ (sym (element_same objects o k w ho hk) ∙ (ap (λ z. word_at (with_word objects o k w) z k) (sym t.1) ∙ ap (λ z. word_at (with_word objects o k w) p z) (sym u.1))))
    | inr f ↦ ap (λ (b : Bool). if b && j == k then w else word_at objects p j) t.0 ∙ (ap (λ (b : Bool). if b then w else word_at objects p j) f.0
        ∙ sym (element_other objects o k w p j ho (λ e. f.1 e.1)))
  ]
  | inr f ↦ ap (λ (b : Bool). if b && j == k then w else word_at objects p j) f.0 ∙ sym (element_other objects o k w p j ho (λ e. f.1 e.0))
]

-- ---- sizes stay

pub length_same : (objects : Words) (o k w p : ℕ) → length (words_of (with_word objects o k w) p) ≡ length (words_of objects p)
length_same objects o k w p = elim (eqb_tells p o) [
  | inl e ↦ elim (cases_lt o (length objects)) [
    | inl lt ↦ ap (λ q. length (words_of (with_word objects o k w) q)) e.1 ∙ (ap length (object_same objects o k w lt) ∙ (length-set (words_of objects o) k w ∙ ap (λ q. length (words_of objects q)) (sym e.1)))
    | inr le ↦ ap (λ q. length (words_of (with_word objects o k w) q)) e.1 ∙ (ap length (object_past_same objects o k w le ∙ sym (object_past objects o le)) ∙ ap (λ q. length (words_of objects q)) (sym e.1))
  ]
  | inr ne ↦ ap length (object_other objects o k w p ne.1)
]

pub count_same : (objects : Words) (o k w : ℕ) → length (with_word objects o k w) ≡ length objects
count_same objects o k w = length-set objects o (set (words_of objects o) k w)
