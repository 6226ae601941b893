-- The files of a job come to one answer, where their texts do.
use Rattle.std.proofs.Common.{◌≡◌, ◌<◌, ◌+◌, ◌∙◌, ℕ, List, [], ◌∷◌, Option, Some, None, length, sym, subst, ap, ap₂, refl, inl, inr, arith}
use Rattle.std.specs.Prelude.{IsSomeAnd}
use Rattle.base_io.specs.Files.{Files}
use Rattle.job_files.specs.Answers.{Answer, IsDecided, no_memory, read_fault, refused, too_large}
use Rattle.job_files.specs.Reads.{AreHad, IsHad, IsReached, ReadingCauses, Wanted}
use Rattle.job_files.specs.Refusals.{Refusal}
use Rattle.job_files.specs.Text.{Text}
use Rattle.job_files.proofs.OneInput.{some_same}

had_same : (files : Files) (name s t : Text) (m n : ℕ) → IsHad files m name s → IsHad files n name t → s ≡ t
had_same files name s t m n h k = some_same s t (sym h.there ∙ k.there)

pub texts_same : (files : Files) (ws : List Wanted) (xs ys : List Text) → AreHad files ws xs → AreHad files ws ys → xs ≡ ys
texts_same files [] [] [] h k = refl
texts_same files [] [] (y ∷ ys) h k = absurd k
texts_same files [] (x ∷ xs) ys h k = absurd h
texts_same files (w ∷ ws) [] ys h k = absurd h
texts_same files (w ∷ ws) (x ∷ xs) [] h k = absurd k
texts_same files (w ∷ ws) (x ∷ xs) (y ∷ ys) h k =
    ap₂ (λ a l. a ∷ l) (had_same files w.name x y w.most w.most h.0 k.0) (texts_same files ws xs ys h.1 k.1)

-- a file that has too many bytes
pub record IsLarge (files : Files) (w : Wanted) : Type 0 where
  pub text : Text
  pub there : files w.name ≡ Some text
  pub long : w.most < length text

large_not_had : (files : Files) (w : Wanted) (text : Text) → IsLarge files w → IsHad files w.most w.name text → ⊥
large_not_had files w text h k =
    let same : length h.text ≡ length text = ap length (some_same h.text text (sym h.there ∙ k.there)) in
    let long = h.long in
    let short = k.short in
    omega (arith, same, long, short)

-- the first file that isn't had is one
large_same : (files : Files) (ws : List Wanted) (v w : Wanted) → IsReached files ws v → IsReached files ws w → IsLarge files v → IsLarge files w → v ≡ w
large_same files [] v w h k l m = absurd h
large_same files (first ∷ ws) v w (inl e) (inl f) l m = e ∙ sym f
large_same files (first ∷ ws) v w (inl e) (inr g) l m = absurd (large_not_had files first g.0.0 (subst (IsLarge files) e l) g.0.1)
large_same files (first ∷ ws) v w (inr g) (inl f) l m = absurd (large_not_had files first g.0.0 (subst (IsLarge files) f m) g.0.1)
large_same files (first ∷ ws) v w (inr g) (inr k) l m = large_same files ws v w g.1 k.1 l m

large_or_had : (files : Files) (ws : List Wanted) (w : Wanted) (xs : List Text) → IsReached files ws w → IsLarge files w → AreHad files ws xs → ⊥
large_or_had files [] w xs h l k = h
large_or_had files (first ∷ ws) w [] h l k = k
large_or_had files (first ∷ ws) w (x ∷ xs) (inl e) l k = large_not_had files first x (subst (IsLarge files) e l) k.0
large_or_had files (first ∷ ws) w (x ∷ xs) (inr g) l k = large_or_had files ws w xs g.1 l k.1

-- What the files come to: the first that isn't had is too large, or all are had and their texts come to this.
pub data Finding (files : Files) (ws : List Wanted) (V : List Text → Answer → Type 0) : Answer → Type 0 where
  large : (w : Wanted) → IsReached files ws w → IsLarge files w → Finding files ws V (too_large w.name (w.most + 1))
  found : (texts : List Text) (a : Answer) → AreHad files ws texts → V texts a → Finding files ws V a

module _ (files : Files) (ws : List Wanted) (V : List Text → Answer → Type 0) where
  pub one_finding : ((texts : List Text) (a b : Answer) → V texts a → V texts b → a ≡ b) → (a b : Answer) → Finding files ws V a → Finding files ws V b → a ≡ b
  one_finding one _ _ (large v h l) (large w k m) = ap (λ (x : Wanted). too_large x.name (x.most + 1)) (large_same files ws v w h k l m)
  one_finding one _ _ (large v h l) (found texts b k r) = absurd (large_or_had files ws v texts h l k)
  one_finding one _ _ (found texts b k r) (large v h l) = absurd (large_or_had files ws v texts h l k)
  one_finding one _ _ (found texts a h r) (found others b k s) = one texts a b r (subst (λ (x : List Text). V x b) (texts_same files ws others texts k h) s)

  large_found : (w : Wanted) (name : Text) (seen : ℕ) (o : Option Text) → files w.name ≡ o → IsReached files ws w → name ≡ w.name
      → IsSomeAnd o (λ text. w.most < length text) → seen ≡ w.most + 1 → Finding files ws V (too_large name seen)
  large_found w name seen None e h n long is = absurd long
  large_found w name seen (Some text) e h n long is =
      subst (λ (x : Text). Finding files ws V (too_large x seen)) (sym n)
      (subst (λ (x : ℕ). Finding files ws V (too_large w.name x)) (sym is) (large w h (record { text = text; there = e; long = long })))

  -- an answer before a job begins
  pub reading_found : (P : Refusal → Type 0) → ((r : Refusal) → P r → Finding files ws V (refused r)) → (a : Answer) → IsDecided a → ReadingCauses files ws P a → Finding files ws V a
  reading_found P on (too_large name seen) d h = large_found h.0 name seen (files h.0.name) refl h.1 h.2 h.3 h.4
  reading_found P on (refused r) d h = on r h
  reading_found P on (read_fault name) d h = absurd d
  reading_found P on no_memory d h = absurd d
  reading_found P on a d h = absurd h
