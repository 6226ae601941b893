-- What writes and evaluations leave as it is.
use Rattle.std.proofs.Common.{◌≡◌, ◌≢◌, ℕ, suc, ◌^◌, ◌<◌, ◌≤◌, Bool, false, Option, Some, None, List, [], ◌∷◌, length, refl, sym, ap, ◌∙◌, subst, arith, ◌⊎◌, inl, inr, get_or, set}
use Rattle.std.proofs.lemmas.Bool.{cases_lt, cases_eq}
use Rattle.std.proofs.lemmas.List.{get_or-set_same, get_or-set_other, length-set, set_past}
use Rattle.c_tree.specs.Runs.{State}
use Rattle.flow_graph.specs.declared.graph.Operand.{Operand}
use Rattle.flow_graph.specs.declared.graph.Operand.TheVariants.{Const, Object}
use Rattle.flow_graph.specs.Operations.{Words, words_of, word_at, with_word, operand_word}
use Rattle.flow_graph.specs.Flow.{Spot}
use Rattle.lowered_graphs.specs.Exprs.{home}
use Rattle.lowered_meaning.specs.Keeps.{Ground, FixedBy, Fixed, Kept, KeptStore, SameShape, Ready, StaysBy, IsOperand, IsHomeBy, HasHomes, Agrees}

-- ---- words

pub words_other : (objects : Words) (o t k w : ℕ) → o ≢ t → words_of (with_word objects t k w) o ≡ words_of objects o
words_other objects o t k w ne = get_or-set_other objects t o (set (words_of objects t) k w) [] ne

pub length_at : {A : Type 0} (xs : List (List A)) (o : ℕ) → 1 ≤ length (get_or xs o []) → o < length xs
length_at [] o h = absurd (omega (arith, h))
length_at (x ∷ xs) ℕ.zero h = omega arith
length_at (x ∷ xs) (suc o) h = omega (arith, length_at xs o h)

-- an object of one word holds what was written to it
pub word_same : (objects : Words) (t w : ℕ) → length (words_of objects t) ≡ 1 → word_at (with_word objects t 0 w) t 0 ≡ w
word_same objects t w one =
    ap (λ ws. get_or ws 0 0) (get_or-set_same objects t (set (words_of objects t) 0 w) [] (length_at objects t (omega (arith, one))))
    ∙ get_or-set_same (words_of objects t) 0 w 0 (omega (arith, one))

pub with_word_shape : (objects : Words) (t k w : ℕ) → SameShape objects (with_word objects t k w)
with_word_shape objects t k w o = by_case (cases_eq o t)
  where
    by_case : ((o ≡ t) ⊎ (o ≢ t)) → length (words_of (with_word objects t k w) o) ≡ length (words_of objects o)
    by_case (inr ne) = ap length (words_other objects o t k w ne)
    by_case (inl e) = subst (λ x. length (words_of (with_word objects t k w) x) ≡ length (words_of objects x)) (sym e) (same (cases_lt t (length objects)))
      where
        same : ((t < length objects) ⊎ (length objects ≤ t)) → length (words_of (with_word objects t k w) t) ≡ length (words_of objects t)
        same (inl lt) = ap length (get_or-set_same objects t (set (words_of objects t) k w) [] lt) ∙ length-set (words_of objects t) k w
        same (inr le) = ap (λ xs. length (get_or xs t [])) (set_past objects t (set (words_of objects t) k w) le)

-- ---- objects that are left as they are

-- no object that stays fixed is a temporary of the function from t on
pub not_temporary : (w : Ground) (called : Bool) (t o n : ℕ) → w.owner n ≡ Some w.function → t ≤ n → Fixed w called t o → o ≢ n
not_temporary w called t o n own le fixed e = not_own (subst (FixedBy w called t o) (ap w.owner e ∙ own) fixed)
  where
    not_own : FixedBy w called t o (Some w.function) → ⊥
    not_own (inl x) = omega (arith, x.1, le, e)
    not_own (inr x) = x.0 refl

-- nor is the home of a variable
pub not_home : (w : Ground) (h n : ℕ) → w.owner n ≡ Some w.function → w.base ≤ n → IsHomeBy w h (w.owner h) → h ≢ n
not_home w h n own le is e = not_own (subst (IsHomeBy w h) (ap w.owner e ∙ own) is)
  where
    not_own : IsHomeBy w h (Some w.function) → ⊥
    not_own x = omega (arith, x.1, le, e)

-- what stays fixed with more called and from a lower temporary on stays so with less
pub fixed_less : (w : Ground) (c c' : Bool) (t t' o : ℕ) → (c ≡ false → c' ≡ false) → t ≤ t' → Fixed w c t o → Fixed w c' t' o
fixed_less w c c' t t' o f le x = less (w.owner o) x
  where
    less : (m : Option ℕ) → FixedBy w c t o m → FixedBy w c' t' o m
    less None e = f e
    less (Some m) (inl y) = inl (y.0, omega (arith, y.1, le))
    less (Some m) (inr (ne, inl e)) = inr (ne, inl (f e))
    less (Some m) (inr (ne, inr h)) = inr (ne, inr h)

pub kept_both : (w : Ground) (c c1 c2 : Bool) (t t1 t2 : ℕ) (x y z : Words) → (c ≡ false → c1 ≡ false) → (c ≡ false → c2 ≡ false) → t ≤ t1 → t ≤ t2
    → Kept w c1 t1 x y → Kept w c2 t2 y z → Kept w c t x z
kept_both w c c1 c2 t t1 t2 x y z f1 f2 le1 le2 k1 k2 o fixed =
    k2 o (fixed_less w c c2 t t2 o f2 le2 fixed) ∙ k1 o (fixed_less w c c1 t t1 o f1 le1 fixed)

pub store_both : (w : Ground) (c c1 c2 : Bool) (t t1 t2 : ℕ) (x y z : State) → (c ≡ false → c1 ≡ false) → (c ≡ false → c2 ≡ false) → t ≤ t1 → t ≤ t2
    → KeptStore w c1 t1 x y → KeptStore w c2 t2 y z → KeptStore w c t x z
store_both w c c1 c2 t t1 t2 x y z f1 f2 le1 le2 k1 k2 v fixed =
    k2 v (fixed_less w c c2 t t2 (home w.setting v) f2 le2 fixed) ∙ k1 v (fixed_less w c c1 t t1 (home w.setting v) f1 le1 fixed)

pub shape_both : (x y z : Words) → SameShape x y → SameShape y z → SameShape x z
shape_both x y z a b o = b o ∙ a o

pub ready_on : (w : Ground) (x y : Words) → SameShape x y → Ready w x → Ready w y
ready_on w x y a r = record { temporaries = λ o le lt. a o ∙ r.temporaries o le lt; singles = λ o is. a o ∙ r.singles o is; variables = λ v is. a (home w.setting v) ∙ r.variables v is }

-- an operand keeps its value while what stands behind it is executed
pub operand_stays : (w : Ground) (later called : Bool) (t : ℕ) (a : Operand) (x y : Words) → (later ≡ false → called ≡ false) → IsOperand w later t a → Kept w called t x y
    → operand_word y a ≡ operand_word x a
operand_stays w later called t (Const n) x y f is kept = refl
operand_stays w later called t (Object o) x y f is kept = ap (λ ws. get_or ws 0 0) (kept o (fixed (w.owner o) is))
  where
    fixed : (m : Option ℕ) → StaysBy w later t o m → FixedBy w called t o m
    fixed None e = f e
    fixed (Some m) p = inl (p.0, p.1)

-- a temporary is written
pub kept_write : (w : Ground) (called : Bool) (t n v : ℕ) (x : Words) → w.owner n ≡ Some w.function → t ≤ n → Kept w called t x (with_word x n 0 v)
kept_write w called t n v x own le o fixed = words_other x o n 0 v (not_temporary w called t o n own le fixed)

word_fits : (ws : List ℕ) (k i w : ℕ) → w < 2 ^ 16 → get_or ws i 0 < 2 ^ 16 → get_or (set ws k w) i 0 < 2 ^ 16
word_fits ws k i w fw fi = by_case (cases_eq i k) (cases_lt k (length ws))
  where
    by_case : ((i ≡ k) ⊎ (i ≢ k)) → ((k < length ws) ⊎ (length ws ≤ k)) → get_or (set ws k w) i 0 < 2 ^ 16
    by_case (inr ne) _ = rw (get_or-set_other ws k i w 0 ne) fi
    by_case (inl e) (inl lt) = rw (e, get_or-set_same ws k w 0 lt) fw
    by_case (inl e) (inr le) = rw (set_past ws k w le) fi

pub fits_write : (objects : Words) (t j w : ℕ) → w < 2 ^ 16 → ((o k : ℕ) → word_at objects o k < 2 ^ 16) → (o k : ℕ) → word_at (with_word objects t j w) o k < 2 ^ 16
fits_write objects t j w fw fit o k = by_case (cases_eq o t) (cases_lt t (length objects))
  where
    by_case : ((o ≡ t) ⊎ (o ≢ t)) → ((t < length objects) ⊎ (length objects ≤ t)) → word_at (with_word objects t j w) o k < 2 ^ 16
    by_case (inr ne) _ = rw (words_other objects o t j w ne) (fit o k)
    by_case (inl e) (inl lt) = rw (e, get_or-set_same objects t (set (words_of objects t) j w) [] lt) (word_fits (words_of objects t) j k w fw (fit t k))
    by_case (inl e) (inr le) = rw (set_past objects t (set (words_of objects t) j w) le) (fit o k)

pub agrees_write : (w : Ground) (scope : ℕ → Type 0) (d : State) (s z : Spot) (n v : ℕ) → HasHomes w scope → w.owner n ≡ Some w.function → w.base ≤ n
    → v < 2 ^ 16 → z.objects ≡ with_word s.objects n 0 v → z.input ≡ s.input → Agrees w scope d s → Agrees w scope d z
agrees_write w scope d s z n v homes own le fv e i h = record {
  variables = λ x is. ap (λ ws. words_of ws (home w.setting x)) e ∙ words_other s.objects (home w.setting x) n 0 v (not_home w (home w.setting x) n own le (homes x is).1) ∙ h.variables x is;
  shape = h.shape;
  input = i ∙ h.input;
  fit = λ o k. rw e (fits_write s.objects n 0 v fv h.fit o k);
}

pub operand_fits : (w : Ground) (later : Bool) (t : ℕ) (a : Operand) (objects : Words) → IsOperand w later t a → ((o k : ℕ) → word_at objects o k < 2 ^ 16) → operand_word objects a < 2 ^ 16
operand_fits w later t (Const n) objects is fit = is
operand_fits w later t (Object o) objects is fit = fit o 0
