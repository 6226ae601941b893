-- An operation on two lists of objects that agree where it looks leaves them to agree where it writes.
use Rattle.std.proofs.Common.{◌≡◌, ◌⊎◌, ◌≤◌, ℕ, Bool, true, false, List, [], ◌∷◌, length, get_or, set, refl, sym, ap, subst, inl, inr, ◌∙◌, arith, length-set}
use Rattle.std.specs.Prelude.{Option, None, Some, nat_lt}
use Rattle.std.proofs.lemmas.Bool.{cases_lt}
use Rattle.std.proofs.lemmas.Bool.Decides.{eqb_tells}
use Rattle.c_values.specs.Values.{Worked, Gives, Traps}
use Rattle.flow_graph.specs.declared.graph.OpKind.{OpKind}
use Rattle.flow_graph.specs.declared.graph.OpKind.TheVariants as kind
use Rattle.flow_graph.specs.declared.graph.Op.{Op}
use Rattle.flow_graph.specs.declared.graph.ArrayUse.{ArrayUse}
use Rattle.flow_graph.specs.Operations.{Words, words_of, word_at, with_word, gives}
use Rattle.flow_graph.specs.Flow.{Spot, Did, Went, Ended, Trapped, Lost, written, write_worked, at_element, load, store, next_word, behind_word, take_word, effect_by}
use Rattle.flow_graph.proofs.ObjectLemmas.{length_same, object_other, object_past_same, object_same}
use Rattle.live_objects.specs.Live.{is_dest, writes}

-- ---- one word is written

one_word : (xs ys : List ℕ) (w : ℕ) → length ys ≡ length xs → length xs ≤ 1 → set ys 0 w ≡ set xs 0 w
one_word [] [] w e l = refl
one_word [] (y ∷ ys) w e l = absurd (omega arith)
one_word (x ∷ xs) [] w e l = absurd (omega arith)
one_word (x ∷ []) (y ∷ []) w e l = refl
one_word (x ∷ []) (y ∷ z ∷ ys) w e l = absurd (omega arith)
one_word (x ∷ z ∷ xs) (y ∷ ys) w e l = absurd (omega arith)

-- ---- what an operation leaves

-- each object is the same in both, or is as it was and not written; none has changed its size
pub record Close (op : Op) (a b a2 b2 : Words) : Type 0 where
  pub so_many : length b2 ≡ length a2
  pub sizes : (o : ℕ) → length (words_of b2 o) ≡ length (words_of a2 o)
  pub kept : (o : ℕ) → length (words_of a2 o) ≡ length (words_of a o)
  pub each : (o : ℕ) → (words_of b2 o ≡ words_of a2 o) ⊎ ((words_of a2 o ≡ words_of a o) × (words_of b2 o ≡ words_of b o) × (writes op o ≡ false))

-- as many objects of the same sizes
pub record Sized (a b : Words) : Type 0 where
  pub so_many : length b ≡ length a
  pub sizes : (o : ℕ) → length (words_of b o) ≡ length (words_of a o)

nothing_written : (op : Op) (o : ℕ) → op.dest ≡ None → writes op o ≡ false
nothing_written op o e = ap (λ d. is_dest d o) e

close_none : (op : Op) (a b : Words) → op.dest ≡ None → Sized a b → Close op a b a b
close_none op a b e z = record { so_many = z.so_many; sizes = z.sizes; kept = λ o. refl; each = λ o. inr (refl, refl, nothing_written op o e) }

so_many_with : (a b : Words) (o k w : ℕ) → Sized a b → length (with_word b o k w) ≡ length (with_word a o k w)
so_many_with a b o k w z = length-set b o (set (words_of b o) k w) ∙ (z.so_many ∙ sym (length-set a o (set (words_of a o) k w)))

sizes_with : (a b : Words) (o k w p : ℕ) → Sized a b → length (words_of (with_word b o k w) p) ≡ length (words_of (with_word a o k w) p)
sizes_with a b o k w p z = length_same b o k w p ∙ (z.sizes p ∙ sym (length_same a o k w p))

-- the object that is written is the same where the words written into are
same_with : (a b : Words) (o k w : ℕ) → Sized a b → set (words_of b o) k w ≡ set (words_of a o) k w → words_of (with_word b o k w) o ≡ words_of (with_word a o k w) o
same_with a b o k w z e = elim (cases_lt o (length a)) [
  | inl lt ↦ let n = z.so_many in object_same b o k w (omega arith) ∙ (e ∙ sym (object_same a o k w lt))
  | inr le ↦ let n = z.so_many in object_past_same b o k w (omega arith) ∙ sym (object_past_same a o k w le)
]

close_scalar : (op : Op) (a b : Words) (o w : ℕ) → op.dest ≡ Some o → Sized a b → length (words_of a o) ≤ 1 → Close op a b (with_word a o 0 w) (with_word b o 0 w)
close_scalar op a b o w e z l = record {
  so_many = so_many_with a b o 0 w z;
  sizes = λ p. sizes_with a b o 0 w p z;
  kept = λ p. length_same a o 0 w p;
  each = λ p. elim (eqb_tells o p) [
    | inl s ↦ inl (subst (λ q. words_of (with_word b o 0 w) q ≡ words_of (with_word a o 0 w) q) s.1 (same_with a b o 0 w z (one_word (words_of a o) (words_of b o) w (z.sizes o) l)))
    | inr d ↦ inr (object_other a o 0 w p (λ f. d.1 (sym f)), object_other b o 0 w p (λ f. d.1 (sym f)), ap (λ x. is_dest x p) e ∙ d.0)
  ];
}

close_array : (op : Op) (a b : Words) (o k w : ℕ) → op.dest ≡ None → Sized a b → words_of b o ≡ words_of a o → Close op a b (with_word a o k w) (with_word b o k w)
close_array op a b o k w e z same = record {
  so_many = so_many_with a b o k w z;
  sizes = λ p. sizes_with a b o k w p z;
  kept = λ p. length_same a o k w p;
  each = λ p. elim (eqb_tells o p) [
    | inl s ↦ inl (subst (λ q. words_of (with_word b o k w) q ≡ words_of (with_word a o k w) q) s.1 (same_with a b o k w z (ap (λ ws. set ws k w) same)))
    | inr d ↦ inr (object_other a o k w p (λ f. d.1 (sym f)), object_other b o k w p (λ f. d.1 (sym f)), nothing_written op p e)
  ];
}

-- ---- effects

pub record Went_alike (op : Op) (s t s2 t2 : Spot) : Type 0 where
  pub calls : s2.calls ≡ s.calls
  pub other_calls : t2.calls ≡ t.calls
  pub input : t2.input ≡ s2.input
  pub close : Close op s.objects t.objects s2.objects t2.objects

abbrev pub EffectsAlike : Op → Spot → Spot → Did → Did → Type 0
EffectsAlike op s t (Went ws s2) (Went vs t2) = (vs ≡ ws) × Went_alike op s t s2 t2
EffectsAlike op s t (Ended w) (Ended v) = v ≡ w
EffectsAlike op s t (Trapped w) (Trapped v) = v ≡ w
EffectsAlike op s t Lost Lost = Unit {0}
EffectsAlike op s t _ _ = ⊥

-- the spots agree where the operation looks
pub record Ready (op : Op) (s t : Spot) : Type 0 where
  pub input : t.input ≡ s.input
  pub sized : Sized s.objects t.objects
  pub array : (use' : ArrayUse) → op.array ≡ Some use' → words_of t.objects use'.object ≡ words_of s.objects use'.object
  pub scalar : (o : ℕ) → op.dest ≡ Some o → length (words_of s.objects o) ≤ 1
  pub stores : op.kind ≡ kind.Store → op.dest ≡ None
  pub outputs : op.kind ≡ kind.Output → op.dest ≡ None

written_alike : (op : Op) (s t : Spot) (dest : Option ℕ) (w : ℕ) → op.dest ≡ dest → t.input ≡ s.input → Sized s.objects t.objects
    → ((o : ℕ) → op.dest ≡ Some o → length (words_of s.objects o) ≤ 1) → EffectsAlike op s t (Went [] (written dest w s)) (Went [] (written dest w t))
written_alike op s t None w e i z l = (refl, record { calls = refl; other_calls = refl; input = i; close = close_none op s.objects t.objects e z })
written_alike op s t (Some o) w e i z l = (refl, record { calls = refl; other_calls = refl; input = i; close = close_scalar op s.objects t.objects o w e z (l o e) })

worked_alike : (op : Op) (s t : Spot) (x : Worked) → Ready op s t → EffectsAlike op s t (write_worked op.dest x s) (write_worked op.dest x t)
worked_alike op s t (Gives w) r = written_alike op s t op.dest w refl r.input r.sized r.scalar
worked_alike op s t (Traps n) r = refl

element_alike : (op : Op) (s t : Spot) (b : Bool) (d e : Did) → EffectsAlike op s t d e → EffectsAlike op s t (at_element b d) (at_element b e)
element_alike op s t true d e h = h
element_alike op s t false d e h = refl

load_alike : (op : Op) (s t : Spot) (array : Option ArrayUse) (i : ℕ) → op.array ≡ array → Ready op s t → EffectsAlike op s t (load array op.dest i s) (load array op.dest i t)
load_alike op s t None i e r = tt
load_alike op s t (Some use') i e r =
    element_alike op s t (nat_lt i use'.length) (Went [] (written op.dest (word_at s.objects use'.object i) s)) (Went [] (written op.dest (word_at t.objects use'.object i) t))
    (subst (λ w. EffectsAlike op s t (Went [] (written op.dest (word_at s.objects use'.object i) s)) (Went [] (written op.dest w t)))
    (ap (λ ws. get_or ws i 0) (sym (r.array use' e))) (written_alike op s t op.dest (word_at s.objects use'.object i) refl r.input r.sized r.scalar))

store_alike : (op : Op) (s t : Spot) (array : Option ArrayUse) (w i : ℕ) → op.array ≡ array → op.dest ≡ None → Ready op s t → EffectsAlike op s t (store array w i s) (store array w i t)
store_alike op s t None w i e d r = tt
store_alike op s t (Some use') w i e d r =
    element_alike op s t (nat_lt i use'.length) (Went [] (record s { objects = with_word s.objects use'.object i w })) (Went [] (record t { objects = with_word t.objects use'.object i w }))
    (refl, record { calls = refl; other_calls = refl; input = r.input; close = close_array op s.objects t.objects use'.object i w d r.sized (r.array use' e) })

input_by : (op : Op) (s t : Spot) (w : ℕ) → Ready op s t → EffectsAlike op s t (Went [] (written op.dest w (record s { input = behind_word s.input }))) (Went [] (written op.dest w (record t { input = behind_word t.input })))
input_by op s t w r =
    let h = written_alike op (record s { input = behind_word s.input }) (record t { input = behind_word t.input }) op.dest w refl (ap behind_word r.input) r.sized r.scalar in
    (h.0, record { calls = h.1.calls; other_calls = h.1.other_calls; input = h.1.input; close = h.1.close })

input_alike : (op : Op) (s t : Spot) → Ready op s t → EffectsAlike op s t (take_word op.dest s) (take_word op.dest t)
input_alike op s t r =
    subst (λ w. EffectsAlike op s t (take_word op.dest s) (Went [] (written op.dest w (record t { input = behind_word t.input })))) (ap next_word (sym r.input))
    (input_by op s t (next_word s.input) r)

-- whatever its kind, given the words of its operands
pub effect_alike : (k : OpKind) (op : Op) (a b : ℕ) (s t : Spot) → op.kind ≡ k → Ready op s t → EffectsAlike op s t (effect_by k op a b s) (effect_by k op a b t)
effect_alike kind.Load op a b s t e r = load_alike op s t op.array a refl r
effect_alike kind.Store op a b s t e r = store_alike op s t op.array a b refl (r.stores e) r
effect_alike kind.Input op a b s t e r = input_alike op s t r
effect_alike kind.Output op a b s t e r = (refl, record { calls = refl; other_calls = refl; input = r.input; close = close_none op s.objects t.objects (r.outputs e) r.sized })
effect_alike kind.Finish op a b s t e r = refl
effect_alike k op a b s t e r = worked_alike op s t (gives k a b) r
