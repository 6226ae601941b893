-- Parts that are given one after another.
use Rattle.std.proofs.Common.{◌≡◌, ◌++◌, List, refl, sym, ap, ◌∙◌, append_assoc, append-nil, Ok, Err}
use Rattle.std.specs.Prelude.{Result, IfOk}
use Rattle.flow_graph.specs.declared.graph.Item.{Item}
use Rattle.lowered_graphs.specs.Making.{Emit, Made, Counts, pure, ◌>>=◌, made_on, behind_items}
use Rattle.c_lower.specs.Emitting.{Emits, Emitted, Leads}

-- one part and then another
pub emits_on : {A B : Type 0} (p : Emit A) (f : A → Emit B) (x : A) (y : B) (s t u : Emitted) → Emits p x s t → Emits (f x) y t u → Emits (p >>= f) y s u
emits_on p f x y s t u h i = record {
  answer = i.answer ∙ ap (λ m. m.value) same;
  items = i.items ∙ ap (λ l. l ++ (f x t.counts).items) h.items ∙ append_assoc s.items (p s.counts).items (f x t.counts).items
      ∙ ap (λ m. s.items ++ ((p s.counts).items ++ m.items)) same;
  counts = i.counts ∙ ap (λ m. m.counts) same;
}
  where
    same : f x t.counts ≡ f (p s.counts).value (p s.counts).counts
    same = ap (λ v. f v t.counts) h.answer ∙ ap (f (p s.counts).value) h.counts

-- the same, where the second may have failed
pub emits_tail : {A B E : Type 0} (p : Emit A) (f : A → Emit B) (x : A) (r : Result B E) (s t u : Emitted) → Emits p x s t → IfOk r (λ y. Emits (f x) y t u) → IfOk r (λ y. Emits (p >>= f) y s u)
emits_tail p f x (Ok y) s t u h i = emits_on p f x y s t u h i
emits_tail p f x (Err e) s t u h i = i

pub emits_pure : {A : Type 0} (x : A) (s : Emitted) → Emits (pure x) x s s
emits_pure x s = record { answer = refl; items = sym (append-nil s.items); counts = refl }

-- a part that does the same
pub emits_same : {A : Type 0} (p q : Emit A) (x : A) (s t : Emitted) → p s.counts ≡ q s.counts → Emits q x s t → Emits p x s t
emits_same p q x s t e h = record {
  answer = h.answer ∙ sym (ap (λ m. m.value) e);
  items = h.items ∙ sym (ap (λ m. s.items ++ m.items) e);
  counts = h.counts ∙ sym (ap (λ m. m.counts) e);
}

-- ---- parts of parts

pub behind_both : {A : Type 0} (xs ys : List Item) (m : Made A) → behind_items (xs ++ ys) m ≡ behind_items xs (behind_items ys m)
behind_both xs ys m = ap (λ l. record { items = l; value = m.value; counts = m.counts }) (append_assoc xs ys m.items)

pub on_behind : {A B : Type 0} (xs : List Item) (m : Made A) (f : A → Emit B) → made_on (behind_items xs m) f ≡ behind_items xs (made_on m f)
on_behind xs m f = behind_both xs m.items (f m.value m.counts)

-- three parts, one after another, however they are put together
pub on_assoc : {A B C : Type 0} (m : Made A) (f : A → Emit B) (g : B → Emit C) → made_on (made_on m f) g ≡ made_on m (λ a c. made_on (f a c) g)
on_assoc m f g = on_behind m.items (f m.value m.counts) g

pub on_pure : {A : Type 0} (m : Made A) → made_on m pure ≡ m
on_pure m = ap (λ l. record { items = l; value = m.value; counts = m.counts }) (append-nil m.items)

-- ---- what is left of a part

pub leads_start : {A : Type 0} (whole left : Emit A) (s : Emitted) → ((c : Counts) → whole c ≡ left c) → Leads whole left s s
leads_start whole left s e = record { on = λ x t h. emits_same whole left x s t (e s.counts) h }

-- a part of what is left is given
pub leads_on : {A B : Type 0} (whole left : Emit B) (p : Emit A) (f : A → Emit B) (x : A) (s t u : Emitted) → Leads whole left s t → left t.counts ≡ made_on (p t.counts) f → Emits p x t u → Leads whole (f x) s u
leads_on whole left p f x s t u h e i = record { on = λ y v k. h.on y v (emits_same left (p >>= f) y t v e (emits_on p f x y t u v i k)) }

-- nothing is left
pub leads_end : {A : Type 0} (whole left : Emit A) (x : A) (s t : Emitted) → Leads whole left s t → left t.counts ≡ pure x t.counts → Emits whole x s t
leads_end whole left x s t h e = h.on x t (emits_same left (pure x) x t t e (emits_pure x t))

-- the last part of what is left is given
pub leads_last : {A : Type 0} (whole left p : Emit A) (x : A) (s t u : Emitted) → Leads whole left s t → left t.counts ≡ p t.counts → Emits p x t u → Emits whole x s u
leads_last whole left p x s t u h e i = h.on x u (emits_same left p x t u e i)

-- the same, where the last part may have failed
pub leads_tail : {A E : Type 0} (whole left : Emit A) (r : Result A E) (s t u : Emitted) → Leads whole left s t → IfOk r (λ y. Emits left y t u) → IfOk r (λ y. Emits whole y s u)
leads_tail whole left (Ok y) s t u h i = h.on y u i
leads_tail whole left (Err e) s t u h i = i

-- what is left, put otherwise
pub leads_same : {A : Type 0} (whole left other : Emit A) (s t : Emitted) → Leads whole left s t → ((c : Counts) → left c ≡ other c) → Leads whole other s t
leads_same whole left other s t h e = record { on = λ x u k. h.on x u (emits_same left other x t u (e t.counts) k) }
