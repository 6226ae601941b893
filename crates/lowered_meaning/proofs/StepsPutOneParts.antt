-- A part of a run, and the same part with k steps more, where what is more begins with a step: closed under one part after another.
use Rattle.std.proofs.Common.{◌≡◌, ℕ, zero, suc, ◌+◌, ◌≤◌, Bool, true, false, Option, Some, None, List, [], ◌∷◌, ◌++◌, refl, sym, ap, ◌∙◌, arith, append_assoc}
use Rattle.c_values.specs.declared.ops.Ty.{Ty}
use Rattle.c_values.specs.Values.{Worked, Gives, Traps, within, value}
use Rattle.std.specs.Prelude.{slice_index_or, slice_set, length}
use Rattle.c_tree.specs.Runs.{Event, Begun, State, Got, Done, Trapped, Stopped, Part, behind_events, go_on, ◌>>=◌, ◌>>◌, pure, trap, either, begin, begin_at, begin_each, put, take_from, take_word, words_of, set_words, read, write_place, word_or_trap, at_element, read_at, write_at}
use Rattle.c_tree.specs.Meaning.{begun, events}
use Rattle.c_tree.proofs.Shown.{begun-append, events_behind, events_on}

abbrev pub more : ℕ → State → State
more k s = record s { left = s.left + k }

-- what comes out with n steps, and with k more
abbrev pub Grows : {A : Type 0} → ℕ → ℕ → Got A → Got A → Type 0
Grows k n (Done es a s) got = (got ≡ Done es a (more k s)) × (begun es + s.left ≡ n)
Grows k n (Trapped es t) got = (got ≡ Trapped es t) × (begun es ≤ n)
Grows k n (Stopped es) got = (begun es ≡ n) × ((rest : List Event) × (events got ≡ es ++ rest) × (1 ≤ k → (behind : List Event) × (rest ≡ Begun ∷ behind)))

-- from every state with at most d steps left
abbrev pub Steady : {A : Type 0} → ℕ → ℕ → Part A → Part A → Type 0
Steady k d p q = (s : State) → s.left ≤ d → Grows k s.left (p s) (q (more k s))

grows_behind : {A : Type 0} (k n m : ℕ) (es : List Event) (got got' : Got A) → begun es + m ≡ n → Grows k m got got' → Grows k n (behind_events es got) (behind_events es got')
grows_behind k n m es (Done fs a s) got' e h = (ap (behind_events es) h.0, omega (arith, begun-append es fs, e, h.1))
grows_behind k n m es (Trapped fs t) got' e h = (ap (behind_events es) h.0, omega (arith, begun-append es fs, e, h.1))
grows_behind k n m es (Stopped fs) got' e h =
    (omega (arith, begun-append es fs, e, h.0), (h.1.0, events_behind es got' ∙ ap (λ l. es ++ l) h.1.1 ∙ sym (append_assoc es fs h.1.0), h.1.2))

pub grows_on : {A B : Type 0} (k d n : ℕ) (got got' : Got A) (f g : A → Part B) → n ≤ d → Grows k n got got' → ((a : A) → Steady k d (f a) (g a)) → Grows k n (go_on got f) (go_on got' g)
grows_on k d n (Done es a s) got' f g le h rest =
    rw h.0 (grows_behind k n s.left es (f a s) (g a (more k s)) h.1 (rest a s (omega (arith, le, h.1))))
grows_on k d n (Trapped es t) got' f g le h rest = (ap (λ x. go_on x g) h.0, h.1)
grows_on k d n (Stopped es) got' f g le h rest =
    let e = events_on got' g in
    (h.0, (h.1.0 ++ e.0, e.1 ∙ ap (λ l. l ++ e.0) h.1.1 ∙ append_assoc es h.1.0 e.0, λ one. ((h.1.2 one).0 ++ e.0, ap (λ l. l ++ e.0) (h.1.2 one).1)))

pub steady_on : {A B : Type 0} (k d : ℕ) (p q : Part A) (f g : A → Part B) → Steady k d p q → ((a : A) → Steady k d (f a) (g a)) → Steady k d (p >>= f) (q >>= g)
steady_on k d p q f g h rest s le = grows_on k d s.left (p s) (q (more k s)) f g le (h s le) rest

pub steady_then : {A B : Type 0} (k d : ℕ) (p q : Part A) (f g : Part B) → Steady k d p q → Steady k d f g → Steady k d (p >> f) (q >> g)
steady_then k d p q f g h rest s le = grows_on k d s.left (p s) (q (more k s)) (λ _. f) (λ _. g) le (h s le) (λ _. rest)

pub steady_pure : {A : Type 0} (k d : ℕ) (a : A) → Steady k d (pure a) (pure a)
steady_pure k d a s le = (refl, omega arith)

pub steady_trap : {A : Type 0} (k d t : ℕ) → Steady {A = A} k d (trap t) (trap t)
steady_trap k d t s le = (refl, omega arith)

pub steady_put : (k d w : ℕ) → Steady k d (put w) (put w)
steady_put k d w s le = (refl, omega arith)

pub steady_words_of : (k d x : ℕ) → Steady k d (words_of x) (words_of x)
steady_words_of k d x s le = (refl, omega arith)

pub steady_set_words : (k d x : ℕ) (ws : List ℕ) → Steady k d (set_words x ws) (set_words x ws)
steady_set_words k d x ws s le = (refl, omega arith)

grows_take : (k : ℕ) (input : List ℕ) (s : State) → Grows k s.left (take_from input s) (take_from input (more k s))
grows_take k [] s = (refl, omega arith)
grows_take k (w ∷ rest) s = (refl, omega arith)

pub steady_take : (k d : ℕ) → Steady k d take_word take_word
steady_take k d s le = grows_take k s.input s

pub steady_either : {A : Type 0} (k d : ℕ) (b : Bool) (p p' q q' : Part A) → Steady k d p p' → Steady k d q q' → Steady k d (either b p q) (either b p' q')
steady_either k d true p p' q q' h i = h
steady_either k d false p p' q q' h i = i

grows_begin : (k i j : ℕ) (s : State) → j ≡ i + k → Grows k i (begin_at i s) (begin_at j (more k s))
grows_begin k zero zero s e = (refl, ([], refl, λ one. absurd (omega (arith, e, one))))
grows_begin k zero (suc j) s e = (refl, (Begun ∷ [], refl, λ _. ([], refl)))
grows_begin k (suc i) zero s e = absurd (omega (arith, e))
grows_begin k (suc i) (suc j) s e = let q : j ≡ i + k = omega (arith, e) in (ap (λ x. Done (Begun ∷ []) tt (record s { left = x })) q, omega arith)

pub steady_begin : (k d : ℕ) → Steady k d begin begin
steady_begin k d s le = grows_begin k s.left (s.left + k) s refl

-- where a step is begun first, what follows has one less
grows_begun : {A : Type 0} (k d i j : ℕ) (s : State) (p q : Part A) → i ≤ suc d → j ≡ i + k → Steady k d p q → Grows k i (go_on (begin_at i s) (λ _. p)) (go_on (begin_at j (more k s)) (λ _. q))
grows_begun k d zero zero s p q le e h = (refl, ([], refl, λ one. absurd (omega (arith, e, one))))
grows_begun k d zero (suc j) s p q le e h =
    (refl, (events (go_on (begin_at (suc j) (more k s)) (λ _. q)), refl, λ _. (events (q (record s { left = j })), events_behind (Begun ∷ []) (q (record s { left = j })))))
grows_begun k d (suc i) zero s p q le e h = absurd (omega (arith, e))
grows_begun k d (suc i) (suc j) s p q le e h =
    let r : j ≡ i + k = omega (arith, e) in
    rw r (grows_behind k (suc i) i (Begun ∷ []) (p (record s { left = i })) (q (record s { left = i + k })) (omega arith) (h (record s { left = i }) (omega (arith, le))))

pub steady_begun : {A : Type 0} (k d : ℕ) (p q : Part A) → Steady k d p q → Steady k (suc d) (begin >> p) (begin >> q)
steady_begun k d p q h s le = grows_begun k d s.left (s.left + k) s p q le refl h

pub steady_begin_each : (k d n : ℕ) → Steady k d (begin_each n) (begin_each n)
steady_begin_each k d zero = steady_pure k d tt
steady_begin_each k d (suc n) = steady_then k d begin begin (begin_each n) (begin_each n) (steady_begin k d) (steady_begin_each k d n)

pub steady_read : (k d x : ℕ) → Steady k d (read x) (read x)
steady_read k d x s le = (refl, omega arith)

pub steady_write_place : (k d x i w : ℕ) → Steady k d (write_place x i w) (write_place x i w)
steady_write_place k d x i w s le = (refl, omega arith)

pub steady_worked : (k d : ℕ) (w : Worked) → Steady k d (word_or_trap w) (word_or_trap w)
steady_worked k d (Gives w) = steady_pure k d w
steady_worked k d (Traps t) = steady_trap k d t

steady_at : {A : Type 0} (k d : ℕ) (o : Option ℕ) (f : ℕ → Part A) → ((i : ℕ) → Steady k d (f i) (f i)) → Steady k d (at_element o f) (at_element o f)
steady_at k d None f h = steady_trap k d 2
steady_at k d (Some i) f h = h i

pub steady_read_at : (k d x : ℕ) (ty : Ty) (i : ℕ) → Steady k d (read_at x ty i) (read_at x ty i)
steady_read_at k d x ty i =
    let f : List ℕ → Part ℕ = λ ws. at_element (within (length ws) (value ty i)) (λ j. pure (slice_index_or ws j 0)) in
    steady_on k d (words_of x) (words_of x) f f (steady_words_of k d x) (λ ws. steady_at k d (within (length ws) (value ty i)) (λ j. pure (slice_index_or ws j 0)) (λ j. steady_pure k d (slice_index_or ws j 0)))

pub steady_write_at : (k d x : ℕ) (ty : Ty) (i w : ℕ) → Steady k d (write_at x ty i w) (write_at x ty i w)
steady_write_at k d x ty i w =
    let f : List ℕ → Part (Unit {0}) = λ ws. at_element (within (length ws) (value ty i)) (λ j. set_words x (slice_set ws j w)) in
    steady_on k d (words_of x) (words_of x) f f (steady_words_of k d x) (λ ws. steady_at k d (within (length ws) (value ty i)) (λ j. set_words x (slice_set ws j w)) (λ j. steady_set_words k d x (slice_set ws j w)))
