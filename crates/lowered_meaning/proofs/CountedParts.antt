-- Parts of a run of which the graph does nothing, and parts that give a scalar a word.
use Rattle.std.proofs.Common.{◌≡◌, ℕ, suc, ◌+◌, ◌≤◌, [], refl, arith}
use Rattle.std.specs.Prelude.{slice_index_or, slice_set}
use Rattle.c_tree.specs.Runs.{State, Got, Done, Stopped, Part, begin, ◌>>=◌, ◌>>◌}
use Rattle.flow_graph.specs.declared.graph.Graph.{Graph}
use Rattle.flow_graph.specs.Flow.{Spot}
use Rattle.lowered_meaning.specs.Runs.{Runs}
use Rattle.lowered_meaning.proofs.RunLemmas.{runs_on, runs_begin, runs_done, runs_weaker, shows_none}
use Rattle.lowered_meaning.proofs.AssignStores.{with_words}

-- the same but for the steps that are left
abbrev pub IsSame : State → State → Type 0
IsSame d e = (j : ℕ) × (e ≡ record d { left = j })

-- A part of n steps of which the graph does nothing: it gives this answer and changes nothing but the steps that are left.
abbrev pub Still : {A : Type 0} → Graph → (most n : ℕ) → A → State → Spot → Got A → Type 0
Still g most n v d z got = (a o : ℕ) → Runs g most (a + n) a o o got z (λ u e y. (u ≡ v) × (y ≡ z) × IsSame d e)

-- where the scalar x takes the word v
abbrev pub taken : ℕ → ℕ → State → ℕ → State
taken x v d j = with_words (record d { left = j }) x (slice_set (slice_index_or d.store x []) 0 v)

-- A part of n steps of which the graph does nothing, and which gives the scalar x the word v.
abbrev pub Takes : Graph → (most n x v : ℕ) → State → Spot → Got (Unit {0}) → Type 0
Takes g most n x v d z got = (a o : ℕ) → Runs g most (a + n) a o o got z (λ u e y. (y ≡ z) × ((j : ℕ) × (e ≡ taken x v d j)))

module _ (g : Graph) (most : ℕ) where
  pub still_done : {A : Type 0} (v : A) (d : State) (z : Spot) → Still g most 0 v d z (Done [] v d)
  still_done {A} v d z a o = runs_weaker g most a a o o (a + 0) a o o (Done [] v d) z goal goal (omega arith) (omega arith) (omega arith) (omega arith) (λ u e y r. r)
      (runs_done g most a o v d z goal (refl, refl, (d.left, refl)))
    where
      goal : A → State → Spot → Type 0
      goal u e y = (u ≡ v) × (y ≡ z) × IsSame d e

  pub still_stopped : {A : Type 0} (n : ℕ) (v : A) (d : State) (z : Spot) → Still g most n v d z (Stopped [])
  still_stopped n v d z a o = shows_none g most (a + n) o z

  -- behind a step
  pub still_begun : {A : Type 0} (n : ℕ) (v : A) (d : State) (z : Spot) (p : Part A) → ((j : ℕ) → Still g most n v (record d { left = j }) z (p (record d { left = j })))
      → Still g most (suc n) v d z ((begin >> p) d)
  still_begun {A} n v d z p h a o =
      runs_weaker g most (suc (a + n)) a o o (a + suc n) a o o ((begin >> p) d) z goal goal (omega arith) (omega arith) (omega arith) (omega arith) (λ u e y r. r)
      (runs_begin g most (a + n) a o o d.left d p z goal
      (λ j. runs_weaker g most (a + n) a o o (a + n) a (6 + o) o (p (record d { left = j })) z _ goal (omega arith) (omega arith) (omega arith) (omega arith) (λ u e y r. r) (h j a o)))
    where
      goal : A → State → Spot → Type 0
      goal u e y = (u ≡ v) × (y ≡ z) × IsSame d e

  -- one such part and then another
  pub still_on : {A B : Type 0} (n m : ℕ) (v : A) (u : B) (d : State) (z : Spot) (p : Part A) (q : A → Part B) → Still g most n v d z (p d)
      → ((j : ℕ) → Still g most m u (record d { left = j }) z (q v (record d { left = j }))) → Still g most (n + m) u d z ((p >>= q) d)
  still_on {A} {B} n m v u d z p q h next a o =
      runs_on g most (a + (n + m)) (a + m) a o o o (p d) q z _ goal
      (runs_weaker g most (a + m + n) (a + m) o o (a + (n + m)) (a + m) o o (p d) z _ _ (omega arith) (omega arith) (omega arith) (omega arith) (λ x e y r. r) (h (a + m) o))
      (λ x e y r. on x e y r.0 r.1 r.2.0 r.2.1)
    where
      goal : B → State → Spot → Type 0
      goal x e y = (x ≡ u) × (y ≡ z) × IsSame d e

      on : (x : A) (e : State) (y : Spot) → x ≡ v → y ≡ z → (j : ℕ) → e ≡ record d { left = j } → Runs g most (a + m) a o o (q x e) y goal
      on x e y ex ey j ee = rw (ex, ey, ee) (next j a o)

  pub still_more : {A : Type 0} (n m : ℕ) (v : A) (d : State) (z : Spot) (got : Got A) → n ≤ m → Still g most n v d z got → Still g most m v d z got
  still_more {A} n m v d z got le h a o = runs_weaker g most (a + n) a o o (a + m) a o o got z goal goal (omega (arith, le)) (omega (arith, le)) (omega arith) (omega arith) (λ u e y r. r) (h a o)
    where
      goal : A → State → Spot → Type 0
      goal u e y = (u ≡ v) × (y ≡ z) × IsSame d e

  -- a part that gives a word, and a scalar that takes it
  pub takes_on : {A : Type 0} (n x v : ℕ) (u : A) (d : State) (z : Spot) (p : Part A) (q : A → Part (Unit {0})) → Still g most n u d z (p d)
      → ((j : ℕ) → q u (record d { left = j }) ≡ Done [] tt (taken x v d j)) → Takes g most n x v d z ((p >>= q) d)
  takes_on {A} n x v u d z p q h next a o = runs_on g most (a + n) a a o o o (p d) q z _ goal (h a o) (λ y e s r. on y e s r.0 r.1 r.2.0 r.2.1)
    where
      goal : Unit {0} → State → Spot → Type 0
      goal y e s = (s ≡ z) × ((j : ℕ) × (e ≡ taken x v d j))

      done : (j : ℕ) → Runs g most a a o o (Done [] (tt {0}) (taken x v d j)) z goal
      done j = runs_done g most a o (tt {0}) (taken x v d j) z goal (refl, (j, refl))

      on : (y : A) (e : State) (s : Spot) → y ≡ u → s ≡ z → (j : ℕ) → e ≡ record d { left = j } → Runs g most a a o o (q y e) s goal
      on y e s ey es j ee = rw (ey, es, ee, next j) (done j)

  pub takes_begun : (n x v : ℕ) (d : State) (z : Spot) (p : Part (Unit {0})) → ((j : ℕ) → Takes g most n x v (record d { left = j }) z (p (record d { left = j })))
      → Takes g most (suc n) x v d z ((begin >> p) d)
  takes_begun n x v d z p h a o =
      runs_weaker g most (suc (a + n)) a o o (a + suc n) a o o ((begin >> p) d) z goal goal (omega arith) (omega arith) (omega arith) (omega arith) (λ u e y r. r)
      (runs_begin g most (a + n) a o o d.left d p z goal
      (λ j. runs_weaker g most (a + n) a o o (a + n) a (6 + o) o (p (record d { left = j })) z _ goal (omega arith) (omega arith) (omega arith) (omega arith) (λ u e y r. r) (h j a o)))
    where
      goal : Unit {0} → State → Spot → Type 0
      goal y e s = (s ≡ z) × ((j : ℕ) × (e ≡ taken x v d j))
