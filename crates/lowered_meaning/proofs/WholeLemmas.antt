-- From whole runs of every number of steps to both directions of the theorem.
use Rattle.std.proofs.Common.{◌≡◌, ℕ, zero, suc, ◌+◌, ◌-◌, ◌*◌, ◌<◌, ◌≤◌, List, [], ◌∷◌, ◌++◌, length, refl, sym, ap, ◌∙◌, subst, arith, append-nil, length-append, mul-add, ◌⊎◌, inl, inr}
use Rattle.std.proofs.Math.Nat.{le-mul_of_pos_right}
use Rattle.std.proofs.lemmas.Bool.{cases_lt}
use Rattle.plain_meaning.specs.Behaviour.{Going, Meaning, Begins}
use Rattle.c_tree.specs.declared.tree.Program.{Program}
use Rattle.c_tree.specs.Runs.{Got, Done, Trapped, Stopped}
use Rattle.c_tree.specs.Meaning.{put_words, begun, events, outcome_of, run_of, meaning, steps}
use Rattle.c_tree.specs.Laws.{AreBounded}
use Rattle.flow_graph.specs.declared.graph.Graph.{Graph}
use Rattle.flow_graph.specs.Operations.{Words}
use Rattle.flow_graph.specs.Flow as flow
use Rattle.flow_graph.specs.Flow.{Spot, flow_from, meaning_of, start, Stand, At, Over}
use Rattle.flow_graph.proofs.FlowLemmas.{flow_more}
use Rattle.lowered_meaning.specs.Behaves.{Told, Behaves, WholeRun, PutsOne, StepsPutOne}

-- what a run tells
abbrev tell : Got ℕ → Meaning
tell got = record { words = put_words (events got); outcome = outcome_of got }

-- so many operations tell what the program does in n steps
pub record Counted (g : Graph) (most : ℕ) (said : Meaning) (begun : ℕ) (s : Spot) : Type 0 where
  pub ops : ℕ
  pub same : meaning_of (flow_from g ops s) ≡ said
  pub few : ops ≤ 6 * begun
  pub many : begun ≤ most * (ops + 1)

counted : (g : Graph) (most : ℕ) (got : Got ℕ) (s : Spot) → WholeRun g most got s → Counted g most (tell got) (begun (events got)) s
counted g most (Done es v d) s r = record { ops = r.0; same = ap meaning_of r.1; few = omega (arith, r.2.few); many = omega (arith, r.2.many, mul-add most r.0 1) }
counted g most (Trapped es t) s r = record { ops = r.ops; same = ap meaning_of r.does; few = omega (arith, r.pays.few); many = omega (arith, r.pays.many, mul-add most r.ops 1) }
counted g most (Stopped es) s r = record { ops = r.ops; same = ap meaning_of r.does; few = omega (arith, r.pays.few); many = omega (arith, r.pays.many, mul-add most r.ops 1) }

-- words that begin with the ones, and with which the others begin, are one of them, where the others are at most one word more
between : (xs ys zs : List ℕ) → Begins xs ys → Begins ys zs → PutsOne xs zs → (ys ≡ xs) ⊎ (ys ≡ zs)
between xs ys zs a b p = by_rest a.0 b.0 a.1 b.1
  where
    too_long : (x y : ℕ) (r q : List ℕ) → ys ≡ xs ++ x ∷ r → zs ≡ ys ++ y ∷ q → PutsOne xs zs → ⊥
    too_long x y r q e f (inl h) =
        omega (arith, ap length e, ap length f, ap length h, length-append xs (x ∷ r), length-append ys (y ∷ q))
    too_long x y r q e f (inr h) =
        omega (arith, ap length e, ap length f, ap length h.1, length-append xs (x ∷ r), length-append ys (y ∷ q), length-append xs (h.0 ∷ []))

    by_rest : (r q : List ℕ) → ys ≡ xs ++ r → zs ≡ ys ++ q → (ys ≡ xs) ⊎ (ys ≡ zs)
    by_rest [] q e f = inl (e ∙ append-nil xs)
    by_rest (x ∷ r) [] e f = inr (sym (f ∙ append-nil ys))
    by_rest (x ∷ r) (y ∷ q) e f = absurd (too_long x y r q e f p)

-- the last number of steps, up to a most, that takes at most m operations
pub record Last (f : ℕ → ℕ) (m most : ℕ) : Type 0 where
  pub n : ℕ
  pub within : n ≤ most
  pub few : f n ≤ m
  pub last : (n ≡ most) ⊎ ((suc n ≤ most) × (m < f (suc n)))

last_of : (f : ℕ → ℕ) (m : ℕ) → f 0 ≤ m → (most : ℕ) → Last f m most
last_of f m h zero = record { n = 0; within = omega arith; few = h; last = inl refl }
last_of f m h (suc most) = by_case (last_of f m h most) (cases_lt m (f (suc most)))
  where
    on_by : (x : Last f m most) → m < f (suc most) → ((x.n ≡ most) ⊎ ((suc x.n ≤ most) × (m < f (suc x.n)))) → (x.n ≡ suc most) ⊎ ((suc x.n ≤ suc most) × (m < f (suc x.n)))
    on_by x lt (inl e) = inr (omega (arith, e), subst (λ k. m < f (suc k)) (sym e) lt)
    on_by x lt (inr h2) = inr (omega (arith, h2.0), h2.1)

    by_case : Last f m most → ((m < f (suc most)) ⊎ (f (suc most) ≤ m)) → Last f m (suc most)
    by_case x (inr le) = record { n = suc most; within = omega arith; few = le; last = inl refl }
    by_case x (inl lt) = record { n = x.n; within = omega (arith, x.within); few = x.few; last = on_by x lt x.last }

less_cancels : (n a b : ℕ) → 1 ≤ n → n * (a + 1) ≤ n * (b + 1) → a ≤ b
less_cancels n a b one h = by_case (cases_lt b a)
  where
    by_case : ((b < a) ⊎ (a ≤ b)) → a ≤ b
    by_case (inr le) = le
    by_case (inl lt) =
        let k : ℕ = a - b in
        let e : n * (a + 1) ≡ n * ((b + 1) + k) = ap (λ x. n * x) (omega (arith, lt)) in
        absurd (omega (arith, h, e, mul-add n (b + 1) k, le-mul_of_pos_right {m = k} n (omega (arith, lt)), one))

-- ---- the program's steps and the graph's operations

-- both directions, where each whole run is met by the graph
pub behaves : (p : Program) (g : Graph) (objects : Words) (input : List ℕ) → AreBounded p → StepsPutOne p → 1 ≤ p.nodes
    → ((n : ℕ) → WholeRun g p.nodes (run_of p input n) (start g objects input)) → Behaves p g objects input
behaves p g objects input bounds puts some runs = record {
  forth = λ n. let c = count n in record { ops = c.ops; few = omega (arith, c.few, bounds.most input n); same = c.same };
  back = back;
}
  where
    s : Spot
    s = start g objects input

    count : (n : ℕ) → Counted g p.nodes (meaning p input n) (steps p input n) s
    count n = counted g p.nodes (run_of p input n) s (runs n)

    Tells : ℕ → Type 0
    Tells m = Told p (meaning_of (flow_from g m s)) input m

    told : (m n : ℕ) → n ≤ p.nodes * (m + 1) → meaning_of (flow_from g m s) ≡ meaning p input n → Tells m
    told m n le e = record { steps = n; few = le; words = ap (λ x. x.words) e; outcome = inr (ap (λ x. x.outcome) e) }

    going : (m n : ℕ) (z : Spot) → n ≤ p.nodes * (m + 1) → (flow_from g m s).words ≡ (meaning p input n).words → (flow_from g m s).stand ≡ At z → Tells m
    going m n z le e h = record { steps = n; few = le; words = e; outcome = inl (ap flow.outcome_of h) }

    -- between what n steps and what n + 1 steps take
    amid : (m n : ℕ) → suc n ≤ p.nodes * (m + 1) → (count n).ops ≤ m → m < (count (suc n)).ops → (x : Stand) → (flow_from g m s).stand ≡ x → Tells m
    amid m n le few lt (Over o) h =
        told m (suc n) le (ap meaning_of (sym ((flow_more g m (count (suc n)).ops s (omega (arith, lt))).over o h)) ∙ (count (suc n)).same)
    amid m n le few lt (At z) h = by_words (between w (flow_from g m s).words v
        (subst (λ x. Begins x (flow_from g m s).words) (ap (λ x. x.words) (count n).same) (flow_more g (count n).ops m s few).words)
        (subst (λ x. Begins (flow_from g m s).words x) (ap (λ x. x.words) (count (suc n)).same) (flow_more g m (count (suc n)).ops s (omega (arith, lt))).words)
        (puts input n))
      where
        w : List ℕ
        w = (meaning p input n).words

        v : List ℕ
        v = (meaning p input (suc n)).words

        by_words : (((flow_from g m s).words ≡ w) ⊎ ((flow_from g m s).words ≡ v)) → Tells m
        by_words (inl e) = going m n z (omega (arith, le)) e h
        by_words (inr e) = going m (suc n) z le e h

    by_last : (m n : ℕ) → (count n).ops ≤ m → n ≤ p.nodes * (m + 1) → ((n ≡ p.nodes * (m + 1)) ⊎ ((suc n ≤ p.nodes * (m + 1)) × (m < (count (suc n)).ops)))
        → (x : Stand) → (flow_from g (count n).ops s).stand ≡ x → Tells m
    by_last m n few le last (Over o) h = told m n le (ap meaning_of ((flow_more g (count n).ops m s few).over o h) ∙ (count n).same)
    by_last m n few le (inr last) (At z) h = amid m n last.0 few last.1 (flow_from g m s).stand refl
    by_last m n few le (inl e) (At z) h =
        let o : (meaning p input n).outcome ≡ Going = sym (ap (λ x. x.outcome) (count n).same) ∙ ap flow.outcome_of h in
        let many : n ≤ p.nodes * ((count n).ops + 1) = omega (arith, (count n).many, bounds.going input n o) in
        let same : (count n).ops ≡ m = omega (arith, few, less_cancels p.nodes m (count n).ops some (omega (arith, many, e))) in
        told m n le (ap (λ k. meaning_of (flow_from g k s)) (sym same) ∙ (count n).same)

    back : (m : ℕ) → Tells m
    back m =
        let zero_ops : (count 0).ops ≤ m = omega (arith, (count 0).few, bounds.most input 0) in
        let l : Last (λ n. (count n).ops) m (p.nodes * (m + 1)) = last_of (λ n. (count n).ops) m zero_ops (p.nodes * (m + 1)) in
        by_last m l.n l.few l.within l.last (flow_from g (count l.n).ops s).stand refl
