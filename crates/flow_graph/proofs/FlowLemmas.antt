-- Operations, one after another.
use Rattle.std.proofs.Common.{◌≡◌, ℕ, zero, suc, ◌+◌, ◌≤◌, List, [], ◌++◌, refl, sym, ap, ◌∙◌, append_assoc, append-nil, arith}
use Rattle.flow_graph.specs.declared.graph.Graph.{Graph}
use Rattle.plain_meaning.specs.Behaviour.{Outcome, EndedWith, TrappedWith, Begins}
use Rattle.flow_graph.specs.Flow.{Spot, Did, Went, Ended, Trapped, Lost, operate, Told, Stand, At, Over, told_at, told_over, telling, on_from, flow_from}

pub telling_twice : (ws vs : List ℕ) (t : Told) → telling ws (telling vs t) ≡ telling (ws ++ vs) t
telling_twice ws vs t = ap (λ l. record { words = l; stand = t.stand }) (sym (append_assoc ws vs t.words))

pub as_told : (t : Told) (s : Spot) → t.stand ≡ At s → t ≡ told_at t.words s
as_told t s e = ap (λ x. record { words = t.words; stand = x }) e

one_more : (g : Graph) (m j : ℕ) (rest : Told) (d : Did) (ws : List ℕ) (s : Spot)
    → ((a : Spot) (vs : List ℕ) → flow_from g m a ≡ told_at vs s → flow_from g j a ≡ telling vs rest)
    → on_from (flow_from g m) d ≡ told_at ws s → on_from (flow_from g j) d ≡ telling ws rest
one_more g m j rest (Went vs a) ws s ih h =
    let t : Told = flow_from g m a in
    let e : vs ++ t.words ≡ ws = ap (λ x. x.words) h in
    let r : flow_from g j a ≡ telling t.words rest = ih a t.words (as_told t s (ap (λ x. x.stand) h)) in
    rw (sym e) (ap (telling vs) r ∙ telling_twice vs t.words rest)
one_more g m j rest (Ended w) ws s ih h = let e : Over _ ≡ At s = ap (λ x. x.stand) h in cc
one_more g m j rest (Trapped t) ws s ih h = let e : Over _ ≡ At s = ap (λ x. x.stand) h in cc
one_more g m j rest Lost ws s ih h = let e : Over _ ≡ At s = ap (λ x. x.stand) h in cc

-- what follows m operations
pub flow_on : (g : Graph) (m k j : ℕ) (s : Spot) (ws : List ℕ) (s' : Spot) → j ≡ m + k → flow_from g m s ≡ told_at ws s' → flow_from g j s ≡ telling ws (flow_from g k s')
flow_on g zero k j s ws s' e h =
    let z : j ≡ k = omega (arith, e) in
    let w : [] ≡ ws = ap (λ x. x.words) h in
    let a : At s ≡ At s' = ap (λ x. x.stand) h in
    rw (z, sym w, sym (spot_is a)) refl
  where
    spot_of : Stand → Spot → Spot
    spot_of (At x) d = x
    spot_of (Over o) d = d

    spot_is : At s ≡ At s' → s ≡ s'
    spot_is a = ap (λ x. spot_of x s) a
flow_on g (suc m) k zero s ws s' e h = absurd (omega (arith, e))
flow_on g (suc m) k (suc j) s ws s' e h =
    one_more g m j (flow_from g k s') (operate g s) ws s' (λ a vs. flow_on g m k j a vs s' (omega (arith, e))) h

-- one operation
pub flow_one : (g : Graph) (s : Spot) (ws : List ℕ) (s' : Spot) → operate g s ≡ Went ws s' → flow_from g 1 s ≡ told_at ws s'
flow_one g s ws s' h = rw h (ap (λ l. told_at l s') (append-nil ws))

pub flow_trap : (g : Graph) (s : Spot) (t : ℕ) → operate g s ≡ Trapped t → flow_from g 1 s ≡ told_over [] (TrappedWith t)
flow_trap g s t h = rw h refl

pub flow_end : (g : Graph) (s : Spot) (w : ℕ) → operate g s ≡ Ended w → flow_from g 1 s ≡ told_over [] (EndedWith w)
flow_end g s w h = rw h refl

-- ---- more operations

-- With more operations a graph puts no other words, and where it has stopped it stays so.
pub record IsMore (few many : Told) : Type 0 where
  pub words : Begins few.words many.words
  pub over : (o : Outcome) → few.stand ≡ Over o → many ≡ few

more_same : (t : Told) → IsMore t t
more_same t = record { words = ([], sym (append-nil t.words)); over = λ o e. refl }

more_behind : (ws : List ℕ) (a b : Told) → IsMore a b → IsMore (telling ws a) (telling ws b)
more_behind ws a b h = record {
  words = (h.words.0, ap (λ l. ws ++ l) h.words.1 ∙ sym (append_assoc ws a.words h.words.0));
  over = λ o e. ap (telling ws) (h.over o e);
}

more_on : (g : Graph) (m j : ℕ) (d : Did) → ((a : Spot) → IsMore (flow_from g m a) (flow_from g j a)) → IsMore (on_from (flow_from g m) d) (on_from (flow_from g j) d)
more_on g m j (Went ws a) ih = more_behind ws (flow_from g m a) (flow_from g j a) (ih a)
more_on g m j (Ended w) ih = more_same _
more_on g m j (Trapped t) ih = more_same _
more_on g m j Lost ih = more_same _

pub flow_more : (g : Graph) (m j : ℕ) (s : Spot) → m ≤ j → IsMore (flow_from g m s) (flow_from g j s)
flow_more g zero j s le = record { words = ((flow_from g j s).words, refl); over = λ o e. let x : At s ≡ Over o = e in cc }
flow_more g (suc m) zero s le = absurd (omega (arith, le))
flow_more g (suc m) (suc j) s le = more_on g m j (operate g s) (λ a. flow_more g m j a (omega (arith, le)))
