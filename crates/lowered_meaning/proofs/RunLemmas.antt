-- Runs of a graph against parts of the plain meaning, one after another.
use Rattle.std.proofs.Common.{◌≡◌, ℕ, zero, suc, ◌+◌, ◌≤◌, List, [], ◌∷◌, ◌++◌, refl, sym, ap, ◌∙◌, append-nil, subst, arith, mul-add}
use Rattle.plain_meaning.specs.Behaviour.{TrappedWith}
use Rattle.c_tree.specs.Runs.{Event, Begun, Put, State, Got, Done, Trapped, Stopped, Part, behind_events, go_on, begin_at}
use Rattle.c_tree.specs.Meaning.{put_words, begun}
use Rattle.flow_graph.specs.declared.graph.Graph.{Graph}
use Rattle.flow_graph.specs.Flow as flow
use Rattle.flow_graph.specs.Flow.{Spot, flow_from, told_at, told_over, telling, operate}
use Rattle.flow_graph.proofs.FlowLemmas.{flow_on, flow_one, flow_trap}
use Rattle.lowered_meaning.specs.Runs.{Pays, Comes, Meets, Runs}
use Rattle.std.specs.Prelude.{⊤}

put_words-append : (es fs : List Event) → put_words (es ++ fs) ≡ put_words es ++ put_words fs
put_words-append [] fs = refl
put_words-append (Begun ∷ es) fs = put_words-append es fs
put_words-append (Put w ∷ es) fs = ap (λ ws. w ∷ ws) (put_words-append es fs)

begun-append : (es fs : List Event) → begun (es ++ fs) ≡ begun es + begun fs
begun-append [] fs = omega arith
begun-append (Begun ∷ es) fs = omega (arith, begun-append es fs)
begun-append (Put w ∷ es) fs = begun-append es fs

pays_on : (most a b c o u w m k : ℕ) (es fs : List Event) → Pays most a b o u es m → Pays most b c u w fs k → Pays most a c o w (es ++ fs) (m + k)
pays_on most a b c o u w m k es fs p q = record {
  few = omega (arith, begun-append es fs, p.few, q.few);
  many = omega (arith, begun-append es fs, p.many, q.many, mul-add most m k);
}

words_on : (g : Graph) (m k : ℕ) (s z : Spot) (es fs : List Event) (t : flow.Told) → flow_from g m s ≡ told_at (put_words es) z → flow_from g k z ≡ t
    → flow_from g (m + k) s ≡ telling (put_words es) t
words_on g m k s z es fs t h i = flow_on g m k (m + k) s (put_words es) z refl h ∙ ap (telling (put_words es)) i

-- a run, and then what follows it
pub runs_behind : {A : Type 0} (g : Graph) (most a b c o u w m : ℕ) (es : List Event) (got : Got A) (s z : Spot) (rel : A → State → Spot → Type 0)
    → flow_from g m s ≡ told_at (put_words es) z → Pays most a b o u es m → Runs g most b c u w got z rel → Runs g most a c o w (behind_events es got) s rel
runs_behind g most a b c o u w m es (Done fs v d) s z rel h p r = record {
  ops = m + r.ops;
  spot = r.spot;
  does = words_on g m r.ops s z es fs _ h r.does ∙ ap (λ l. told_at l r.spot) (sym (put_words-append es fs));
  related = r.related;
  pays = pays_on most a b c o u w m r.ops es fs p r.pays;
}
runs_behind g most a b c o u w m es (Trapped fs t) s z rel h p r = record {
  ops = m + r.ops;
  does = words_on g m r.ops s z es fs _ h r.does ∙ ap (λ l. told_over l (TrappedWith t)) (sym (put_words-append es fs));
  pays = pays_on most a b 0 o u 0 m r.ops es fs p r.pays;
}
runs_behind g most a b c o u w m es (Stopped fs) s z rel h p r = record {
  ops = m + r.ops;
  spot = r.spot;
  does = words_on g m r.ops s z es fs _ h r.does ∙ ap (λ l. told_at l r.spot) (sym (put_words-append es fs));
  related = r.related;
  pays = pays_on most a b 0 o u 0 m r.ops es fs p r.pays;
}

-- one part and then another
pub runs_on : {A B : Type 0} (g : Graph) (most a b c o u w : ℕ) (got : Got A) (f : A → Part B) (s : Spot) (rel : A → State → Spot → Type 0) (rel' : B → State → Spot → Type 0)
    → Runs g most a b o u got s rel → ((v : A) (d : State) (z : Spot) → rel v d z → Runs g most b c u w (f v d) z rel') → Runs g most a c o w (go_on got f) s rel'
runs_on g most a b c o u w (Done es v d) f s rel rel' r next =
    runs_behind g most a b c o u w r.ops es (f v d) s r.spot rel' r.does r.pays (next v d r.spot r.related)
runs_on g most a b c o u w (Trapped es t) f s rel rel' r next = r
runs_on g most a b c o u w (Stopped es) f s rel rel' r next = r

-- what is left over may be dropped, and what is paid before may be handed on
pub runs_weaker : {A : Type 0} (g : Graph) (most a b o u a' b' o' u' : ℕ) (got : Got A) (s : Spot) (rel rel' : A → State → Spot → Type 0)
    → a ≤ a' → b' + a ≤ b + a' → o ≤ o' → u' + o ≤ u + o' → ((v : A) (d : State) (z : Spot) → rel v d z → rel' v d z)
    → Runs g most a b o u got s rel → Runs g most a' b' o' u' got s rel'
runs_weaker g most a b o u a' b' o' u' (Done es v d) s rel rel' e1 e2 e3 e4 f r = record {
  ops = r.ops;
  spot = r.spot;
  does = r.does;
  related = f v d r.spot r.related;
  pays = record { few = omega (arith, r.pays.few, e3, e4); many = omega (arith, r.pays.many, e1, e2) };
}
runs_weaker g most a b o u a' b' o' u' (Trapped es t) s rel rel' e1 e2 e3 e4 f r = record {
  ops = r.ops;
  does = r.does;
  pays = record { few = omega (arith, r.pays.few, e3); many = omega (arith, r.pays.many, e1) };
}
runs_weaker g most a b o u a' b' o' u' (Stopped es) s rel rel' e1 e2 e3 e4 f r = record {
  ops = r.ops;
  spot = r.spot;
  does = r.does;
  related = r.related;
  pays = record { few = omega (arith, r.pays.few, e3); many = omega (arith, r.pays.many, e1) };
}

-- nothing is shown, and nothing done
pub runs_done : {A : Type 0} (g : Graph) (most a o : ℕ) (v : A) (d : State) (s : Spot) (rel : A → State → Spot → Type 0) → rel v d s → Runs g most a a o o (Done [] v d) s rel
runs_done g most a o v d s rel r = record { ops = 0; spot = s; does = refl; related = r; pays = record { few = omega arith; many = omega arith } }

pub shows_none : (g : Graph) (most a o : ℕ) (s : Spot) → Comes g most a 0 o 0 [] s (λ z. ⊤)
shows_none g most a o s = record { ops = 0; spot = s; does = refl; related = tt; pays = record { few = omega arith; many = omega arith } }

-- a step begins, and then a part
pub runs_begin : {A : Type 0} (g : Graph) (most a b o u i : ℕ) (d : State) (p : Part A) (s : Spot) (rel : A → State → Spot → Type 0)
    → ((j : ℕ) → Runs g most a b (6 + o) u (p (record d { left = j })) s rel) → Runs g most (suc a) b o u (go_on (begin_at i d) (λ _. p)) s rel
runs_begin g most a b o u zero d p s rel r = shows_none g most (suc a) o s
runs_begin g most a b o u (suc i) d p s rel r =
    runs_behind g most (suc a) a b o (6 + o) u 0 (Begun ∷ []) (p (record d { left = i })) s s rel refl (record { few = omega arith; many = omega arith }) (r i)

pub behind_none : {A : Type 0} (got : Got A) → behind_events [] got ≡ got
behind_none (Done es v d) = refl
behind_none (Trapped es t) = refl
behind_none (Stopped es) = refl

-- an operation that puts nothing, and then a part
pub runs_op : {A : Type 0} (g : Graph) (most a b o u : ℕ) (got : Got A) (s z : Spot) (rel : A → State → Spot → Type 0)
    → operate g s ≡ flow.Went [] z → Runs g most (a + most) b o u got z rel → Runs g most a b (suc o) u got s rel
runs_op g most a b o u got s z rel h r =
    subst (λ x. Runs g most a b (suc o) u x s rel) (behind_none got)
    (runs_behind g most a (a + most) b (suc o) o u 1 [] got s z rel (flow_one g s [] z h) (record { few = omega arith; many = omega arith }) r)

-- an operation that traps
pub meets_trap : (g : Graph) (most a o t : ℕ) (s : Spot) → operate g s ≡ flow.Trapped t → Meets g most a (suc o) [] t s
meets_trap g most a o t s h = record { ops = 1; does = flow_trap g s t h; pays = record { few = omega arith; many = omega arith } }

-- an operation that puts a word, and then a part
pub runs_put : {A : Type 0} (g : Graph) (most a b o u w : ℕ) (got : Got A) (s z : Spot) (rel : A → State → Spot → Type 0)
    → operate g s ≡ flow.Went (w ∷ []) z → Runs g most (a + most) b o u got z rel → Runs g most a b (suc o) u (behind_events (Put w ∷ []) got) s rel
runs_put g most a b o u w got s z rel h r =
    runs_behind g most a (a + most) b (suc o) o u 1 (Put w ∷ []) got s z rel (flow_one g s (w ∷ []) z h) (record { few = omega arith; many = omega arith }) r

pub nothing_behind : {A : Type 0} (got : Got A) → go_on got (λ v d. Done [] v d) ≡ got
nothing_behind (Done es v d) = ap (λ l. Done l v d) (append-nil es)
nothing_behind (Trapped es t) = refl
nothing_behind (Stopped es) = refl

-- a part, and then operations that are of no step
pub runs_after : {A : Type 0} (g : Graph) (most a b c o u w : ℕ) (got : Got A) (s : Spot) (rel rel' : A → State → Spot → Type 0)
    → Runs g most a b o u got s rel → ((v : A) (d : State) (z : Spot) → rel v d z → Runs g most b c u w (Done [] v d) z rel') → Runs g most a c o w got s rel'
runs_after g most a b c o u w got s rel rel' h next =
    subst (λ x. Runs g most a c o w x s rel') (nothing_behind got) (runs_on g most a b c o u w got (λ v d. Done [] v d) s rel rel' h next)
