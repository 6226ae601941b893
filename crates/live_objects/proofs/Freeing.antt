-- Dead objects are free.
use Rattle.std.proofs.Common.{◌≡◌, ◌||◌, ℕ, zero, suc, Bool, true, false, List, [], ◌∷◌, ◌++◌, get_or, refl, sym, ap, subst, inl, inr, ◌∙◌, arith}
use Rattle.std.specs.Prelude.{Option, Some, ◌==◌}
use Rattle.std.proofs.lemmas.Bool.Decides.{eqb_tells}
use Rattle.std.proofs.Math.Bool.{or-true}
use Rattle.plain_meaning.specs.Behaviour.{EndedWith, TrappedWith, Meaning}
use Rattle.flow_graph.specs.declared.graph.Operand.{Operand}
use Rattle.flow_graph.specs.declared.graph.Operand.TheVariants.{Const, Object}
use Rattle.flow_graph.specs.declared.graph.ArrayUse.{ArrayUse}
use Rattle.flow_graph.specs.declared.graph.Op.{Op}
use Rattle.flow_graph.specs.declared.graph.Graph.{Graph}
use Rattle.flow_graph.specs.declared.nodes.Next.{Next}
use Rattle.flow_graph.specs.declared.nodes.Next.TheVariants.{To, Either, Into, Returns, Ends}
use Rattle.flow_graph.specs.declared.nodes.Node.{Node}
use Rattle.flow_graph.specs.declared.owned.Owned.{Owned}
use Rattle.flow_graph.specs.Nodes.{entry, graph_nodes, node_in}
use Rattle.flow_graph.specs.Operations.{Words, words_of, operand_word, passes}
use Rattle.flow_graph.specs.Flow.{Spot, Did, Went, Ended, Trapped, Lost, Told, Over, effect, return_to, follow, followed, execute, execute_on, execute_at, operate, on_from, start, flow_from, meaning_of}
use Rattle.flow_graph.specs.Owned.{IsAt, operations}
use Rattle.flow_graph.specs.Closed.{AreCalls, IsClosed, Stands}
use Rattle.flow_graph.proofs.ClosedLemmas.{closed, node_at}
use Rattle.flow_graph.proofs.StandLemmas.{GoesOn, dest_is_scalar, has_words, operate_goes, output_dest, start_stands, store_dest}
use Rattle.live_objects.specs.Live.{is_object, is_array, needs, Follows, Leads, IsLiveBefore}
use Rattle.live_objects.specs.FreeFlow.{AgreeBefore, ChangesDead, FreeOn, FreeFlow, DeadObjectsAreFree}
use Rattle.live_objects.proofs.Effects.{Close, Ready, Went_alike, EffectsAlike, effect_alike}

-- ---- what is live

needed_agrees : (g : Graph) (i : ℕ) (x : Owned) (a b : Words) (o : ℕ) → IsAt (operations g) i x → AgreeBefore g i a b → needs x.node.op o ≡ true → words_of b o ≡ words_of a o
needed_agrees g i x a b o at h n = h.live o (record { path = []; lives = record { op = x; is_op = at; needed = n } })

agree_after : (g : Graph) (i j : ℕ) (x : Owned) (a b a2 b2 : Words) → IsAt (operations g) i x → Leads g i j → AgreeBefore g i a b → Close x.node.op a b a2 b2 → AgreeBefore g j a2 b2
agree_after g i j x a b a2 b2 at leads h c = record {
  so_many = c.so_many;
  sizes = c.sizes;
  live = λ o l. elim (c.each o) [
    | inl e ↦ e
    | inr p ↦ p.1 ∙ (h.live o (record { path = j ∷ l.path; lives = (record { op = x; is_op = at; kept = p.2 }, leads, l.lives) }) ∙ sym p.0)
  ];
}

is_itself : (o : ℕ) → (o == o) ≡ true
is_itself o = elim (eqb_tells o o) [ inl t ↦ t.0 | inr f ↦ absurd (f.1 refl) ]

operand_agrees : (v : Operand) (a b : Words) → ((o : ℕ) → is_object v o ≡ true → words_of b o ≡ words_of a o) → operand_word b v ≡ operand_word a v
operand_agrees (Const w) a b h = refl
operand_agrees (Object o) a b h = ap (λ ws. get_or ws 0 0) (h o (is_itself o))

by_left : (x y : Bool) → x ≡ true → (x || y) ≡ true
by_left x y e = ap (λ b. b || y) e

by_right : (x y : Bool) → y ≡ true → (x || y) ≡ true
by_right x y e = ap (λ b. x || b) e ∙ or-true x

needs_a : (op : Op) (o : ℕ) → is_object op.a o ≡ true → needs op o ≡ true
needs_a op o e = by_left (is_object op.a o || is_object op.b o) (is_array op.array o) (by_left (is_object op.a o) (is_object op.b o) e)

needs_b : (op : Op) (o : ℕ) → is_object op.b o ≡ true → needs op o ≡ true
needs_b op o e = by_left (is_object op.a o || is_object op.b o) (is_array op.array o) (by_right (is_object op.a o) (is_object op.b o) e)

needs_array : (op : Op) (use' : ArrayUse) → op.array ≡ Some use' → needs op use'.object ≡ true
needs_array op use' e = by_right (is_object op.a use'.object || is_object op.b use'.object) (is_array op.array use'.object) (ap (λ x. is_array x use'.object) e ∙ is_itself use'.object)

-- ---- where control goes

abbrev pub DidAlike : Graph → Did → Did → Type 0
DidAlike g (Went ws s) (Went vs t) = (vs ≡ ws) × ChangesDead g s t
DidAlike g (Ended w) (Ended v) = v ≡ w
DidAlike g (Trapped w) (Trapped v) = v ≡ w
DidAlike g Lost Lost = Unit {0}
DidAlike g _ _ = ⊥

-- what is known when the operation at i has had its effect
pub record Behind (g : Graph) (i : ℕ) (x : Owned) (s t s2 t2 : Spot) (ws vs : List ℕ) : Type 0 where
  pub at : IsAt (operations g) i x
  pub words : vs ≡ ws
  pub went : Went_alike x.node.op s t s2 t2
  pub agree : AgreeBefore g i s.objects t.objects
  pub calls : AreCalls g x.function s2.calls
  pub same_calls : t2.calls ≡ s2.calls

lands : (g : Graph) (i : ℕ) (x : Owned) (s t s2 t2 : Spot) (ws vs : List ℕ) (j : ℕ) (cs ds : List ℕ) → Behind g i x s t s2 t2 ws vs → Leads g i j → ds ≡ cs
    → DidAlike g (Went ws (record s2 { at = j; calls = cs })) (Went vs (record t2 { at = j; calls = ds }))
lands g i x s t s2 t2 ws vs j cs ds b leads e = (
  b.words,
  record { at = refl; calls = e; input = b.went.input; objects = agree_after g i j x s.objects t.objects s2.objects t2.objects b.at leads b.agree b.went.close },
)

returns_alike : (g : Graph) (i : ℕ) (x : Owned) (s t s2 t2 : Spot) (ws vs : List ℕ) (cs ds : List ℕ) → Behind g i x s t s2 t2 ws vs → x.node.next ≡ Returns → AreCalls g x.function cs → ds ≡ cs
    → DidAlike g (return_to cs ws s2) (return_to ds vs t2)
returns_alike g i x s t s2 t2 ws vs [] [] b r calls e = tt
returns_alike g i x s t s2 t2 ws vs [] (d ∷ ds) b r calls e = absurd (cc)
returns_alike g i x s t s2 t2 ws vs (c ∷ cs) [] b r calls e = absurd (cc)
returns_alike g i x s t s2 t2 ws vs (c ∷ cs) (d ∷ ds) b r calls e =
    let same : d ≡ c = cc in let rest : ds ≡ cs = cc in
    subst (λ k. DidAlike g (return_to (c ∷ cs) ws s2) (return_to (k ∷ ds) vs t2)) (sym same)
    (lands g i x s t s2 t2 ws vs c cs ds b (record { op = x; is_op = b.at; follows = subst (λ n. Follows g x.function n c) (sym r) calls.0 }) rest)

follow_alike : (g : Graph) (i : ℕ) (x : Owned) (s t s2 t2 : Spot) (ws vs : List ℕ) (next : Next) (passed : Bool) → Behind g i x s t s2 t2 ws vs → x.node.next ≡ next
    → DidAlike g (follow g next passed ws s2) (follow g next passed vs t2)
follow_alike g i x s t s2 t2 ws vs (To n) passed b e =
    lands g i x s t s2 t2 ws vs n s2.calls t2.calls b (record { op = x; is_op = b.at; follows = subst (λ m. Follows g x.function m n) (sym e) refl }) b.same_calls
follow_alike g i x s t s2 t2 ws vs (Either n m) true b e =
    lands g i x s t s2 t2 ws vs n s2.calls t2.calls b (record { op = x; is_op = b.at; follows = subst (λ k. Follows g x.function k n) (sym e) (inl refl) }) b.same_calls
follow_alike g i x s t s2 t2 ws vs (Either n m) false b e =
    lands g i x s t s2 t2 ws vs m s2.calls t2.calls b (record { op = x; is_op = b.at; follows = subst (λ k. Follows g x.function k m) (sym e) (inr refl) }) b.same_calls
follow_alike g i x s t s2 t2 ws vs (Into c n) passed b e =
    lands g i x s t s2 t2 ws vs (entry g c) (n ∷ s2.calls) (n ∷ t2.calls) b (record { op = x; is_op = b.at; follows = subst (λ k. Follows g x.function k (entry g c)) (sym e) refl })
    (ap (λ ks. n ∷ ks) b.same_calls)
follow_alike g i x s t s2 t2 ws vs Returns passed b e = returns_alike g i x s t s2 t2 ws vs s2.calls t2.calls b e b.calls b.same_calls
follow_alike g i x s t s2 t2 ws vs Ends passed b e = tt

-- ---- one operation

ready : (g : Graph) (s t : Spot) (x : Owned) → IsClosed g → Stands g s → ChangesDead g s t → IsAt (operations g) s.at x → Ready x.node.op s t
ready g s t x is_closed stands dead at = record {
  input = dead.input;
  sized = record { so_many = dead.objects.so_many; sizes = dead.objects.sizes };
  array = λ use' e. needed_agrees g s.at x s.objects t.objects use'.object at dead.objects (needs_array x.node.op use' e);
  scalar = λ o d. let n = (has_words g s.objects o 1 stands.sized (dest_is_scalar g x.node.op o (is_closed.fits s.at x at) d)).1 in omega (arith, n);
  stores = store_dest g x.node.op (is_closed.fits s.at x at);
  outputs = output_dest g x.node.op (is_closed.fits s.at x at);
}

followed_alike : (g : Graph) (s t : Spot) (x : Owned) (passed : Bool) (d e : Did) → ChangesDead g s t → IsAt (operations g) s.at x → AreCalls g x.function s.calls
    → EffectsAlike x.node.op s t d e → DidAlike g (followed g x.node.next passed d) (followed g x.node.next passed e)
followed_alike g s t x passed (Went ws s2) (Went vs t2) dead at calls h =
    follow_alike g s.at x s t s2 t2 ws vs x.node.next passed
    (record {
      at = at;
      words = h.0;
      went = h.1;
      agree = dead.objects;
      calls = subst (AreCalls g x.function) (sym h.1.calls) calls;
      same_calls = h.1.other_calls ∙ (dead.calls ∙ sym h.1.calls);
    })
    refl
followed_alike g s t x passed (Ended w) (Ended v) dead at calls h = h
followed_alike g s t x passed (Trapped w) (Trapped v) dead at calls h = h
followed_alike g s t x passed Lost Lost dead at calls h = tt
followed_alike g s t x passed _ _ dead at calls h = absurd h

execute_alike : (g : Graph) (s t : Spot) (x : Owned) → IsClosed g → Stands g s → ChangesDead g s t → IsAt (operations g) s.at x → AreCalls g x.function s.calls
    → DidAlike g (execute g x.node s) (execute g x.node t)
execute_alike g s t x is_closed stands dead at calls =
    let a = operand_agrees x.node.op.a s.objects t.objects (λ o n. needed_agrees g s.at x s.objects t.objects o at dead.objects (needs_a x.node.op o n)) in
    let b = operand_agrees x.node.op.b s.objects t.objects (λ o n. needed_agrees g s.at x s.objects t.objects o at dead.objects (needs_b x.node.op o n)) in
    let v = operand_word s.objects x.node.op.a in
    let w = operand_word s.objects x.node.op.b in
    subst (λ n. DidAlike g (execute g x.node s) (execute_on g x.node t n (operand_word t.objects x.node.op.b))) (sym a)
    (subst (λ n. DidAlike g (execute g x.node s) (execute_on g x.node t v n)) (sym b)
    (followed_alike g s t x (passes x.node.op.kind v w) (effect x.node.op v w s) (effect x.node.op v w t) dead at calls
    (effect_alike x.node.op.kind x.node.op v w s t refl (ready g s t x is_closed stands dead at))))

at_node : (g : Graph) (s t : Spot) (y : Node) (m n : Option Node) → m ≡ Some y → n ≡ Some y → DidAlike g (execute g y s) (execute g y t) → DidAlike g (execute_at g m s) (execute_at g n t)
at_node g s t y m n e f h =
    subst (λ k. DidAlike g (execute_at g k s) (execute_at g n t)) (sym e) (subst (λ k. DidAlike g (execute_at g (Some y) s) (execute_at g k t)) (sym f) h)

pub operate_alike : (g : Graph) (s t : Spot) → IsClosed g → Stands g s → ChangesDead g s t → DidAlike g (operate g s) (operate g t)
operate_alike g s t is_closed stands dead =
    let x = stands.here.0 in
    let here = node_at g s.at x is_closed.places stands.here.1 in
    at_node g s t x.node (node_in (graph_nodes g) s.at) (node_in (graph_nodes g) t.at) here (ap (node_in (graph_nodes g)) dead.at ∙ here)
    (execute_alike g s t x is_closed stands dead stands.here.1 (subst (λ f. AreCalls g f s.calls) (sym stands.here.2) stands.calls))

-- ---- m operations

dead_twice : (g : Graph) (s t u : Spot) → ChangesDead g s t → ChangesDead g t u → ChangesDead g s u
dead_twice g s t u p q = record {
  at = q.at ∙ p.at;
  calls = q.calls ∙ p.calls;
  input = q.input ∙ p.input;
  objects = record {
    so_many = q.objects.so_many ∙ p.objects.so_many;
    sizes = λ o. q.objects.sizes o ∙ p.objects.sizes o;
    live = λ o l. q.objects.live o (subst (λ i. IsLiveBefore g i o) (sym p.at) l) ∙ p.objects.live o l;
  };
}

nothing_changed : (g : Graph) (s : Spot) → ChangesDead g s s
nothing_changed g s = record { at = refl; calls = refl; input = refl; objects = record { so_many = refl; sizes = λ o. refl; live = λ o l. refl } }

puts : List ℕ → Meaning → Meaning
puts ws m = record { words = ws ++ m.words; outcome = m.outcome }

free_on : (g : Graph) (m : ℕ) (d e : Did) (told : Told)
    → ((s t : Spot) (more : Told) → Stands g s → ChangesDead g s t → FreeFlow g m t more → meaning_of more ≡ meaning_of (flow_from g m s))
    → GoesOn g d → DidAlike g d e → FreeOn (FreeFlow g m) e told → meaning_of told ≡ meaning_of (on_from (flow_from g m) d)
unfolding puts
free_on g m (Went ws s) (Went vs t) told ih goes h on =
    ap meaning_of on.2 ∙ (ap (λ us. puts us (meaning_of on.0)) h.0 ∙ ap (puts ws) (ih s t on.0 goes h.1 on.1))
free_on g m (Ended w) (Ended v) told ih goes h on = ap meaning_of on ∙ ap (λ k. meaning_of (record { words = []; stand = Over (EndedWith k) })) h
free_on g m (Trapped w) (Trapped v) told ih goes h on = ap meaning_of on ∙ ap (λ k. meaning_of (record { words = []; stand = Over (TrappedWith k) })) h
free_on g m Lost Lost told ih goes h on = ap meaning_of on
free_on g m _ _ told ih goes h on = absurd h

-- from any spot where a run may stand, and where objects that are dead there have changed
pub free_flow : (g : Graph) → IsClosed g → (m : ℕ) (s t : Spot) (told : Told) → Stands g s → ChangesDead g s t → FreeFlow g m t told → meaning_of told ≡ meaning_of (flow_from g m s)
free_flow g is_closed zero s t told stands dead free = ap meaning_of free
free_flow g is_closed (suc m) s t told stands dead free =
    free_on g m (operate g s) (operate g free.0) told (free_flow g is_closed m) (operate_goes g s is_closed stands) (operate_alike g s free.0 is_closed stands (dead_twice g s t free.0 dead free.1)) free.2

pub dead_objects_are_free : DeadObjectsAreFree
dead_objects_are_free g objects input m told rules begin free =
    let s = start g objects input in free_flow g (closed g rules) m s s told (start_stands g objects input rules begin) (nothing_changed g s) free
