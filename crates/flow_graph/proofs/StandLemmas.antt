-- Where a run of a graph may stand: after each operation in a function that was called, with objects of their sizes.
use Rattle.std.proofs.Common.{◌≡◌, ◌⊎◌, ◌<◌, ℕ, zero, suc, Bool, true, false, List, [], ◌∷◌, length, refl, sym, ap, subst, inl, inr, ◌∙◌, arith}
use Rattle.std.specs.Prelude.{Option, None, Some, slice_get, nat_lt, if◌then◌else◌, ◌==◌, ⊤}
use Rattle.std.proofs.lemmas.Option.{slice_get_within}
use Rattle.c_values.specs.Values.{Worked, Gives, Traps}
use Rattle.plain_meaning.specs.Behaviour.{EndedWith, TrappedWith}
use Rattle.flow_graph.specs.declared.graph.ArrayUse.{ArrayUse}
use Rattle.flow_graph.specs.declared.graph.Op.{Op}
use Rattle.flow_graph.specs.declared.graph.OpKind.{OpKind}
use Rattle.flow_graph.specs.declared.graph.OpKind.TheVariants as kind
use Rattle.flow_graph.specs.declared.graph.Object.{Object}
use Rattle.flow_graph.specs.declared.graph.Graph.{Graph}
use Rattle.flow_graph.specs.declared.nodes.Next.{Next}
use Rattle.flow_graph.specs.declared.nodes.Next.TheVariants.{To, Either, Into, Returns, Ends}
use Rattle.flow_graph.specs.declared.nodes.Node.{Node}
use Rattle.flow_graph.specs.declared.owned.Owned.{Owned}
use Rattle.flow_graph.specs.Nodes.{graph_nodes, node_in}
use Rattle.flow_graph.specs.Operations.{Words, words_of, word_at, with_word, operand_word, gives, passes}
use Rattle.flow_graph.specs.Flow.{Begin, BeginsOne, Spot, Did, Went, Ended, Trapped, Lost, Stand, At, Over, at_element, behind_word, effect, effect_by, execute, execute_at, flow_from, follow, followed, load, next_word, on_from, operate, return_to, start, store, told_at, write_worked, written}
use Rattle.flow_graph.specs.Rules.{ArrayFits, DestFits, HasWords, IsGraph, IsScalar, ObjectFits, OpFits, parts_of}
use Rattle.flow_graph.specs.Owned.{IsAt, operations}
use Rattle.flow_graph.specs.Closed.{AreCalls, AreSized, IsClosed, IsNextOf, Stands, Stays}
use Rattle.flow_graph.specs.Laws.{ArrayWithin, DestWithin, NothingIsMissing, RunsStand, WritesAreWithin, WritesFit}
use Rattle.flow_graph.proofs.ClosedLemmas.{closed, node_at}
use Rattle.flow_graph.proofs.FlowLemmas.{as_told}
use Rattle.flow_graph.proofs.ListLemmas.{Stood, stood_behind}
use Rattle.flow_graph.proofs.ObjectLemmas.{count_same, length_same}

-- ---- what the rule of an operation says of its parts

dest_scalar : (g : Graph) (used : Bool) (dest : Option ℕ) (o : ℕ) → DestFits g used dest → dest ≡ Some o → IsScalar g o
dest_scalar g true (Some p) o h e = let same : p ≡ o = cc in subst (IsScalar g) same h
dest_scalar g true None o h e = absurd h
dest_scalar g false dest o h e = let bad : None ≡ Some o = sym h ∙ e in absurd (cc)

pub dest_is_scalar : (g : Graph) (op : Op) (o : ℕ) → OpFits g op → op.dest ≡ Some o → IsScalar g o
dest_is_scalar g op o fits e = dest_scalar g (parts_of op.kind).dest op.dest o fits.dest e

pub store_dest : (g : Graph) (op : Op) → OpFits g op → op.kind ≡ kind.Store → op.dest ≡ None
store_dest g op fits e = subst (λ k. DestFits g (parts_of k).dest op.dest) e fits.dest

pub output_dest : (g : Graph) (op : Op) → OpFits g op → op.kind ≡ kind.Output → op.dest ≡ None
output_dest g op fits e = subst (λ k. DestFits g (parts_of k).dest op.dest) e fits.dest

array_is : (g : Graph) (array : Option ArrayUse) → ArrayFits g true array → (u : ArrayUse) × (array ≡ Some u)
array_is g (Some u) h = (u, refl)
array_is g None h = absurd h

pub load_array : (g : Graph) (op : Op) → OpFits g op → op.kind ≡ kind.Load → (u : ArrayUse) × (op.array ≡ Some u)
load_array g op fits e = array_is g op.array (subst (λ k. ArrayFits g (parts_of k).array op.array) e fits.array)

pub store_array : (g : Graph) (op : Op) → OpFits g op → op.kind ≡ kind.Store → (u : ArrayUse) × (op.array ≡ Some u)
store_array g op fits e = array_is g op.array (subst (λ k. ArrayFits g (parts_of k).array op.array) e fits.array)

-- ---- sizes

-- an object of so many words has them
pub has_words : (g : Graph) (objects : Words) (o n : ℕ) → AreSized g objects → HasWords n (slice_get g.objects o) → (o < length objects) × (length (words_of objects o) ≡ n)
has_words g objects o n sized h = by_object (slice_get g.objects o) refl h
  where
    by_object : (x : Option Object) → slice_get g.objects o ≡ x → HasWords n x → (o < length objects) × (length (words_of objects o) ≡ n)
    by_object None e w = absurd w
    by_object (Some x) e w = let lt = slice_get_within g.objects o x e in let c = sized.count in (omega (arith, lt, c), sized.sizes o x e ∙ w)

begins_size : (first : List ℕ) (n : ℕ) (ws : List ℕ) → BeginsOne first n ws → ((first ≡ []) ⊎ (length first ≡ n)) → length ws ≡ n
begins_size [] n ws b h = b.0
begins_size (w ∷ more) n ws b (inl e) = absurd (cc)
begins_size (w ∷ more) n ws b (inr e) = ap length b ∙ e

each_size : (y : Object) (os : List Object) (ws : List ℕ) (more : Words) → BeginsOne y.first y.words ws → ObjectFits y
    → ((o : ℕ) (x : Object) → slice_get os o ≡ Some x → length (words_of more o) ≡ x.words) → (o : ℕ) (x : Object) → slice_get (y ∷ os) o ≡ Some x → length (words_of (ws ∷ more) o) ≡ x.words
each_size y os ws more b f r zero x e = let same : y ≡ x = cc in begins_size y.first y.words ws b f.all ∙ ap (λ (z : Object). z.words) same
each_size y os ws more b f r (suc o) x e = r o x e

all_sizes : (os : List Object) (all : Words) → Begin os all → ((o : ℕ) (x : Object) → slice_get os o ≡ Some x → ObjectFits x)
    → (length all ≡ length os) × ((o : ℕ) (x : Object) → slice_get os o ≡ Some x → length (words_of all o) ≡ x.words)
all_sizes [] [] b h = (refl, λ o x e. absurd (cc))
all_sizes [] (ws ∷ more) b h = absurd b
all_sizes (y ∷ os) [] b h = absurd b
all_sizes (y ∷ os) (ws ∷ more) b h =
    let r = all_sizes os more b.1 (λ o x e. h (suc o) x e) in (ap suc r.0, each_size y os ws more b.0 (h 0 y refl) r.1)

pub begins_sized : (g : Graph) (objects : Words) → IsGraph g → Begin g.objects objects → AreSized g objects
begins_sized g objects rules begin = let r = all_sizes g.objects objects begin rules.objects in record { count = r.0; sizes = r.1 }

sized_with : (g : Graph) (objects : Words) (o k w : ℕ) → AreSized g objects → AreSized g (with_word objects o k w)
sized_with g objects o k w h = record { count = count_same objects o k w ∙ h.count; sizes = λ p x e. length_same objects o k w p ∙ h.sizes p x e }

-- ---- one operation

abbrev Effected : Graph → Spot → Did → Type 0
Effected g s (Went ws t) = (t.calls ≡ s.calls) × AreSized g t.objects
Effected g s (Ended w) = ⊤
Effected g s (Trapped w) = ⊤
Effected g s Lost = ⊥

written_sized : (g : Graph) (s t : Spot) (dest : Option ℕ) (w : ℕ) → t.calls ≡ s.calls → AreSized g t.objects → Effected g s (Went [] (written dest w t))
written_sized g s t None w c h = (c, h)
written_sized g s t (Some o) w c h = (c, sized_with g t.objects o 0 w h)

worked_sized : (g : Graph) (s : Spot) (dest : Option ℕ) (x : Worked) → AreSized g s.objects → Effected g s (write_worked dest x s)
worked_sized g s dest (Gives w) h = written_sized g s s dest w refl h
worked_sized g s dest (Traps n) h = tt

element_sized : (g : Graph) (s : Spot) (b : Bool) (d : Did) → Effected g s d → Effected g s (at_element b d)
element_sized g s true d h = h
element_sized g s false d h = tt

load_sized : (g : Graph) (s : Spot) (array : Option ArrayUse) (u : ArrayUse) (dest : Option ℕ) (i : ℕ) → array ≡ Some u → AreSized g s.objects → Effected g s (load array dest i s)
load_sized g s None u dest i e h = absurd (cc)
load_sized g s (Some v) u dest i e h =
    element_sized g s (nat_lt i v.length) (Went [] (written dest (word_at s.objects v.object i) s)) (written_sized g s s dest (word_at s.objects v.object i) refl h)

store_sized : (g : Graph) (s : Spot) (array : Option ArrayUse) (u : ArrayUse) (w i : ℕ) → array ≡ Some u → AreSized g s.objects → Effected g s (store array w i s)
store_sized g s None u w i e h = absurd (cc)
store_sized g s (Some v) u w i e h =
    element_sized g s (nat_lt i v.length) (Went [] (record s { objects = with_word s.objects v.object i w })) (refl, sized_with g s.objects v.object i w h)

effect_sized : (k : OpKind) (g : Graph) (op : Op) (a b : ℕ) (s : Spot) → op.kind ≡ k → OpFits g op → AreSized g s.objects → Effected g s (effect_by k op a b s)
effect_sized kind.Load g op a b s e fits h = let u = load_array g op fits e in load_sized g s op.array u.0 op.dest a u.1 h
effect_sized kind.Store g op a b s e fits h = let u = store_array g op fits e in store_sized g s op.array u.0 a b u.1 h
effect_sized kind.Input g op a b s e fits h = written_sized g s (record s { input = behind_word s.input }) op.dest (next_word s.input) refl h
effect_sized kind.Output g op a b s e fits h = (refl, h)
effect_sized kind.Finish g op a b s e fits h = tt
effect_sized k g op a b s e fits h = worked_sized g s op.dest (gives k a b) h

-- an operation that is followed leaves a run where it may stand, and none is missing
abbrev pub GoesOn : Graph → Did → Type 0
GoesOn g (Went ws t) = Stands g t
GoesOn g (Ended w) = ⊤
GoesOn g (Trapped w) = ⊤
GoesOn g Lost = ⊥

module _ (g : Graph) (is_closed : IsClosed g) (i : ℕ) (x : Owned) (at : IsAt (operations g) i x) where
  returns_on : (cs ws : List ℕ) (s : Spot) → x.node.next ≡ Returns → AreCalls g x.function cs → AreSized g s.objects → GoesOn g (return_to cs ws s)
  returns_on [] ws s e calls sized = is_closed.returns i x at e calls
  returns_on (c ∷ cs) ws s e calls sized = record { function = calls.1.0; here = calls.1.1; calls = calls.1.2; sized = sized }

  follow_on : (next : Next) (passed : Bool) (ws : List ℕ) (s : Spot) → x.node.next ≡ next → (x.node.next ≡ Ends → ⊥) → AreCalls g x.function s.calls → AreSized g s.objects → GoesOn g (follow g next passed ws s)
  follow_on (To n) passed ws s e over calls sized =
      record { function = x.function; here = is_closed.stays i x at n (subst (λ m. Stays m n) (sym e) refl); calls = calls; sized = sized }
  follow_on (Either n m) true ws s e over calls sized =
      record { function = x.function; here = is_closed.stays i x at n (subst (λ k. Stays k n) (sym e) (inl refl)); calls = calls; sized = sized }
  follow_on (Either n m) false ws s e over calls sized =
      record { function = x.function; here = is_closed.stays i x at m (subst (λ k. Stays k m) (sym e) (inr refl)); calls = calls; sized = sized }
  follow_on (Into f n) passed ws s e over calls sized = record {
    function = f;
    here = is_closed.enters i x f n at e;
    calls = (record { call = i; op = x; is_call = at; calls = e }, (x.function, is_closed.stays i x at n (subst (λ k. Stays k n) (sym e) refl), calls));
    sized = sized;
  }
  follow_on Returns passed ws s e over calls sized = returns_on s.calls ws s e calls sized
  follow_on Ends passed ws s e over calls sized = over e

  ends_over : (a b : ℕ) (s : Spot) → x.node.next ≡ Ends → effect x.node.op a b s ≡ Ended a
  ends_over a b s e = ap (λ k. effect_by k x.node.op a b s) (subst (IsNextOf x.node.op.kind) e (is_closed.kinds i x at))

  followed_on : (passed : Bool) (a : ℕ) (s : Spot) (d : Did) → (x.node.next ≡ Ends → d ≡ Ended a) → AreCalls g x.function s.calls → Effected g s d → GoesOn g (followed g x.node.next passed d)
  followed_on passed a s (Went ws t) over calls h =
      follow_on x.node.next passed ws t refl (λ e. let bad : Went ws t ≡ Ended a = over e in absurd (cc)) (subst (AreCalls g x.function) (sym h.0) calls) h.1
  followed_on passed a s (Ended w) over calls h = tt
  followed_on passed a s (Trapped w) over calls h = tt
  followed_on passed a s Lost over calls h = h

  execute_goes : (s : Spot) → AreCalls g x.function s.calls → AreSized g s.objects → GoesOn g (execute g x.node s)
  execute_goes s calls sized =
      let a = operand_word s.objects x.node.op.a in
      let b = operand_word s.objects x.node.op.b in
      followed_on (passes x.node.op.kind a b) a s (effect x.node.op a b s) (ends_over a b s) calls (effect_sized x.node.op.kind g x.node.op a b s refl (is_closed.fits i x at) sized)

pub operate_goes : (g : Graph) (s : Spot) → IsClosed g → Stands g s → GoesOn g (operate g s)
operate_goes g s is_closed stands =
    let x = stands.here.0 in
    subst (λ n. GoesOn g (execute_at g n s)) (sym (node_at g s.at x is_closed.places stands.here.1))
    (execute_goes g is_closed s.at x stands.here.1 s (subst (λ f. AreCalls g f s.calls) (sym stands.here.2) stands.calls) stands.sized)

-- ---- m operations

spot_of : Stand → Spot → Spot
spot_of (At x) d = x
spot_of (Over o) d = d

same_spot : (s t : Spot) → At s ≡ At t → s ≡ t
unfolding spot_of
same_spot s t e = ap (λ x. spot_of x s) e

stands_on : (g : Graph) (m : ℕ) (d : Did) (ws : List ℕ) (t : Spot) → GoesOn g d → on_from (flow_from g m) d ≡ told_at ws t
    → ((a : Spot) (vs : List ℕ) → Stands g a → flow_from g m a ≡ told_at vs t → Stands g t) → Stands g t
stands_on g m (Went vs a) ws t go h ih = ih a (flow_from g m a).words go (as_told (flow_from g m a) t (ap (λ x. x.stand) h))
stands_on g m (Ended w) ws t go h ih = let e : Over (EndedWith w) ≡ At t = ap (λ x. x.stand) h in absurd (cc)
stands_on g m (Trapped w) ws t go h ih = let e : Over (TrappedWith w) ≡ At t = ap (λ x. x.stand) h in absurd (cc)
stands_on g m Lost ws t go h ih = absurd go

pub stands_after : (g : Graph) → IsClosed g → (m : ℕ) (s t : Spot) (ws : List ℕ) → Stands g s → flow_from g m s ≡ told_at ws t → Stands g t
stands_after g is_closed zero s t ws stands h = subst (Stands g) (same_spot s t (ap (λ x. x.stand) h)) stands
stands_after g is_closed (suc m) s t ws stands h = stands_on g m (operate g s) ws t (operate_goes g s is_closed stands) h (λ a vs. stands_after g is_closed m a t vs)

-- ---- the laws

pub start_stands : (g : Graph) (objects : Words) (input : List ℕ) → IsGraph g → Begin g.objects objects → Stands g (start g objects input)
start_stands g objects input rules begin = record { function = g.main; here = (closed g rules).begins; calls = refl; sized = begins_sized g objects rules begin }

pub runs_stand : RunsStand
runs_stand g objects input rules begin n ws s h = stands_after g (closed g rules) n (start g objects input) s ws (start_stands g objects input rules begin) h

pub nothing_is_missing : NothingIsMissing
nothing_is_missing g objects input rules begin n ws s h e = subst (GoesOn g) e (operate_goes g s (closed g rules) (runs_stand g objects input rules begin n ws s h))

-- ---- writes

chosen : (y : Node) (ys : List Node) (x : Node) (b : Bool) (r : Option Node) → (r ≡ Some x → Stood ys x) → (if b then Some y else r) ≡ Some x → Stood (y ∷ ys) x
chosen y ys x true r rest e = record { place = 0; is_there = e }
chosen y ys x false r rest e = stood_behind y ys x (rest e)

pub found_in : (xs : List Node) (n : ℕ) (x : Node) → node_in xs n ≡ Some x → Stood xs x
found_in [] n x e = absurd (cc)
found_in (y ∷ ys) n x e = chosen y ys x (y.op.number == n) (node_in ys n) (found_in ys n x) e

dest_within : (g : Graph) (objects : Words) (used : Bool) (dest : Option ℕ) → AreSized g objects → DestFits g used dest → DestWithin objects dest
dest_within g objects used None sized h = tt
dest_within g objects true (Some o) sized h = (has_words g objects o 1 sized h).0
dest_within g objects false (Some o) sized h = absurd (cc)

array_within : (g : Graph) (objects : Words) (used : Bool) (array : Option ArrayUse) → AreSized g objects → ArrayFits g used array → ArrayWithin objects array
array_within g objects used None sized h = tt
array_within g objects true (Some u) sized h = let r = has_words g objects u.object u.length sized h.0 in let e = r.1 in (r.0, omega (arith, e))
array_within g objects false (Some u) sized h = absurd (cc)

pub write_fits : (g : Graph) (objects : Words) (op : Op) → AreSized g objects → OpFits g op → WritesFit objects op
write_fits g objects op sized fits = record {
  dest = dest_within g objects (parts_of op.kind).dest op.dest sized fits.dest;
  words = λ o e. let n = (has_words g objects o 1 sized (dest_is_scalar g op o fits e)).1 in omega (arith, n);
  array = array_within g objects (parts_of op.kind).array op.array sized fits.array;
}

pub writes_are_within : WritesAreWithin
writes_are_within g objects rules begin n x found =
    let s = found_in (graph_nodes g) n x found in write_fits g objects x.op (begins_sized g objects rules begin) (rules.operations s.place x s.is_there)
