-- A function with neither a branch nor a loop nor a leave has no operation that jumps.
use Rattle.std.proofs.Common.{◌≡◌, ℕ, zero, suc, length, Bool, true, false, Option, Some, None, List, [], ◌∷◌, ◌++◌, refl, sym, ap, subst, ◌∙◌, arith}
use Rattle.std.specs.Prelude.{map, ⊤, ◌&&◌, ◌==◌, slice_get}
use Rattle.std.proofs.lemmas.Bool.{and_parts, false≢true}
use Rattle.flow_graph.specs.declared.graph.Op.{Op}
use Rattle.flow_graph.specs.declared.graph.OpKind.{OpKind}
use Rattle.flow_graph.specs.declared.graph.OpKind.TheVariants as kind
use Rattle.flow_graph.specs.declared.graph.Item.{Item, roll-Item}
use Rattle.flow_graph.specs.declared.graph.Item.TheOpen.{Item-F}
use Rattle.flow_graph.specs.declared.graph.Item.TheFolds.{map-Item, ind-Item, fold-roll-Item}
use Rattle.flow_graph.specs.declared.graph.Func.{Func}
use Rattle.flow_graph.specs.declared.graph.Graph.{Graph}
use Rattle.flow_graph.specs.declared.nodes.Node.{Node}
use Rattle.flow_graph.specs.declared.nodes.Around.{Around}
use Rattle.flow_graph.specs.Nodes.{Laid, all_nodes, around_body, at_behind, body_nodes, first_of, graph_nodes, laid, laid_by, laid_items, nodes_of}
use Rattle.flow_graph.specs.Rules.{Ending, Fitting, IsGraph, Open, MayGo, Returns, Where, bodies_fit, ends_list, fitting, fitting_by, fittings, in_switch, is_kind, list_fits, not_returning, return_kind, stands_alone}
use Rattle.flow_graph.proofs.PartLemmas.{fitting_rolled, laid_rolled}
use Rattle.graph_code.specs.Heads.{all_of, are_straight, is_straight, straight_by}
use Rattle.graph_code.specs.Order.{IsAlone}
use Rattle.each_image.specs.Image.{can_jump}
use Rattle.each_image.specs.Each.{is_first_straight}

-- none may jump
abbrev Stays : List Node → Type 0
Stays [] = ⊤
Stays (x ∷ xs) = (can_jump x.op.kind ≡ false) × Stays xs

stays_append : (xs ys : List Node) → Stays xs → Stays ys → Stays (xs ++ ys)
stays_append [] ys h k = k
stays_append (x ∷ xs) ys h k = (h.0, stays_append xs ys h.1 k)

stays_at : (xs : List Node) (i : ℕ) (x : Node) → Stays xs → slice_get xs i ≡ Some x → can_jump x.op.kind ≡ false
stays_at [] i x h e = absurd (cc)
stays_at (y ∷ ys) zero x h e = let same : y ≡ x = cc in subst (λ (z : Node). can_jump z.op.kind ≡ false) same h.0
stays_at (y ∷ ys) (suc i) x h e = stays_at ys i x h.1 e

-- a list that doesn't end in a Go
abbrev NoGo : Ending → Type 0
NoGo Open = ⊤
NoGo MayGo = ⊥
NoGo Returns = ⊤

-- ---- kinds

alone_stays : (k : OpKind) → stands_alone k ≡ true → can_jump k ≡ false
alone_stays kind.Go e = absurd (false≢true e)
alone_stays kind.Test e = absurd (false≢true e)
alone_stays kind.Below e = absurd (false≢true e)
alone_stays k e = refl

call_stays : (k : OpKind) → is_kind k kind.Call ≡ true → can_jump k ≡ false
call_stays kind.Go e = absurd (false≢true e)
call_stays kind.Test e = absurd (false≢true e)
call_stays kind.Below e = absurd (false≢true e)
call_stays k e = refl

finish_stays : (k : OpKind) (in_main : Bool) → is_kind k (return_kind in_main) ≡ true → can_jump k ≡ false
finish_stays kind.Go true e = absurd (false≢true e)
finish_stays kind.Go false e = absurd (false≢true e)
finish_stays kind.Test true e = absurd (false≢true e)
finish_stays kind.Test false e = absurd (false≢true e)
finish_stays kind.Below true e = absurd (false≢true e)
finish_stays kind.Below false e = absurd (false≢true e)
finish_stays k in_main e = refl

one_stays : (w : Where) (e : Ending) (k : OpKind) → NoGo e → ends_list w e k ≡ true → can_jump k ≡ false
one_stays w Open k going f = alone_stays k f
one_stays w MayGo k going f = absurd going
one_stays w Returns k going f = finish_stays k w.in_main f

-- ---- parts

record StaysItem (l : Laid) (t : Fitting) (straight : Bool) : Type 0 where
  pub stays : straight ≡ true → (w : Where) (e : Ending) (before : Option Op) (c : Around) → NoGo e → t.fits w e before ≡ true → Stays (l.nodes c)

abbrev StaysList : List Laid → List Fitting → List Bool → Type 0
StaysList ls ts bs = all_of bs ≡ true → (w : Where) (e : Ending) (before : Option Op) (c : Around) → NoGo e → list_fits w e before ts ≡ true → Stays (nodes_of ls c)

stays_more : (l l2 : Laid) (ls : List Laid) (t t2 : Fitting) (ts : List Fitting) (b : Bool) (bs : List Bool) → StaysItem l t b → StaysList (l2 ∷ ls) (t2 ∷ ts) bs → StaysList (l ∷ l2 ∷ ls) (t ∷ t2 ∷ ts) (b ∷ bs)
stays_more l l2 ls t t2 ts b bs item rest straight w e before c going fits =
    let s = and_parts b (all_of bs) straight in
    let f = and_parts (t.fits w Open before) (list_fits w e t.alone (t2 ∷ ts)) fits in
    stays_append (l.nodes (at_behind c (first_of (l2 ∷ ls) c.behind))) (nodes_of (l2 ∷ ls) c) (item.stays s.0 w Open before (at_behind c (first_of (l2 ∷ ls) c.behind)) tt f.0) (rest s.1 w e t.alone c going f.1)

stays_none : StaysList [] [] []
stays_none straight w e before c going fits = tt

stays_one : (l : Laid) (t : Fitting) (b : Bool) → StaysItem l t b → StaysList (l ∷ []) (t ∷ []) (b ∷ [])
stays_one l t b item straight w e before c going fits = stays_append (l.nodes c) [] (item.stays (and_parts b true straight).0 w e before c going fits) tt

-- ---- every item

abbrev IsStaying : Item → Type 0
IsStaying x = StaysItem (laid x) (fitting x) (is_straight x)

abbrev Known : Type 0
Known = (x : Item) × IsStaying x

abbrev bare : List Known → List Item
bare es = map (λ (e : Known). e.0) es

stays_list : (es : List Known) → StaysList (map laid (bare es)) (map fitting (bare es)) (map is_straight (bare es))
stays_list [] = stays_none
stays_list (k ∷ []) = stays_one (laid k.0) (fitting k.0) (is_straight k.0) k.1
stays_list (k ∷ f ∷ es) =
    stays_more (laid k.0) (laid f.0) (map laid (bare es)) (fitting k.0) (fitting f.0) (map fitting (bare es)) (is_straight k.0) (map is_straight (bare (f ∷ es))) k.1 (stays_list (f ∷ es))

abbrev StaysLayer : Item-F Item → Type 0
StaysLayer z = StaysItem (laid_by (map-Item Item Laid laid z)) (fitting_by (map-Item Item Fitting fitting z)) (straight_by (map-Item Item Bool is_straight z))

stays_layer : (y : Item-F Known) → StaysLayer (map-Item Known Item (λ e. e.0) y)
stays_layer (Item-F.One op) = record { stays = λ straight w e before c going fits. (one_stays w e op.kind going fits, tt) }
stays_layer (Item-F.Branch test a b) = record { stays = λ straight. absurd (false≢true straight) }
stays_layer (Item-F.Loop pre test post step back count) = record { stays = λ straight. absurd (false≢true straight) }
stays_layer (Item-F.Switch items) = record {
  stays = λ straight w e before c going fits.
      stays_list items straight (in_switch w) Open None (record c { break_to = c.behind }) tt (and_parts (not_returning e) (list_fits (in_switch w) Open None (map fitting (bare items))) fits).1;
}
stays_layer (Item-F.CallTo op f) = record { stays = λ straight w e before c going fits. (call_stays op.kind (and_parts (not_returning e) (is_kind op.kind kind.Call) fits).1, tt) }
stays_layer (Item-F.Leave op to) = record { stays = λ straight. absurd (false≢true straight) }

straight_rolled : (x : Item-F Item) → is_straight (roll-Item x) ≡ straight_by (map-Item Item Bool is_straight x)
unfolding is_straight
straight_rolled x = fold-roll-Item Bool straight_by x

stays_rolled : (x : Item-F Item) → StaysLayer x → IsStaying (roll-Item x)
stays_rolled x h =
    subst (λ l. StaysItem l (fitting (roll-Item x)) (is_straight (roll-Item x))) (sym (laid_rolled x))
    (subst (λ t. StaysItem (laid_by (map-Item Item Laid laid x)) t (is_straight (roll-Item x))) (sym (fitting_rolled x))
    (subst (λ b. StaysItem (laid_by (map-Item Item Laid laid x)) (fitting_by (map-Item Item Fitting fitting x)) b) (sym (straight_rolled x)) h))

staying : (x : Item) → IsStaying x
staying = ind-Item IsStaying (λ x y is. stays_rolled x (subst StaysLayer is (stays_layer y)))

stays_items : (xs : List Item) → StaysList (laid_items xs) (fittings xs) (map is_straight xs)
stays_items [] = stays_none
stays_items (x ∷ []) = stays_one (laid x) (fitting x) (is_straight x) (staying x)
stays_items (x ∷ y ∷ xs) =
    stays_more (laid x) (laid y) (laid_items xs) (fitting x) (fitting y) (fittings xs) (is_straight x) (map is_straight (y ∷ xs)) (staying x) (stays_items (y ∷ xs))

all_straight : (xs : List Item) → are_straight xs ≡ all_of (map is_straight xs)
all_straight [] = refl
all_straight (x ∷ xs) = ap (λ b. is_straight x && b) (all_straight xs)

-- ---- a graph of one function

only_stays : (main : ℕ) (fs : List Func) → length fs ≡ 1 → bodies_fit main 0 fs ≡ true → is_first_straight fs ≡ true → Stays (all_nodes fs)
only_stays main [] one fits straight = absurd (false≢true straight)
only_stays main (f ∷ []) one fits straight =
    let p = and_parts (list_fits (record { in_main = 0 == main; breaks = false; continues = false; returns = true }) Returns None (fittings f.body)) true fits in
    stays_append (body_nodes f) [] (stays_items f.body (sym (all_straight f.body) ∙ straight) (record { in_main = 0 == main; breaks = false; continues = false; returns = true }) Returns None around_body tt p.0) tt
only_stays main (f ∷ f2 ∷ fs) one fits straight = absurd (omega (arith, one))

pub straight_stays : (g : Graph) → IsGraph g → IsAlone g → is_first_straight g.functions ≡ true → (i : ℕ) (x : Node) → slice_get (graph_nodes g) i ≡ Some x → can_jump x.op.kind ≡ false
straight_stays g rules alone straight i x e = stays_at (graph_nodes g) i x (only_stays g.main g.functions alone rules.bodies straight) e
