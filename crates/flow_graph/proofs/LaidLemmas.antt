-- How an item is laid, by its parts; and parts of a body, one after another: what is executed first in them, and their nodes.
use Rattle.std.proofs.Common.{◌≡◌, ◌≤◌, ℕ, List, [], ◌∷◌, ◌++◌, refl, sym, ap, subst, ◌∙◌, append_assoc, arith}
use Rattle.std.specs.Prelude.{Option, map}
use denote.Param.Weighed.{most}
use Rattle.flow_graph.specs.declared.graph.Op.{Op}
use Rattle.flow_graph.specs.declared.graph.LeaveTo.{LeaveTo}
use Rattle.flow_graph.specs.declared.graph.Item.{Item, out-Item, size-Item}
use Rattle.flow_graph.specs.declared.graph.Item.TheVariants.{One, Branch, Loop, Switch, CallTo, Leave, outs-One, outs-Branch, outs-Loop, outs-Switch, outs-CallTo, outs-Leave}
use Rattle.flow_graph.specs.declared.graph.Item.TheOpen.{Item-F}
use Rattle.flow_graph.specs.declared.graph.Item.TheFolds.{map-Item, fold_out-Item}
use Rattle.flow_graph.specs.declared.nodes.Node.{Node}
use Rattle.flow_graph.specs.declared.nodes.Around.{Around}
use Rattle.flow_graph.specs.Nodes.{Laid, at_behind, first_of, nodes_of, laid_by, laid, laid_items}
use Rattle.flow_graph.specs.Laying.{with_laid, first_by, nodes_by}

-- ---- an item by its parts

all_laid : (xs : List Item) → map laid xs ≡ laid_items xs
all_laid [] = refl
all_laid (x ∷ xs) = ap (λ ys. laid x ∷ ys) (all_laid xs)

mapped : (x : Item-F Item) → map-Item Item Laid laid x ≡ with_laid x
mapped (Item-F.One op) = refl
mapped (Item-F.Branch test a b) = rw (all_laid a, all_laid b) refl
mapped (Item-F.Loop pre test post step back count) = rw (all_laid pre, all_laid post, all_laid step) refl
mapped (Item-F.Switch items) = rw (all_laid items) refl
mapped (Item-F.CallTo op f) = refl
mapped (Item-F.Leave op to) = refl

pub laid_level : (item : Item) → laid item ≡ laid_by (with_laid (out-Item item))
unfolding laid
laid_level item = fold_out-Item Laid laid_by item ∙ ap laid_by (mapped (out-Item item))

pub first_level : (item : Item) (n : ℕ) → (laid item).first n ≡ first_by (out-Item item) n
first_level item n = ap (λ l. l.first n) (laid_level item)

pub nodes_level : (item : Item) (c : Around) → (laid item).nodes c ≡ nodes_by (out-Item item) c
nodes_level item c = ap (λ l. l.nodes c) (laid_level item)

pub laid-One : (op : Op) → laid (One op) ≡ laid_by (Item-F.One op)
laid-One op = laid_level (One op) ∙ ap (λ l. laid_by (with_laid l)) (outs-One op)

pub laid-Branch : (test : Op) (a b : List Item) → laid (Branch test a b) ≡ laid_by (Item-F.Branch test (laid_items a) (laid_items b))
laid-Branch test a b = laid_level (Branch test a b) ∙ ap (λ l. laid_by (with_laid l)) (outs-Branch test a b)

pub laid-Loop : (pre : List Item) (test : Op) (post step : List Item) (back : Op) (count : Option ℕ)
    → laid (Loop pre test post step back count) ≡ laid_by (Item-F.Loop (laid_items pre) test (laid_items post) (laid_items step) back count)
laid-Loop pre test post step back count = laid_level (Loop pre test post step back count) ∙ ap (λ l. laid_by (with_laid l)) (outs-Loop pre test post step back count)

pub laid-Switch : (items : List Item) → laid (Switch items) ≡ laid_by (Item-F.Switch (laid_items items))
laid-Switch items = laid_level (Switch items) ∙ ap (λ l. laid_by (with_laid l)) (outs-Switch items)

pub laid-CallTo : (op : Op) (f : ℕ) → laid (CallTo op f) ≡ laid_by (Item-F.CallTo op f)
laid-CallTo op f = laid_level (CallTo op f) ∙ ap (λ l. laid_by (with_laid l)) (outs-CallTo op f)

pub laid-Leave : (op : Op) (to : LeaveTo) → laid (Leave op to) ≡ laid_by (Item-F.Leave op to)
laid-Leave op to = laid_level (Leave op to) ∙ ap (λ l. laid_by (with_laid l)) (outs-Leave op to)

-- ---- one part after another

pub laid_items-append : (xs ys : List Item) → laid_items (xs ++ ys) ≡ laid_items xs ++ laid_items ys
laid_items-append [] ys = refl
laid_items-append (x ∷ xs) ys = ap (λ l. laid x ∷ l) (laid_items-append xs ys)

pub first_of-append : (xs ys : List Laid) (n : ℕ) → first_of (xs ++ ys) n ≡ first_of xs (first_of ys n)
first_of-append [] ys n = refl
first_of-append (x ∷ xs) ys n = ap x.first (first_of-append xs ys n)

pub nodes_of-append : (xs ys : List Laid) (c : Around) → nodes_of (xs ++ ys) c ≡ nodes_of xs (at_behind c (first_of ys c.behind)) ++ nodes_of ys c
nodes_of-append [] ys c = refl
nodes_of-append (x ∷ xs) ys c =
    rw (first_of-append xs ys c.behind, nodes_of-append xs ys c) (sym (append_assoc (x.nodes (at_behind c (first_of xs (first_of ys c.behind)))) (nodes_of xs (at_behind c (first_of ys c.behind))) (nodes_of ys c)))

-- ---- an item that is listed

-- an item more is listed
pub listed_more : (item : Item) (left rest : List Item) (c around : Around) (behind : ℕ) (now now2 all : List Node)
    → left ≡ item ∷ rest → behind ≡ first_of (laid_items rest) c.behind → around ≡ at_behind c behind → now2 ≡ now ++ nodes_by (out-Item item) around
    → now ++ nodes_of (laid_items left) c ≡ all → now2 ++ nodes_of (laid_items rest) c ≡ all
listed_more item left rest c around behind now now2 all e b a n h =
    ap (λ (xs : List Node). xs ++ nodes_of (laid_items rest) c) (n ∙ ap (λ (xs : List Node). now ++ xs) (sym (nodes_level item around) ∙ ap (laid item).nodes (a ∙ ap (at_behind c) b)))
    ∙ (append_assoc now ((laid item).nodes (at_behind c (first_of (laid_items rest) c.behind))) (nodes_of (laid_items rest) c)
    ∙ (ap (λ (xs : List Item). now ++ nodes_of (laid_items xs) c) (sym e) ∙ h))

-- an item that has no operation of its own is passed over
pub first_more : (item : Item) (left rest : List Item) (n : ℕ) → left ≡ item ∷ rest → ((m : ℕ) → first_by (out-Item item) m ≡ m) → first_of (laid_items left) n ≡ first_of (laid_items rest) n
first_more item left rest n e h = ap (λ (xs : List Item). first_of (laid_items xs) n) e ∙ (first_level item (first_of (laid_items rest) n) ∙ h (first_of (laid_items rest) n))

pub first_here : (item : Item) (left rest : List Item) (n k : ℕ) → left ≡ item ∷ rest → ((m : ℕ) → first_by (out-Item item) m ≡ k) → first_of (laid_items left) n ≡ k
first_here item left rest n k e h = ap (λ (xs : List Item). first_of (laid_items xs) n) e ∙ (first_level item (first_of (laid_items rest) n) ∙ h (first_of (laid_items rest) n))

-- items that are left are no deeper
pub rest_smaller : (item : Item) (left rest : List Item) (m : ℕ) → left ≡ item ∷ rest → most size-Item left ≤ m → most size-Item rest ≤ m
rest_smaller item left rest m e h = let k = subst (λ (xs : List Item). most size-Item xs ≤ m) e h in omega (arith, k)
