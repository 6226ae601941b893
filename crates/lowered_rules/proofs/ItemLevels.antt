-- Whether an item fits and what it does, by its parts.
use Rattle.std.proofs.Common.{◌≡◌, ℕ, List, [], ◌∷◌, ◌++◌, refl, ap, ◌∙◌}
use Rattle.std.specs.Prelude.{Option, map}
use Rattle.flow_graph.specs.declared.graph.Op.{Op}
use Rattle.flow_graph.specs.declared.graph.LeaveTo.{LeaveTo}
use Rattle.flow_graph.specs.declared.graph.Item.{Item, out-Item}
use Rattle.flow_graph.specs.declared.graph.Item.TheVariants.{One, Branch, Loop, Switch, CallTo, Leave, outs-One, outs-Branch, outs-Loop, outs-Switch, outs-CallTo, outs-Leave}
use Rattle.flow_graph.specs.declared.graph.Item.TheOpen.{Item-F}
use Rattle.flow_graph.specs.declared.graph.Item.TheFolds.{map-Item, fold_out-Item}
use Rattle.flow_graph.specs.Rules.{Fitting, fitting, fittings, fitting_by, Doing, doing, doings, doing_all, doing_by, doing_both, doing_op, turns_of, with_turns}

-- ---- whether an item fits

abbrev pub with_fittings : Item-F Item → Item-F Fitting
with_fittings (Item-F.One op) = Item-F.One op
with_fittings (Item-F.Branch test a b) = Item-F.Branch test (fittings a) (fittings b)
with_fittings (Item-F.Loop pre test post step back count) = Item-F.Loop (fittings pre) test (fittings post) (fittings step) back count
with_fittings (Item-F.Switch items) = Item-F.Switch (fittings items)
with_fittings (Item-F.CallTo op f) = Item-F.CallTo op f
with_fittings (Item-F.Leave op to) = Item-F.Leave op to

all_fittings : (xs : List Item) → map fitting xs ≡ fittings xs
all_fittings [] = refl
all_fittings (x ∷ xs) = ap (λ ys. fitting x ∷ ys) (all_fittings xs)

mapped : (x : Item-F Item) → map-Item Item Fitting fitting x ≡ with_fittings x
mapped (Item-F.One op) = refl
mapped (Item-F.Branch test a b) = rw (all_fittings a, all_fittings b) refl
mapped (Item-F.Loop pre test post step back count) = rw (all_fittings pre, all_fittings post, all_fittings step) refl
mapped (Item-F.Switch items) = rw (all_fittings items) refl
mapped (Item-F.CallTo op f) = refl
mapped (Item-F.Leave op to) = refl

pub fitting_level : (item : Item) → fitting item ≡ fitting_by (with_fittings (out-Item item))
unfolding fitting
fitting_level item = fold_out-Item Fitting fitting_by item ∙ ap fitting_by (mapped (out-Item item))

pub fitting-One : (op : Op) → fitting (One op) ≡ fitting_by (Item-F.One op)
fitting-One op = fitting_level (One op) ∙ ap (λ l. fitting_by (with_fittings l)) (outs-One op)

pub fitting-Branch : (test : Op) (a b : List Item) → fitting (Branch test a b) ≡ fitting_by (Item-F.Branch test (fittings a) (fittings b))
fitting-Branch test a b = fitting_level (Branch test a b) ∙ ap (λ l. fitting_by (with_fittings l)) (outs-Branch test a b)

pub fitting-Loop : (pre : List Item) (test : Op) (post step : List Item) (back : Op) (count : Option ℕ)
    → fitting (Loop pre test post step back count) ≡ fitting_by (Item-F.Loop (fittings pre) test (fittings post) (fittings step) back count)
fitting-Loop pre test post step back count = fitting_level (Loop pre test post step back count) ∙ ap (λ l. fitting_by (with_fittings l)) (outs-Loop pre test post step back count)

pub fitting-Switch : (items : List Item) → fitting (Switch items) ≡ fitting_by (Item-F.Switch (fittings items))
fitting-Switch items = fitting_level (Switch items) ∙ ap (λ l. fitting_by (with_fittings l)) (outs-Switch items)

pub fitting-CallTo : (op : Op) (f : ℕ) → fitting (CallTo op f) ≡ fitting_by (Item-F.CallTo op f)
fitting-CallTo op f = fitting_level (CallTo op f) ∙ ap (λ l. fitting_by (with_fittings l)) (outs-CallTo op f)

pub fitting-Leave : (op : Op) (to : LeaveTo) → fitting (Leave op to) ≡ fitting_by (Item-F.Leave op to)
fitting-Leave op to = fitting_level (Leave op to) ∙ ap (λ l. fitting_by (with_fittings l)) (outs-Leave op to)

-- ---- what an item does

all_doings : (xs : List Item) → doing_all (map doing xs) ≡ doings xs
all_doings [] = refl
all_doings (x ∷ xs) = ap (λ d. doing_both (doing x) d) (all_doings xs)

abbrev does_by : Item-F Item → Doing
does_by (Item-F.One op) = doing_op op
does_by (Item-F.Branch test a b) = doing_both (doings a) (doings b)
does_by (Item-F.Loop pre test post step back count) = with_turns (turns_of count test (doings post)) (doing_both (doings pre) (doing_both (doings post) (doings step)))
does_by (Item-F.Switch items) = doings items
does_by (Item-F.CallTo op f) = record { calls = f ∷ []; writes = []; turns = [] }
does_by (Item-F.Leave op to) = doing_op op

done : (x : Item-F Item) → doing_by (map-Item Item Doing doing x) ≡ does_by x
done (Item-F.One op) = refl
done (Item-F.Branch test a b) = rw (all_doings a, all_doings b) refl
done (Item-F.Loop pre test post step back count) = rw (all_doings pre, all_doings post, all_doings step) refl
done (Item-F.Switch items) = all_doings items
done (Item-F.CallTo op f) = refl
done (Item-F.Leave op to) = refl

doing_level : (item : Item) → doing item ≡ does_by (out-Item item)
unfolding doing
doing_level item = fold_out-Item Doing doing_by item ∙ done (out-Item item)

pub doing-One : (op : Op) → doing (One op) ≡ doing_op op
doing-One op = doing_level (One op) ∙ ap does_by (outs-One op)

pub doing-Branch : (test : Op) (a b : List Item) → doing (Branch test a b) ≡ doing_both (doings a) (doings b)
doing-Branch test a b = doing_level (Branch test a b) ∙ ap does_by (outs-Branch test a b)

pub doing-Loop : (pre : List Item) (test : Op) (post step : List Item) (back : Op) (count : Option ℕ)
    → doing (Loop pre test post step back count) ≡ with_turns (turns_of count test (doings post)) (doing_both (doings pre) (doing_both (doings post) (doings step)))
doing-Loop pre test post step back count = doing_level (Loop pre test post step back count) ∙ ap does_by (outs-Loop pre test post step back count)

pub doing-Switch : (items : List Item) → doing (Switch items) ≡ doings items
doing-Switch items = doing_level (Switch items) ∙ ap does_by (outs-Switch items)

pub doing-CallTo : (op : Op) (f : ℕ) → doing (CallTo op f) ≡ record { calls = f ∷ []; writes = []; turns = [] }
doing-CallTo op f = doing_level (CallTo op f) ∙ ap does_by (outs-CallTo op f)

pub doing-Leave : (op : Op) (to : LeaveTo) → doing (Leave op to) ≡ doing_op op
doing-Leave op to = doing_level (Leave op to) ∙ ap does_by (outs-Leave op to)

-- ---- one after another

pub fittings_append : (xs ys : List Item) → fittings (xs ++ ys) ≡ fittings xs ++ fittings ys
fittings_append [] ys = refl
fittings_append (x ∷ xs) ys = ap (λ l. fitting x ∷ l) (fittings_append xs ys)
