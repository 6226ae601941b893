-- An item's marks from its parts, and whether a `continue` in it goes to the loop around it.
use Rattle.std.proofs.Common.{◌≡◌, ◌≤◌, ◌||◌, ℕ, Bool, true, false, List, [], ◌∷◌, refl, sym, ap, ◌∙◌, subst, arith}
use Rattle.std.specs.Prelude.{Option, map, if◌then◌else◌}
use denote.Param.Weighed.{most}
use Rattle.flow_graph.specs.declared.graph.Op.{Op}
use Rattle.flow_graph.specs.declared.graph.LeaveTo.{LeaveTo}
use Rattle.flow_graph.specs.declared.graph.LeaveTo.TheVariants.{Break, Continue, Back}
use Rattle.flow_graph.specs.declared.graph.Item.{Item, out-Item, size-Item}
use Rattle.flow_graph.specs.declared.graph.Item.TheVariants.{One, Branch, Loop, Switch, CallTo, Leave, outs-One, outs-Branch, outs-Loop, outs-Switch, outs-CallTo, outs-Leave}
use Rattle.flow_graph.specs.declared.graph.Item.TheOpen.{Item-F}
use Rattle.flow_graph.specs.declared.graph.Item.TheFolds.{map-Item, fold_out-Item}
use Rattle.flow_graph.specs.declared.nodes.Around.{Around}
use Rattle.flow_graph.specs.Nodes.{call_node, leave_to, node}
use Rattle.chain_units.specs.Known.{Known}
use Rattle.chain_units.specs.Marks.{Flat, Joins, any, continues, continues_by, ends, flat_or, one_marks, placed, placed_by, some_continues}
use Rattle.chain_units.specs.Parts.{branch_parts, continues_in, loop_parts, marks_by, switch_parts}
use Rattle.chain_units.proofs.PlacedLemmas.{items_same, placed_layer, placed_level}

-- ---- marks

layer_marks : (k : Known) (l : Item-F Item) (c : Around) → (placed_by k (placed_layer k l)).marks c ≡ marks_by k l c
layer_marks k (Item-F.One op) c = refl
layer_marks k (Item-F.Branch test a b) c = rw (items_same k a, items_same k b) refl
layer_marks k (Item-F.Loop pre test post step back count) c = rw (items_same k pre, items_same k post, items_same k step) refl
layer_marks k (Item-F.Switch items) c = rw (items_same k items) refl
layer_marks k (Item-F.CallTo op f) c = refl
layer_marks k (Item-F.Leave op to) c = refl

pub marks_level : (k : Known) (x : Item) (c : Around) → (placed k x).marks c ≡ marks_by k (out-Item x) c
marks_level k x c = ap (λ p. p.marks c) (placed_level k x) ∙ layer_marks k (out-Item x) c

-- ---- marks as the code meets them

pub one_are : (k : Known) (x : Item) (op : Op) (c : Around) → x ≡ One op → one_marks op op.kind c.behind ≡ marks_by k (out-Item x) c
one_are k x op c e = sym (ap (λ l. marks_by k l c) (ap out-Item e ∙ outs-One op))

pub branch_are : (k : Known) (x : Item) (test : Op) (a b xs ys : List Item) (c : Around) → x ≡ Branch test a b → xs ≡ a → ys ≡ b → flat_or k x c.behind (branch_parts k test xs ys c) ≡ marks_by k (out-Item x) c
branch_are k x test a b xs ys c e f g =
    ap (λ zs. flat_or k x c.behind (branch_parts k test zs ys c)) f
    ∙ (ap (λ zs. flat_or k x c.behind (branch_parts k test a zs c)) g
    ∙ (ap (λ z. flat_or k z c.behind (branch_parts k test a b c)) e ∙ sym (ap (λ l. marks_by k l c) (ap out-Item e ∙ outs-Branch test a b))))

pub loop_are : (k : Known) (x : Item) (pre : List Item) (test : Op) (post step : List Item) (back : Op) (count : Option ℕ) (xs ys zs : List Item) (c : Around) → x ≡ Loop pre test post step back count → xs ≡ pre → ys ≡ post
    → zs ≡ step → loop_parts k x xs test ys zs back c ≡ marks_by k (out-Item x) c
loop_are k x pre test post step back count xs ys zs c e f g h =
    ap (λ ws. loop_parts k x ws test ys zs back c) f
    ∙ (ap (λ ws. loop_parts k x pre test ws zs back c) g
    ∙ (ap (λ ws. loop_parts k x pre test post ws back c) h
    ∙ (ap (λ z. loop_parts k z pre test post step back c) e ∙ sym (ap (λ l. marks_by k l c) (ap out-Item e ∙ outs-Loop pre test post step back count)))))

pub switch_are : (k : Known) (x : Item) (items xs : List Item) (c : Around) → x ≡ Switch items → xs ≡ items → flat_or k x c.behind (switch_parts k xs c) ≡ marks_by k (out-Item x) c
switch_are k x items xs c e f =
    ap (λ zs. flat_or k x c.behind (switch_parts k zs c)) f
    ∙ (ap (λ z. flat_or k z c.behind (switch_parts k items c)) e ∙ sym (ap (λ l. marks_by k l c) (ap out-Item e ∙ outs-Switch items)))

pub call_are : (k : Known) (x : Item) (op : Op) (f : ℕ) (c : Around) → x ≡ CallTo op f → (if k.is_flat f then Joins (Flat (CallTo op f ∷ []) c.behind) ∷ [] else ends (call_node op f c.behind)) ≡ marks_by k (out-Item x) c
call_are k x op f c e = sym (ap (λ l. marks_by k l c) (ap out-Item e ∙ outs-CallTo op f))

pub leave_are : (k : Known) (x : Item) (op : Op) (to : LeaveTo) (c : Around) → x ≡ Leave op to → ends (node op (leave_to to c)) ≡ marks_by k (out-Item x) c
leave_are k x op to c e = sym (ap (λ l. marks_by k l c) (ap out-Item e ∙ outs-Leave op to))

-- ---- continues

any_same : (xs : List Item) → any (map continues xs) ≡ some_continues xs
any_same [] = refl
any_same (x ∷ xs) = ap (λ (b : Bool). continues x || b) (any_same xs)

layer_continues : (l : Item-F Item) → continues_by (map-Item Item Bool continues l) ≡ continues_in l
layer_continues (Item-F.One op) = refl
layer_continues (Item-F.Branch test a b) = rw (any_same a, any_same b) refl
layer_continues (Item-F.Loop pre test post step back count) = refl
layer_continues (Item-F.Switch items) = rw (any_same items) refl
layer_continues (Item-F.CallTo op f) = refl
layer_continues (Item-F.Leave op Break) = refl
layer_continues (Item-F.Leave op Continue) = refl
layer_continues (Item-F.Leave op Back) = refl

pub continues_level : (x : Item) → continues x ≡ continues_in (out-Item x)
unfolding continues
continues_level x = fold_out-Item Bool continues_by x ∙ layer_continues (out-Item x)

or_true : (a b : Bool) → a ≡ true → (a || b) ≡ true
or_true true b e = refl
or_true false b e = absurd (cc)

or_false : (a b : Bool) → a ≡ false → (a || b) ≡ b
or_false true b e = absurd (cc)
or_false false b e = refl

-- the first item holds one
pub continues_here : (x : Item) (left rest : List Item) (b : Bool) → left ≡ x ∷ rest → b ≡ continues_in (out-Item x) → b ≡ true → some_continues left ≡ true
continues_here x left rest b e is holds =
    ap (λ (xs : List Item). some_continues xs) e ∙ or_true (continues x) (some_continues rest) (continues_level x ∙ (sym is ∙ holds))

-- it holds none
pub continues_behind : (x : Item) (left rest : List Item) (b : Bool) → left ≡ x ∷ rest → b ≡ continues_in (out-Item x) → b ≡ false → some_continues left ≡ some_continues rest
continues_behind x left rest b e is fails =
    ap (λ (xs : List Item). some_continues xs) e ∙ or_false (continues x) (some_continues rest) (continues_level x ∙ (sym is ∙ fails))

-- items that are left are no deeper
pub rest_smaller : (x : Item) (left rest : List Item) (m : ℕ) → left ≡ x ∷ rest → most size-Item left ≤ m → most size-Item rest ≤ m
rest_smaller x left rest m e h = let k = subst (λ (xs : List Item). most size-Item xs ≤ m) e h in omega (arith, k)
