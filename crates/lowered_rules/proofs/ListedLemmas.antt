-- The nodes of items have the numbers from one up to another, whatever lies around them.
use Rattle.std.proofs.Common.{◌≡◌, ℕ, ◌+◌, Option, List, [], ◌∷◌, ◌++◌, length, sym, ap, subst, ◌∙◌, arith}
use Rattle.flow_graph.specs.declared.graph.Op.{Op}
use Rattle.flow_graph.specs.declared.graph.LeaveTo.{LeaveTo}
use Rattle.flow_graph.specs.declared.graph.Item.{Item}
use Rattle.flow_graph.specs.declared.graph.Item.TheVariants.{One, Branch, Loop, Switch, CallTo, Leave}
use Rattle.flow_graph.specs.declared.nodes.Node.{Node}
use Rattle.flow_graph.specs.declared.nodes.Around.{Around}
use Rattle.flow_graph.specs.Nodes.{Laid, at_behind, first_of, nodes_of, in_loop, laid, laid_items}
use Rattle.flow_graph.specs.Rules.{IsNumbered}
use Rattle.flow_graph.proofs.LaidLemmas.{laid-One, laid-Branch, laid-Loop, laid-Switch, laid-CallTo, laid-Leave, laid_items-append, nodes_of-append}

-- ---- nodes

pub record Range (n m : ℕ) (xs : List Node) : Type 0 where
  pub numbered : IsNumbered n xs
  pub count : n + length xs ≡ m

pub numbered-append : (n : ℕ) (xs ys : List Node) → IsNumbered n xs → IsNumbered (n + length xs) ys → IsNumbered n (xs ++ ys)
numbered-append n [] ys h k = subst (λ m. IsNumbered m ys) (omega arith) k
numbered-append n (x ∷ xs) ys h k = (h.0, numbered-append (n + 1) xs ys h.1 (subst (λ m. IsNumbered m ys) (omega arith) k))

length-both : (xs ys : List Node) → length (xs ++ ys) ≡ length xs + length ys
length-both [] ys = omega arith
length-both (x ∷ xs) ys = let e = length-both xs ys in omega (arith, e)

pub range_none : (n : ℕ) → Range n n []
range_none n = record { numbered = tt; count = omega arith }

pub range_append : (n m k : ℕ) (xs ys : List Node) → Range n m xs → Range m k ys → Range n k (xs ++ ys)
range_append n m k xs ys h j = record {
  numbered = numbered-append n xs ys h.numbered (subst (λ z. IsNumbered z ys) (sym h.count) j.numbered);
  count = omega (arith, length-both xs ys, h.count, j.count);
}

range_more : (n m : ℕ) (x : Node) (xs : List Node) → x.op.number ≡ n → Range (n + 1) m xs → Range n m (x ∷ xs)
range_more n m x xs e h = record { numbered = (e, h.numbered); count = omega (arith, h.count) }

range_one : (n : ℕ) (x : Node) → x.op.number ≡ n → Range n (n + 1) (x ∷ [])
range_one n x e = range_more n (n + 1) x [] e (range_none (n + 1))

-- ---- items

pub record Listed (n m : ℕ) (items : List Item) : Type 0 where
  pub range : (c : Around) → Range n m (nodes_of (laid_items items) c)

pub listed_none : (n : ℕ) → Listed n n []
listed_none n = record { range = λ c. range_none n }

pub listed_append : (n m k : ℕ) (xs ys : List Item) → Listed n m xs → Listed m k ys → Listed n k (xs ++ ys)
listed_append n m k xs ys h j = record {
  range = λ c.
      subst (Range n k) (sym (ap (λ l. nodes_of l c) (laid_items-append xs ys) ∙ nodes_of-append (laid_items xs) (laid_items ys) c))
      (range_append n m k (nodes_of (laid_items xs) (at_behind c (first_of (laid_items ys) c.behind))) (nodes_of (laid_items ys) c)
      (h.range (at_behind c (first_of (laid_items ys) c.behind))) (j.range c));
}

-- an item by what it is laid as
listed_item : (n m : ℕ) (x : Item) (l : Laid) → laid x ≡ l → ((c : Around) → Range n m (l.nodes c)) → Listed n m (x ∷ [])
listed_item n m x l e h = record {
  range = λ c. range_append n m m ((laid x).nodes (at_behind c c.behind)) [] (subst (λ (k : Laid). Range n m (k.nodes c)) (sym e) (h c)) (range_none m);
}

pub listed_one : (n : ℕ) (op : Op) → op.number ≡ n → Listed n (n + 1) (One op ∷ [])
listed_one n op e = listed_item n (n + 1) (One op) _ (laid-One op) (λ c. range_one n _ e)

pub listed_call : (n : ℕ) (op : Op) (f : ℕ) → op.number ≡ n → Listed n (n + 1) (CallTo op f ∷ [])
listed_call n op f e = listed_item n (n + 1) (CallTo op f) _ (laid-CallTo op f) (λ c. range_one n _ e)

pub listed_leave : (n : ℕ) (op : Op) (to : LeaveTo) → op.number ≡ n → Listed n (n + 1) (Leave op to ∷ [])
listed_leave n op to e = listed_item n (n + 1) (Leave op to) _ (laid-Leave op to) (λ c. range_one n _ e)

pub listed_switch : (n m : ℕ) (xs : List Item) → Listed n m xs → Listed n m (Switch xs ∷ [])
listed_switch n m xs h = listed_item n m (Switch xs) _ (laid-Switch xs) (λ c. h.range (record c { break_to = c.behind }))

pub listed_branch : (n m k : ℕ) (test : Op) (xs ys : List Item) → test.number ≡ n → Listed (n + 1) m xs → Listed m k ys → Listed n k (Branch test xs ys ∷ [])
listed_branch n m k test xs ys e h j =
    listed_item n k (Branch test xs ys) _ (laid-Branch test xs ys) (λ c. range_more n k _ _ e (range_append (n + 1) m k _ _ (h.range c) (j.range c)))

pub listed_loop : (n m k l : ℕ) (pre : List Item) (test : Op) (post step : List Item) (back : Op) (count : Option ℕ)
    → Listed n m pre → test.number ≡ m → Listed (m + 1) k post → Listed k l step → back.number ≡ l → Listed n (l + 1) (Loop pre test post step back count ∷ [])
listed_loop n m k l pre test post step back count hp et ho hs eb =
    listed_item n (l + 1) (Loop pre test post step back count) _ (laid-Loop pre test post step back count) (λ c.
    let again : ℕ = first_of (laid_items step) back.number in
    range_append n m (l + 1) _ _ (hp.range (in_loop (laid_items step) back c test.number))
    (range_more m (l + 1) _ _ et (range_append (m + 1) k (l + 1) _ _ (ho.range (in_loop (laid_items step) back c again))
    (range_append k l (l + 1) _ _ (hs.range (in_loop (laid_items step) back c back.number)) (range_one l _ eb)))))
