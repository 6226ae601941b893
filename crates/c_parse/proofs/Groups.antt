-- The tree of operands and operators is the one that C11's levels give them.
use Rattle.std.proofs.Common.{◌≡◌, ℕ, List, [], ◌∷◌, ◌++◌, ◌+◌, ◌<◌, ◌≤◌, inl, inr, refl, sym, ap, ap₂, ◌∙◌, subst, arith, append_assoc}
use Rattle.std.proofs.lemmas.Bool.{cond-true, cond-false, lt-ltb, le-ltb, cases_lt}
use Rattle.std.proofs.lemmas.List.{append-nil}
use Rattle.c_parse.specs.declared.raw.Raw.{Raw}
use Rattle.c_parse.specs.declared.raw.Raw.TheVariants.{Node}
use Rattle.c_parse.specs.declared.raw.RawRule.TheVariants.{Binary}
use Rattle.c_parse.specs.Precedence.{level_of, Operands, operand, joined, join, gather, raw_of, tree_of}
use Rattle.c_parse.specs.Grouping.{IsOperator, IsOperation, Grouped, alone, between}

-- the same of operands that are not yet a tree
pub data Groups : ℕ → List Raw → Operands → Type 0 where
  one : (level : ℕ) (a : Raw) → Groups level (a ∷ []) (operand a)
  two : (level : ℕ) (parts left right : List Raw) (operator : Raw) (a b : Operands)
      → level ≤ level_of operator → IsOperator operator → parts ≡ left ++ operator ∷ right
      → Groups (level_of operator) left a → Groups (level_of operator + 1) right b
      → Groups level parts (joined a operator b)

pub to_tree : (level : ℕ) (parts : List Raw) (x : Operands) → Groups level parts x → Grouped level parts (raw_of x)
to_tree level parts x (one n a) = alone n a
to_tree level parts x (two n ps left right operator a b tight is split ga gb) =
    between n ps left right operator (raw_of a) (raw_of b) tight is split (to_tree _ _ _ ga) (to_tree _ _ _ gb)

record Untree (level : ℕ) (parts : List Raw) (tree : Raw) : Type 0 where
  operands : Operands
  groups : Groups level parts operands
  is : raw_of operands ≡ tree

untree : (level : ℕ) (parts : List Raw) (tree : Raw) → Grouped level parts tree → Untree level parts tree
untree level parts tree (alone n a) = record { operands = operand a; groups = one n a; is = refl }
untree level parts tree (between n ps left right operator a b tight is split ga gb) =
    let l = untree _ _ _ ga in
    let r = untree _ _ _ gb in
    record {
      operands = joined l.operands operator r.operands;
      groups = two n ps left right operator l.operands r.operands tight is split l.groups r.groups;
      is = ap₂ (λ s t. Node Binary (s ∷ operator ∷ t ∷ [])) l.is r.is;
    }

-- The operator binds more tightly than the one before it, or not.
pub join_under : (l r b : Operands) (first operator : Raw) → level_of first < level_of operator → join (joined l first r) operator b ≡ joined l first (join r operator b)
join_under l r b first operator lt = cond-true _ _ _ (lt-ltb _ _ lt)

pub join_over : (l r b : Operands) (first operator : Raw) → level_of operator ≤ level_of first → join (joined l first r) operator b ≡ joined (joined l first r) operator b
join_over l r b first operator le = cond-false _ _ _ (le-ltb _ _ le)

-- A tighter operator goes into the right operand of a looser one.
join_tighter : (x r s : Operands) (first second : Raw) → level_of first < level_of second → join (join x first r) second s ≡ join x first (join r second s)
join_tighter (operand a) r s first second lt = join_under (operand a) r s first second lt
join_tighter (joined l f t) r s first second lt =
    elim (cases_lt (level_of f) (level_of first)) [
      | inl under ↦
          ap (λ x. join x second s) (join_under l t r f first under)
          ∙ join_under l (join t first r) s f second (omega arith)
          ∙ ap (joined l f) (join_tighter t r s first second lt)
          ∙ sym (join_under l t (join r second s) f first under)
      | inr over ↦
          ap (λ x. join x second s) (join_over l t r f first over)
          ∙ join_under (joined l f t) r s first second lt
          ∙ sym (join_over l t (join r second s) f first over)
    ]

-- An expression of an operator's level is its left operand whole.
join_whole : (operator : Raw) (parts : List Raw) (x r : Operands) → Groups (level_of operator) parts x → join x operator r ≡ joined x operator r
join_whole operator parts x r (one n a) = refl
join_whole operator parts x r (two n ps left right first a b tight is split ga gb) = join_over a b r first operator tight

-- Behind a looser operator the parts of an expression are gathered to its right operand.
gather_operand : (level : ℕ) (parts : List Raw) (y : Operands) → Groups level parts y
    → (x : Operands) (operator : Raw) (more : List Raw) → level_of operator < level
    → gather x (operator ∷ (parts ++ more)) ≡ gather (join x operator y) more
gather_operand level parts y (one n a) x operator more lt = refl
gather_operand level parts y (two n ps left right first a b tight is split ga gb) x operator more lt =
    ap (λ ps. gather x (operator ∷ (ps ++ more))) split
    ∙ ap (λ ps. gather x (operator ∷ ps)) (append_assoc left (first ∷ right) more)
    ∙ gather_operand _ left a ga x operator (first ∷ (right ++ more)) (omega arith)
    ∙ gather_operand _ right b gb (join x operator a) first more (omega arith)
    ∙ ap (λ z. gather z more) (join_tighter x a b operator first (omega arith))
    ∙ ap (λ z. gather (join x operator z) more) (join_whole first left a b ga)

-- The parts of an expression are gathered first.
tree_first : (level : ℕ) (parts : List Raw) (y : Operands) → Groups level parts y → (more : List Raw) → tree_of (parts ++ more) ≡ raw_of (gather y more)
tree_first level parts y (one n a) more = refl
tree_first level parts y (two n ps left right operator a b tight is split ga gb) more =
    ap (λ ps. tree_of (ps ++ more)) split
    ∙ ap tree_of (append_assoc left (operator ∷ right) more)
    ∙ tree_first _ left a ga (operator ∷ (right ++ more))
    ∙ ap raw_of (gather_operand _ right b gb a operator more (omega arith))
    ∙ ap (λ z. raw_of (gather z more)) (join_whole operator left a b ga)

pub only_tree : (parts : List Raw) (tree : Raw) → Grouped 0 parts tree → tree ≡ tree_of parts
only_tree parts tree g =
    let u = untree 0 parts tree g in
    sym u.is ∙ sym (tree_first 0 parts u.operands u.groups []) ∙ ap tree_of (append-nil parts)

-- One more operator and operand.
groups_more : (level : ℕ) (parts : List Raw) (x : Operands) → Groups level parts x → (operator b : Raw) → level ≤ level_of operator → IsOperator operator
    → Groups level (parts ++ operator ∷ b ∷ []) (join x operator (operand b))
groups_more level parts x (one n a) operator b le is = two n (a ∷ operator ∷ b ∷ []) (a ∷ []) (b ∷ []) operator (operand a) (operand b) le is refl (one _ a) (one _ b)
groups_more level parts x (two n ps left right first l r tight known split gl gr) operator b le is =
    elim (cases_lt (level_of first) (level_of operator)) [
      | inl under ↦
          subst (Groups n (ps ++ operator ∷ b ∷ [])) (sym (join_under l r (operand b) first operator under))
          (two n (ps ++ operator ∷ b ∷ []) left (right ++ operator ∷ b ∷ []) first l (join r operator (operand b)) tight known
          (ap (λ t. t ++ operator ∷ b ∷ []) split ∙ append_assoc left (first ∷ right) (operator ∷ b ∷ []))
          gl (groups_more _ right r gr operator b (omega arith) is))
      | inr over ↦
          subst (Groups n (ps ++ operator ∷ b ∷ [])) (sym (join_over l r (operand b) first operator over))
          (two n (ps ++ operator ∷ b ∷ []) ps (b ∷ []) operator (joined l first r) (operand b) le is refl
          (two _ ps left right first l r over known split gl gr) (one _ b))
    ]

groups_all : (x : Operands) (parts : List Raw) (a : Raw) (rest : List Raw) → Groups 0 parts x → IsOperation (a ∷ rest) → Groups 0 (parts ++ rest) (gather x rest)
groups_all x parts a [] g is = subst (λ ps. Groups 0 ps x) (sym (append-nil parts)) g
groups_all x parts a (operator ∷ []) g is = absurd is.1
groups_all x parts a (operator ∷ b ∷ rest) g is =
    subst (λ ps. Groups 0 ps (gather (join x operator (operand b)) rest)) (append_assoc parts (operator ∷ b ∷ []) rest)
    (groups_all (join x operator (operand b)) (parts ++ operator ∷ b ∷ []) b rest (groups_more 0 parts x g operator b (omega arith) is.0) is.1)

pub some_tree : (parts : List Raw) → IsOperation parts → Grouped 0 parts (tree_of parts)
some_tree [] is = absurd is
some_tree (a ∷ rest) is = to_tree 0 (a ∷ rest) (gather (operand a) rest) (groups_all (operand a) (a ∷ []) a rest (one 0 a) is)
