-- The operators that wait are those on the right edge of the operands that are gathered.
use Rattle.std.proofs.Common.{◌≡◌, ℕ, List, [], ◌∷◌, ◌+◌, ◌<◌, ◌≤◌, inl, inr, refl, sym, ap, ap₂, ◌∙◌, subst, arith}
use Rattle.std.proofs.lemmas.Bool.{cond-true, cond-false, lt-ltb, le-ltb, cases_lt}
use Rattle.c_parse.specs.declared.raw.Raw.{Raw}
use Rattle.c_parse.specs.declared.raw.Raw.TheVariants.{Node}
use Rattle.c_parse.specs.declared.raw.RawRule.TheVariants.{Binary}
use Rattle.c_parse.specs.declared.grouping.Pending.{Pending}
use Rattle.c_parse.specs.Precedence.{level_of, Operands, operand, joined, join, gather, raw_of, tree_of}
use Rattle.c_parse.specs.Pending.{folded, reduced}
use Rattle.c_parse.proofs.Groups.{join_under, join_over}

-- this operator waits too, behind what waits and the tree before it
abbrev pub held : Raw → List Pending × Raw → List Pending
held operator s = record { left = s.1; operator = operator } ∷ s.0

-- the tree of what waits, the tree before it, and the operators and operands that follow
abbrev pub run : List Pending → Raw → List Raw → Raw
run waiting tree (operator ∷ next ∷ rest) = run (held operator (reduced operator waiting tree)) (Node Binary (next ∷ [])) rest
run waiting tree _ = folded waiting tree

-- the operators on the right edge, the last first, behind others
abbrev edge : Operands → List Pending → List Pending
edge (operand a) before = before
edge (joined l operator r) before = edge r (record { left = raw_of l; operator = operator } ∷ before)

abbrev last : Operands → Raw
last (operand a) = Node Binary (a ∷ [])
last (joined l operator r) = last r

-- each operator on the right edge is of this level at least, and binds more tightly than the one before
abbrev Rises : ℕ → Operands → Type 0
Rises n (operand a) = Unit {0}
Rises n (joined l operator r) = (n ≤ level_of operator) × Rises (level_of operator + 1) r

rises_from : (m n : ℕ) (x : Operands) → m ≤ n → Rises n x → Rises m x
rises_from m n (operand a) le h = tt
rises_from m n (joined l operator r) le h = (omega arith, h.1)

rises_join : (n : ℕ) (x : Operands) (operator b : Raw) → Rises n x → n ≤ level_of operator → Rises n (join x operator (operand b))
rises_join n (operand a) operator b h le = (le, tt)
rises_join n (joined l first r) operator b h le =
    elim (cases_lt (level_of first) (level_of operator)) [
      | inl under ↦ subst (Rises n) (sym (join_under l r (operand b) first operator under)) (h.0, rises_join (level_of first + 1) r operator b h.1 (omega arith))
      | inr over ↦ subst (Rises n) (sym (join_over l r (operand b) first operator over)) (le, tt)
    ]

folded_edge : (x : Operands) (before : List Pending) → folded (edge x before) (last x) ≡ folded before (raw_of x)
folded_edge (operand a) before = refl
folded_edge (joined l operator r) before = folded_edge r (record { left = raw_of l; operator = operator } ∷ before)

-- All that bind as tightly as the operator are folded.
reduced_edge : (operator : Raw) (x : Operands) (before : List Pending) → Rises (level_of operator) x → reduced operator (edge x before) (last x) ≡ reduced operator before (raw_of x)
reduced_edge operator (operand a) before h = refl
reduced_edge operator (joined l first r) before h =
    reduced_edge operator r (record { left = raw_of l; operator = first } ∷ before) (rises_from (level_of operator) (level_of first + 1) r (omega arith) h.1)
    ∙ cond-false _ _ _ (le-ltb _ _ h.0)

-- The last that waits is looser than the operator.
abbrev Looser : Raw → List Pending → Type 0
Looser operator [] = Unit {0}
Looser operator (p ∷ before) = level_of p.operator < level_of operator

reduced_stays : (operator : Raw) (before : List Pending) (tree : Raw) → Looser operator before → reduced operator before tree ≡ (before, tree)
reduced_stays operator [] tree h = refl
reduced_stays operator (p ∷ before) tree h = cond-true _ _ _ (lt-ltb _ _ h)

edge_join : (n : ℕ) (x : Operands) (operator b : Raw) (before : List Pending) → Rises n x → Looser operator before
    → held operator (reduced operator (edge x before) (last x)) ≡ edge (join x operator (operand b)) before
edge_join n (operand a) operator b before h loose = ap (held operator) (reduced_stays operator before (Node Binary (a ∷ [])) loose)
edge_join n (joined l first r) operator b before h loose =
    elim (cases_lt (level_of first) (level_of operator)) [
      | inl under ↦
          edge_join (level_of first + 1) r operator b (record { left = raw_of l; operator = first } ∷ before) h.1 under
          ∙ ap (λ x. edge x before) (sym (join_under l r (operand b) first operator under))
      | inr over ↦
          ap (held operator) (reduced_edge operator (joined l first r) before (over, h.1) ∙ reduced_stays operator before (raw_of (joined l first r)) loose)
          ∙ ap (λ x. edge x before) (sym (join_over l r (operand b) first operator over))
    ]

last_join : (x : Operands) (operator b : Raw) → last (join x operator (operand b)) ≡ Node Binary (b ∷ [])
last_join (operand a) operator b = refl
last_join (joined l first r) operator b =
    elim (cases_lt (level_of first) (level_of operator)) [
      | inl under ↦ ap last (join_under l r (operand b) first operator under) ∙ last_join r operator b
      | inr over ↦ ap last (join_over l r (operand b) first operator over)
    ]

run_edge : (x : Operands) (rest : List Raw) → Rises 0 x → run (edge x []) (last x) rest ≡ raw_of (gather x rest)
run_edge x [] h = folded_edge x []
run_edge x (operator ∷ []) h = folded_edge x []
run_edge x (operator ∷ b ∷ rest) h =
    ap₂ (λ s t. run s t rest) (edge_join 0 x operator b [] h tt) (sym (last_join x operator b))
    ∙ run_edge (join x operator (operand b)) rest (rises_join 0 x operator b h (omega arith))

-- From the first operand the whole tree is made.
pub run_first : (first : Raw) (rest : List Raw) → run [] (Node Binary (first ∷ [])) rest ≡ tree_of (first ∷ rest)
run_first first rest = run_edge (operand first) rest tt

pub run_begins : (waiting : List Pending) (tree first : Raw) (rest parts : List Raw) → waiting ≡ [] → tree ≡ Node Binary (first ∷ []) → parts ≡ first ∷ rest → run waiting tree rest ≡ tree_of parts
run_begins waiting tree first rest parts none is split = ap₂ (λ s t. run s t rest) none is ∙ run_first first rest ∙ ap tree_of (sym split)

pub run_goes_on : (waiting less more : List Pending) (tree operator next left new : Raw) (rest after : List Raw)
    → rest ≡ operator ∷ next ∷ after → (less, left) ≡ reduced operator waiting tree → more ≡ record { left = left; operator = operator } ∷ less → new ≡ Node Binary (next ∷ [])
    → run more new after ≡ run waiting tree rest
run_goes_on waiting less more tree operator next left new rest after split turned grown is =
    ap₂ (λ s t. run s t after) (grown ∙ ap (held operator) turned) is ∙ ap (run waiting tree) (sym split)
