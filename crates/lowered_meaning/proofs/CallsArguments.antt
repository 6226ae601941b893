-- Arguments, each kept over those behind it.
use Rattle.std.proofs.Common.{◌≡◌, ℕ, suc, ◌+◌, ◌^◌, ◌<◌, ◌≤◌, Bool, true, false, Option, Some, None, List, [], ◌∷◌, ◌++◌, length, refl, sym, ap, ◌∙◌, subst, arith}
use Rattle.std.specs.Prelude.{⊤, ◌||◌, map}
use Rattle.c_tree.specs.declared.tree.Expr.{Expr}
use Rattle.c_tree.specs.Runs.{State, Done, Part}
use Rattle.c_tree.specs.Nodes.{values_onto}
use Rattle.sound_programs.specs.Counted.{expr_nodes, exprs_nodes}
use Rattle.flow_graph.specs.declared.graph.Graph.{Graph}
use Rattle.flow_graph.specs.declared.graph.Operand.{Operand}
use Rattle.flow_graph.specs.declared.graph.Operand.TheVariants.{Const, Object}
use Rattle.flow_graph.specs.Operations.{Words, operand_word}
use Rattle.flow_graph.specs.declared.nodes.Around.{Around}
use Rattle.flow_graph.specs.Flow.{Spot}
use Rattle.lowered_graphs.specs.Making.{Counts, Made}
use Rattle.lowered_graphs.specs.Exprs.{LoweredExpr, lowered, calls, has_any, callees_of, arguments_onto}
use Rattle.lowered_graphs.proofs.ExprLevels.{has_any_append}
use Rattle.lowered_meaning.specs.Tracks.{Tracks}
use Rattle.lowered_meaning.specs.Keeps.{Ground, Kept, KeptStore, SameShape, Ready, StaysBy, IsOperand, Agrees}
use Rattle.lowered_meaning.proofs.TrackLemmas.{tracks_weaker, tracks_none}
use Rattle.lowered_meaning.proofs.KeepLemmas.{kept_both, store_both, shape_both, operand_stays}
use Rattle.lowered_meaning.proofs.ElementSteps.{expr_then}
use Rattle.lowered_meaning.proofs.AssignActions.{ExprOk}

-- the operands have these words
abbrev pub WordsAre : Words → List Operand → List ℕ → Type 0
WordsAre objects [] [] = ⊤
WordsAre objects (x ∷ xs) (v ∷ vs) = ((operand_word objects x ≡ v) × (v < 2 ^ 16)) × WordsAre objects xs vs
WordsAre objects _ _ = ⊥

-- the operands keep their words
abbrev pub AreOperands : Ground → Bool → ℕ → List Operand → Type 0
AreOperands w later t [] = ⊤
AreOperands w later t (x ∷ xs) = IsOperand w later t x × AreOperands w later t xs

pub operand_more : (w : Ground) (l l' : Bool) (t t' : ℕ) (x : Operand) → (l ≡ false → l' ≡ false) → t ≤ t' → IsOperand w l t x → IsOperand w l' t' x
operand_more w l l' t t' (Const n) f le is = is
operand_more w l l' t t' (Object o) f le is = by_owner (w.owner o) is
  where
    by_owner : (m : Option ℕ) → StaysBy w l t o m → StaysBy w l' t' o m
    by_owner None e = f e
    by_owner (Some m) e = (e.0, omega (arith, e.1, le))

operands_more : (w : Ground) (l l' : Bool) (t t' : ℕ) (xs : List Operand) → (l ≡ false → l' ≡ false) → t ≤ t' → AreOperands w l t xs → AreOperands w l' t' xs
operands_more w l l' t t' [] f le h = tt
operands_more w l l' t t' (x ∷ xs) f le h = (operand_more w l l' t t' x f le h.0, operands_more w l l' t t' xs f le h.1)

operands_and : (w : Ground) (l : Bool) (t : ℕ) (xs : List Operand) (x : Operand) → AreOperands w l t xs → IsOperand w l t x → AreOperands w l t (xs ++ x ∷ [])
operands_and w l t [] x h i = (i, tt)
operands_and w l t (y ∷ ys) x h i = (h.0, operands_and w l t ys x h.1 i)

words_stay : (w : Ground) (l called : Bool) (t : ℕ) (xs : List Operand) (vs : List ℕ) (x y : Words) → (l ≡ false → called ≡ false) → AreOperands w l t xs → Kept w called t x y → WordsAre x xs vs → WordsAre y xs vs
words_stay w l called t [] [] x y f h kept e = tt
words_stay w l called t (o ∷ os) (v ∷ vs) x y f h kept e = ((operand_stays w l called t o x y f h.0 kept ∙ e.0.0, e.0.1), words_stay w l called t os vs x y f h.1 kept e.1)
words_stay w l called t [] (v ∷ vs) x y f h kept e = absurd e
words_stay w l called t (o ∷ os) [] x y f h kept e = absurd e

words_and : (objects : Words) (xs : List Operand) (vs : List ℕ) (x : Operand) (v : ℕ) → WordsAre objects xs vs → operand_word objects x ≡ v → v < 2 ^ 16 → WordsAre objects (xs ++ x ∷ []) (vs ++ v ∷ [])
words_and objects [] [] x v h e fits = ((e, fits), tt)
words_and objects (o ∷ os) (u ∷ vs) x v h e fits = (h.0, words_and objects os vs x v h.1 e fits)
words_and objects [] (u ∷ vs) x v h e fits = absurd h
words_and objects (o ∷ os) [] x v h e fits = absurd h

-- arguments were evaluated: the operands have the values
pub record Argued (w : Ground) (scope : ℕ → Type 0) (called later : Bool) (t t' : ℕ) (xs : List Operand) (s : Spot) (old : State) (vs : List ℕ) (d : State) (z : Spot) : Type 0 where
  pub words : WordsAre z.objects xs vs
  pub operands : AreOperands w later t' xs
  pub agrees : Agrees w scope d z
  pub kept : Kept w called t s.objects z.objects
  pub shape : SameShape s.objects z.objects
  pub store : KeptStore w called t old d

or_left : (a b c : Bool) → (a || (b || c)) ≡ false → (a || c) ≡ false
or_left true b c e = e
or_left false true c e = cc
or_left false false c e = e

or_first : (a b c : Bool) → (a || (b || c)) ≡ false → b ≡ false
or_first true b c e = cc
or_first false true c e = cc
or_first false false c e = refl

or_second : (b c : Bool) → (b || c) ≡ false → c ≡ false
or_second true c e = cc
or_second false c e = e

or_one : (b c : Bool) → (b || c) ≡ false → b ≡ false
or_one true c e = cc
or_one false c e = refl

module _ (g : Graph) (w : Ground) (scope : ℕ → Type 0) (most : ℕ) (f : Expr → Part ℕ) where
  abbrev pub AllOk : List Expr → Type 0
  AllOk [] = ⊤
  AllOk (e ∷ es) = ExprOk g w scope most f e × AllOk es

  abbrev pub emits : List Expr → List LoweredExpr
  emits es = map (lowered w.setting) es

  abbrev pub any : List Expr → Bool
  any es = has_any (callees_of (emits es))

  any_more : (e : Expr) (es : List Expr) → any (e ∷ es) ≡ (calls (lowered w.setting e) || any es)
  any_more e es = has_any_append (lowered w.setting e).callees (callees_of (emits es))

  pub grows_arguments : (es : List Expr) (xs : List Operand) (later : Bool) (c : Counts) → AllOk es → c.temp ≤ (arguments_onto xs later (emits es) c).counts.temp
  grows_arguments [] xs later c ok = omega arith
  grows_arguments (e ∷ es) xs later c ok =
      omega (arith, (ok.0 (later || any es)).grows c, grows_arguments es (xs ++ ((lowered w.setting e).emit (later || any es) c).value ∷ []) later ((lowered w.setting e).emit (later || any es) c).counts ok.1)

  pub tracks_arguments : (es : List Expr) (xs : List Operand) (vs : List ℕ) (called later : Bool) (c : Counts) (k : Around) (s : Spot) (d : State) (a o : ℕ)
      → AllOk es → (called ≡ false → any es ≡ false) → w.base ≤ c.temp → (arguments_onto xs later (emits es) c).counts.temp ≤ w.top → Agrees w scope d s → Ready w s.objects
      → WordsAre s.objects xs vs → AreOperands w (later || any es) c.temp xs
      → Tracks g most (a + exprs_nodes es) a o (length es + o) (values_onto f vs es d) k (arguments_onto xs later (emits es) c).items s
      (Argued w scope called later c.temp (arguments_onto xs later (emits es) c).counts.temp (arguments_onto xs later (emits es) c).value s d)
  tracks_arguments [] xs vs called later c k s d a o ok fc le top agrees ready words operands =
      tracks_weaker g most a a o o (a + 0) a o (0 + o) (Done [] vs d) k [] s goal goal (omega arith) (omega arith) (omega arith) (omega arith) (λ u e z r. r)
      (tracks_none g most a o vs d k s goal
      (record { words = words; operands = operands_more w (later || false) later c.temp c.temp xs (or_one later false) (omega arith) operands; agrees = agrees; kept = λ i fixed. refl; shape = λ i. refl; store = λ i fixed. refl }))
    where
      goal : List ℕ → State → Spot → Type 0
      goal = Argued w scope called later c.temp c.temp xs s d
  tracks_arguments (e ∷ es) xs vs called later c k s d a o ok fc le top agrees ready words operands =
      tracks_weaker g most (a + exprs_nodes es + expr_nodes e) a o (length es + suc o) (a + exprs_nodes (e ∷ es)) a o (length (e ∷ es) + o) (values_onto f vs (e ∷ es) d) k (arguments_onto xs later (emits (e ∷ es)) c).items s goal goal
      (omega arith) (omega arith) (omega arith) (omega arith) (λ u e' z r. r)
      (expr_then g w scope most (expr_nodes e) (calls (lowered w.setting e)) (later || any es) (f e) ((lowered w.setting e).emit (later || any es)) (λ v. values_onto f (vs ++ v ∷ []) es) (λ x. arguments_onto (xs ++ x ∷ []) later (emits es))
      c k s d (a + exprs_nodes es) a o (length es + suc o) goal (ok.0 (later || any es)) le (omega (arith, top, more)) agrees ready
      (λ v e' z cs ready1 fits r. tracks_weaker g most (a + exprs_nodes es) a (suc o) (length es + suc o) (a + exprs_nodes es) a (suc o) (length es + suc o) (values_onto f (vs ++ v ∷ []) es e') k (arguments_onto (xs ++ m.value ∷ []) later (emits es) m.counts).items z _ goal
      (omega arith) (omega arith) (omega arith) (omega arith)
      (λ us d2 y q. record {
        words = q.words;
        operands = q.operands;
        agrees = q.agrees;
        kept = kept_both w called ce called c.temp c.temp m.counts.temp s.objects z.objects y.objects fe (λ b. b) (omega arith) up r.kept q.kept;
        shape = shape_both s.objects z.objects y.objects r.shape q.shape;
        store = store_both w called ce called c.temp c.temp m.counts.temp d e' d2 fe (λ b. b) (omega arith) up r.store q.store;
      })
      (tracks_arguments es (xs ++ m.value ∷ []) (vs ++ v ∷ []) called later m.counts k z e' a (suc o) ok.1 (λ b. or_second ce (any es) (sym (any_more e es) ∙ fc b)) (omega (arith, le, up)) top r.agrees ready1
      (words_and z.objects xs vs m.value v (words_stay w (later || any (e ∷ es)) ce c.temp xs vs s.objects z.objects (λ b. or_first later ce (any es) (later_is b)) operands r.kept words) r.value (subst (λ u. u < 2 ^ 16) r.value fits))
      (operands_and w (later || any es) m.counts.temp xs m.value
      (operands_more w (later || any (e ∷ es)) (later || any es) c.temp m.counts.temp xs (λ b. or_left later ce (any es) (later_is b)) up operands)
      ((ok.0 (later || any es)).stays c le (omega (arith, top, more)))))))
    where
      m : Made Operand
      m = (lowered w.setting e).emit (later || any es) c

      ce : Bool
      ce = calls (lowered w.setting e)

      up : c.temp ≤ m.counts.temp
      up = (ok.0 (later || any es)).grows c

      more : m.counts.temp ≤ (arguments_onto (xs ++ m.value ∷ []) later (emits es) m.counts).counts.temp
      more = grows_arguments es (xs ++ m.value ∷ []) later m.counts ok.1

      fe : called ≡ false → ce ≡ false
      fe b = or_one ce (any es) (sym (any_more e es) ∙ fc b)

      later_is : (later || any (e ∷ es)) ≡ false → (later || (ce || any es)) ≡ false
      later_is b = ap (λ x. later || x) (sym (any_more e es)) ∙ b

      goal : List ℕ → State → Spot → Type 0
      goal = Argued w scope called later c.temp (arguments_onto (xs ++ m.value ∷ []) later (emits es) m.counts).counts.temp (arguments_onto (xs ++ m.value ∷ []) later (emits es) m.counts).value s d
