-- A loop is conditional just where its planner finds turns.
use Rattle.std.proofs.Common.{◌≡◌, ◌++◌, ℕ, Bool, true, false, List, ◌∷◌, refl, sym, ap, ◌∙◌, subst, append_assoc, arith}
use Rattle.std.specs.Prelude.{Option, None, Some, IfSome, MatchOption}
use Rattle.flow_graph.specs.declared.graph.Op.{Op}
use Rattle.flow_graph.specs.declared.graph.Item.{Item}
use Rattle.flow_graph.specs.declared.graph.Item.TheVariants as item
use Rattle.loop_checkpoints.specs.Loops as loops
use Rattle.chain_units.specs.declared.weighing.Behind.TheVariants.{BeforeEither}
use Rattle.flow_graph.specs.Nodes.{first_of, laid_items}
use Rattle.std.specs.Option.{option_map}
use Rattle.std.specs.Prelude.{Vec}
use Rattle.std.specs.declared.alloc.Global.{Global}
use Rattle.item_weights.specs.declared.uses.Weights.{Weights}
use Rattle.chain_units.specs.declared.cutting.Turning as code
use Rattle.chain_units.specs.declared.cutting.Greatest as greatests
use Rattle.chain_units.specs.Known.{Known, Weighs, or_nothing, told_weights}
use Rattle.chain_units.specs.Wanted.{wanted}
use Rattle.chain_units.specs.Costs.{one_turn_fits, touched_in_all}
use Rattle.chain_units.specs.Marks.{is_conditional, loop_weighed, turn_fits, turn_of, turning_of}
use Rattle.chain_units.specs.Parts.{IsConditional}
use Rattle.chain_units.specs.Planned.{IsGreatest, NoTurnFits}
use Rattle.chain_units.specs.Sums.{Rises}
use Rattle.chain_units.proofs.Meeting.{touched-One}
use Rattle.chain_units.proofs.OneTurn.{tests_one_turn}
use Rattle.chain_units.proofs.Sorted.{objects_differ}
use Rattle.chain_units.proofs.UnitsLemmas.{touched-append}

module _ (k : Known) (touched : List ℕ) (top behind : ℕ) (w : Weighs) (rises : Rises w.uses) where
  differ : loops.Differ (turning_of k touched top behind w).objects
  differ = objects_differ k (k.before top) (wanted k (BeforeEither top behind)) touched w.uses rises

  pub none_fits : NoTurnFits (turning_of k touched top behind w) 1024 k.board.budget → one_turn_fits (turning_of k touched top behind w) 1024 k.board.budget ≡ false
  none_fits none = by (one_turn_fits (turning_of k touched top behind w) 1024 k.board.budget) refl
    where
      by : (b : Bool) → one_turn_fits (turning_of k touched top behind w) 1024 k.board.budget ≡ b → b ≡ false
      by true e = let (homes, words, cost) = (tests_one_turn (turning_of k touched top behind w) 1024 k.board.budget differ).0 e in let above = none homes words in absurd (omega (arith, above, cost))
      by false e = refl

  pub one_fits : (NoTurnFits (turning_of k touched top behind w) 1024 k.board.budget → ⊥) → one_turn_fits (turning_of k touched top behind w) 1024 k.board.budget ≡ true
  one_fits some = by (one_turn_fits (turning_of k touched top behind w) 1024 k.board.budget) refl
    where
      by : (b : Bool) → one_turn_fits (turning_of k touched top behind w) 1024 k.board.budget ≡ b → b ≡ true
      by true e = refl
      by false e = absurd (some ((tests_one_turn (turning_of k touched top behind w) 1024 k.board.budget differ).1 e))

-- the objects of a turn, part by part
pub touched-turn : (k : Known) (pre : List Item) (test : Op) (post step : List Item) → touched_in_all k (turn_of pre test post step) ≡ (touched_in_all k pre ++ touched_in_all k post) ++ touched_in_all k step
touched-turn k pre test post step =
    touched-append k pre (item.One test ∷ (post ++ step))
    ∙ (ap (λ (xs : List ℕ). touched_in_all k pre ++ (xs ++ touched_in_all k (post ++ step))) (touched-One k test)
    ∙ (ap (λ (xs : List ℕ). touched_in_all k pre ++ xs) (touched-append k post step) ∙ sym (append_assoc (touched_in_all k pre) (touched_in_all k post) (touched_in_all k step))))

-- what a match of an option tells of the value that it is
pub in_some : {T : Type 0} (P : Type 0) (Q : T → Type 0) (r : Option T) (x : T) → r ≡ Some x → MatchOption r P Q → Q x
in_some P Q r x e h = subst (λ s. MatchOption s P Q) e h

pub in_none : {T : Type 0} (P : Type 0) (Q : T → Type 0) (r : Option T) → r ≡ None → MatchOption r P Q → P
in_none P Q r e h = subst (λ s. MatchOption s P Q) e h

-- the turns that the planner finds are those of the loop
module _ (k : Known) (pre : List Item) (test : Op) (post step : List Item) (behind top : ℕ) (touched : List ℕ) (w : Weighs)
    (weighs : k.weights (turn_of pre test post step) ≡ Some w) (touches : touched ≡ touched_in_all k (turn_of pre test post step)) (tops : top ≡ first_of (laid_items pre) test.number) where
  abbrev parts : List Item
  parts = turn_of pre test post step

  abbrev first_op : ℕ
  first_op = first_of (laid_items pre) test.number

  abbrev fits_by : List ℕ → ℕ → Bool
  fits_by ts n = one_turn_fits (turning_of k ts n behind w) 1024 k.board.budget

  is_same : is_conditional k parts first_op behind ≡ fits_by touched top
  is_same = ap (λ (o : Option Weighs). turn_fits k parts first_op behind o) weighs ∙ sym (ap (λ (ts : List ℕ). fits_by ts top) touches ∙ ap (λ (n : ℕ). fits_by (touched_in_all k parts) n) tops)

  -- the loop with its turn
  abbrev with_turn : Vec ℕ Global → Weights → greatests.Greatest → code.Turning
  with_turn vs ws g = record { turn = record { first = top; behind = BeforeEither top behind; touched = vs; weights = ws }; greatest = g }

  pub turning_tells : (vs : Vec ℕ Global) (ws : Weights) → touched ≡ vs.items → w ≡ told_weights ws → (found : Option greatests.Greatest)
      → MatchOption found (fits_by touched top ≡ false) (λ t. fits_by touched top ≡ true)
      → IfSome found (λ t. IsGreatest (turning_of k touched top behind w) 1024 k.board.budget t.turns t.homes.items t.cost)
      → MatchOption (option_map (with_turn vs ws) found) (is_conditional k parts first_op behind ≡ false) (IsConditional k pre test post step behind)
  turning_tells vs ws e e' None fits greatest = is_same ∙ fits
  turning_tells vs ws e e' (Some t) fits greatest =
      let by_touched = subst (λ (ts : List ℕ). IsGreatest (turning_of k ts top behind w) 1024 k.board.budget t.turns t.homes.items t.cost) touches greatest in
      let by_top = subst (λ (n : ℕ). IsGreatest (loop_weighed k parts n behind w) 1024 k.board.budget t.turns t.homes.items t.cost) tops by_touched in
      record {
        yes = is_same ∙ fits;
        turn = record {
          first = tops;
          behind = ap (λ (n : ℕ). BeforeEither n behind) tops;
          touched = sym e ∙ touches;
          weights = sym e' ∙ sym (ap or_nothing weighs);
        };
        greatest = subst (λ (o : Option Weighs). IsGreatest (loop_weighed k parts first_op behind (or_nothing o)) 1024 k.board.budget t.turns t.homes.items t.cost) (sym weighs) by_top;
      }
