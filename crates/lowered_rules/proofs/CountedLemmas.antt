-- A loop of a known number of turns fits behind the copy that begins it, where its body spares what it counts.
use Rattle.std.proofs.Common.{◌≡◌, ◌≢◌, ℕ, ◌-◌, ◌<◌, ◌^◌, ◌==◌, true, Option, Some, None, List, [], ◌∷◌, refl, arith}
use Rattle.base_io.specs.declared.place.Place.{Place}
use Rattle.flow_graph.specs.declared.graph.Operand.TheVariants.{Const, Object}
use Rattle.flow_graph.specs.declared.graph.OpKind.TheVariants as kind
use Rattle.flow_graph.specs.declared.graph.Op.{Op}
use Rattle.flow_graph.specs.declared.graph.Item.{Item}
use Rattle.flow_graph.specs.declared.graph.Item.TheVariants.{One, Loop}
use Rattle.flow_graph.specs.declared.graph.Item.TheOpen.{Item-F}
use Rattle.flow_graph.specs.Rules.{Where, Open, Fitting, Doing, Turn, fitting, fittings, fitting_by, doing, doings, doing_both, list_fits, loop_fits, in_loop, turns_of, with_turns}
use Rattle.flow_graph.specs.Rules as rules
use Rattle.flow_graph.proofs.LaidLemmas.{laid-One, laid-Loop}
use Rattle.lowered_graphs.specs.Making.{op_of, go, zero_operand}
use Rattle.lowered_rules.proofs.EachLemmas.{Each}
use Rattle.lowered_rules.proofs.ItemLevels.{fitting-One, fitting-Loop, doing-One, doing-Loop}
use Rattle.lowered_rules.proofs.FitLemmas.{Ground, Writes, Does, Fits, does_nothing, does_both, does_first, does_op, ops_item, ops_append, loop_ops, fits_one, does_item}

same_is : (n : ℕ) → (n == n) ≡ true
same_is n = grind arith

module _ (at : Place) (i a b c n1 n2 n3 n4 : ℕ) (at1 : Place) where
  abbrev Copies : Op
  Copies = op_of kind.Copy (Some i) (Const a) zero_operand None at1 n1

  abbrev Tests : Op
  Tests = op_of kind.Below None (Object i) (Const b) None at n2

  abbrev Steps : Op
  Steps = op_of kind.Step (Some i) (Object i) zero_operand None at n3

  abbrev Back : Op
  Back = go at n4

  counts : (w : Where) (t : List Fitting) → (c == b - a) ≡ true → list_fits (in_loop w (Some c)) Open None t ≡ true
      → loop_fits w (Some Copies) [] Tests t (fitting_by (Item-F.One Steps) ∷ []) Back (Some c) ≡ true
  counts w t e h = rw (same_is i, e, h) refl

  module _ (G : Ground) (avoid : Option ℕ) (w : Where) where
    pub fits_counted : (post : List Item) → (c == b - a) ≡ true → G.scalar i → G.own i → Writes G avoid i → a < 2 ^ 16 → b < 2 ^ 16
        → Fits G avoid (in_loop w (Some c)) Open post → Each (λ o. o ≢ i) (doings post).writes → Fits G avoid w Open (One Copies ∷ Loop [] Tests post (One Steps ∷ []) Back (Some c) ∷ [])
    fits_counted post e scalar own writes la lb h spared = record {
      ops = ops_append G (One Copies ∷ []) (Loop [] Tests post (One Steps ∷ []) Back (Some c) ∷ []) copies.ops
          (ops_item G (Loop [] Tests post (One Steps ∷ []) Back (Some c)) _ (laid-Loop [] Tests post (One Steps ∷ []) Back (Some c))
          (loop_ops G [] Tests post (One Steps ∷ []) Back (λ k. tt) (record { dest = refl; a = scalar; b = lb; array = refl; count = (i, b, refl, refl) }) h.ops
          (ops_item G (One Steps) _ (laid-One Steps) (λ k. (record { dest = scalar; a = scalar; b = refl; array = refl; count = (i, refl, refl) }, tt))) (record { dest = refl; a = refl; b = refl; array = refl; count = tt })));
      list = λ before. rw (fitting-One Copies, fitting-Loop [] Tests post (One Steps ∷ []) Back (Some c), fitting-One Steps) (counts w (fittings post) e (h.list None));
      does = does_both G avoid (doing (One Copies)) (doings (Loop [] Tests post (One Steps ∷ []) Back (Some c) ∷ []))
          (does_first G avoid (doing (One Copies)) rules.nothing copies.does)
          (does_item G avoid (Loop [] Tests post (One Steps ∷ []) Back (Some c)) _ (doing-Loop [] Tests post (One Steps ∷ []) Back (Some c)) loop_done);
    }
      where
        copies : Fits G avoid w Open (One Copies ∷ [])
        copies = fits_one G avoid w Open Copies (record { dest = scalar; a = la; b = refl; array = refl; count = tt }) refl (writes, tt)

        d : Does G avoid (doing_both (doings []) (doing_both (doings post) (doings (One Steps ∷ []))))
        d = does_both G avoid rules.nothing _ (does_nothing G avoid)
            (does_both G avoid (doings post) (doings (One Steps ∷ [])) h.does (does_item G avoid (One Steps) _ (doing-One Steps) (does_op G avoid Steps (writes, tt))))

        loop_done : Does G avoid (with_turns (turns_of (Some c) Tests (doings post)) (doing_both (doings []) (doing_both (doings post) (doings (One Steps ∷ [])))))
        loop_done = record { calls = d.calls; writes = d.writes; turns = (record { own = own; spared = spared; calls = h.does.calls }, d.turns) }
