-- With all objects in FRAM a piece of code costs no more than its weights in FRAM.
use Rattle.std.specs.Prelude.{if◌then◌else◌, map}
use Rattle.std.proofs.Common.{◌≡◌, ◌⊎◌, ◌<◌, ◌≤◌, ◌+◌, ◌*◌, ℕ, Bool, true, false, List, [], ◌∷◌, inl, inr, refl, sym, ap, arith}
use Rattle.std.proofs.Math.Nat.{mul-le-mul_right}
use Rattle.std.proofs.lemmas.Bool.{cases_lt}
use Rattle.board_table.specs.declared.board.Board.{Board}
use Rattle.home_planner.specs.Sets.{is_in}
use Rattle.loop_checkpoints.specs.Loops as loops
use Rattle.item_weights.specs.declared.uses.Use.{Use}
use Rattle.chain_units.specs.Known.{Known, Weighs, all_fram, both, fram_cost, nothing, weight_in_fram, with_use, with_uses}
use Rattle.item_weights.specs.Weights.{kept}
use Rattle.chain_units.specs.Costs.{free_uses, object_of, turns_cost, weighed, with_barred, words_taken}
use Rattle.chain_units.proofs.Adding.{joined, use_before, use_behind, use_same}

-- ---- sums of uses

products : (r s f : ℕ) → kept (r + s) * f ≤ r * f + s * f
products r s f = let le : kept (r + s) ≤ r + s = omega arith in omega (arith, mul-le-mul_right f le)

joined_cost : (b : Board) (u v : Use) → fram_cost b (joined u v) ≤ fram_cost b u + fram_cost b v
joined_cost b u v = omega (arith, products u.reads v.reads b.access.fram_read, products u.writes v.writes b.access.fram_write)

order : (m n : ℕ) → (m < n) ⊎ ((m ≡ n) ⊎ (n < m))
order m n = elim (cases_lt m n) [ inl h ↦ inl h | inr h ↦ elim (cases_lt n m) [ inl g ↦ inr (inr g) | inr g ↦ inr (inl (omega arith)) ] ]

use_cost : (b : Board) (us : List Use) (v : Use) → all_fram b (with_use us v) ≤ all_fram b us + fram_cost b v
use_cost b [] v = omega arith
use_cost b (u ∷ us) v =
    elim (order v.object u.object) [
      | inl h ↦ let e = ap (λ (ws : List Use). all_fram b ws) (use_before u v us h) in omega (arith, e)
      | inr r ↦ elim r [
        | inl h ↦ let e = ap (λ (ws : List Use). all_fram b ws) (use_same u v us (sym h)) in omega (arith, e, joined_cost b u v)
        | inr h ↦ let e = ap (λ (ws : List Use). all_fram b ws) (use_behind u v us h) in omega (arith, e, use_cost b us v)
      ]
    ]

uses_cost : (b : Board) (us vs : List Use) → all_fram b (with_uses us vs) ≤ all_fram b us + all_fram b vs
uses_cost b us [] = omega arith
uses_cost b us (v ∷ vs) = omega (arith, uses_cost b (with_use us v) vs, use_cost b us v)

-- ---- code with no object in SRAM

module _ (k : Known) (wanted_first wanted_behind : ℕ → Bool) (barred : List ℕ) where
  no_words : (us : List Use) → loops.words_of (map (object_of k wanted_first wanted_behind) us) [] ≡ 0
  no_words [] = refl
  no_words (u ∷ us) = omega (arith, no_words us)

  free_cost : (base : ℕ) (us : List Use)
      → with_barred k.board barred base us + loops.objects_cost 1 (map (object_of k wanted_first wanted_behind) (free_uses barred us)) [] ≤ base + all_fram k.board us
  free_cost base [] = omega arith
  free_cost base (u ∷ us) = by_test (is_in barred u.object) (λ n. free_cost n us)
    where
      by_test : (t : Bool)
          → ((n : ℕ) → with_barred k.board barred n us + loops.objects_cost 1 (map (object_of k wanted_first wanted_behind) (free_uses barred us)) [] ≤ n + all_fram k.board us)
          → with_barred k.board barred (if t then kept (base + fram_cost k.board u) else base) us
          + loops.objects_cost 1 (map (object_of k wanted_first wanted_behind) (if t then free_uses barred us else u ∷ free_uses barred us)) []
          ≤ base + (fram_cost k.board u + all_fram k.board us)
      by_test true less = omega (arith, less (kept (base + fram_cost k.board u)))
      by_test false less = omega (arith, less base)

  pub fram_words : (once each_turn : ℕ) (w : Weighs) → words_taken (weighed k once each_turn barred wanted_first wanted_behind w) [] ≡ 0
  fram_words once each_turn w = no_words (free_uses barred w.uses)

  pub fram_turn : (once each_turn : ℕ) (w : Weighs) → turns_cost (weighed k once each_turn barred wanted_first wanted_behind w) 1 [] ≤ (once + each_turn) + weight_in_fram k.board w
  fram_turn once each_turn w = omega (arith, free_cost (kept (w.base + each_turn)) w.uses)

pub alone_cost : (b : Board) (w : Weighs) → weight_in_fram b (both nothing w) ≤ weight_in_fram b w
alone_cost b w = omega (arith, uses_cost b [] w.uses)
