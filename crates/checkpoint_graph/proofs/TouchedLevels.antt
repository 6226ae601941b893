-- The objects that flat functions touch, item by item.
use Rattle.std.specs.Prelude.{map, if◌then◌else◌, Option, None, Some}
use Rattle.std.proofs.Common.{◌≡◌, ◌++◌, ℕ, List, [], ◌∷◌, refl, sym, ap, ◌∙◌, append_assoc}
use Rattle.flow_graph.specs.declared.graph.Item.{Item, out-Item}
use Rattle.flow_graph.specs.declared.graph.Item.TheOpen.{Item-F}
use Rattle.flow_graph.specs.declared.graph.Item.TheFolds.{map-Item, fold_out-Item}
use Rattle.call_summary.specs.declared.telling.Summary.{Summary}
use Rattle.call_summary.specs.declared.telling.Summary.TheVariants.{Flat, Split}
use Rattle.chain_units.specs.Known.{Known}
use Rattle.chain_units.specs.Costs.{any_of, touched_by, touched_in, touched_in_all}
use Rattle.checkpoint_graph.specs.Knowing.{is_flat_in, touched_in_one, touched_parts}

module _ (k : Known) where
  any_same : (xs : List Item) → any_of (map (touched_in k) xs) ≡ touched_in_all k xs
  any_same [] = refl
  any_same (x ∷ xs) = ap (λ (ys : List ℕ). touched_in k x ++ ys) (any_same xs)

  layer_touched : (l : Item-F Item) → touched_by k (map-Item Item (List ℕ) (touched_in k) l) ≡ touched_parts k l
  layer_touched (Item-F.One op) = refl
  layer_touched (Item-F.Branch test a b) = rw (any_same a, any_same b) refl
  layer_touched (Item-F.Loop pre test post step back count) = rw (any_same pre, any_same post, any_same step) refl
  layer_touched (Item-F.Switch items) = rw (any_same items) refl
  layer_touched (Item-F.CallTo op f) = refl
  layer_touched (Item-F.Leave op to) = refl

  touched_level : (x : Item) → touched_in k x ≡ touched_parts k (out-Item x)
  unfolding touched_in
  touched_level x = fold_out-Item (List ℕ) (touched_by k) x ∙ layer_touched (out-Item x)

  -- one item more is done
  pub touched_more : (x : Item) (left rest : List Item) (now now2 all : List ℕ) → left ≡ x ∷ rest → now2 ≡ now ++ touched_parts k (out-Item x) → all ≡ now ++ touched_in_all k left → all ≡ now2 ++ touched_in_all k rest
  touched_more x left rest now now2 all e more so_far =
      so_far
      ∙ (ap (λ (xs : List Item). now ++ touched_in_all k xs) e
      ∙ (ap (λ (ys : List ℕ). now ++ (ys ++ touched_in_all k rest)) (touched_level x)
      ∙ (sym (append_assoc now (touched_parts k (out-Item x)) (touched_in_all k rest)) ∙ sym (ap (λ (ys : List ℕ). ys ++ touched_in_all k rest) more))))

  pub touched_done : (left : List Item) (now all : List ℕ) → left ≡ [] → all ≡ now ++ touched_in_all k left → now ≡ all
  touched_done left now all e so_far = sym (so_far ∙ (ap (λ (xs : List Item). now ++ touched_in_all k xs) e ∙ append-nil now))
    where
      append-nil : (xs : List ℕ) → xs ++ [] ≡ xs
      append-nil [] = refl
      append-nil (x ∷ xs) = ap (λ (ys : List ℕ). x ∷ ys) (append-nil xs)

  -- parts, one behind the other
  pub touched_two : (old mid new : List ℕ) (xs ys ms bs : List Item) → mid ≡ old ++ touched_in_all k xs → new ≡ mid ++ touched_in_all k ys → xs ≡ ms → ys ≡ bs → new ≡ old ++ (touched_in_all k ms ++ touched_in_all k bs)
  touched_two old mid new xs ys ms bs first second e f =
      second
      ∙ (ap (λ (zs : List ℕ). zs ++ touched_in_all k ys) first
      ∙ (append_assoc old (touched_in_all k xs) (touched_in_all k ys)
      ∙ (ap (λ (zs : List Item). old ++ (touched_in_all k zs ++ touched_in_all k ys)) e ∙ ap (λ (zs : List Item). old ++ (touched_in_all k ms ++ touched_in_all k zs)) f)))

  pub touched_three : (old mid mid2 new : List ℕ) (xs ys zs ms bs cs : List Item) → mid ≡ old ++ touched_in_all k xs → mid2 ≡ mid ++ touched_in_all k ys → new ≡ mid2 ++ touched_in_all k zs → xs ≡ ms → ys ≡ bs → zs ≡ cs
      → new ≡ old ++ (touched_in_all k ms ++ (touched_in_all k bs ++ touched_in_all k cs))
  touched_three old mid mid2 new xs ys zs ms bs cs first second third e f g =
      touched_two mid mid2 new ys zs bs cs second third f g
      ∙ (ap (λ (ws : List ℕ). ws ++ (touched_in_all k bs ++ touched_in_all k cs)) first
      ∙ (append_assoc old (touched_in_all k xs) (touched_in_all k bs ++ touched_in_all k cs) ∙ ap (λ (ws : List Item). old ++ (touched_in_all k ws ++ (touched_in_all k bs ++ touched_in_all k cs))) e))

  pub parts_same : (x : Item) (l : Item-F Item) (old new : List ℕ) → out-Item x ≡ l → new ≡ old ++ touched_parts k l → new ≡ old ++ touched_parts k (out-Item x)
  parts_same x l old new e is = is ∙ sym (ap (λ (m : Item-F Item). old ++ touched_parts k m) e)

-- what a call touches
pub call_touches : (found : Option Summary) → (if is_flat_in found then touched_in_one found else []) ≡ touched_in_one found
call_touches None = refl
call_touches (Some (Flat cost touched)) = refl
call_touches (Some Split) = refl
