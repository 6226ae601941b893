-- What is told of pieces is told of their units.
use Rattle.std.specs.Prelude.{Err, IfOk, Ok, Result, filter, map, take, drop, if◌then◌else◌}
use Rattle.std.proofs.Common.{◌≡◌, ◌+◌, ◌*◌, ◌++◌, ℕ, Bool, true, false, List, [], ◌∷◌, refl, sym, ap, ◌∙◌, subst, append_assoc}
use Rattle.flow_graph.specs.declared.graph.Item.{Item}
use Rattle.flow_graph.specs.declared.graph.Item.TheOpen.{Item-F}
use Rattle.flow_graph.specs.Nodes.{first_of, laid_items}
use Rattle.chain_plans.specs.declared.Stretch.{Stretch}
use Rattle.chain_units.specs.declared.pieces.Piece.{Piece}
use Rattle.chain_units.specs.declared.explaining.Explained.{Explained}
use Rattle.chain_units.specs.declared.weighing.Behind.{Behind}
use Rattle.chain_units.specs.declared.weighing.Behind.TheVariants.{Before, BeforeEither}
use Rattle.chain_units.specs.Known.{Known, Weighs, nothing, or_nothing, told_weights}
use Rattle.chain_units.specs.Costs.{touched_in_all}
use Rattle.chain_units.specs.Marks.{ChainUnit, long_move, turn_of}
use Rattle.chain_units.specs.Pieces.{ArePieces, IsTurnOf, first_in, pieces_behind, pieces_first, pieces_sum, pieces_touched}
use Rattle.chain_units.specs.Placements.{IsTurnBy}
use Rattle.chain_units.specs.Planned.{all_items, unit_first, units_behind, units_first, units_sum}
use Rattle.chain_units.specs.Explained.{AreUnitsExplained, IsExplained, IsStretchExplained, IsTurnExplained}
use Rattle.chain_units.proofs.UnitsLemmas.{behind_same, drop_pieces, first_same, sum_same, take_pieces, touched_same}

-- ---- filters, element by element

pub filter_step : (p : ℕ → Bool) (made : List ℕ) (o : ℕ) (rest : List ℕ) (b : Bool) → b ≡ p o → (made ++ (if b then o ∷ [] else [])) ++ filter p rest ≡ made ++ filter p (o ∷ rest)
filter_step p made o rest b e =
    append_assoc made (if b then o ∷ [] else []) (filter p rest) ∙ ap (λ (xs : List ℕ). made ++ xs) (by b ∙ ap (λ (c : Bool). if c then o ∷ filter p rest else filter p rest) e)
  where
    by : (c : Bool) → (if c then o ∷ [] else []) ++ filter p rest ≡ (if c then o ∷ filter p rest else filter p rest)
    by true = refl
    by false = refl

pub if_ok : {T E : Type 0} (P Q : T → Type 0) (r : Result T E) → ((x : T) → P x → Q x) → IfOk r P → IfOk r Q
if_ok P Q (Ok x) f h = f x h
if_ok P Q (Err e) f h = h

-- ---- what is wanted behind the last piece

-- behind the last of these pieces, or where there are none
abbrev pub behind_or : Behind → List Piece → Behind
behind_or b [] = b
behind_or b (p ∷ ps) = behind_or p.behind ps

pub behind_is : (ps : List Piece) → pieces_behind ps ≡ behind_or (Before 0) ps
behind_is [] = refl
behind_is (p ∷ []) = refl
behind_is (p ∷ (q ∷ ps)) = behind_is (q ∷ ps)

-- ---- pieces of units

module _ (k : Known) where
  firsts_same : (us : List ChainUnit) (ps : List Piece) → ArePieces k us ps → map first_in ps ≡ map unit_first us
  firsts_same [] [] are = refl
  firsts_same (u ∷ us) (p ∷ ps) are = ap (λ (n : ℕ). n ∷ map first_in ps) are.0.first ∙ ap (λ (ns : List ℕ). unit_first u ∷ ns) (firsts_same us ps are.1)
  firsts_same [] (p ∷ ps) are = absurd are
  firsts_same (u ∷ us) [] are = absurd are

  units_explained : (us : List ChainUnit) (ps : List Piece) (homes : List ℕ) (e : Explained) → ArePieces k us ps
      → IsExplained k k.overhead 0 (map first_in ps) (pieces_touched ps) (pieces_first ps) (pieces_behind ps) (pieces_sum nothing ps) homes e → AreUnitsExplained k us homes e
  units_explained us ps homes e are is =
      subst (λ (w : Weighs). IsExplained k k.overhead 0 (map unit_first us) (touched_in_all k (all_items us)) (units_first us) (units_behind us) w homes e) (sum_same k nothing us ps are)
      (subst (λ (b : Behind). IsExplained k k.overhead 0 (map unit_first us) (touched_in_all k (all_items us)) (units_first us) b (pieces_sum nothing ps) homes e) (behind_same k us ps are)
      (subst (λ (n : ℕ). IsExplained k k.overhead 0 (map unit_first us) (touched_in_all k (all_items us)) n (pieces_behind ps) (pieces_sum nothing ps) homes e) (first_same k us ps are)
      (subst (λ (xs : List ℕ). IsExplained k k.overhead 0 (map unit_first us) xs (pieces_first ps) (pieces_behind ps) (pieces_sum nothing ps) homes e) (touched_same k us ps are)
      (subst (λ (ns : List ℕ). IsExplained k k.overhead 0 ns (pieces_touched ps) (pieces_first ps) (pieces_behind ps) (pieces_sum nothing ps) homes e) (firsts_same us ps are) is))))

  pub stretch_explained : (us : List ChainUnit) (ps part : List Piece) (s : Stretch) (homes : List ℕ) (e : Explained) → part ≡ take s.items (drop s.first_item ps) → homes ≡ s.homes.items → ArePieces k us ps
      → IsExplained k k.overhead 0 (map first_in part) (pieces_touched part) (pieces_first part) (pieces_behind part) (pieces_sum nothing part) homes e → IsStretchExplained k us s e
  stretch_explained us ps part s homes e is same are told =
      units_explained (take s.items (drop s.first_item us)) (take s.items (drop s.first_item ps)) s.homes.items e (take_pieces k s.items (drop s.first_item us) (drop s.first_item ps) (drop_pieces k s.first_item us ps are))
      (subst (λ (hs : List ℕ). IsExplained k k.overhead 0 (map first_in (take s.items (drop s.first_item ps))) (pieces_touched (take s.items (drop s.first_item ps))) (pieces_first (take s.items (drop s.first_item ps)))
      (pieces_behind (take s.items (drop s.first_item ps))) (pieces_sum nothing (take s.items (drop s.first_item ps))) hs e) same
      (subst (λ (qs : List Piece). IsExplained k k.overhead 0 (map first_in qs) (pieces_touched qs) (pieces_first qs) (pieces_behind qs) (pieces_sum nothing qs) homes e) is told))

  -- ---- turns

  abbrev once : ℕ
  once = k.overhead + 2 * long_move k

  abbrev each_turn : ℕ
  each_turn = ((k.board.core.alu + k.board.core.jump) + 2 * k.board.access.fetch) + long_move k

  turns_explained : (parts : List Item) (top next : ℕ) (p : Piece) (homes : List ℕ) (e : Explained) → IsTurnOf k parts top next p
      → IsExplained k once each_turn (p.first ∷ []) p.touched.items p.first p.behind (told_weights p.weights) homes e
      → IsExplained k once each_turn (top ∷ []) (touched_in_all k parts) top (BeforeEither top next) (or_nothing (k.weights parts)) homes e
  turns_explained parts top next p homes e is told =
      subst (λ (w : Weighs). IsExplained k once each_turn (top ∷ []) (touched_in_all k parts) top (BeforeEither top next) w homes e) is.weights
      (subst (λ (b : Behind). IsExplained k once each_turn (top ∷ []) (touched_in_all k parts) top b (told_weights p.weights) homes e) is.behind
      (subst (λ (xs : List ℕ). IsExplained k once each_turn (top ∷ []) xs top p.behind (told_weights p.weights) homes e) is.touched
      (subst (λ (n : ℕ). IsExplained k once each_turn (n ∷ []) p.touched.items n p.behind (told_weights p.weights) homes e) is.first told)))

  pub turn_explained : (x : Item-F Item) (next : ℕ) (p : Piece) (s : Stretch) (e : Explained) → IsTurnBy k x next p
      → IsExplained k once each_turn (p.first ∷ []) p.touched.items p.first p.behind (told_weights p.weights) s.homes.items e → IsTurnExplained k x next s e
  turn_explained (Item-F.Loop pre test post step back count) next p s e is told = turns_explained (turn_of pre test post step) (first_of (laid_items pre) test.number) next p s.homes.items e is told
  turn_explained (Item-F.One op) next p s e is told = absurd is
  turn_explained (Item-F.Branch test a b) next p s e is told = absurd is
  turn_explained (Item-F.Switch items) next p s e is told = absurd is
  turn_explained (Item-F.CallTo op f) next p s e is told = absurd is
  turn_explained (Item-F.Leave op to) next p s e is told = absurd is
