-- The loop that makes the elements of an array zero.
use Rattle.std.proofs.Common.{◌≡◌, ◌≢◌, ℕ, zero, suc, ◌+◌, ◌*◌, ◌%◌, ◌^◌, ◌<◌, ◌≤◌, Bool, true, false, Some, None, List, [], ◌∷◌, length, refl, sym, ap, ◌∙◌, subst, arith, ◌⊎◌, inl, inr, set, get_or, replicate}
use Rattle.std.proofs.lemmas.Bool.{cases_eq}
use Rattle.std.proofs.lemmas.List.{get_or-set_same, get_or-set_other}
use Rattle.std.specs.Prelude.{nat_lt, if◌then◌else◌}
use Rattle.flow_graph.specs.declared.graph.Graph.{Graph}
use Rattle.flow_graph.specs.declared.graph.Op.{Op}
use Rattle.flow_graph.specs.declared.graph.OpKind.TheVariants as kind
use Rattle.flow_graph.specs.declared.graph.Operand.TheVariants.{Const, Object}
use Rattle.flow_graph.specs.declared.nodes.Next.TheVariants.{To}
use Rattle.flow_graph.specs.Operations.{words_of, word_at, with_word}
use Rattle.flow_graph.specs.Nodes.{graph_nodes, node_in, node, test_node}
use Rattle.flow_graph.specs.Flow as flow
use Rattle.flow_graph.specs.Flow.{Spot, operate, execute_at, flow_from, told_at, telling}
use Rattle.flow_graph.proofs.FlowLemmas.{flow_on, flow_one}
use Rattle.base_io.specs.declared.place.Place.{Place}
use Rattle.lowered_graphs.specs.Making.{op_of, zero_operand, go}
use Rattle.lowered_meaning.proofs.TrackLemmas.{goes}
use Rattle.lowered_meaning.proofs.KeepLemmas.{words_other, length_at, fits_write, word_same, with_word_shape}

-- operations that put nothing
abbrev pub Goes : Graph → ℕ → Spot → Spot → Type 0
Goes g m s z = flow_from g m s ≡ told_at [] z

pub goes_one : (g : Graph) (s z : Spot) → operate g s ≡ flow.Went [] z → Goes g 1 s z
goes_one g s z h = flow_one g s [] z h

pub goes_both : (g : Graph) (m k : ℕ) (s y z : Spot) → Goes g m s y → Goes g k y z → Goes g (m + k) s z
goes_both g m k s y z h i = flow_on g m k (m + k) s [] y refl h ∙ ap (telling []) i

pub lt_true : (i n : ℕ) → i < n → nat_lt i n ≡ true
lt_true i n h = grind arith

lt_false : (n : ℕ) → nat_lt n n ≡ false
lt_false n = grind arith

-- ---- words that are zero

pub zeros_are : (ws : List ℕ) → ((j : ℕ) → j < length ws → get_or ws j 0 ≡ 0) → ws ≡ replicate (length ws) 0
zeros_are [] h = refl
zeros_are (v ∷ ws) h = ap (λ u. u ∷ ws) (h 0 (omega arith)) ∙ ap (λ us. 0 ∷ us) (zeros_are ws (λ j lt. h (suc j) (omega (arith, lt))))

zero_more : (ws : List ℕ) (i j : ℕ) → i < length ws → ((m : ℕ) → m < i → get_or ws m 0 ≡ 0) → j < suc i → get_or (set ws i 0) j 0 ≡ 0
zero_more ws i j within h lt = by_case (cases_eq j i)
  where
    by_case : ((j ≡ i) ⊎ (j ≢ i)) → get_or (set ws i 0) j 0 ≡ 0
    by_case (inl e) = ap (λ m. get_or (set ws i 0) m 0) e ∙ get_or-set_same ws i 0 0 within
    by_case (inr ne) = get_or-set_other ws i j 0 0 ne ∙ h j (omega (arith, lt, ne))

-- ---- the loop

module _ (g : Graph) (h t n : ℕ) (place : Place) (p1 p2 p3 p4 behind : ℕ) (apart : h ≢ t) (small : n ≤ 1024) where
  abbrev test : Op
  test = op_of kind.Below None (Object t) (Const n) None place p1

  abbrev store : Op
  store = op_of kind.Store None zero_operand (Object t) (Some (record { object = h; length = n })) place p2

  abbrev step : Op
  step = op_of kind.Step (Some t) (Object t) zero_operand None place p3

  abbrev back : Op
  back = go place p4

  -- its operations stand in the graph
  pub record ZeroStands : Type 0 where
    pub test_is : node_in (graph_nodes g) p1 ≡ Some (test_node test p2 behind)
    pub store_is : node_in (graph_nodes g) p2 ≡ Some (node store p3)
    pub step_is : node_in (graph_nodes g) p3 ≡ Some (node step p4)
    pub back_is : node_in (graph_nodes g) p4 ≡ Some (node back p1)

  -- the first i elements are zero
  pub record Zeroed (i : ℕ) (s y : Spot) : Type 0 where
    pub at : y.at ≡ p1
    pub calls : y.calls ≡ s.calls
    pub input : y.input ≡ s.input
    pub count : word_at y.objects t 0 ≡ i
    pub one : length (words_of y.objects t) ≡ 1
    pub size : length (words_of y.objects h) ≡ n
    pub zeros : (j : ℕ) → j < i → get_or (words_of y.objects h) j 0 ≡ 0
    pub others : (o : ℕ) → o ≢ h → o ≢ t → words_of y.objects o ≡ words_of s.objects o
    pub fit : (o j : ℕ) → word_at y.objects o j < 2 ^ 16

  below_goes : (stands : ZeroStands) (i : ℕ) (b : Bool) (y : Spot) → y.at ≡ p1 → word_at y.objects t 0 ≡ i → nat_lt i n ≡ b → operate g y ≡ flow.Went [] (record y { at = if b then p2 else behind })
  below_goes stands i b y at' count e =
      ap (λ x. execute_at g x y) (ap (node_in (graph_nodes g)) at' ∙ stands.test_is)
      ∙ ap (λ c. flow.Went [] (record y { at = if nat_lt c n then p2 else behind })) count
      ∙ ap (λ c. flow.Went [] (record y { at = if c then p2 else behind })) e

  turn : (stands : ZeroStands) (i : ℕ) (s y : Spot) → i < n → Zeroed i s y → (z : Spot) × Goes g 4 y z × Zeroed (suc i) s z
  turn stands i s y lt zs = (
    y4,
    run,
    record {
      at = refl;
      calls = zs.calls;
      input = zs.input;
      count = word_same (with_word y.objects h i 0) t (suc i) one1;
      one = with_word_shape (with_word y.objects h i 0) t 0 (suc i) t ∙ one1;
      size = with_word_shape (with_word y.objects h i 0) t 0 (suc i) h ∙ (with_word_shape y.objects h i 0 h ∙ zs.size);
      zeros = λ j l. ap (λ ws. get_or ws j 0) words ∙ zero_more (words_of y.objects h) i j (omega (arith, lt, zs.size)) zs.zeros l;
      others = λ o ne ne'. words_other (with_word y.objects h i 0) o t 0 (suc i) ne' ∙ (words_other y.objects o h i 0 ne ∙ zs.others o ne ne');
      fit = fits_write (with_word y.objects h i 0) t 0 (suc i) (omega (arith, lt, small)) (fits_write y.objects h i 0 (omega arith) zs.fit);
    },
  )
    where
      y1 : Spot
      y1 = record y { at = p2 }

      y2 : Spot
      y2 = record y { at = p3; objects = with_word y.objects h i 0 }

      y3 : Spot
      y3 = record y { at = p4; objects = with_word (with_word y.objects h i 0) t 0 (suc i) }

      y4 : Spot
      y4 = record y { at = p1; objects = with_word (with_word y.objects h i 0) t 0 (suc i) }

      one1 : length (words_of (with_word y.objects h i 0) t) ≡ 1
      one1 = with_word_shape y.objects h i 0 t ∙ zs.one

      words : words_of (with_word (with_word y.objects h i 0) t 0 (suc i)) h ≡ set (words_of y.objects h) i 0
      words = words_other (with_word y.objects h i 0) h t 0 (suc i) apart ∙ get_or-set_same y.objects h (set (words_of y.objects h) i 0) [] (length_at y.objects h (omega (arith, zs.size, lt)))

      stored : operate g y1 ≡ flow.Went [] y2
      stored = ap (λ x. execute_at g x y1) stands.store_is
          ∙ ap (λ c. flow.followed g (To p3) false (flow.at_element (nat_lt c n) (flow.Went [] (record y1 { objects = with_word y.objects h c 0 })))) zs.count
          ∙ ap (λ b. flow.followed g (To p3) false (flow.at_element b (flow.Went [] (record y1 { objects = with_word y.objects h i 0 })))) (lt_true i n lt)

      count2 : word_at y2.objects t 0 ≡ i
      count2 = ap (λ ws. get_or ws 0 0) (words_other y.objects t h i 0 (λ e. apart (sym e))) ∙ zs.count

      stepped : operate g y2 ≡ flow.Went [] y3
      stepped = ap (λ x. execute_at g x y2) stands.step_is
          ∙ ap (λ c. flow.Went [] (record y2 { at = p4; objects = with_word y2.objects t 0 ((c + 1) % 2 ^ 16) })) count2
          ∙ ap (λ c. flow.Went [] (record y2 { at = p4; objects = with_word y2.objects t 0 c })) (omega (arith, lt, small))

      run : Goes g 4 y y4
      run = goes_both g 1 3 y y1 y4 (goes_one g y y1 (below_goes stands i true y zs.at zs.count (lt_true i n lt)))
          (goes_both g 1 2 y1 y2 y4 (goes_one g y1 y2 stored) (goes_both g 1 1 y2 y3 y4 (goes_one g y2 y3 stepped) (goes_one g y3 y4 (goes g back p1 y3 refl refl stands.back_is))))

  turns : (stands : ZeroStands) (r i : ℕ) (s y : Spot) → i + r ≡ n → Zeroed i s y → (z : Spot) × Goes g (4 * r) y z × Zeroed n s z
  turns stands zero i s y e zs = (y, refl, subst (λ m. Zeroed m s y) (omega (arith, e)) zs)
  turns stands (suc r) i s y e zs =
      let one = turn stands i s y (omega (arith, e)) zs in
      let rest = turns stands r (suc i) s one.0 (omega (arith, e)) one.2 in
      (rest.0, subst (λ m. Goes g m y rest.0) (omega arith) (goes_both g 4 (4 * r) y one.0 rest.0 one.1 rest.1), rest.2)

  -- all turns, and out of the loop
  pub zero_run : (stands : ZeroStands) (s y : Spot) → Zeroed 0 s y → (z : Spot) × Goes g (4 * n + 1) y (record z { at = behind }) × Zeroed n s z
  zero_run stands s y zs =
      let all = turns stands n 0 s y (omega arith) zs in
      (all.0, goes_both g (4 * n) 1 y all.0 (record all.0 { at = behind }) all.1 (goes_one g all.0 (record all.0 { at = behind }) (below_goes stands n false all.0 all.2.at all.2.count (lt_false n))), all.2)
