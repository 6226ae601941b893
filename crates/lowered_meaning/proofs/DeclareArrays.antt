-- Arrays that are declared: zeros, and then the values of a list.
use Rattle.std.proofs.Common.{◌≡◌, ◌≢◌, ℕ, zero, suc, ◌+◌, ◌*◌, ◌<◌, ◌≤◌, false, Some, None, List, [], ◌∷◌, ◌++◌, length, refl, sym, ap, ◌∙◌, subst, arith, ◌⊎◌, inl, inr, get_or, replicate}
use Rattle.std.proofs.lemmas.Bool.{cases_eq}
use Rattle.std.proofs.lemmas.List.{length-replicate}
use Rattle.base_io.specs.declared.place.Place.{Place}
use Rattle.c_tree.specs.Runs.{Begun, State, Done, Stopped, go_on, behind_events, begin_at, begin_each}
use Rattle.c_tree.specs.Meaning.{put_words, begun}
use Rattle.c_tree.specs.Nodes.{open_array}
use Rattle.flow_graph.specs.declared.graph.Graph.{Graph}
use Rattle.flow_graph.specs.declared.graph.Op.{Op}
use Rattle.flow_graph.specs.declared.graph.OpKind.TheVariants as kind
use Rattle.flow_graph.specs.declared.graph.Operand.TheVariants.{Const, Object}
use Rattle.flow_graph.specs.declared.graph.Item.{Item}
use Rattle.flow_graph.specs.declared.graph.Item.TheVariants as item
use Rattle.flow_graph.specs.declared.nodes.Around.{Around}
use Rattle.flow_graph.specs.Operations.{words_of, with_word}
use Rattle.flow_graph.specs.Nodes.{at_behind, first_of, laid_items, node, test_node, in_loop}
use Rattle.flow_graph.specs.Flow as flow
use Rattle.flow_graph.specs.Flow.{Spot, Told, Stand, At, Over, operate, flow_from, told_at}
use Rattle.flow_graph.proofs.FlowLemmas.{flow_more, as_told, IsMore}
use Rattle.flow_graph.proofs.LaidLemmas.{laid-One}
use Rattle.lowered_graphs.specs.Making.{Counts, op_of, zero_operand, go}
use Rattle.lowered_graphs.specs.Exprs.{home, array_use}
use Rattle.lowered_graphs.specs.Stmts.{zero_array}
use Rattle.lowered_meaning.specs.Runs.{Runs}
use Rattle.lowered_meaning.specs.Tracks.{Tracks, Behind}
use Rattle.lowered_meaning.specs.Tracks as tracks
use Rattle.lowered_meaning.specs.Keeps.{Ground, Ready, HasHomes, OwnsTemporaries, Agrees}
use Rattle.lowered_meaning.specs.Leaves.{Since}
use Rattle.lowered_meaning.proofs.TrackLemmas.{stands_left, stands_right, first_left, one_stands}
use Rattle.lowered_meaning.proofs.KeepLemmas.{words_other, word_same, with_word_shape, fits_write, not_home}
use Rattle.lowered_meaning.proofs.SinceLemmas.{since_start, since_left, since_both, since_expr}
use Rattle.lowered_meaning.proofs.LoopLemmas.{LoopStands, loop_stands}
use Rattle.lowered_meaning.proofs.ElementSteps.{operated}
use Rattle.lowered_meaning.proofs.ElementLoads.{wrote_evaluated}
use Rattle.lowered_meaning.proofs.AssignStores.{size_of, Sets, with_words, since_set}
use Rattle.lowered_meaning.proofs.CallsParameters.{Enters}
use Rattle.lowered_meaning.proofs.DeclareZeros.{Goes, goes_one, goes_both, zeros_are, ZeroStands, Zeroed, zero_run}

-- ---- steps that begin, one for each element

put_none : (n : ℕ) → put_words (replicate n Begun) ≡ []
put_none zero = refl
put_none (suc n) = put_none n

begun_all : (n : ℕ) → begun (replicate n Begun) ≡ n
begun_all zero = refl
begun_all (suc n) = ap suc (begun_all n)

-- all of them, or some
pub data Beginning (n : ℕ) (d : State) : Type 0 where
  All : (l : ℕ) → begin_each n d ≡ Done (replicate n Begun) tt (record d { left = l }) → Beginning n d
  NotAll : (j : ℕ) → j < n → begin_each n d ≡ Stopped (replicate j Begun) → Beginning n d

beginning : (n : ℕ) (d : State) → Beginning n d
beginning zero d = All d.left refl
beginning (suc n) d = by_left (λ l. beginning n (record d { left = l })) d.left refl
  where
    more : (l : ℕ) → d.left ≡ suc l → Beginning n (record d { left = l }) → Beginning (suc n) d
    more l e (All m h) = All m (ap (λ x. go_on (begin_at x d) (λ _. begin_each n)) e ∙ ap (behind_events (Begun ∷ [])) h)
    more l e (NotAll j lt h) = NotAll (suc j) (omega (arith, lt)) (ap (λ x. go_on (begin_at x d) (λ _. begin_each n)) e ∙ ap (behind_events (Begun ∷ [])) h)

    by_left : ((l : ℕ) → Beginning n (record d { left = l })) → (l : ℕ) → d.left ≡ l → Beginning (suc n) d
    by_left rest zero e = NotAll 0 (omega arith) (ap (λ x. go_on (begin_at x d) (λ _. begin_each n)) e)
    by_left rest (suc l) e = more l e (rest l)

-- where operations put nothing and go on, so do fewer
goes_before : (g : Graph) (m j : ℕ) (s z : Spot) → j ≤ m → Goes g m s z → (y : Spot) × Goes g j s y
goes_before g m j s z le h = by_stand (flow_from g j s).stand refl
  where
    more : IsMore (flow_from g j s) (flow_from g m s)
    more = flow_more g j m s le

    none : (xs ys : List ℕ) → [] ≡ xs ++ ys → xs ≡ []
    none [] ys e = refl
    none (x ∷ xs) ys e = cc

    words : (flow_from g j s).words ≡ []
    words = none (flow_from g j s).words more.words.0 (sym (ap (λ (t : Told). t.words) h) ∙ more.words.1)

    by_stand : (x : Stand) → (flow_from g j s).stand ≡ x → (y : Spot) × Goes g j s y
    by_stand (At y) e = (y, as_told (flow_from g j s) y e ∙ ap (λ ws. told_at ws y) words)
    by_stand (Over o) e = let q : Over o ≡ At z = sym e ∙ (sym (ap (λ (t : Told). t.stand) (more.over o e)) ∙ ap (λ (t : Told). t.stand) h) in cc

pays_each : (most m : ℕ) → 1 ≤ most → m ≤ most * m
pays_each most m h = grind arith

one_is : (ws : List ℕ) → length ws ≡ 1 → ws ≡ get_or ws 0 0 ∷ []
one_is [] e = absurd (omega (arith, e))
one_is (v ∷ []) e = refl
one_is (v ∷ u ∷ ws) e = absurd (omega (arith, e))

-- ---- an array of zeros

module _ (g : Graph) (w : Ground) (scope scope' : ℕ → Type 0) (most x : ℕ) (at : Place) (owns : OwnsTemporaries w) (homes : HasHomes w scope) (enters : Enters w scope scope' x)
    (one : 1 ≤ size_of w x) (small : size_of w x ≤ 1024) (some : 1 ≤ most) (c : Counts) (k : Around) (s : Spot) (d : State) (le : w.base ≤ c.temp) (top : c.temp + 1 ≤ w.top) (agrees : Agrees w scope d s) (ready : Ready w s.objects) where
  abbrev n : ℕ
  n = size_of w x

  abbrev h : ℕ
  h = home w.setting x

  abbrev t : ℕ
  t = c.temp

  abbrev first : Op
  first = op_of kind.Copy (Some t) zero_operand zero_operand None at c.op

  abbrev p1 : ℕ
  p1 = c.op + 1

  abbrev p2 : ℕ
  p2 = p1 + 1

  abbrev p3 : ℕ
  p3 = p2 + 1

  abbrev p4 : ℕ
  p4 = p3 + 1

  abbrev test : Op
  test = op_of kind.Below None (Object t) (Const n) None at p1

  abbrev store : Op
  store = op_of kind.Store None zero_operand (Object t) (Some (array_use w.setting x)) at p2

  abbrev step : Op
  step = op_of kind.Step (Some t) (Object t) zero_operand None at p3

  abbrev loop : Item
  loop = item.Loop [] test (item.One store ∷ []) (item.One step ∷ []) (go at p4) (Some n)

  apart : h ≢ t
  apart = not_home w h t (owns t le (omega (arith, top))) le enters.home_is

  parts_stand : (m : ℕ) → tracks.Stand g k (loop ∷ []) → m ≡ first_of (laid_items (loop ∷ [])) k.behind → ZeroStands g h t n at p1 p2 p3 p4 k.behind apart small × (m ≡ p1)
  parts_stand m stand is =
      let ls : LoopStands g k [] test (item.One store ∷ []) (item.One step ∷ []) (go at p4) m = loop_stands g k [] test (item.One store ∷ []) (item.One step ∷ []) (go at p4) (Some n) m stand is in
      let step_first : first_of (laid_items (item.One step ∷ [])) p4 ≡ p3 = ap (λ l. l.first p4) (laid-One step) in
      let store_first : first_of (laid_items (item.One store ∷ [])) p3 ≡ p2 = ap (λ l. l.first p3) (laid-One store) in (
        record {
          test_is = ls.test_is ∙ ap (λ m. Some (test_node test m k.behind)) (ap (first_of (laid_items (item.One store ∷ []))) step_first ∙ store_first);
          store_is = one_stands g (in_loop (laid_items (item.One step ∷ [])) (go at p4) k (first_of (laid_items (item.One step ∷ [])) p4)) store (record s { at = p2 }) ls.post_stands
              (sym (ap (λ l. l.first (first_of (laid_items (item.One step ∷ [])) p4)) (laid-One store))) ∙ ap (λ m. Some (node store m)) step_first;
          step_is = one_stands g (in_loop (laid_items (item.One step ∷ [])) (go at p4) k p4) step (record s { at = p3 }) ls.step_stands (sym (ap (λ l. l.first p4) (laid-One step)));
          back_is = ls.back_is;
        },
        ls.head,
      )

  begins : Zeroed g h t n at p1 p2 p3 p4 k.behind apart small 0 s (record s { at = p1; objects = with_word s.objects t 0 0 })
  begins = record {
    at = refl;
    calls = refl;
    input = refl;
    count = word_same s.objects t 0 (ready.temporaries t le (omega (arith, top)));
    one = with_word_shape s.objects t 0 0 t ∙ ready.temporaries t le (omega (arith, top));
    size = with_word_shape s.objects t 0 0 h ∙ ready.variables x enters.has;
    zeros = λ j lt. absurd (omega (arith, lt));
    others = λ o ne ne'. words_other s.objects o t 0 0 ne';
    fit = fits_write s.objects t 0 0 (omega arith) agrees.fit;
  }

  -- the whole loop, from the copy of the first index on
  whole : tracks.Stand g k (item.One first ∷ loop ∷ []) → s.at ≡ first_of (laid_items (item.One first ∷ loop ∷ [])) k.behind
      → (z : Spot) × Goes g (1 + (4 * n + 1)) s (record z { at = k.behind }) × Zeroed g h t n at p1 p2 p3 p4 k.behind apart small n s z
  whole stand is =
      let parts = parts_stand (first_of (laid_items (loop ∷ [])) k.behind) (stands_right g k (item.One first ∷ []) (loop ∷ []) stand) refl in
      let run = zero_run g h t n at p1 p2 p3 p4 k.behind apart small parts.0 s (record s { at = p1; objects = with_word s.objects t 0 0 }) begins in
      let copied : operate g s ≡ flow.Went [] (record s { at = first_of (laid_items (loop ∷ [])) k.behind; objects = with_word s.objects t 0 0 }) =
      operated g (at_behind k (first_of (laid_items (loop ∷ [])) k.behind)) first s (flow.Went [] (record s { objects = with_word s.objects t 0 0 })) refl
      (one_stands g (at_behind k (first_of (laid_items (loop ∷ [])) k.behind)) first s (stands_left g k (item.One first ∷ []) (loop ∷ []) stand) (is ∙ first_left (item.One first ∷ []) (loop ∷ []) k.behind)) refl in (
        run.0,
        goes_both g 1 (4 * n + 1) s (record s { at = p1; objects = with_word s.objects t 0 0 }) (record run.0 { at = k.behind })
            (goes_one g s (record s { at = p1; objects = with_word s.objects t 0 0 }) (copied ∙ ap (λ m. flow.Went [] (record s { at = m; objects = with_word s.objects t 0 0 })) parts.1)) run.1,
        run.2,
      )

  -- behind it the array has zeros
  since_zeroed : (z : Spot) (l : ℕ) → Zeroed g h t n at p1 p2 p3 p4 k.behind apart small n s z → Since w scope' s d (record (with_words d x (replicate n 0)) { left = l }) (record z { at = k.behind })
  since_zeroed z l zs =
      since_left w scope' s d (with_words d x (replicate n 0)) (record z { at = k.behind }) l
      (since_both w scope scope' s d d (with_words d x (replicate n 0)) counted (record z { at = k.behind }) first_part
      (since_set w scope scope' x (replicate n 0) counted d (record z { at = k.behind }) enters.differ enters.homes enters.has enters.home_is enters.less one (length-replicate n 0) first_part.agrees first_part.ready sets))
    where
      counted : Spot
      counted = record s { objects = with_word s.objects t 0 n }

      first_part : Since w scope s d d counted
      first_part = since_expr w scope false t (Object t) s d d d n s counted (since_start w scope s d agrees ready) refl
          (wrote_evaluated w scope false t t n s d d counted owns homes (omega arith) le (omega (arith, top)) agrees ready (omega (arith, small)) refl agrees.input refl)

      other : (o : ℕ) → o ≢ h → ((o ≡ t) ⊎ (o ≢ t)) → words_of z.objects o ≡ words_of counted.objects o
      other o ne (inr ne') = zs.others o ne ne' ∙ sym (words_other s.objects o t 0 n ne')
      other o ne (inl e) = subst (λ m. words_of z.objects m ≡ words_of counted.objects m) (sym e) (one_is (words_of z.objects t) zs.one ∙ (ap (λ v. v ∷ []) (zs.count ∙ sym (word_same s.objects t n (ready.temporaries t le (omega (arith, top)))))
          ∙ sym (one_is (words_of counted.objects t) (with_word_shape s.objects t 0 n t ∙ ready.temporaries t le (omega (arith, top))))))

      sets : Sets w x (replicate n 0) counted (record z { at = k.behind })
      sets = record {
        words = zeros_are (words_of z.objects h) (λ j lt. zs.zeros j (omega (arith, lt, zs.size))) ∙ ap (λ m. replicate m 0) zs.size;
        others = λ o ne. other o ne (cases_eq o t);
        fit = zs.fit;
        input = zs.input;
        calls = zs.calls;
      }

  -- an array opens with one step paid for, however many elements it has
  pub tracks_opened : (a o : ℕ) → Tracks g most (a + 1) a (suc (suc o)) o (open_array x n d) k (zero_array (array_use w.setting x) at c).items s (λ u e z. Since w scope' s d e z)
  tracks_opened a o = λ stand is. by_beginning (whole stand is) (beginning n (with_words d x (replicate n 0)))
    where
      goal : Unit {0} → State → Spot → Type 0
      goal u e z = Behind k.behind s.calls z × Since w scope' s d e z

      by_beginning : ((z : Spot) × Goes g (1 + (4 * n + 1)) s (record z { at = k.behind }) × Zeroed g h t n at p1 p2 p3 p4 k.behind apart small n s z) → Beginning n (with_words d x (replicate n 0))
          → Runs g most (a + 1) a (suc (suc o)) o (open_array x n d) s goal
      by_beginning run (All l e) = subst (λ r. Runs g most (a + 1) a (suc (suc o)) o (behind_events [] r) s goal) (sym e) (record {
        ops = 1 + (4 * n + 1);
        spot = record run.0 { at = k.behind };
        does = run.1 ∙ ap (λ ws. told_at ws (record run.0 { at = k.behind })) (sym (put_none n));
        related = (record { at = refl; calls = run.2.calls }, since_zeroed run.0 l run.2);
        pays = record { few = omega (arith, begun_all n); many = omega (arith, begun_all n, pays_each most (1 + (4 * n + 1)) some) };
      })
      by_beginning run (NotAll j lt e) =
          let before = goes_before g (1 + (4 * n + 1)) j s (record run.0 { at = k.behind }) (omega (arith, lt)) run.1 in
          subst (λ r. Runs g most (a + 1) a (suc (suc o)) o (behind_events [] r) s goal) (sym e) (record {
            ops = j;
            spot = before.0;
            does = before.1 ∙ ap (λ ws. told_at ws before.0) (sym (put_none j));
            related = tt;
            pays = record { few = omega (arith, begun_all j); many = omega (arith, begun_all j, pays_each most j some) };
          })
