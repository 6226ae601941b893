-- Code that stands line by line carries its flow.
use Rattle.std.proofs.Common.{◌≡◌, ◌≢◌, ◌⊎◌, ℕ, ◌+◌, ◌-◌, ◌*◌, ◌<◌, ◌≤◌, Bool, true, false, List, [], Some, refl, sym, ap, ◌∙◌, subst, arith, inl, inr}
use Rattle.std.specs.Prelude.{◌==◌, ◌||◌, if◌then◌else◌}
use Rattle.std.proofs.lemmas.Bool.{cases_Bool, eqb-true, eq-eqb}
use Rattle.plain_meaning.specs.Behaviour.{Behaviour}
use Rattle.msp430_machine.specs.State.{Off, Awake, Asleep, State, input_word}
use Rattle.msp430_machine.proofs.Writes.{set_at_other}
use Rattle.power_core.proofs.Points.{Setting}
use Rattle.resumed_runs.specs.Code.{head}
use Rattle.resumed_runs.proofs.Paths.{Stand}
use Rattle.resumed_runs.proofs.Carrying.{Carried, Tied, Resumed, Begun}
use Rattle.laid_code.specs.Flows.{Memory, Flow, written}
use Rattle.laid_code.proofs.Following.{Tracking, Follows as FollowsFlow}
use Rattle.laid_code.proofs.Homes.{Home, InFram, Apart}
use Rattle.laid_code.proofs.Words.{IsRoom}
use Rattle.laid_code.proofs.Homing.{Stretch, sram_home, fram_home, place_in, HomesApart, restore_holds, restored_all, operation_holds, save_holds, saved_all}
use Rattle.laid_code.proofs.Laid.{Layout, Here, Leads, Operates, MovesOn, WroteAt, Spared, effect_at, Rests, Line, Operation, Move, Head}
use Rattle.laid_code.proofs.LaidRuns.{At, starts, laid_carries}
use Rattle.laid_code.proofs.Rounds.{count_moves}
use Rattle.stretched_code.proofs.Scopes.{Fits, fits_price, fits_on, fits_away, fits_out}
use Rattle.stretched_code.proofs.Moves.{word_moves, array_moves, lower_moves}
use Rattle.stretched_code.proofs.Lined.{Phase, Resting, Restoring, Saving, nothing, with_one, Position, Lines, stretch_at, done_live, holds_in, CountsAt, lined_layout, Begins, Further, Ready, Ends, Onward, AtEnd, GoesOn, IsHead, MoveCode, Word, Block, Restores, Saves, Sets, Lowers, Follows, CanPay, Spends, Does, LineAt, AHead, ARestore, ASave, ASet, ALower, AnOperation, LinesStand}

split : (b c : Bool) → (b || c) ≡ true → (b ≡ true) ⊎ (c ≡ true)
split true c e = inl refl
split false c e = inr e

pub place_sram : (s : Stretch) (o : ℕ) → s.in_sram o ≡ true → place_in s o ≡ sram_home s o
place_sram s o e = ap (λ c. if c then sram_home s o else fram_home s o) e

pub place_fram : (s : Stretch) (o : ℕ) → s.in_sram o ≡ false → place_in s o ≡ fram_home s o
place_fram s o e = ap (λ c. if c then sram_home s o else fram_home s o) e

module _ (I Q : Type 0) (flow : Flow Q) (words : ℕ → ℕ) (live : Q → ℕ → Type 0) (lines : Lines I Q) where
  abbrev S : I → Stretch
  S i = stretch_at I Q flow words live lines i

  abbrev In : Stretch → Phase → Q → ℕ → Home → Type 0
  In s p q o h = holds_in I Q flow words live lines s p q o h

  abbrev At' : I → ℕ → Home → Type 0
  At' i o h = holds_in I Q flow words live lines (stretch_at I Q flow words live lines i) (lines.phase i) (lines.spot i) o h

  abbrev L : Layout (Position I) Q
  L = lined_layout I Q flow words live lines

  -- ---- What is held, from line to line

  cast_in : (i to : I) (p : Phase) (q : Q) → S to ≡ S i → lines.phase to ≡ p → lines.spot to ≡ q → (o : ℕ) (h : Home) → At' to o h → In (S i) p q o h
  cast_in i to p q same phase spot o h x =
      subst (λ y. In (S i) p y o h) spot (subst (λ y. In (S i) y (lines.spot to) o h) phase (subst (λ y. In y (lines.phase to) (lines.spot to) o h) same x))

  cast_head : (i to : I) (q : Q) → lines.phase to ≡ Resting → lines.spot to ≡ q → (o : ℕ) (h : Home) → At' to o h → In (S i) Resting q o h
  cast_head i to q phase spot o h x = subst (λ y. In (S i) Resting y o h) spot (subst (λ y. In (S to) y (lines.spot to) o h) phase x)

  none_done : {A : Type 0} (q : Q) (o : ℕ) → done_live I Q flow words live lines q nothing o → A
  none_done q o d = let no : false ≡ true = d.0 in absurd cc

  begins_in : (i to : I) (done : ℕ → Bool) → S to ≡ S i → lines.spot to ≡ lines.spot i → HomesApart words (S i) → Begins I Q flow words live lines i done to → (o : ℕ) (h : Home) → At' to o h → In (S i) (Restoring done) (lines.spot i) o h
  begins_in i to done same spot apart (Further phase) o h x = cast_in i to (Restoring done) (lines.spot i) same phase spot o h x
  begins_in i to done same spot apart (Ready phase all) o h x = elim (cast_in i to (Saving nothing) (lines.spot i) same phase spot o h x) [
    | inl at ↦ restored_all Q flow words live (S i) apart (done_live I Q flow words live lines (lines.spot i) done) (lines.spot i) (λ p is l. (all p is l, l)) o h at
    | inr none ↦ none_done (lines.spot i) o none.0
  ]

  ends_in : (i to : I) (done : ℕ → Bool) (q : Q) → lines.spot to ≡ q → HomesApart words (S i) → Ends I Q flow words live lines i done to → (o : ℕ) (h : Home) → At' to o h → In (S i) (Saving done) q o h
  ends_in i to done q spot apart (Onward same phase) o h x = cast_in i to (Saving done) q same phase spot o h x
  ends_in i to done q spot apart (AtEnd phase all) o h x =
      saved_all Q flow words live (S i) apart (done_live I Q flow words live lines q done) q (λ p is writes l. (all p is writes (subst (λ y. live y p) (sym spot) l), l)) o h (cast_head i to q phase spot o h x)

  -- ---- A move of an object

  with_live : (q : Q) (done : ℕ → Bool) (r o : ℕ) → done_live I Q flow words live lines q (with_one done r) o → done_live I Q flow words live lines q done o ⊎ (o ≡ r)
  with_live q done r o d = elim (split (done o) (o == r) d.0) [ inl is ↦ inl (is, d.1) | inr e ↦ inr (eqb-true o r e) ]

  live_restored : (s : Stretch) (q : Q) (done : ℕ → Bool) (o : ℕ) (h : Home) → In s (Restoring done) q o h → live q o
  live_restored s q done o h x = elim (x) [ inl at ↦ at.0 | inr moved ↦ moved.0.1 ]

  live_saved : (s : Stretch) (q : Q) (done : ℕ → Bool) (o : ℕ) (h : Home) → In s (Saving done) q o h → live q o
  live_saved s q done o h x = elim (x) [ inl at ↦ at.0 | inr moved ↦ moved.0.1 ]

  restored_by : (s : Stretch) → HomesApart words s → (q : Q) (done : ℕ → Bool) (r : ℕ) → s.in_sram r ≡ true → (o : ℕ) (h : Home) → In s (Restoring (with_one done r)) q o h
      → ((o ≡ r) × (h ≡ sram_home s r) × In s (Restoring done) q r (fram_home s r)) ⊎ (In s (Restoring done) q o h × Apart (sram_home s r) (words r) h (words o))
  restored_by s apart q done r lives o h x = elim (restore_holds Q flow words live s apart (done_live I Q flow words live lines q done) q r lives o h (elim (x) [ inl at ↦ inl at | inr moved ↦ inr (with_live q done r o moved.0, moved.1, moved.2) ])) [
    | inl same ↦ inl (same.0, same.1, inl (subst (λ y. live q y) same.0 (live_restored s q (with_one done r) o h x), refl))
    | inr other ↦ inr other
  ]

  saved_by : (s : Stretch) → HomesApart words s → (q : Q) (done : ℕ → Bool) (r : ℕ) → s.in_sram r ≡ true → (o : ℕ) (h : Home) → In s (Saving (with_one done r)) q o h
      → ((o ≡ r) × (h ≡ fram_home s r) × In s (Saving done) q r (sram_home s r)) ⊎ (In s (Saving done) q o h × Apart (fram_home s r) (words r) h (words o))
  saved_by s apart q done r lives o h x = elim (save_holds Q flow words live s apart (done_live I Q flow words live lines q done) q r o h (elim (x) [ inl at ↦ inl at | inr moved ↦ inr (with_live q done r o moved.0, moved.1) ])) [
    | inl same ↦ inl (same.0, same.1, inl (subst (λ y. live q y) same.0 (live_saved s q (with_one done r) o h x), inl (sym (place_sram s r lives))))
    | inr other ↦ inr other
  ]

  -- ---- An operation

  fram_apart : (s : Stretch) → HomesApart words s → (o t : ℕ) (h : Home) → o ≢ t → h ≡ fram_home s o → Apart (place_in s t) (words t) h (words o)
  fram_apart s apart o t h d there = subst (λ y. Apart (place_in s t) (words t) y (words o)) (sym there) (elim (cases_Bool (s.in_sram t)) [
    | inl is ↦ subst (λ y. Apart y (words t) (fram_home s o) (words o)) (sym (place_sram s t is)) tt
    | inr out ↦ subst (λ y. Apart y (words t) (fram_home s o) (words o)) (sym (place_fram s t out)) (apart.fram o t d)
  ])

  module _ (g : Setting) (x : Position I) (done : ℕ → Bool) (phase : lines.phase x.line ≡ Saving done) (apart : HomesApart words (S x.line))
      (writes : (o : ℕ) → flow.target (lines.spot x.line) ≡ Some o → (lines.writes x.line o ≡ true) × (done o ≡ false)) where
    hold : (o : ℕ) (h : Home) → In (S x.line) (Saving done) (lines.spot x.line) o h → L.holds x o h
    hold o h y = inl (subst (λ p. In (S x.line) p (lines.spot x.line) o h) (sym phase) y)

    leads_holds : (q : Q) → ((o : ℕ) → live q o → flow.target (lines.spot x.line) ≢ Some o → live (lines.spot x.line) o) → ((o : ℕ) → live q o → flow.target (lines.spot x.line) ≡ Some o → live (lines.spot x.line) o ⊎ (words o ≡ 1))
        → (o : ℕ) (h : Home) → In (S x.line) (Saving done) q o h → WroteAt (Position I) Q flow words L g x o h ⊎ Spared (Position I) Q flow words L g x o h
    leads_holds q before part o h y = elim (y) [
      | inl at ↦ elim (operation_holds Q flow words live (S x.line) apart (lines.spot x.line) q (λ p t. (writes p t).0) before part o h at) [
        | inl wrote ↦ inl (record { target = wrote.0; there = wrote.1; whole = elim (wrote.2) [ inl was ↦ inl (hold o h (inl was)) | inr one ↦ inr one ] })
        | inr spared ↦ inr (record { held = hold o h (inl spared.0); apart = spared.1 })
      ]
      | inr saved ↦
          let spare : flow.target (lines.spot x.line) ≢ Some o = λ t. let no : true ≡ false = sym saved.0.0 ∙ (writes o t).1 in absurd cc in
          inr (record {
            held = hold o h (inr ((saved.0.0, before o saved.0.1 spare), saved.1));
            apart = λ t is. let d : o ≢ t = λ e. spare (is ∙ ap (λ z. Some z) (sym e)) in (d, fram_apart (S x.line) apart o t h d saved.1);
          })
    ]

  -- ---- What is spent

  fits_to : (i to : I) (q : Q) (m : Memory) (left : ℕ) → lines.spot to ≡ q → (lines.scope to ≡ lines.scope i) ⊎ ((lines.scope to).inside (lines.spot to) ≡ false)
      → Fits Q flow (lines.scope i) q m left → Fits Q flow (lines.scope to) (lines.spot to) m left
  fits_to i to q m left spot scope fits = elim (scope) [
    | inl same ↦ subst (λ y. Fits Q flow y (lines.spot to) m left) (sym same) (subst (λ y. Fits Q flow (lines.scope i) y m left) (sym spot) fits)
    | inr out ↦ fits_out Q flow (lines.scope to) (lines.spot to) m left out
  ]

  abbrev Counts : Position I → Memory → ℕ → Type 0
  Counts x m n = CountsAt I Q flow words live lines x m n

  abbrev moved_to : Position I → I → Position I
  moved_to x to = record { line = to; left = x.left; busy = x.busy }

  module _ (g : Setting) (small : (taken : ℕ) → input_word g.input taken < 65536) (stand : LinesStand I Q flow words live lines g) where
    abbrev Restores' : I → Type 0
    Restores' i = Restores I Q flow words live lines g i

    abbrev Saves' : I → Type 0
    Saves' i = Saves I Q flow words live lines g i

    abbrev Goes' : I → ℕ → I → Type 0
    Goes' i cost to = GoesOn I Q flow words live lines g i cost to

    moved_counts : (x : Position I) (cost : ℕ) (to : I) → Goes' x.line cost to → (m : Memory) (n : ℕ) → Counts x m n → Counts (moved_to x to) m n
    moved_counts x cost to goes m n c = record {
      there = goes.there;
      fits = fits_to x.line to (lines.spot x.line) m x.left goes.spot goes.scope c.fits;
      turns = goes.turns n c.turns;
      busy = (let a = goes.least in let b = c.busy in omega (arith, a, b));
    }

    -- ---- Moves of an object

    restored_next : (x : Position I) (o : Restores' x.line) → HomesApart words (S x.line) → (p : ℕ) (h : Home) → L.holds (moved_to x o.to) p h
        → ((p ≡ o.object) × (h ≡ sram_home (S x.line) o.object) × L.holds x o.object (fram_home (S x.line) o.object)) ⊎ (L.holds x p h × Apart (sram_home (S x.line) o.object) (words o.object) h (words p))
    restored_next x o apart p h (inl at) =
        let back = λ (r : ℕ) (k : Home) (y : In (S x.line) (Restoring o.done) (lines.spot x.line) r k). subst (λ z. In (S x.line) z (lines.spot x.line) r k) (sym o.phase) y in
        elim (restored_by (S x.line) apart (lines.spot x.line) o.done o.object o.lives p h (begins_in x.line o.to (with_one o.done o.object) o.same o.goes.spot apart o.begins p h at)) [
          | inl same ↦ inl (same.0, same.1, inl (back o.object (fram_home (S x.line) o.object) same.2))
          | inr other ↦ inr (inl (back p h other.0), other.1)
        ]
    restored_next x o apart p h (inr fresh) =
        inr (inr (fresh.0, (subst (λ y. live y p) o.goes.spot fresh.1.0, fresh.1.1)), subst (λ y. Apart (sram_home (S x.line) o.object) (words o.object) y (words p)) (sym fresh.1.1) tt)

    saved_next : (x : Position I) (o : Saves' x.line) → HomesApart words (S x.line) → (p : ℕ) (h : Home) → L.holds (moved_to x o.to) p h
        → ((p ≡ o.object) × (h ≡ fram_home (S x.line) o.object) × L.holds x o.object (sram_home (S x.line) o.object)) ⊎ (L.holds x p h × Apart (fram_home (S x.line) o.object) (words o.object) h (words p))
    saved_next x o apart p h (inl at) =
        let back = λ (r : ℕ) (k : Home) (y : In (S x.line) (Saving o.done) (lines.spot x.line) r k). subst (λ z. In (S x.line) z (lines.spot x.line) r k) (sym o.phase) y in
        elim (saved_by (S x.line) apart (lines.spot x.line) o.done o.object o.lives p h (ends_in x.line o.to (with_one o.done o.object) (lines.spot x.line) o.goes.spot apart o.ends p h at)) [
          | inl same ↦ inl (same.0, same.1, inl (back o.object (sram_home (S x.line) o.object) same.2))
          | inr other ↦ inr (inl (back p h other.0), other.1)
        ]
    saved_next x o apart p h (inr fresh) =
        let back = λ (r : ℕ) (k : Home) (y : In (S x.line) (Saving o.done) (lines.spot x.line) r k). subst (λ z. In (S x.line) z (lines.spot x.line) r k) (sym o.phase) y in
        let lives : live (lines.spot x.line) p = subst (λ y. live y p) o.goes.spot fresh.1.0 in
        elim (cases_Bool (p == o.object)) [
          | inl e ↦
              let same = eqb-true p o.object e in
              inl (same, fresh.1.1 ∙ ap (λ y. fram_home (S x.line) y) same, inl (back o.object (sram_home (S x.line) o.object) (inl (subst (λ y. live (lines.spot x.line) y) same lives, inl (sym (place_sram (S x.line) o.object o.lives))))))
          | inr other ↦
              let d : p ≢ o.object = λ e. let no : true ≡ false = sym (eq-eqb p o.object e) ∙ other in absurd cc in
              inr (inr (fresh.0, (lives, fresh.1.1)), subst (λ y. Apart (fram_home (S x.line) o.object) (words o.object) y (words p)) (sym fresh.1.1) (apart.fram p o.object d))
        ]

    module _ (x : Position I) (apart : HomesApart words (S x.line)) where
      restores_move : Restores' x.line → MovesOn (Position I) Q flow words L g x
      restores_move o = by_code o.code
        where
          from : Home
          from = fram_home (S x.line) o.object

          to : Home
          to = sram_home (S x.line) o.object

          by_code : MoveCode I Q flow words live lines g x.line (fram_home (S x.line) o.object) (sram_home (S x.line) o.object) (words o.object) o.cost o.to → MovesOn (Position I) Q flow words L g x
          by_code (Word one stands behind within) = word_moves (Position I) Q flow words L g x (record {
            object = o.object;
            from = fram_home (S x.line) o.object;
            to = sram_home (S x.line) o.object;
            next = moved_to x o.to;
            room_from = subst (λ n. IsRoom (fram_home (S x.line) o.object) n) one o.room_fram;
            room_to = subst (λ n. IsRoom (sram_home (S x.line) o.object) n) one o.room_sram;
            stands = stands;
            one = one;
            behind = behind;
            spot = o.goes.spot;
            holds = λ p h y. subst (λ n. ((p ≡ o.object) × (h ≡ sram_home (S x.line) o.object) × L.holds x o.object (fram_home (S x.line) o.object)) ⊎ (L.holds x p h × Apart (sram_home (S x.line) o.object) n h (words p))) one (restored_next x o apart p h y);
            frames = refl;
            counts = moved_counts x o.cost o.to o.goes;
            pays = λ m n c. (let a = o.goes.pays n c.turns in omega (arith, a, within));
            busy = omega arith;
          })
          by_code (Block k some stands behind within) = array_moves (Position I) Q flow words L g x (record {
            object = o.object;
            count = words o.object;
            from = fram_home (S x.line) o.object;
            to = sram_home (S x.line) o.object;
            next = moved_to x o.to;
            room_from = o.room_fram;
            room_to = o.room_sram;
            apart = tt;
            stands = stands;
            some = (k, some);
            whole = refl;
            behind = behind;
            spot = o.goes.spot;
            holds = restored_next x o apart;
            frames = refl;
            counts = moved_counts x o.cost o.to o.goes;
            pays = λ m n c. (let a = o.goes.pays n c.turns in omega (arith, a, within));
            busy = omega arith;
          })

      saves_move : Saves' x.line → MovesOn (Position I) Q flow words L g x
      saves_move o = by_code o.code
        where
          by_code : MoveCode I Q flow words live lines g x.line (sram_home (S x.line) o.object) (fram_home (S x.line) o.object) (words o.object) o.cost o.to → MovesOn (Position I) Q flow words L g x
          by_code (Word one stands behind within) = word_moves (Position I) Q flow words L g x (record {
            object = o.object;
            from = sram_home (S x.line) o.object;
            to = fram_home (S x.line) o.object;
            next = moved_to x o.to;
            room_from = subst (λ n. IsRoom (sram_home (S x.line) o.object) n) one o.room_sram;
            room_to = subst (λ n. IsRoom (fram_home (S x.line) o.object) n) one o.room_fram;
            stands = stands;
            one = one;
            behind = behind;
            spot = o.goes.spot;
            holds = λ p h y. subst (λ n. ((p ≡ o.object) × (h ≡ fram_home (S x.line) o.object) × L.holds x o.object (sram_home (S x.line) o.object)) ⊎ (L.holds x p h × Apart (fram_home (S x.line) o.object) n h (words p))) one (saved_next x o apart p h y);
            frames = refl;
            counts = moved_counts x o.cost o.to o.goes;
            pays = λ m n c. (let a = o.goes.pays n c.turns in omega (arith, a, within));
            busy = omega arith;
          })
          by_code (Block k some stands behind within) = array_moves (Position I) Q flow words L g x (record {
            object = o.object;
            count = words o.object;
            from = sram_home (S x.line) o.object;
            to = fram_home (S x.line) o.object;
            next = moved_to x o.to;
            room_from = o.room_sram;
            room_to = o.room_fram;
            apart = tt;
            stands = stands;
            some = (k, some);
            whole = refl;
            behind = behind;
            spot = o.goes.spot;
            holds = saved_next x o apart;
            frames = refl;
            counts = moved_counts x o.cost o.to o.goes;
            pays = λ m n c. (let a = o.goes.pays n c.turns in omega (arith, a, within));
            busy = omega arith;
          })

      -- ---- R10

      sets_move : Sets I Q flow words live lines g x.line → MovesOn (Position I) Q flow words L g x
      sets_move o = count_moves (Position I) Q flow words L g x (record {
        turns = o.count;
        next = moved_to x o.to;
        low = o.low;
        stands = o.stands;
        behind = o.behind;
        spot = o.spot;
        frames = refl;
        holds = held;
        counts = λ m n c. record {
          there = o.there;
          fits = fits_to x.line o.to (lines.spot x.line) m x.left o.spot (inl o.scope) c.fits;
          turns = o.turns;
          busy = (let a = o.least in let b = c.busy in omega (arith, a, b));
        };
        pays = λ m n c. (let a = o.pays n c.turns in omega (arith, a));
        busy = omega arith;
      })
        where
          held : (p : ℕ) (h : Home) → L.holds (moved_to x o.to) p h → L.holds x p h
          held p h (inl at) = inl (subst (λ z. In (S x.line) z (lines.spot x.line) p h) (sym o.phase) (begins_in x.line o.to o.done o.same o.spot apart o.begins p h at))
          held p h (inr fresh) = inr (fresh.0, (subst (λ y. live y p) o.spot fresh.1.0, fresh.1.1))

      lowers_move : Lowers I Q flow words live lines g x.line → MovesOn (Position I) Q flow words L g x
      lowers_move o = lower_moves (Position I) Q flow words L g x (record {
        again = moved_to x o.again;
        out = moved_to x o.out;
        stands = o.stands;
        room = o.room;
        behind_again = o.behind_again;
        behind_out = o.behind_out;
        spot_again = o.spot_again;
        spot_out = o.spot_out;
        frames_again = refl;
        frames_out = refl;
        holds_again = held o.again o.same_again o.phase_again o.spot_again;
        holds_out = held o.out o.same_out o.phase_out o.spot_out;
        some = λ m n c. o.some n c.turns;
        counts_again = λ m n c some. record {
          there = o.there_again;
          fits = fits_to x.line o.again (lines.spot x.line) m x.left o.spot_again (inl o.scope_again) c.fits;
          turns = o.turns_again n c.turns some;
          busy = (let a = o.least_again in let b = c.busy in omega (arith, a, b));
        };
        counts_out = λ m c. record {
          there = o.there_out;
          fits = fits_to x.line o.out (lines.spot x.line) m x.left o.spot_out (inl o.scope_out) c.fits;
          turns = o.turns_out c.turns;
          busy = (let a = o.least_out in let b = c.busy in omega (arith, a, b));
        };
        pays_again = λ m n c some. (let a = o.pays_again n c.turns some in omega (arith, a));
        pays_out = λ m c. (let a = o.pays_out c.turns in omega (arith, a));
        busy_again = omega arith;
        busy_out = omega arith;
      })
        where
          held : (to : I) → S to ≡ S x.line → lines.phase to ≡ Saving nothing → lines.spot to ≡ lines.spot x.line → (p : ℕ) (h : Home) → L.holds (moved_to x to) p h → L.holds x p h
          held to same phase spot p h (inl at) = inl (subst (λ z. In (S x.line) z (lines.spot x.line) p h) (sym o.phase) (cast_in x.line to (Saving nothing) (lines.spot x.line) same phase spot p h at))
          held to same phase spot p h (inr fresh) = inr (fresh.0, (subst (λ y. live y p) spot fresh.1.0, fresh.1.1))

      -- ---- A head

      abbrev woken : IsHead I Q flow words live lines g x.line → Position I
      woken o = record { line = o.to; left = o.work; busy = 0 }

      -- behind a wake live objects are held in FRAM
      pub behind_head : (o : IsHead I Q flow words live lines g x.line) → (p : ℕ) (h : Home) → L.holds (woken o) p h → In (S x.line) Resting (lines.spot x.line) p h
      behind_head o p h (inl at) = elim (begins_in x.line o.to nothing o.same o.spot apart o.begins p h at) [ inl is ↦ is | inr none ↦ none_done (lines.spot x.line) p none.0 ]
      behind_head o p h (inr fresh) = (subst (λ y. live y p) o.spot fresh.1.0, fresh.1.1)

      head_rests : 1 ≤ x.busy → IsHead I Q flow words live lines g x.line → Rests (Position I) Q flow words L g x
      head_rests busy o = record {
        to = woken o;
        stands = o.stands;
        behind = o.behind;
        spot = o.spot;
        frames = refl;
        holds = λ p h y. let at = behind_head o p h y in (inl (subst (λ z. In (S x.line) z (lines.spot x.line) p h) (sym o.phase) at), (lines.fram p, at.1, stand.high p));
        counts = λ m n n' c. record { there = o.there; fits = o.fits m; turns = o.turns n'; busy = (let z = o.fresh in omega (arith, z)) };
        pays = λ m n c. (let a = o.pays n c.turns in omega (arith, a));
        left = o.left;
        within = λ m n c. o.within n;
        affords = o.affords;
        done = busy;
        fresh = refl;
      }

      -- ---- An operation

      abbrev left_by : Bool → ℕ → ℕ → ℕ
      left_by true weight work = x.left - weight
      left_by false weight work = work

      abbrev Does' : Type 0
      Does' = Does I Q flow words live lines g x.line

      abbrev Fits' : I → Q → Memory → ℕ → Type 0
      Fits' i q m left = Fits Q flow (lines.scope i) q m left

      spent_fits : (inside : Bool) (weight work : ℕ) (to : I) (q : Q) (m : Memory) → CanPay I Q flow words live lines g inside x.line weight → Spends I Q flow words live lines g inside x.line weight work to → lines.spot to ≡ q
          → ((lines.scope x.line).inside (lines.spot x.line) ≡ true → Fits' x.line q m (x.left - (lines.scope x.line).price (lines.spot x.line))) → Fits' to (lines.spot to) m (left_by inside weight work)
      spent_fits true weight work to q m can spends spot fits = fits_to x.line to q m (x.left - weight) spot spends.scope (subst (λ n. Fits' x.line q m (x.left - n)) can.1 (fits can.0))
      spent_fits false weight work to q m can spends spot fits = spends.fits m

      spent_pays : (inside : Bool) (weight work : ℕ) (to : I) (n : ℕ) (m : Memory) → CanPay I Q flow words live lines g inside x.line weight → Spends I Q flow words live lines g inside x.line weight work to → Counts x m n
          → weight + (left_by inside weight work + lines.rest to n) ≤ x.left + lines.rest x.line n
      spent_pays true weight work to n m can spends c =
          let price = fits_price Q flow (lines.scope x.line) (lines.spot x.line) m x.left c.fits can.0 in
          let same = can.1 in
          let a = spends.pays n c.turns in
          omega (arith, price, same, a)
      spent_pays false weight work to n m can spends c = let a = spends.pays n c.turns in omega (arith, a)

      can_afford : (inside : Bool) (weight n : ℕ) (m : Memory) → CanPay I Q flow words live lines g inside x.line weight → Counts x m n → weight ≤ x.left + lines.rest x.line n
      can_afford true weight n m can c =
          let price = fits_price Q flow (lines.scope x.line) (lines.spot x.line) m x.left c.fits can.0 in
          let same = can.1 in
          omega (arith, price, same)
      can_afford false weight n m can c = let a = can n c.turns in omega (arith, a)

      leads_to : (o : Does') (m : Memory) (taken work : ℕ) (to : I) (q : Q)
          → ((n : ℕ) → Counts x m n → (lines.scope x.line).inside (lines.spot x.line) ≡ true → Fits' x.line q (written m (effect_at (Position I) Q flow words L g x m taken).change) (x.left - (lines.scope x.line).price (lines.spot x.line)))
          → Follows I Q flow words live lines g x.line o.done q to × Spends I Q flow words live lines g o.inside x.line o.weight work to
          → Leads (Position I) Q flow words L g x o.weight m taken q (record { line = to; left = left_by o.inside o.weight work; busy = 1 })
      leads_to o m taken work to q fits f = record {
        spot = f.0.spot;
        holds = held;
        frames = refl;
        counts = λ n c. record {
          there = f.0.there;
          fits = spent_fits o.inside o.weight work to q (written m (effect_at (Position I) Q flow words L g x m taken).change) o.can_pay f.1 f.0.spot (fits n c);
          turns = f.0.turns n c.turns;
          busy = f.0.least;
        };
        pays = λ n c. spent_pays o.inside o.weight work to n m o.can_pay f.1 c;
        busy = omega arith;
      }
        where
          held : (p : ℕ) (h : Home) → L.holds (record { line = to; left = left_by o.inside o.weight work; busy = 1 }) p h → WroteAt (Position I) Q flow words L g x p h ⊎ Spared (Position I) Q flow words L g x p h
          held p h (inl at) = leads_holds g x o.done o.phase apart o.writes q f.0.before f.0.part p h (ends_in x.line to o.done q f.0.spot apart f.0.ends p h at)
          held p h (inr fresh) = absurd (let e = fresh.0 in omega (arith, e))

      operates : Does' → Operates (Position I) Q flow words L g x
      operates o = record {
        on = record { line = o.on; left = left_by o.inside o.weight o.work_on; busy = 1 };
        away = record { line = o.away; left = left_by o.inside o.weight o.work_away; busy = 1 };
        weight = o.weight;
        clear = o.clear;
        affords = λ m n c. can_afford o.inside o.weight n m o.can_pay c;
        leads_on = λ m taken turn. leads_to o m taken o.work_on o.on (flow.on (lines.spot x.line)) (λ n c is. fits_on Q flow (lines.scope x.line) (lines.spot x.line) m x.left (input_word g.input taken) c.fits is (small taken) turn) (o.leads_on m taken turn);
        leads_away = λ m taken turn. leads_to o m taken o.work_away o.away (flow.away (lines.spot x.line)) (λ n c is. fits_away Q flow (lines.scope x.line) (lines.spot x.line) m x.left (input_word g.input taken) c.fits is (small taken) turn) (o.leads_away m taken turn);
        performs = λ m s few here. o.performs x.left x.busy (left_by o.inside o.weight o.work_on) 1 (left_by o.inside o.weight o.work_away) 1 m s few here;
      }

    -- ---- Every line

    line_by : (x : Position I) → lines.least x.line ≤ x.busy → HomesApart words (S x.line) → LineAt I Q flow words live lines g x.line → Line (Position I) Q flow words L g x
    line_by x busy apart (AHead o) = Head (head_rests x apart (let b = o.busy in omega (arith, b, busy)) o)
    line_by x busy apart (ARestore o) = Move (restores_move x apart o)
    line_by x busy apart (ASave o) = Move (saves_move x apart o)
    line_by x busy apart (ASet o) = Move (sets_move x apart o)
    line_by x busy apart (ALower o) = Move (lowers_move x apart o)
    line_by x busy apart (AnOperation o) = Operation (operates x apart o)

    line : (x : Position I) (m : Memory) (s : State) → Here (Position I) Q flow words L g x m s → Line (Position I) Q flow words L g x
    line x m s here = line_by x here.counted.busy (stand.apart x.line here.counted.there) (stand.lines_are x.line here.counted.there)

    module _ (does : Behaviour) (Tracks : Tracking Q) where
      pub lined_carries : FollowsFlow Q flow does g.input words Tracks → Carried g does (At (Position I) Q flow words L g does Tracks)
      lined_carries follows = laid_carries (Position I) Q flow words L g does Tracks follows line

      -- from a first state whose FRAM the flow begins with
      pub lined_begins : FollowsFlow Q flow does g.input words Tracks → (i : I) → lines.is_there i → (o : IsHead I Q flow words live lines g i) → lines.address i ≡ 9 → (s : State) → s.fram 0xC00 ≡ 1 → s.fram 0xC01 ≡ 0x8024 → s.fram 0xC02 ≡ 0x8000
          → Tracks 0 (lines.spot i) (λ p k. s.fram (lines.fram p + k)) 0 [] → Begun g does (At (Position I) Q flow words L g does Tracks) s
      lined_begins follows i there o first s gate resume stack tracks =
          let x : Position I = record { line = i; left = 0; busy = 1 } in
          starts (Position I) Q flow words L g does Tracks follows line s (record {
            gate = gate;
            resume = resume;
            stands = subst (λ k. Stand g.code k (head (0x8000 + 2 * (k + 9)))) first o.stands;
            to = record { line = o.to; left = o.work; busy = 0 };
            m = λ p k. s.fram (lines.fram p + k);
            tracks = subst (λ q. Tracks 0 q (λ p k. s.fram (lines.fram p + k)) 0 []) (sym o.spot) tracks;
            behind = o.behind ∙ ap (λ k. k + 11) first;
            frames = refl;
            stack = stack;
            held = λ p h y. let at = behind_head x (stand.apart i there) o p h y in (lines.fram p, at.1, stand.high p, λ k low. refl);
            counts = λ n. record { there = o.there; fits = o.fits (λ p k. s.fram (lines.fram p + k)); turns = o.turns n; busy = (let z = o.fresh in omega (arith, z)) };
            left = o.left;
            within = λ n. o.within n;
            affords = o.affords;
            fresh = refl;
          })

      -- ---- What states show of the flow

      -- awake, with GATE closed, at a line
      abbrev pub WorksAtLine : I → State → Type 0
      WorksAtLine i s = (s.phase ≡ Awake) × (s.fram 0xC00 ≡ 0) × (s.reg 0 ≡ 0x8000 + 2 * lines.address i)

      -- Off or asleep, with GATE open, to be resumed by the last instruction of a head, behind which this line stands; and FRAM holds the words of the
      -- objects that are live there.
      abbrev pub WaitsAtLine : I → Memory → State → Type 0
      WaitsAtLine i m s =
          ((s.phase ≡ Off) ⊎ (s.phase ≡ Asleep)) × (s.fram 0xC00 ≡ 1) × (s.fram 0xC01 + 4 ≡ 0x8000 + 2 * lines.address i)
          × ((p k : ℕ) → live (lines.spot i) p → k < words p → s.fram (lines.fram p + k) ≡ m p k)

      pub record Shown (operations : ℕ) (s : State) : Type 0 where
        pub at_line : I
        pub m : Memory
        pub taken : ℕ
        pub put : List ℕ
        pub tracks : Tracks operations (lines.spot at_line) m taken put
        pub there : lines.is_there at_line
        pub stands : WorksAtLine at_line s ⊎ WaitsAtLine at_line m s

      points_work : (need wakes operations : ℕ) (put : List ℕ) (s : State) → At (Position I) Q flow words L g does Tracks need wakes operations put s → Shown operations s
      points_work need wakes operations put s at = record {
        at_line = at.x.line;
        m = at.m;
        taken = s.taken;
        put = put;
        tracks = at.tracks;
        there = at.here.counted.there;
        stands = inl (at.here.working.awake, at.here.working.closed, at.here.pc);
      }

      rests_wait : (left k sp taken operations : ℕ) (f : ℕ → ℕ) (put : List ℕ) (u s : State) → f 0xC00 ≡ 1 → f 0xC01 ≡ 0x8000 + 2 * k → Resumed g k sp taken f u
          → At (Position I) Q flow words L g does Tracks left (operations + 1) operations put u → (s.phase ≡ Off) ⊎ (s.phase ≡ Asleep) → s.fram ≡ f → Shown operations s
      rests_wait left k sp taken operations f put u s opened resume resumed at phase same = record {
        at_line = at.x.line;
        m = at.m;
        taken = u.taken;
        put = put;
        tracks = at.tracks;
        there = at.here.counted.there;
        stands = inr (
          phase,
          ap (λ h. h 0xC00) same ∙ opened,
          (let r = ap (λ h. h 0xC01) same ∙ resume in let a = resumed.pc in let b = at.here.pc in omega (arith, r, a, b)),
          λ p j lives low.
              ap (λ h. h (lines.fram p + j)) same
              ∙ sym (set_at_other f 0xC00 0 (lines.fram p + j) (λ e. let above = stand.high p in omega (arith, e, above)))
              ∙ sym (ap (λ h. h (lines.fram p + j)) resumed.has_fram)
              ∙ at.here.held p (InFram (lines.fram p)) (inr ((let t = at.timely in omega (arith, t)), (lives, refl))) j low,
        );
      }

      pub lined_ties : Tied g (At (Position I) Q flow words L g does Tracks) Shown
      lined_ties = record { works = points_work; waits = rests_wait }
