-- A copy of an array in certified code: every run goes on as the rules say.
use Rattle.std.proofs.Common.{◌≡◌, ℕ, zero, suc, ◌+◌, ◌-◌, ◌*◌, ◌%◌, ◌<◌, ◌≤◌, Bool, true, false, Option, Some, None, List, [], length, refl, sym, ap, ◌∙◌, subst, arith, ⊎_elim}
use Rattle.std.specs.Prelude.{if◌then◌else◌, ◌==◌, ◌&&◌, not, is_some, unwrap_or, pos, negsuc}
use Rattle.std.specs.Int.Signed.{◌≤ℤ◌}
use Rattle.std.proofs.lemmas.Bool.{cases_lt}
use Rattle.std.proofs.lemmas.Bool.Decides.{nat_tests}
use Rattle.certificate.specs.declared.cert.Slot.{Slot}
use Rattle.certificate.specs.declared.cert.Slot.TheVariants.{Reg, Word}
use Rattle.certificate.specs.Rows.{Flat}
use Rattle.msp430_isa.specs.declared.instr.Instr.{Instr}
use Rattle.msp430_isa.specs.Decoding.{instruction_at}
use Rattle.msp430_isa.specs.Results.{jump_target}
use Rattle.msp430_machine.specs.Access.{access_fault}
use Rattle.msp430_machine.specs.Cost.{cost}
use Rattle.msp430_machine.specs.State.{Phase, Awake, State, set_at}
use Rattle.msp430_machine.specs.Execution.{gone_to}
use Rattle.msp430_machine.specs.Steps.{Does, next, begun}
use Rattle.cert_rules.specs.Words.{word_in}
use Rattle.cert_rules.specs.Slots.{same_slot}
use Rattle.cert_rules.specs.Forms.{is_general}
use Rattle.cert_rules.specs.Known.{Known}
use Rattle.cert_rules.specs.Places.{InReach, may_read, may_move_to}
use Rattle.cert_rules.specs.Effects.{computed}
use Rattle.cert_rules.specs.Sheet.{Sheet, is_head, word_or_zero, instruction_of, holds_words}
use Rattle.cert_rules.specs.Overhead.{sleep_cost}
use Rattle.cert_rules.specs.Standing.{Copy, copy_bytes}
use Rattle.cert_rules.specs.Accesses.{reach_fault, fresh_faults, writes_fault, stale, word_of_reach}
use Rattle.cert_rules.specs.Outcomes.{Outcome, Ends, falls_only, always_ends}
use Rattle.cert_rules.specs.Going.{spent_to, greatest_spent, limit_of, falls_with, going_fault}
use Rattle.cert_rules.specs.Copies.{copied_from, copied_to, copy_places_fault, copy_turn, copy_cost, copied}
use Rattle.cert_rules.specs.Sweep.{Swept}
use Rattle.cert_effects.specs.Written.{Written, wrote, ReadsOnly}
use Rattle.cert_effects.specs.Knows.{value_of, Holds, Knows}
use Rattle.cert_effects.proofs.Values.{Sets, SameValues, same_values, sets_register, equal_numbers, not_special}
use Rattle.cert_effects.proofs.Reaches.{readable, movable, none_in}
use Rattle.cert_effects.proofs.Knowing.{More}
use Rattle.cert_effects.proofs.Placing.{IsEnd, hit_apart}
use Rattle.cert_effects.proofs.Rules.{none_parts, number_passes, allowed_of, fresh_of, sram_is}
use Rattle.cert_effects.proofs.Computing.{InputWords, begun_same}
use Rattle.cert_effects.proofs.Computed.{Performs, wrote_more}
use Rattle.cert_effects.proofs.Copying.{set_counter, move_word, count_down, again, everything, exact, AreSmall, WordOf, move_cost, move_performs, move_costs, move_leaves, move_reads, move_writes, move_ends, set_performs, set_sets, down_performs, down_sets, down_flag, set_reads, down_reads, Stays, copied_holds}
use Rattle.cert_effects.proofs.Stack.{stacked_same}
use Rattle.cert_effects.proofs.Keeping.{copy_keeps}
use Rattle.cert_sound.specs.Moments.{Moment}
use Rattle.cert_sound.specs.Sound.{Safe, IsNoFault}
use Rattle.cert_code.proofs.Edges.{edge_fall, points_fall, true_or_false}
use Rattle.cert_sound.proofs.Covering.{executed, Covers, covers_ran, covers_ran_more, covers_stopped}
use Rattle.cert_code.proofs.Fetching.{comes_next}
use Rattle.cert_code.proofs.Sweeping.{CopyAt, one_within, going_parts}
use Rattle.cert_sound.proofs.Running.{Around, Placed, Stands, Sound, head_cost, keeps_on, more_then, safe_within, spent_room, spent_alone, knows_plain, end_is_stop, end_no_fault}
use Rattle.cert_sound.proofs.Stepping.{Ready, ReadyHeads, BackTo, lands}
use Rattle.cert_code.proofs.Apart.{found_at}

-- ---- The words of the four instructions

there_is : (o : Option ℕ) (w : ℕ) → o ≡ Some w → is_some o ≡ true
there_is o w e = ap is_some e

both : (x y : Bool) → x ≡ true → y ≡ true → (x && y) ≡ true
both x y e f = ap (λ z. z && y) e ∙ f

word_is : (t : Sheet) (a w : ℕ) → word_in t.blocks a ≡ Some w → word_or_zero t a ≡ w
word_is t a w e = ap (λ o. unwrap_or o 0) e

held_one : (t : Sheet) (a : ℕ) → is_some (word_in t.blocks a) ≡ true → holds_words t a 1 ≡ true
held_one t a e = both (is_some (word_in t.blocks a)) true e refl

held_two : (t : Sheet) (a : ℕ) → is_some (word_in t.blocks a) ≡ true → is_some (word_in t.blocks (a + 2)) ≡ true → holds_words t a 2 ≡ true
held_two t a e f = both (is_some (word_in t.blocks a)) (holds_words t (a + 2) 1) e (held_one t (a + 2) f)

held_three : (t : Sheet) (a : ℕ) → is_some (word_in t.blocks a) ≡ true → is_some (word_in t.blocks (a + 2)) ≡ true → is_some (word_in t.blocks (a + 2 + 2)) ≡ true → holds_words t a 3 ≡ true
held_three t a e f g = both (is_some (word_in t.blocks a)) (holds_words t (a + 2) 2) e (held_two t (a + 2) f g)

-- ---- Where a run stands in a copy

-- So much is in the counter; words from this one down are not yet moved; and so much is still to be spent of the whole.
pub record Mid (t : Sheet) (code : ℕ → ℕ) (x : Copy) (head whole : ℕ) (s : State) (w : Written) (pc count undone left : ℕ) (u : Moment) : Type 0 where
  pub awake : u.trail.state.phase ≡ Awake
  pub at : u.trail.state.reg 0 ≡ pc
  pub has_code : u.trail.state.code ≡ code
  pub no_cut : u.trail.cuts ≡ 0
  pub rich : t.board.budget ≤ u.trail.state.charge + u.trail.stretch
  pub resumes : u.resumes ≡ head + 18
  pub spent : u.trail.stretch + left ≡ whole
  pub counter : u.trail.state.reg 15 ≡ count
  pub stays : (z : Slot) → Stays x z → value_of u.trail.state z ≡ value_of s z
  pub sp : u.trail.state.reg 1 ≡ s.reg 1
  pub stack : (j : ℕ) → 0x3F80 ≤ j → u.trail.state.fram j ≡ s.fram j
  pub small : AreSmall u.trail.state
  pub more : More w u.written
  pub set : u.written.registers 15 ≡ true
  pub moved : (b : ℕ) → b % 2 ≡ 0 → x.target + 2 * undone < b → b ≤ (copied_to x).greatest → u.written.words b ≡ true

turn_parts : (i turn c1 c2 c3 : ℕ) → turn ≡ c1 + c2 + c3 → (i + 1) * turn ≡ c1 + (c2 + (c3 + i * turn))
turn_parts i turn c1 c2 c3 e =
    let split : (i + 1) * turn ≡ i * turn + turn = omega arith in
    let gathered : i * turn + (c1 + c2 + c3) ≡ c1 + (c2 + (c3 + i * turn)) = omega arith in
    split ∙ ap (λ z. i * turn + z) e ∙ gathered

module _ (t : Sheet) (code : ℕ → ℕ) (input : List ℕ) (words : InputWords input) (c : Sound t code) (n a : ℕ) (incoming : Option Known) (κ : Known) (ar : Around) (spent : ℕ) (m : Moment)
    (ready : Ready t code input words c n) (heads : ReadyHeads t code input words c n) (back : BackTo t code input words c ar n) (low : t.here.start ≤ a) (placed : Placed t ar κ.stretch) (stand : Stands t code ar a κ.stretch spent m)
    (k : Knows κ m.trail.state m.written spent) (x : Copy) (there : CopyAt t a κ x) where
  abbrev Fine : Moment → Type 0
  Fine u = Safe t.stretches t.board u

  abbrev s : State
  s = m.trail.state

  abbrev whole : ℕ
  whole = m.trail.stretch + copy_cost t.board x

  abbrev limit : ℕ
  limit = limit_of t κ.stretch

  -- what the stretch may cost
  abbrev top : ℕ
  top = head_cost t.stretches ar.head

  few : length ar.frames ≤ 64
  few = omega (arith, placed.deep, c.tall)

  abbrev At : ℕ → ℕ → ℕ → ℕ → Moment → Type 0
  At pc count undone left u = Mid t code x ar.head whole s m.written pc count undone left u

  address : 0x8000 ≤ a
  address = omega (arith, low, c.low)

  -- ---- What the rules say of the copy

  may_from : may_read (copied_from x) ≡ true
  may_from =
      let places = (none_parts (copy_places_fault a x) _ there.own).0 in
      allowed_of a may_read (InReach (copied_from x)) (none_parts (reach_fault a may_read (InReach (copied_from x))) (reach_fault a may_move_to (InReach (copied_to x))) places).0

  may_to : may_move_to (copied_to x) ≡ true
  may_to =
      let places = (none_parts (copy_places_fault a x) _ there.own).0 in
      allowed_of a may_move_to (InReach (copied_to x)) (none_parts (reach_fault a may_read (InReach (copied_from x))) (reach_fault a may_move_to (InReach (copied_to x))) places).1

  none_stale : word_of_reach (stale κ) (InReach (copied_from x)) ≡ None
  none_stale =
      let fresh = (none_parts (fresh_faults a κ false (InReach (copied_from x)) (InReach (copied_to x))) _ (none_parts (copy_places_fault a x) _ there.own).1).0 in
      number_passes _ _ _ (none_parts _ _ fresh).0

  fresh_from : (b : ℕ) → b % 2 ≡ 0 → (copied_from x).least ≤ b → b ≤ (copied_from x).greatest → 0x1C00 ≤ b → b < 0x2400 → m.written.words b ≡ true
  fresh_from b even lo hi sl sh = k.all.fresh b even (fresh_of κ b (none_in (stale κ) (copied_from x).least (copied_from x).greatest b none_stale lo hi even) (sram_is b sl sh))

  named : (f : Flat) → t.here.flat ≡ Some f → writes_fault a (Some f) true (InReach (copied_to x)) ≡ None
  named f flat =
      let places = none_parts (copy_places_fault a x) _ there.own in
      let fresh = none_parts (fresh_faults a κ false (InReach (copied_from x)) (InReach (copied_to x))) _ places.1 in
      subst (λ o. writes_fault a o true (InReach (copied_to x)) ≡ None) flat (none_parts (writes_fault a t.here.flat true (InReach (copied_to x))) None fresh.1).0

  target_even : x.target % 2 ≡ 0
  target_even =
      let some = there.some in
      let at = (movable (copied_to x) (x.target + 2) may_to (omega arith) (omega (arith, some)) (λ e. (let even : x.target % 2 ≡ 0 = equal_numbers (x.target % 2) 0 e in omega (arith, even)))).1 in
      omega (arith, at)

  from_word : (i v : ℕ) → i < x.words → v ≡ 2 * (i + 1) → WordOf (copied_from x) x.source v
  from_word i v lt e = record { low = omega (arith, e); high = omega (arith, e, lt); even = λ h. (let even : x.source % 2 ≡ 0 = equal_numbers (x.source % 2) 0 h in omega (arith, e, even)) }

  to_word : (i v : ℕ) → i < x.words → v ≡ 2 * (i + 1) → WordOf (copied_to x) x.target v
  to_word i v lt e = record { low = omega (arith, e); high = omega (arith, e, lt); even = λ h. (let even : x.target % 2 ≡ 0 = equal_numbers (x.target % 2) 0 h in omega (arith, e, even)) }

  -- ---- The instructions, where they stand

  first_found : instruction_of t a ≡ Some (set_counter (2 * x.words))
  first_found = found_at t a 0x403F there.w0 ∙ ap (λ y. instruction_at 0x403F y (word_or_zero t (a + 4))) (word_is t (a + 2) (2 * x.words) there.w1)

  move_found : instruction_of t (a + 4) ≡ Some (move_word x.source x.target)
  move_found =
      let on : a + 4 + 2 ≡ a + 6 = omega arith in
      let on' : a + 4 + 4 ≡ a + 8 = omega arith in
      found_at t (a + 4) 0x4F9F there.w2
      ∙ ap (λ y. instruction_at 0x4F9F y (word_or_zero t (a + 4 + 4))) (ap (word_or_zero t) on ∙ word_is t (a + 6) x.source there.w3)
      ∙ ap (λ y. instruction_at 0x4F9F x.source y) (ap (word_or_zero t) on' ∙ word_is t (a + 8) x.target there.w4)

  down_found : instruction_of t (a + 10) ≡ Some count_down
  down_found = found_at t (a + 10) 0x832F there.w5

  again_found : instruction_of t (a + 12) ≡ Some again
  again_found = found_at t (a + 12) 0x23FB there.w6

  first_comes : (u : State) → u.code ≡ code → u.reg 0 ≡ a → access_fault u (set_counter (2 * x.words)) ≡ None → next u ≡ Does (set_counter (2 * x.words))
  first_comes u same pc allowed =
      comes_next t code a (set_counter (2 * x.words)) u c.loaded address (omega (arith, there.room)) (omega arith) there.even first_found
      (held_two t a (there_is (word_in t.blocks a) 0x403F there.w0) (there_is (word_in t.blocks (a + 2)) (2 * x.words) there.w1)) same pc allowed

  move_comes : (u : State) → u.code ≡ code → u.reg 0 ≡ a + 4 → access_fault u (move_word x.source x.target) ≡ None → next u ≡ Does (move_word x.source x.target)
  move_comes u same pc allowed =
      let on : a + 4 + 2 ≡ a + 6 = omega arith in
      let on' : a + 4 + 2 + 2 ≡ a + 8 = omega arith in
      comes_next t code (a + 4) (move_word x.source x.target) u c.loaded (omega (arith, address)) (omega (arith, there.room)) (omega arith) (omega (arith, there.even)) move_found
      (held_three t (a + 4) (there_is (word_in t.blocks (a + 4)) 0x4F9F there.w2)
      (there_is (word_in t.blocks (a + 4 + 2)) x.source (ap (word_in t.blocks) on ∙ there.w3))
      (there_is (word_in t.blocks (a + 4 + 2 + 2)) x.target (ap (word_in t.blocks) on' ∙ there.w4))) same pc allowed

  down_comes : (u : State) → u.code ≡ code → u.reg 0 ≡ a + 10 → access_fault u count_down ≡ None → next u ≡ Does count_down
  down_comes u same pc allowed =
      comes_next t code (a + 10) count_down u c.loaded (omega (arith, address)) (omega (arith, there.room)) (omega arith) (omega (arith, there.even)) down_found
      (held_one t (a + 10) (there_is (word_in t.blocks (a + 10)) 0x832F there.w5)) same pc allowed

  again_comes : (u : State) → u.code ≡ code → u.reg 0 ≡ a + 12 → next u ≡ Does again
  again_comes u same pc =
      comes_next t code (a + 12) again u c.loaded (omega (arith, address)) (omega (arith, there.room)) (omega arith) (omega (arith, there.even)) again_found
      (held_one t (a + 12) (there_is (word_in t.blocks (a + 12)) 0x23FB there.w6)) same pc refl

  -- ---- What is known behind the whole, of a state that the run may never come to

  abbrev zeroed : State
  zeroed = record s { reg = set_at s.reg 15 0 }

  zeroed_sets : Sets s zeroed (Reg 15) 0
  zeroed_sets = sets_register s 15 0 refl

  zeroed_small : AreSmall zeroed
  zeroed_small z = elim (same_slot z (Reg 15)) as (λ d. same_slot z (Reg 15) ≡ d → value_of zeroed z < 65536) [
    | true ↦ λ e. subst (λ v. v < 65536) (sym (zeroed_sets.here z e)) (omega arith)
    | false ↦ λ e. subst (λ v. v < 65536) (sym (zeroed_sets.there z e)) (k.all.words z)
  ] refl

  would_hold : Holds (copied t.board x κ) zeroed everything (spent + copy_cost t.board x)
  would_hold = copied_holds t.board x κ s zeroed m.written everything spent k.all (record {
    counter = refl;
    stays = λ z st. zeroed_sets.there z st.1;
    small = zeroed_small;
    more = record { registers = λ r e. refl; words = λ b e. refl; flags = λ e. refl };
    set = refl;
    fresh = λ b even lo hi sr. refl;
    flags = refl;
  })

  -- ---- One instruction of the copy

  module _ (room : whole ≤ top) where
    within : (pc count undone left : ℕ) (u : Moment) → At pc count undone left u → u.trail.stretch ≤ top
    within pc count undone left u h = omega (arith, h.spent, room)

    safe : (pc count undone left : ℕ) (u : Moment) → At pc count undone left u → (i : Instr) → next u.trail.state ≡ Does i → ReadsOnly u.written u.trail.state i → Fine u
    safe pc count undone left u h i does reads =
        safe_within t code ar.head u c h.no_cut (subst IsNoFault (sym h.awake) tt) (within pc count undone left u h) h.resumes
        (λ j awake e. (let both : Does i ≡ Does j = sym does ∙ e in let same : i ≡ j = cc in subst (λ z. ReadsOnly u.written u.trail.state z) same reads))

    pays : (pc count undone left : ℕ) (u : Moment) → At pc count undone left u → (y : ℕ) → y ≤ left → y ≤ u.trail.state.charge
    pays pc count undone left u h y le = omega (arith, le, h.spent, h.rich, room, c.limits ar.head)

    goes : (pc count undone left : ℕ) (u : Moment) → At pc count undone left u → (i : Instr) → next u.trail.state ≡ Does i → ReadsOnly u.written u.trail.state i → cost t.board u.trail.state i ≤ left
        → Covers t.board input Fine n (executed t.board input i u) → Covers t.board input Fine n u
    goes pc count undone left u h i does reads le rest =
        covers_ran t.board input Fine n u i h.awake (safe pc count undone left u h i does reads) does (pays pc count undone left u h (cost t.board u.trail.state i) le) rest

    stops : (pc count undone left : ℕ) (u : Moment) → At pc count undone left u → (i : Instr) → cost t.board u.trail.state i ≤ left → IsEnd (executed t.board input i u).trail.state.phase
        → Covers t.board input Fine n (executed t.board input i u)
    stops pc count undone left u h i le ends =
        covers_stopped t.board input Fine n (executed t.board input i u) (end_is_stop _ ends)
        (safe_within t code ar.head (executed t.board input i u) c h.no_cut (end_no_fault _ ends) (omega (arith, le, h.spent, room)) h.resumes (λ j awake e. absurd (subst IsEnd awake ends)))

    -- where R15 is written
    counted : (pc count undone left : ℕ) (u : Moment) → At pc count undone left u → (i : Instr) (to v y : ℕ) → cost t.board u.trail.state i ≡ y → (rest : ℕ) → left ≡ y + rest
        → (executed t.board input i u).trail.state.phase ≡ Awake → (executed t.board input i u).trail.state.reg 0 ≡ to → (executed t.board input i u).trail.state.code ≡ u.trail.state.code
        → (executed t.board input i u).trail.state.charge ≡ u.trail.state.charge - cost t.board u.trail.state i
        → Sets u.trail.state (executed t.board input i u).trail.state (Reg 15) v → AreSmall (executed t.board input i u).trail.state
        → (executed t.board input i u).trail.state.reg 1 ≡ u.trail.state.reg 1 → ((j : ℕ) → 0x3F80 ≤ j → (executed t.board input i u).trail.state.fram j ≡ u.trail.state.fram j)
        → At to v undone rest (executed t.board input i u)
    counted pc count undone left u h i to v y costs rest is awake at same charge sets small sp stack = record {
      awake = awake;
      at = at;
      has_code = same ∙ h.has_code;
      no_cut = h.no_cut;
      rich = omega (arith, h.rich, charge, pays pc count undone left u h (cost t.board u.trail.state i) (omega (arith, costs, is)));
      resumes = h.resumes;
      spent = omega (arith, h.spent, costs, is);
      counter = sets.here (Reg 15) refl;
      stays = λ z st. sets.there z st.1 ∙ h.stays z st;
      sp = sp ∙ h.sp;
      stack = λ j le. stack j le ∙ h.stack j le;
      small = small;
      more = more_then m.written u.written (wrote u.trail.state i u.written) h.more (wrote_more u.trail.state i u.written);
      set = (wrote_more u.trail.state i u.written).registers 15 h.set;
      moved = λ b even lo hi. (wrote_more u.trail.state i u.written).words b (h.moved b even lo hi);
    }

    -- MOV x(R15),y(R15), with i more words behind it
    abbrev moves : Instr
    moves = move_word x.source x.target

    abbrev rests : ℕ → ℕ
    rests i = t.board.core.alu + t.board.access.fetch + (t.board.core.jump + t.board.access.fetch + i * copy_turn t.board x)

    moving : (i : ℕ) → i < x.words → (u : Moment) → At (a + 4) (2 * (i + 1)) (i + 1) (move_cost t.board x + rests i) u
        → (At (a + 10) (2 * (i + 1)) i (rests i) (executed t.board input moves u) → Covers t.board input Fine n (executed t.board input moves u)) → Covers t.board input Fine n u
    moving i lt u h on =
        goes (a + 4) (2 * (i + 1)) (i + 1) (move_cost t.board x + rests i) u h moves (move_comes u.trail.state h.has_code h.at perf.allowed) reads (omega (arith, costs))
        (⊎_elim (λ same. on (next_at same)) (λ ends. stops (a + 4) (2 * (i + 1)) (i + 1) (move_cost t.board x + rests i) u h moves (omega (arith, costs)) ends) perf.phase)
      where
        from : WordOf (copied_from x) x.source (u.trail.state.reg 15)
        from = from_word i (u.trail.state.reg 15) lt h.counter

        to : WordOf (copied_to x) x.target (u.trail.state.reg 15)
        to = to_word i (u.trail.state.reg 15) lt h.counter

        perf : Performs t.board input moves (exact u.trail.state) u.trail.state everything 0 (computed t.board moves (exact u.trail.state))
        perf = move_performs t.board x t input words u.trail.state h.small may_from may_to from to

        costs : cost t.board u.trail.state moves ≡ move_cost t.board x
        costs = move_costs t.board x t input words u.trail.state h.small may_from may_to from to

        source_at : u.trail.state.reg 15 + x.source ≡ x.source + 2 * (i + 1)
        source_at = omega (arith, h.counter)

        reads : ReadsOnly u.written u.trail.state moves
        reads = move_reads t.board x t input words u.trail.state h.small may_from may_to from to u.written h.set
            (λ sl sh. h.more.words (u.trail.state.reg 15 + x.source) (fresh_from (u.trail.state.reg 15 + x.source) (readable (copied_from x) (u.trail.state.reg 15 + x.source) may_from from.low from.high from.even).1 from.low from.high sl sh))

        misses : (z : Slot) → Stays x z → same_slot z (Word (u.trail.state.reg 15 + x.target)) ≡ false
        misses z st = hit_apart (copied_to x).least (copied_to x).greatest (u.trail.state.reg 15 + x.target) z to.low to.high st.0

        leaves : (z : Slot) → same_slot z (Word (u.trail.state.reg 15 + x.target)) ≡ false → value_of (executed t.board input moves u).trail.state z ≡ value_of u.trail.state z
        leaves = move_leaves t.board x t input words u.trail.state h.small may_from may_to from to

        writes : (b : ℕ) → b ≡ u.trail.state.reg 15 + x.target → (wrote u.trail.state moves u.written).words b ≡ true
        writes b e = subst (λ z. (wrote u.trail.state moves u.written).words z ≡ true) (sym e) (move_writes t.board x t input words u.trail.state h.small may_from may_to from to u.written)

        more : More u.written (wrote u.trail.state moves u.written)
        more = wrote_more u.trail.state moves u.written

        next_at : (executed t.board input moves u).trail.state.phase ≡ u.trail.state.phase → At (a + 10) (2 * (i + 1)) i (rests i) (executed t.board input moves u)
        next_at same = record {
          awake = same ∙ h.awake;
          at = perf.pc ∙ (let on : (u.trail.state.reg 0 + 2 * 3) % 65536 ≡ a + 10 = omega (arith, h.at, there.room) in on);
          has_code = perf.code ∙ h.has_code;
          no_cut = h.no_cut;
          rich = omega (arith, h.rich, perf.charge, pays (a + 4) (2 * (i + 1)) (i + 1) (move_cost t.board x + rests i) u h (cost t.board u.trail.state moves) (omega (arith, costs)));
          resumes = h.resumes;
          spent = omega (arith, h.spent, costs);
          counter = leaves (Reg 15) refl ∙ h.counter;
          stays = λ z st. leaves z (misses z st) ∙ h.stays z st;
          sp = perf.sp ∙ h.sp;
          stack = λ j le. perf.stack j le ∙ h.stack j le;
          small = perf.knows.all.words;
          more = more_then m.written u.written (wrote u.trail.state moves u.written) h.more more;
          set = more.registers 15 h.set;
          moved = λ b even lo hi. ⊎_elim
              (λ under. writes b (omega (arith, lo, under, even, target_even, h.counter)))
              (λ over. more.words b (h.moved b even (omega (arith, over)) hi))
              (cases_lt b (x.target + 2 * (i + 1) + 1));
        }

    -- SUB #2,R15
    downing : (i : ℕ) → i < x.words → (u : Moment) → At (a + 10) (2 * (i + 1)) i (rests i) u
        → (At (a + 12) (2 * i) i (t.board.core.jump + t.board.access.fetch + i * copy_turn t.board x) (executed t.board input count_down u)
        → (executed t.board input count_down u).trail.state.flags.zero_flag ≡ (2 * i == 0) → Covers t.board input Fine n (executed t.board input count_down u)) → Covers t.board input Fine n u
    downing i lt u h on =
        goes (a + 10) (2 * (i + 1)) i (rests i) u h count_down (down_comes u.trail.state h.has_code h.at perf.allowed) (down_reads u.trail.state u.written h.set) (omega (arith, costs))
        (⊎_elim
        (λ same. on (counted (a + 10) (2 * (i + 1)) i (rests i) u h count_down (a + 12) (2 * i) (t.board.core.alu + t.board.access.fetch) costs (t.board.core.jump + t.board.access.fetch + i * copy_turn t.board x) refl
        (same ∙ h.awake) (perf.pc ∙ (let on : (u.trail.state.reg 0 + 2 * 1) % 65536 ≡ a + 12 = omega (arith, h.at, there.room) in on)) perf.code perf.charge sets perf.knows.all.words perf.sp perf.stack) flag)
        (λ ends. stops (a + 10) (2 * (i + 1)) i (rests i) u h count_down (omega (arith, costs)) ends)
        perf.phase)
      where
        perf : Performs t.board input count_down (exact u.trail.state) u.trail.state everything 0 (computed t.board count_down (exact u.trail.state))
        perf = down_performs t.board t input words u.trail.state h.small

        costs : cost t.board u.trail.state count_down ≡ t.board.core.alu + t.board.access.fetch
        costs = omega arith

        sets : Sets u.trail.state (executed t.board input count_down u).trail.state (Reg 15) (2 * i)
        sets =
            let less : u.trail.state.reg 15 - 2 ≡ 2 * i = omega (arith, h.counter) in
            subst (λ v. Sets u.trail.state (executed t.board input count_down u).trail.state (Reg 15) v) less (down_sets t.board t input words u.trail.state h.small (omega (arith, h.counter)))

        flag : (executed t.board input count_down u).trail.state.flags.zero_flag ≡ (2 * i == 0)
        flag = down_flag t.board t input words u.trail.state h.small ∙ ap (λ z. z == 0) (sets.here (Reg 15) refl)

    -- JNE, wherever it goes
    abbrev jumps : ℕ
    jumps = t.board.core.jump + t.board.access.fetch

    again_reads : (u : State) (w : Written) → w.flags ≡ true → ReadsOnly w u again
    again_reads u w flags = record { registers = λ r lo hi e. absurd e; words = λ b lo hi e. absurd e; flags = λ e. flags }

    gone_at : (pc i left : ℕ) (u : Moment) → At (a + 12) (2 * i) i (jumps + left) u → (st : State) → (executed t.board input again u).trail.state ≡ st → st.phase ≡ u.trail.state.phase → st.reg 0 ≡ pc
        → st.code ≡ u.trail.state.code → st.charge ≡ u.trail.state.charge - jumps → SameValues u.trail.state st → st.reg 1 ≡ u.trail.state.reg 1 → At pc (2 * i) i left (executed t.board input again u)
    gone_at pc i left u h st is phase at same charge values sp = record {
      awake = ap (λ z. z.phase) is ∙ phase ∙ h.awake;
      at = ap (λ z. z.reg 0) is ∙ at;
      has_code = ap (λ z. z.code) is ∙ same ∙ h.has_code;
      no_cut = h.no_cut;
      rich = omega (arith, h.rich, ap (λ z. z.charge) is, charge, pays (a + 12) (2 * i) i (jumps + left) u h jumps (omega arith));
      resumes = h.resumes;
      spent = omega (arith, h.spent);
      counter = ap (λ z. z.reg 15) is ∙ values.registers 15 refl ∙ h.counter;
      stays = λ z st'. ap (λ y. value_of y z) is ∙ same_values u.trail.state st z values ∙ h.stays z st';
      sp = ap (λ z. z.reg 1) is ∙ sp ∙ h.sp;
      stack = λ j le. ap (λ z. z.fram j) is ∙ ap (λ f. f j) values.fram ∙ h.stack j le;
      small = λ z. subst (λ v. v < 65536) (sym (ap (λ y. value_of y z) is ∙ same_values u.trail.state st z values)) (h.small z);
      more = more_then m.written u.written (wrote u.trail.state again u.written) h.more (wrote_more u.trail.state again u.written);
      set = (wrote_more u.trail.state again u.written).registers 15 h.set;
      moved = λ b even lo hi. (wrote_more u.trail.state again u.written).words b (h.moved b even lo hi);
    }

    jumping : (i left : ℕ) (u : Moment) → At (a + 12) (2 * i) i (jumps + left) u → u.written.flags ≡ true → Covers t.board input Fine n (executed t.board input again u) → Covers t.board input Fine n u
    jumping i left u h flags on = goes (a + 12) (2 * i) i (jumps + left) u h again (again_comes u.trail.state h.has_code h.at) (again_reads u.trail.state u.written flags) (omega arith) on

    fallen_at : (left : ℕ) (u : Moment) → At (a + 12) 0 0 (jumps + left) u → u.trail.state.flags.zero_flag ≡ true → At (a + copy_bytes) 0 0 left (executed t.board input again u)
    fallen_at left u h zeros =
        let old : State = u.trail.state in
        let next_state : State = begun jumps again old in
        let on : (old.reg 0 + 2 * 1) % 65536 ≡ a + copy_bytes = omega (arith, h.at, there.room) in
        gone_at (a + copy_bytes) 0 left u h next_state
        (ap (λ z. if not z then gone_to next_state (jump_target ((old.reg 0 + 2 * 1) % 65536) (negsuc 4)) else next_state) zeros) refl on refl refl (begun_same jumps again old) refl

    back_at : (i left : ℕ) (u : Moment) → At (a + 12) (2 * i) i (jumps + left) u → u.trail.state.flags.zero_flag ≡ false → At (a + 4) (2 * i) i left (executed t.board input again u)
    back_at i left u h zeros =
        let old : State = u.trail.state in
        let next_state : State = gone_to (begun jumps again old) (a + 4) in
        let on : (old.reg 0 + 2 * 1) % 65536 ≡ a + 14 = omega (arith, h.at, there.room) in
        let back : jump_target (a + 14) (negsuc 4) ≡ a + 4 = omega (arith, there.room) in
        gone_at (a + 4) i left u h next_state
        (ap (λ z. if not z then gone_to (begun jumps again old) (jump_target ((old.reg 0 + 2 * 1) % 65536) (negsuc 4)) else begun jumps again old) zeros
        ∙ ap (λ p. gone_to (begun jumps again old) (jump_target p (negsuc 4))) on ∙ ap (λ p. gone_to (begun jumps again old) p) back) refl refl refl refl
        (record { registers = λ r g. (jumped_same r g); sram = refl; fram = refl; code = refl }) refl
      where
        jumped_same : (r : ℕ) → is_general r ≡ true → (gone_to (begun jumps again u.trail.state) (a + 4)).reg r ≡ u.trail.state.reg r
        jumped_same r g =
            ap (λ e. if e then a + 4 else (begun jumps again u.trail.state).reg r) (not_special r 0 g (omega arith)) ∙ (begun_same jumps again u.trail.state).registers r g

    -- ---- All words

    abbrev EndsSo : Type 0
    EndsSo = (u : Moment) → At (a + copy_bytes) 0 0 0 u → u.written.flags ≡ true → Covers t.board input Fine n u

    -- the moment after one turn
    abbrev turned : Moment → Moment
    turned u = executed t.board input again (executed t.board input count_down (executed t.board input moves u))

    loops : (i : ℕ) → i < x.words → EndsSo → (u : Moment) → At (a + 4) (2 * (i + 1)) (i + 1) ((i + 1) * copy_turn t.board x) u → Covers t.board input Fine n u
    loops zero lt finish u h =
        moving zero lt u (subst (λ z. At (a + 4) 2 1 z u) (turn_parts 0 (copy_turn t.board x) (move_cost t.board x) (t.board.core.alu + t.board.access.fetch) jumps refl) h) (λ h1.
        downing zero lt _ h1 (λ h2 flag.
        jumping 0 (0 * copy_turn t.board x) _ h2 refl (finish (turned u) (subst (λ z. At (a + copy_bytes) 0 0 z (turned u)) (let none : 0 * copy_turn t.board x ≡ 0 = omega arith in none) (fallen_at (0 * copy_turn t.board x) _ h2 flag)) refl)))
    loops (suc i) lt finish u h =
        moving (suc i) lt u (subst (λ z. At (a + 4) (2 * (suc i + 1)) (suc i + 1) z u) (turn_parts (suc i) (copy_turn t.board x) (move_cost t.board x) (t.board.core.alu + t.board.access.fetch) jumps refl) h) (λ h1.
        downing (suc i) lt _ h1 (λ h2 flag.
        jumping (suc i) (suc i * copy_turn t.board x) _ h2 refl (loops i (omega (arith, lt)) finish (turned u) (one_less i (turned u) (back_at (suc i) (suc i * copy_turn t.board x) _ h2 (flag ∙ not_zero i))))))
      where
        not_zero : (i : ℕ) → (2 * suc i == 0) ≡ false
        not_zero i = grind (arith, nat_tests)

        one_less : (i : ℕ) (u : Moment) → At (a + 4) (2 * suc i) (suc i) (suc i * copy_turn t.board x) u → At (a + 4) (2 * (i + 1)) (i + 1) ((i + 1) * copy_turn t.board x) u
        one_less i u h = let same : suc i ≡ i + 1 = omega arith in subst (λ z. At (a + 4) (2 * z) z (z * copy_turn t.board x) u) same h

  -- ---- The whole

  outcome : Bool → Outcome
  outcome e = if e then Ends (copied t.board x κ) else falls_only (copied t.board x κ)

  going : (e : Bool) → always_ends (InReach (copied_to x)) ≡ e → going_fault t κ.stretch a (a + copy_bytes) (outcome e) ≡ None
  unfolding outcome
  going e is = subst (λ d. going_fault t κ.stretch a (a + copy_bytes) (if d then Ends (copied t.board x κ) else falls_only (copied t.board x κ)) ≡ None) is there.going

  -- what is left behind MOV #2n,R15
  abbrev first : Instr
  first = set_counter (2 * x.words)

  small_count : 2 * x.words < 65536
  small_count = (c.numbers a first first_found address there.even (omega (arith, there.room))).0

  first_performs : Performs t.board input first (exact s) s everything 0 (computed t.board first (exact s))
  first_performs = set_performs t.board t input words s k.all.words (2 * x.words) small_count

  first_sets : Sets s (executed t.board input first m).trail.state (Reg 15) (2 * x.words)
  first_sets = set_sets t.board t input words s k.all.words (2 * x.words) small_count

  first_costs : cost t.board s first ≡ t.board.core.move_ + 2 * t.board.access.fetch
  first_costs = omega arith

  first_pays : whole ≤ top → cost t.board s first ≤ s.charge
  first_pays room = omega (arith, first_costs, stand.rich, room, c.limits ar.head)

  first_at : whole ≤ top → (executed t.board input first m).trail.state.phase ≡ s.phase → At (a + 4) (2 * x.words) x.words (x.words * copy_turn t.board x) (executed t.board input first m)
  first_at room same = record {
    awake = same ∙ stand.awake;
    at = first_performs.pc ∙ (let on : (s.reg 0 + 2 * 2) % 65536 ≡ a + 4 = omega (arith, stand.pc, there.room) in on);
    has_code = first_performs.code ∙ stand.has_code;
    no_cut = stand.no_cut;
    rich = omega (arith, stand.rich, first_performs.charge, first_pays room);
    resumes = stand.resumes;
    spent = omega (arith, first_costs);
    counter = first_sets.here (Reg 15) refl;
    stays = λ z st. first_sets.there z st.1;
    sp = first_performs.sp;
    stack = first_performs.stack;
    small = first_performs.knows.all.words;
    more = wrote_more s first m.written;
    set = refl;
    moved = λ b even lo hi. absurd (omega (arith, lo, hi));
  }

  one_more : (u : Moment) → At (a + 4) (2 * x.words) x.words (x.words * copy_turn t.board x) u → At (a + 4) (2 * (x.words - 1 + 1)) (x.words - 1 + 1) ((x.words - 1 + 1) * copy_turn t.board x) u
  one_more u h = let same : x.words ≡ x.words - 1 + 1 = omega (arith, there.some) in subst (λ z. At (a + 4) (2 * z) z (z * copy_turn t.board x) u) same h

  begins : whole ≤ top → ((u : Moment) → At (a + 4) (2 * (x.words - 1 + 1)) (x.words - 1 + 1) ((x.words - 1 + 1) * copy_turn t.board x) u → Covers t.board input Fine n u) → Covers t.board input Fine (suc n) m
  begins room on =
      let does = first_comes s stand.has_code stand.pc first_performs.allowed in
      covers_ran_more t.board input Fine n m first stand.awake
      (safe_within t code ar.head m c stand.no_cut (subst IsNoFault (sym stand.awake) tt) (omega (arith, stand.counted, stand.within, placed.room)) stand.resumes
      (λ j awake e. (let both : Does first ≡ Does j = sym does ∙ e in let same : first ≡ j = cc in subst (λ z. ReadsOnly m.written s z) same (set_reads (2 * x.words) s m.written))))
      does (first_pays room)
      (⊎_elim
      (λ same. on (executed t.board input first m) (one_more (executed t.board input first m) (first_at room same)))
      (λ ends. covers_stopped t.board input Fine n (executed t.board input first m) (end_is_stop _ ends)
      (safe_within t code ar.head (executed t.board input first m) c stand.no_cut (end_no_fault _ ends) (omega (arith, first_costs, room)) stand.resumes (λ j awake e. absurd (subst IsEnd awake ends))))
      first_performs.phase)

  last_word : x.words - 1 < x.words
  last_word = omega (arith, there.some)

  -- all words go to END or TRAP
  ending : always_ends (InReach (copied_to x)) ≡ true → Covers t.board input Fine (suc n) m
  unfolding outcome
  ending e =
      let g = going_parts t κ.stretch a (a + copy_bytes) (Ends (copied t.board x κ)) (going true e) in
      let own : spent + copy_cost t.board x ≤ limit = spent_alone (copied t.board x κ) zeroed everything (spent + copy_cost t.board x) limit would_hold (one_within a limit (greatest_spent (copied t.board x κ)) [] g.over) in
      let room : whole ≤ top = omega (arith, own, stand.counted, placed.room) in
      begins room (λ u h.
      (let i : ℕ = x.words - 1 in
      let from = from_word i (u.trail.state.reg 15) last_word h.counter in
      let to = to_word i (u.trail.state.reg 15) last_word h.counter in
      let parted = subst (λ z. At (a + 4) (2 * (i + 1)) (i + 1) z u) (turn_parts i (copy_turn t.board x) (move_cost t.board x) (t.board.core.alu + t.board.access.fetch) (t.board.core.jump + t.board.access.fetch) refl) h in
      moving room i last_word u parted (λ h1. absurd (awake_no_end _ h1.awake (move_ends t.board x t input words u.trail.state h.small may_from may_to from to e)))))
    where
      awake_no_end : (p : Phase) → p ≡ Awake → IsEnd p → ⊥
      awake_no_end p e ends = subst IsEnd e ends

  -- the code goes on behind the copy
  falling : always_ends (InReach (copied_to x)) ≡ false → Covers t.board input Fine (suc n) m
  unfolding outcome
  falling e =
      let κ' : Known = copied t.board x κ in
      let g = going_parts t κ.stretch a (a + copy_bytes) (falls_only κ') (going false e) in
      let over : spent_to t (a + copy_bytes) κ' ≤ℤ pos limit = one_within a limit (spent_to t (a + copy_bytes) κ') [] g.over in
      let with_sleep = spent_room κ' zeroed everything (spent + copy_cost t.board x) (if is_head t (a + copy_bytes) then sleep_cost t.board else 0) limit would_hold over in
      let room : whole ≤ top = omega (arith, with_sleep, stand.counted, placed.room) in
      let rest : Swept t (a + copy_bytes) (Some κ') None = subst (λ d. Swept t (a + copy_bytes) (falls_with (if d then Ends κ' else falls_only κ')) None) e there.rest in
      begins room (loops room (x.words - 1) last_word (λ u h flags.
      lands t code input words c n a (a + copy_bytes) (Some κ') κ' ar (spent + copy_cost t.board x) u ready heads back rest (omega (arith, low)) (edge_fall t a (a + copy_bytes) κ' None 0 g.edge) (λ none no_head. refl) placed
      (record {
        awake = h.awake;
        pc = h.at;
        has_code = h.has_code;
        no_cut = h.no_cut;
        rich = h.rich;
        counted = omega (arith, h.spent, stand.counted);
        resumes = h.resumes;
        stacked = stacked_same s u.trail.state ar.frames few h.sp h.stack stand.stacked;
        kept = keeps_on t.here.flat ar s u.trail.state m.written u.written stand.kept (λ f flat z e. copy_keeps f x a s u.trail.state (named f flat) h.stays z e) h.more;
      })
      (knows_plain κ' u.trail.state u.written (spent + copy_cost t.board x) refl
      (copied_holds t.board x κ s u.trail.state m.written u.written spent k.all (record {
        counter = h.counter;
        stays = h.stays;
        small = h.small;
        more = h.more;
        set = h.set;
        fresh = λ b even lo hi sr. h.moved b even (omega (arith, lo)) hi;
        flags = flags;
      })))
      over (points_fall t a (a + copy_bytes) κ' None 0 g.points)))

  pub copy_covers : Covers t.board input Fine (suc n) m
  copy_covers = ⊎_elim ending falling (true_or_false (always_ends (InReach (copied_to x))))
