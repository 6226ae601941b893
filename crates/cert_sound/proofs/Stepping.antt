-- One instruction of certified code: every run goes on as the rules say.
use Rattle.std.proofs.Common.{◌≡◌, ℕ, suc, ◌+◌, ◌-◌, ◌*◌, ◌%◌, ◌<◌, ◌≤◌, Bool, true, false, Option, Some, None, List, [], length, refl, sym, ap, ◌∙◌, subst, arith, ⊎_elim}
use Rattle.std.specs.Prelude.{if◌then◌else◌, ◌&&◌, ◌||◌, nat_le, nat_lt, is_some, ℤ, pos, ◌+ℤ◌}
use Rattle.std.specs.Int.Signed.{◌≤ℤ◌}
use Rattle.std.specs.Option.{option_or}
use Rattle.std.proofs.lemmas.Bool.{and_parts}
use Rattle.certificate.specs.declared.cert.Slot.{Slot}
use Rattle.certificate.specs.Rows.{Flat}
use Rattle.msp430_isa.specs.declared.instr.Src.{Src}
use Rattle.msp430_isa.specs.declared.instr.Src.TheVariants.{Imm}
use Rattle.msp430_isa.specs.declared.instr.Dst.{Dst}
use Rattle.msp430_isa.specs.declared.instr.Dst.TheVariants.{Reg as ToReg}
use Rattle.msp430_isa.specs.declared.instr.TwoOp.{TwoOp}
use Rattle.msp430_isa.specs.declared.instr.TwoOp.TheVariants.{Mov as MOV}
use Rattle.msp430_isa.specs.declared.instr.Cond.{Cond}
use Rattle.msp430_isa.specs.declared.instr.Cond.TheVariants.{Jmp as JMP}
use Rattle.msp430_isa.specs.declared.instr.Instr.{Instr}
use Rattle.msp430_isa.specs.declared.instr.Instr.TheVariants.{Two, One, Jump}
use Rattle.msp430_isa.specs.Encoding.{length_of}
use Rattle.msp430_isa.specs.Results.{Flags, writes_destination, is_taken, jump_target}
use Rattle.msp430_machine.specs.Access.{access_fault}
use Rattle.msp430_machine.specs.Cost.{cost}
use Rattle.msp430_machine.specs.State.{Awake, State, set_at}
use Rattle.msp430_machine.specs.Execution.{done, gone_to}
use Rattle.msp430_machine.specs.Steps.{Does, next, begun}
use Rattle.cert_rules.specs.Known.{Known, with_cost, known_at}
use Rattle.cert_effects.proofs.Knowing.{holds_paid}
use Rattle.cert_rules.specs.Forms.{Kind, Computes, Branches, Leaps, Calls, Returns, kind_of}
use Rattle.cert_rules.specs.Places.{cost_of, destination_place}
use Rattle.cert_rules.specs.Effects.{computed, on_edge, is_always, lost_by_call}
use Rattle.cert_rules.specs.Tables.{point_at, contains}
use Rattle.cert_rules.specs.Sheet.{Sheet, is_head, is_point}
use Rattle.cert_rules.specs.Overhead.{sleep_cost}
use Rattle.cert_rules.specs.Accesses.{sets_fault, access_faults}
use Rattle.cert_rules.specs.Outcomes.{Goes, Ends, falls_only, always_ends, outcome_of, jumps_to, target_of}
use Rattle.cert_rules.specs.Going.{spent_to, greatest_spent, limit_of, may_go_to, edge_implied, point_implied, falls_with, going_fault}
use Rattle.cert_rules.specs.Steps.{own_fault_by}
use Rattle.cert_rules.specs.Sweep.{Swept, known_here, or_point}
use Rattle.cert_effects.specs.Written.{wrote, ReadsOnly}
use Rattle.cert_effects.specs.Knows.{value_of, Holds, Knows}
use Rattle.cert_effects.proofs.Placing.{IsEnd}
use Rattle.cert_effects.proofs.Rules.{none_parts, unless_passes}
use Rattle.cert_effects.proofs.Computing.{InputWords}
use Rattle.cert_effects.proofs.Computed.{Performs, wrote_more}
use Rattle.cert_effects.proofs.Stack.{Stacked, stacked_same, jump_values, fall_values}
use Rattle.cert_effects.proofs.Calling.{call_to}
use Rattle.cert_effects.proofs.Returning.{return_back}
use Rattle.cert_effects.proofs.Keeping.{keeps}
use Rattle.cert_effects.proofs.Pointing.{comes_to, same_stretch}
use Rattle.cert_effects.proofs.Jumping.{HoldsEdge, SaysNoTest, InStretch, edge_holds, edge_plain, edge_stretch}
use Rattle.cert_effects.proofs.Performing.{computes, computes_ends, jump_reads, jump_holds, leap_holds, jumped, fallen_to, computed_stretch}
use Rattle.cert_sound.specs.Moments.{Moment}
use Rattle.cert_sound.specs.Sound.{Safe, IsNoFault}
use Rattle.cert_code.proofs.Edges.{lt_of, le_of, some_or, true_or_false, edge_jump, edge_fall, points_jump, points_fall, over_jump, over_fall}
use Rattle.cert_code.proofs.InstructionKinds.{branch_is, leap_is, call_is, return_is, jump_lands}
use Rattle.cert_sound.proofs.Covering.{executed, Covers, covers_ran_more, covers_stopped}
use Rattle.cert_code.proofs.Fetching.{comes_next}
use Rattle.cert_code.proofs.Sweeping.{InstructionAt, one_within, going_parts}
use Rattle.cert_sound.proofs.Running.{Around, Keeps, Placed, Stands, AtHead, BackHead, Back, Sound, head_cost, split_limit, keeps_on, safe_within, spent_room, spent_alone, knows_plain, end_is_stop, end_no_fault}

-- Where an instruction leads: all but what may be spent, and what is known there.
pub record Arrives (t : Sheet) (code : ℕ → ℕ) (x : Around) (a spent : ℕ) (m : Moment) : Type 0 where
  pub awake : m.trail.state.phase ≡ Awake
  pub pc : m.trail.state.reg 0 ≡ a
  pub has_code : m.trail.state.code ≡ code
  pub no_cut : m.trail.cuts ≡ 0
  pub rich : t.board.budget ≤ m.trail.state.charge + m.trail.stretch
  pub counted : m.trail.stretch ≡ x.origin + spent
  pub resumes : m.resumes ≡ x.head + 18
  pub stacked : Stacked m.trail.state x.frames
  pub kept : Keeps t.here.flat x m.trail.state m.written

stands : (t : Sheet) (code : ℕ → ℕ) (x : Around) (a stretch spent : ℕ) (m : Moment) → Arrives t code x a spent m → spent ≤ limit_of t stretch → Stands t code x a stretch spent m
stands t code x a stretch spent m h within = record {
  awake = h.awake;
  pc = h.pc;
  has_code = h.has_code;
  no_cut = h.no_cut;
  rich = h.rich;
  counted = h.counted;
  within = within;
  resumes = h.resumes;
  stacked = h.stacked;
  kept = h.kept;
}

always_taken : (on : Cond) (f : Flags) → is_always on ≡ true → is_taken on f ≡ true
always_taken JMP f e = refl
always_taken on f e = absurd (let bad : false ≡ true = e in cc)

module _ (t : Sheet) (code : ℕ → ℕ) (input : List ℕ) (words : InputWords input) (c : Sound t code) where
  abbrev Fine : Moment → Type 0
  Fine m = Safe t.stretches t.board m

  abbrev pub BackTo : Around → ℕ → Type 0
  BackTo x n = Back t.board t.stretches code input t.here.flat t.is_first x n

  -- what n events more may come to, wherever the sweep comes to, and at heads
  abbrev pub Ready : ℕ → Type 0
  Ready n = (a : ℕ) (incoming : Option Known) (κ : Known) (x : Around) (spent : ℕ) (m : Moment) → Swept t a incoming None → t.here.start ≤ a → a < t.here.end → is_head t a ≡ false → known_here t a incoming ≡ Some κ
      → Placed t x κ.stretch → Stands t code x a κ.stretch spent m → Knows κ m.trail.state m.written spent → BackTo x n → Covers t.board input Fine n m

  abbrev pub ReadyHeads : ℕ → Type 0
  ReadyHeads n = (a stretch : ℕ) (frames : List ℕ) (m : Moment) → is_head t a ≡ true → t.here.start ≤ a → a < t.here.end → length frames + t.here.height ≤ 65 → AtHead t.board t.stretches code frames a stretch m
      → BackHead t.board t.stretches code input t.is_first n frames → Covers t.board input Fine n m

  -- an edge that the rules allow, to an address that the sweep comes to
  pub lands : (n from a : ℕ) (incoming : Option Known) (κ : Known) (x : Around) (spent : ℕ) (m : Moment) → Ready n → ReadyHeads n → BackTo x n → Swept t a incoming None → t.here.start ≤ a → a < t.here.end
      → (point_at t.points a ≡ None → is_head t a ≡ false → incoming ≡ Some κ) → Placed t x κ.stretch → Arrives t code x a spent m → Knows κ m.trail.state m.written spent
      → spent_to t a κ ≤ℤ pos (limit_of t κ.stretch) → edge_implied t from a (Some κ) ≡ None → Covers t.board input Fine n m
  lands n from a incoming κ x spent m ready heads back swept low high falling placed at k over implied = ⊎_elim to_head to_code (true_or_false (is_head t a))
    where
      to_head : is_head t a ≡ true → Covers t.board input Fine n m
      to_head e =
          let room : spent + sleep_cost t.board ≤ limit_of t κ.stretch = spent_room κ m.trail.state m.written spent (sleep_cost t.board) (limit_of t κ.stretch) k.all (subst (λ b. (greatest_spent κ +ℤ pos (if b then sleep_cost t.board else 0)) ≤ℤ pos (limit_of t κ.stretch)) e over) in
          let split : t.here.flat ≡ None = c.heads_split a e low high in
          let own = placed.split split in
          heads a κ.stretch x.frames m e low high placed.deep
          (record {
            awake = at.awake;
            pc = at.pc;
            has_code = at.has_code;
            no_cut = at.no_cut;
            rich = at.rich;
            room = omega (arith, at.counted, own.0, room, split_limit t κ.stretch split);
            resumes = at.resumes ∙ ap (λ h. h + 18) own.1;
            stacked = at.stacked;
            values = k.all.words;
          })
          (subst (λ o. Back t.board t.stretches code input o t.is_first x n) split back)

      within : spent ≤ limit_of t κ.stretch
      within = let room = spent_room κ m.trail.state m.written spent (if is_head t a then sleep_cost t.board else 0) (limit_of t κ.stretch) k.all over in omega (arith, room)

      to_code : is_head t a ≡ false → Covers t.board input Fine n m
      to_code e = ⊎_elim
          (λ none. ready a incoming κ x spent m swept low high e (ap (λ o. or_point o incoming) none ∙ falling none e) placed (stands t code x a κ.stretch spent m at within) k back)
          (λ some.
          (let p = some.0 in
          let passes = subst (λ o. point_implied from κ o ≡ None) some.1 implied in
          let same : p.stretch ≡ κ.stretch = sym (same_stretch from κ p passes) in
          ready a incoming (known_at p) x spent m swept low high e (ap (λ o. or_point o incoming) some.1)
          (subst (λ h. Placed t x h) (sym same) placed)
          (subst (λ h. Stands t code x a h spent m) (sym same) (stands t code x a κ.stretch spent m at within))
          (comes_to from κ m.trail.state m.written spent p passes k.all) back))
          (some_or (point_at t.points a))

  -- ---- A step

  module _ (n a : ℕ) (incoming : Option Known) (κ : Known) (x : Around) (spent : ℕ) (m : Moment) (ready : Ready n) (heads : ReadyHeads n) (back : BackTo x n) (low : t.here.start ≤ a) (placed : Placed t x κ.stretch)
      (stand : Stands t code x a κ.stretch spent m) (k : Knows κ m.trail.state m.written spent) where
    abbrev s : State
    s = m.trail.state

    abbrev end_of : Instr → ℕ
    end_of i = a + 2 * length_of i

    pub address : 0x8000 ≤ a
    address = omega (arith, low, c.low)

    few : length x.frames ≤ 64
    few = omega (arith, placed.deep, c.tall)

    pub comes : (i : Instr) → InstructionAt t a κ i → access_fault s i ≡ None → next s ≡ Does i
    comes i there allowed = comes_next t code a i s c.loaded address there.room (c.numbers a i there.found address there.even there.room).1 there.even there.found there.held stand.has_code stand.pc allowed

    pub falls_on : (i : Instr) → InstructionAt t a κ i → (s.reg 0 + 2 * length_of i) % 65536 ≡ end_of i
    falls_on i there = omega (arith, stand.pc, there.room)

    -- what is spent of the stretch
    pub in_stretch : (y : ℕ) → spent + y ≤ limit_of t κ.stretch → m.trail.stretch + y ≤ head_cost t.stretches x.head
    in_stretch y room = omega (arith, room, stand.counted, placed.room)

    safe : (i : Instr) → next s ≡ Does i → ReadsOnly m.written s i → Fine m
    safe i does reads =
        safe_within t code x.head m c stand.no_cut (subst IsNoFault (sym stand.awake) tt) (omega (arith, stand.counted, stand.within, placed.room)) stand.resumes (λ j awake e. subst (λ z. ReadsOnly m.written s z) (same i j does e) reads)
      where
        same : (i j : Instr) → next s ≡ Does i → next s ≡ Does j → i ≡ j
        same i j e f = let both : Does i ≡ Does j = sym e ∙ f in cc

    -- so much is paid, and the run goes on
    pub goes : (i : Instr) → next s ≡ Does i → ReadsOnly m.written s i → spent + cost t.board s i ≤ limit_of t κ.stretch
        → (cost t.board s i ≤ s.charge → Covers t.board input Fine n (executed t.board input i m)) → Covers t.board input Fine (suc n) m
    goes i does reads room on =
        let le : cost t.board s i ≤ s.charge = omega (arith, in_stretch (cost t.board s i) room, c.limits x.head, stand.rich) in
        covers_ran_more t.board input Fine n m i stand.awake (safe i does reads) does le (on le)

    -- the slots that a flat function may not change stay
    abbrev Leaves : State → Type 0
    Leaves u = (f : Flat) → t.here.flat ≡ Some f → (z : Slot) → lost_by_call f z ≡ false → value_of u z ≡ value_of s z

    -- an instruction whose state is as told comes to an address
    arrives : (i : Instr) (to : ℕ) (u : State) → done input i (begun (cost t.board s i) i s) ≡ u → u.phase ≡ Awake → u.reg 0 ≡ to → u.code ≡ s.code → u.charge ≡ s.charge - cost t.board s i → cost t.board s i ≤ s.charge
        → Stacked u x.frames → Leaves u → Arrives t code x to (spent + cost t.board s i) (executed t.board input i m)
    arrives i to u is awake pc same charge le stacked leaves = record {
      awake = ap (λ z. z.phase) is ∙ awake;
      pc = ap (λ z. z.reg 0) is ∙ pc;
      has_code = ap (λ z. z.code) is ∙ same ∙ stand.has_code;
      no_cut = stand.no_cut;
      rich = omega (arith, ap (λ z. z.charge) is, charge, le, stand.rich);
      counted = omega (arith, stand.counted);
      resumes = stand.resumes;
      stacked = subst (λ z. Stacked z x.frames) (sym is) stacked;
      kept = subst (λ z. Keeps t.here.flat x z (wrote s i m.written)) (sym is) (keeps_on t.here.flat x s u m.written (wrote s i m.written) stand.kept leaves (wrote_more s i m.written));
    }

    -- ---- An instruction that computes

    performs : (i : Instr) → InstructionAt t a κ i → kind_of i ≡ Computes → Performs t.board input i κ s m.written spent (computed t.board i κ)
    performs i there kind =
        let own : option_or (sets_fault a κ i) (access_faults t a κ i) ≡ None = subst (λ x. own_fault_by t a κ i x ≡ None) kind there.own in
        let parts = none_parts (sets_fault a κ i) (access_faults t a κ i) own in
        computes t.board input words t a κ s m.written spent k i there.form kind (c.numbers a i there.found address there.even there.room).0 parts.0 parts.1

    access : (i : Instr) → InstructionAt t a κ i → kind_of i ≡ Computes → access_faults t a κ i ≡ None
    access i there kind = (none_parts (sets_fault a κ i) (access_faults t a κ i) (subst (λ z. own_fault_by t a κ i z ≡ None) kind there.own)).1

    stops : (i : Instr) → InstructionAt t a κ i → spent + cost t.board s i ≤ limit_of t κ.stretch → IsEnd (done input i (begun (cost t.board s i) i s)).phase → Covers t.board input Fine n (executed t.board input i m)
    stops i there room ends =
        covers_stopped t.board input Fine n (executed t.board input i m) (end_is_stop _ ends)
        (safe_within t code x.head (executed t.board input i m) c stand.no_cut (end_no_fault _ ends) (in_stretch (cost t.board s i) room) stand.resumes (λ j awake e. absurd (subst IsEnd awake ends)))

    computing : (i : Instr) → InstructionAt t a κ i → kind_of i ≡ Computes → outcome_of t (end_of i) κ i (kind_of i) ≡ falls_only (computed t.board i κ) → Covers t.board input Fine (suc n) m
    computing i there kind is =
        let perf = performs i there kind in
        let κ' : Known = computed t.board i κ in
        let g = going_parts t κ.stretch a (end_of i) (falls_only κ') (subst (λ o. going_fault t κ.stretch a (end_of i) o ≡ None) is there.going) in
        let over : spent_to t (end_of i) κ' ≤ℤ pos (limit_of t κ.stretch) = one_within a (limit_of t κ.stretch) (spent_to t (end_of i) κ') [] g.over in
        let room = spent_room κ' (executed t.board input i m).trail.state (wrote s i m.written) (spent + cost t.board s i) (if is_head t (end_of i) then sleep_cost t.board else 0) (limit_of t κ.stretch) perf.knows.all over in
        let inside : end_of i < t.here.end = lt_of (end_of i) t.here.end (unless_passes _ _ _ _ _ (none_parts _ _ g.edge).0) in
        goes i (comes i there perf.allowed) perf.reads (omega (arith, room)) (λ le.
        ⊎_elim
        (λ same. lands n a (end_of i) (Some κ') κ' x (spent + cost t.board s i) (executed t.board input i m) ready heads back
        (subst (λ o. Swept t (end_of i) (falls_with o) None) is there.rest)
        (omega (arith, low)) inside (λ none no_head. refl)
        (subst (λ h. Placed t x h) (sym (computed_stretch t.board i κ)) placed)
        (arrives i (end_of i) (executed t.board input i m).trail.state refl (same ∙ stand.awake) (perf.pc ∙ falls_on i there) perf.code perf.charge le
        (stacked_same s (executed t.board input i m).trail.state x.frames few perf.sp perf.stack stand.stacked)
        (λ f flat z e. keeps f t κ i a s (executed t.board input i m).trail.state flat there.form (access i there kind) perf.leaves z e))
        perf.knows
        (subst (λ h. spent_to t (end_of i) κ' ≤ℤ pos (limit_of t h)) (sym (computed_stretch t.board i κ)) over)
        (none_parts _ _ g.points).0)
        (λ ends. stops i there (omega (arith, room)) ends)
        perf.phase)

    -- a MOV to END or TRAP
    ending : (op : TwoOp) (byte : Bool) (src : Src) (dst : Dst) → InstructionAt t a κ (Two op byte src dst) → kind_of (Two op byte src dst) ≡ Computes → writes_destination op ≡ true → always_ends (destination_place κ dst) ≡ true
        → outcome_of t (end_of (Two op byte src dst)) κ (Two op byte src dst) (kind_of (Two op byte src dst)) ≡ Ends (computed t.board (Two op byte src dst) κ) → Covers t.board input Fine (suc n) m
    ending op byte src dst there kind writes ends is =
        let i : Instr = Two op byte src dst in
        let perf = performs i there kind in
        let κ' : Known = computed t.board i κ in
        let own : option_or (sets_fault a κ i) (access_faults t a κ i) ≡ None = subst (λ x. own_fault_by t a κ i x ≡ None) kind there.own in
        let parts = none_parts (sets_fault a κ i) (access_faults t a κ i) own in
        let g = going_parts t κ.stretch a (end_of i) (Ends κ') (subst (λ o. going_fault t κ.stretch a (end_of i) o ≡ None) is there.going) in
        let room : spent + cost t.board s i ≤ limit_of t κ.stretch =
        spent_alone κ' (executed t.board input i m).trail.state (wrote s i m.written) (spent + cost t.board s i) (limit_of t κ.stretch) perf.knows.all (one_within a (limit_of t κ.stretch) (greatest_spent κ') [] g.over) in
        goes i (comes i there perf.allowed) perf.reads room (λ le. stops i there room
        (computes_ends t.board input words t a κ s m.written spent k op byte src dst there.form kind (c.numbers a i there.found address there.even there.room).0 parts.0 parts.1 writes ends))

    of_two : (op : TwoOp) (byte : Bool) (src : Src) (dst : Dst) → InstructionAt t a κ (Two op byte src dst) → kind_of (Two op byte src dst) ≡ Computes → Covers t.board input Fine (suc n) m
    of_two op byte src dst there kind = by_case (writes_destination op && always_ends (destination_place κ dst)) refl
      where
        by_case : (e : Bool) → (writes_destination op && always_ends (destination_place κ dst)) ≡ e → Covers t.board input Fine (suc n) m
        by_case true e =
            let p = and_parts (writes_destination op) (always_ends (destination_place κ dst)) e in
            ending op byte src dst there kind p.0 p.1
            (ap (λ x. outcome_of t (end_of (Two op byte src dst)) κ (Two op byte src dst) x) kind
            ∙ ap (λ x. if x then Ends (computed t.board (Two op byte src dst) κ) else falls_only (computed t.board (Two op byte src dst) κ)) e)
        by_case false e =
            computing (Two op byte src dst) there kind
            (ap (λ x. outcome_of t (end_of (Two op byte src dst)) κ (Two op byte src dst) x) kind
            ∙ ap (λ x. if x then Ends (computed t.board (Two op byte src dst) κ) else falls_only (computed t.board (Two op byte src dst) κ)) e)

    any_computing : (i : Instr) → InstructionAt t a κ i → kind_of i ≡ Computes → Covers t.board input Fine (suc n) m
    any_computing (Two op byte src dst) there kind = of_two op byte src dst there kind
    any_computing (One op byte src) there kind = computing (One op byte src) there kind (ap (λ x. outcome_of t (end_of (One op byte src)) κ (One op byte src) x) kind)
    any_computing (Jump on x) there kind = absurd (let bad : Branches on x ≡ Computes = kind in cc)

    -- ---- A jump to an address that the rules allow

    jumps : (i : Instr) → InstructionAt t a κ i → (target : ℕ) (κ' : Known) (reads : ReadsOnly m.written s i) (allowed : access_fault s i ≡ None)
        → κ'.stretch ≡ κ.stretch → κ'.test ≡ None → may_go_to t target ≡ true → spent_to t target κ' ≤ℤ pos (limit_of t κ.stretch) → edge_implied t a target (Some κ') ≡ None
        → done input i (begun (cost t.board s i) i s) ≡ record (begun (cost t.board s i) i s) { reg = set_at (begun (cost t.board s i) i s).reg 0 target }
        → Holds κ' (executed t.board input i m).trail.state (wrote s i m.written) (spent + cost t.board s i) → Covers t.board input Fine (suc n) m
    jumps i there target κ' reads allowed stretch plain may over implied is holds =
        let room = spent_room κ' (executed t.board input i m).trail.state (wrote s i m.written) (spent + cost t.board s i) (if is_head t target then sleep_cost t.board else 0) (limit_of t κ.stretch) holds over in
        let place = and_parts (is_point t target || is_head t target) (contains t.here target) may in
        let within = and_parts (nat_le t.here.start target) (nat_lt target t.here.end) place.1 in
        let there' = c.visited target may in
        goes i (comes i there allowed) reads (omega (arith, room)) (λ le.
        lands n a target there'.0 κ' x (spent + cost t.board s i) (executed t.board input i m) ready heads back there'.1 (le_of _ _ within.0) (lt_of _ _ within.1)
        (λ none no_head. absurd (neither none no_head place.0))
        (subst (λ h. Placed t x h) (sym stretch) placed)
        (arrives i target (record (begun (cost t.board s i) i s) { reg = set_at (begun (cost t.board s i) i s).reg 0 target }) is stand.awake refl refl refl le
        (record { sp = stand.stacked.sp; words = stand.stacked.words })
        (λ f flat z e. jump_values s (cost t.board s i) target i z))
        (knows_plain κ' (executed t.board input i m).trail.state (wrote s i m.written) (spent + cost t.board s i) plain holds)
        (subst (λ h. spent_to t target κ' ≤ℤ pos (limit_of t h)) (sym stretch) over)
        implied)
      where
        neither : point_at t.points target ≡ None → is_head t target ≡ false → (is_point t target || is_head t target) ≡ true → ⊥
        neither none no_head e =
            let first : (is_point t target || is_head t target) ≡ is_head t target = ap (λ o. is_some o || is_head t target) none in
            let bad : false ≡ true = sym no_head ∙ sym first ∙ e in cc

    leaping : (target : ℕ) → InstructionAt t a κ (Two MOV false (Imm target) (ToReg 0)) → Covers t.board input Fine (suc n) m
    leaping target there =
        let i : Instr = Two MOV false (Imm target) (ToReg 0) in
        let κ' : Known = with_cost (cost_of t.board κ i) κ in
        let g = going_parts t κ.stretch a (end_of i) (jumps_to κ' target) there.going in
        jumps i there target κ'
        (record { registers = λ r lo hi e. absurd (⊎_elim (λ x. x) (λ x. let bad : false ≡ true = x.0 in cc) e); words = λ x lo hi e. absurd (⊎_elim (λ y. let bad : false ≡ true = y in cc) (λ y. let bad : false ≡ true = y.0 in cc) e); flags = λ e. absurd (let bad : false ≡ true = e in cc) })
        refl refl refl (edge_jump t a (end_of i) None κ' target g.edge)
        (over_jump t a (end_of i) (limit_of t κ.stretch) None κ' target g.over) (points_jump t a (end_of i) None κ' target g.points) refl
        (leap_holds κ s m.written spent (cost t.board s i) target k.all)

    -- ---- A conditional jump

    jump_reading : (on : Cond) (y : ℤ) → InstructionAt t a κ (Jump on y) → ReadsOnly m.written s (Jump on y)
    jump_reading on y there = jump_reads a κ s m.written spent on y k.all (none_parts (sets_fault a κ (Jump on y)) None there.own).0

    -- the edge that is taken
    jumping : (on : Cond) (y : ℤ) (falls : Option Known) (κ' : Known) → InstructionAt t a κ (Jump on y) → outcome_of t (end_of (Jump on y)) κ (Jump on y) (Branches on y) ≡ Goes falls (Some κ') (target_of (end_of (Jump on y)) y)
        → is_taken on s.flags ≡ true → κ'.stretch ≡ κ.stretch → κ'.test ≡ None
        → ((u : State) → u ≡ record (begun (cost t.board s (Jump on y)) (Jump on y) s) { reg = set_at (begun (cost t.board s (Jump on y)) (Jump on y) s).reg 0 (target_of (end_of (Jump on y)) y) } → Holds κ' u m.written (spent + cost t.board s (Jump on y)))
        → Covers t.board input Fine (suc n) m
    jumping on y falls κ' there is taken stretch plain holds =
        let i : Instr = Jump on y in
        let target : ℕ = target_of (end_of i) y in
        let g = going_parts t κ.stretch a (end_of i) (Goes falls (Some κ') target) (subst (λ o. going_fault t κ.stretch a (end_of i) o ≡ None) is there.going) in
        let may : may_go_to t target ≡ true = edge_jump t a (end_of i) falls κ' target g.edge in
        let place = and_parts (is_point t target || is_head t target) (contains t.here target) may in
        let within = and_parts (nat_le t.here.start target) (nat_lt target t.here.end) place.1 in
        let lands_at : jump_target (end_of i) y ≡ target = jump_lands (end_of i) y t.here.start 65536 (le_of t.here.start target within.0) (omega (arith, lt_of target t.here.end within.1, c.top)) (omega (arith, c.low)) (omega arith) (omega (arith, there.room)) in
        let state : done input i (begun (cost t.board s i) i s) ≡ record (begun (cost t.board s i) i s) { reg = set_at (begun (cost t.board s i) i s).reg 0 target } =
        ap (λ b. if b then gone_to (begun (cost t.board s i) i s) (jump_target ((s.reg 0 + 2) % 65536) y) else begun (cost t.board s i) i s) taken
        ∙ ap (λ p. gone_to (begun (cost t.board s i) i s) (jump_target p y)) (falls_on i there)
        ∙ ap (λ p. gone_to (begun (cost t.board s i) i s) p) lands_at in
        jumps i there target κ' (jump_reading on y there) refl stretch plain may
        (over_jump t a (end_of i) (limit_of t κ.stretch) falls κ' target g.over) (points_jump t a (end_of i) falls κ' target g.points) state
        (holds (done input i (begun (cost t.board s i) i s)) state)

    -- the edge that falls
    falling_on : (on : Cond) (y : ℤ) (κ' : Known) (jump : Option Known) → InstructionAt t a κ (Jump on y) → outcome_of t (end_of (Jump on y)) κ (Jump on y) (Branches on y) ≡ Goes (Some κ') jump (target_of (end_of (Jump on y)) y)
        → is_taken on s.flags ≡ false → κ'.stretch ≡ κ.stretch → κ'.test ≡ None → Holds κ' (begun (cost t.board s (Jump on y)) (Jump on y) s) m.written (spent + cost t.board s (Jump on y))
        → Covers t.board input Fine (suc n) m
    falling_on on y κ' jump there is taken stretch plain holds =
        let i : Instr = Jump on y in
        let target : ℕ = target_of (end_of i) y in
        let g = going_parts t κ.stretch a (end_of i) (Goes (Some κ') jump target) (subst (λ o. going_fault t κ.stretch a (end_of i) o ≡ None) is there.going) in
        let over : spent_to t (end_of i) κ' ≤ℤ pos (limit_of t κ.stretch) = over_fall t a (end_of i) (limit_of t κ.stretch) κ' jump target g.over in
        let room = spent_room κ' (begun (cost t.board s i) i s) m.written (spent + cost t.board s i) (if is_head t (end_of i) then sleep_cost t.board else 0) (limit_of t κ.stretch) holds over in
        let state : done input i (begun (cost t.board s i) i s) ≡ begun (cost t.board s i) i s =
        ap (λ b. if b then gone_to (begun (cost t.board s i) i s) (jump_target ((s.reg 0 + 2) % 65536) y) else begun (cost t.board s i) i s) taken in
        goes i (comes i there refl) (jump_reading on y there) (omega (arith, room)) (λ le.
        lands n a (end_of i) (Some κ') κ' x (spent + cost t.board s i) (executed t.board input i m) ready heads back
        (subst (λ o. Swept t (end_of i) (falls_with o) None) is there.rest) (omega (arith, low)) (edge_fall t a (end_of i) κ' jump target g.edge) (λ none no_head. refl)
        (subst (λ h. Placed t x h) (sym stretch) placed)
        (arrives i (end_of i) (begun (cost t.board s i) i s) state stand.awake (falls_on i there) refl refl le
        (record { sp = stand.stacked.sp; words = stand.stacked.words })
        (λ f flat z e. fall_values s (cost t.board s i) i z))
        (knows_plain κ' (executed t.board input i m).trail.state m.written (spent + cost t.board s i) plain (subst (λ u. Holds κ' u m.written (spent + cost t.board s i)) (sym state) holds))
        (subst (λ h. spent_to t (end_of i) κ' ≤ℤ pos (limit_of t h)) (sym stretch) over)
        (points_fall t a (end_of i) κ' jump target g.points))

    branching : (on : Cond) (y : ℤ) → InstructionAt t a κ (Jump on y) → Covers t.board input Fine (suc n) m
    branching on y there = ⊎_elim always (λ e. ⊎_elim (taken e) (fallen e) (true_or_false (is_taken on s.flags))) (true_or_false (is_always on))
      where
        next_there : ℕ
        next_there = end_of (Jump on y)

        always : is_always on ≡ true → Covers t.board input Fine (suc n) m
        always e =
            jumping on y None (with_cost (cost_of t.board κ (Jump on y)) κ) there
            (ap (λ b. if b then jumps_to (with_cost (cost_of t.board κ (Jump on y)) κ) (target_of (end_of (Jump on y)) y) else Goes (on_edge on false κ.test (with_cost (cost_of t.board κ (Jump on y)) κ)) (on_edge on true κ.test (with_cost (cost_of t.board κ (Jump on y)) κ)) (target_of (end_of (Jump on y)) y)) e)
            (always_taken on s.flags e) refl refl
            (λ u is. subst (λ z. Holds (with_cost (cost_of t.board κ (Jump on y)) κ) z m.written (spent + cost t.board s (Jump on y))) (sym is) (jump_holds κ s m.written spent (cost t.board s (Jump on y)) (target_of (end_of (Jump on y)) y) (Jump on y) k.all))

        both : is_always on ≡ false → outcome_of t (end_of (Jump on y)) κ (Jump on y) (Branches on y) ≡ Goes (on_edge on false κ.test (with_cost (cost_of t.board κ (Jump on y)) κ)) (on_edge on true κ.test (with_cost (cost_of t.board κ (Jump on y)) κ)) (target_of (end_of (Jump on y)) y)
        both e = ap (λ b. if b then jumps_to (with_cost (cost_of t.board κ (Jump on y)) κ) (target_of (end_of (Jump on y)) y) else Goes (on_edge on false κ.test (with_cost (cost_of t.board κ (Jump on y)) κ)) (on_edge on true κ.test (with_cost (cost_of t.board κ (Jump on y)) κ)) (target_of (end_of (Jump on y)) y)) e

        -- of the state before the jump, in which values and flags are those behind it
        edge : (b : Bool) → is_taken on s.flags ≡ b → HoldsEdge (on_edge on b κ.test (with_cost (cost_of t.board κ (Jump on y)) κ)) s m.written (spent + cost t.board s (Jump on y))
        edge b f = edge_holds on b κ.test (with_cost (cost_of t.board κ (Jump on y)) κ) s m.written (spent + cost t.board s (Jump on y)) (holds_paid κ s m.written spent (cost t.board s (Jump on y)) k.all) k.test k.tested f

        taken : is_always on ≡ false → is_taken on s.flags ≡ true → Covers t.board input Fine (suc n) m
        taken e f = by_edge (on_edge on true κ.test (with_cost (cost_of t.board κ (Jump on y)) κ)) refl (edge true f) (edge_plain on true κ.test (with_cost (cost_of t.board κ (Jump on y)) κ) refl) (edge_stretch on true κ.test (with_cost (cost_of t.board κ (Jump on y)) κ))
          where
            by_edge : (o : Option Known) → on_edge on true κ.test (with_cost (cost_of t.board κ (Jump on y)) κ) ≡ o → HoldsEdge o s m.written (spent + cost t.board s (Jump on y)) → SaysNoTest o → InStretch κ.stretch o → Covers t.board input Fine (suc n) m
            by_edge None is h plain stretch = absurd h
            by_edge (Some κ') is h plain stretch =
                jumping on y (on_edge on false κ.test (with_cost (cost_of t.board κ (Jump on y)) κ)) κ' there
                (both e ∙ ap (λ o. Goes (on_edge on false κ.test (with_cost (cost_of t.board κ (Jump on y)) κ)) o (target_of (end_of (Jump on y)) y)) is)
                f stretch plain (λ u same. subst (λ z. Holds κ' z m.written (spent + cost t.board s (Jump on y))) (sym same) (jumped κ' s m.written (spent + cost t.board s (Jump on y)) (cost t.board s (Jump on y)) (target_of (end_of (Jump on y)) y) (Jump on y) h))

        fallen : is_always on ≡ false → is_taken on s.flags ≡ false → Covers t.board input Fine (suc n) m
        fallen e f = by_edge (on_edge on false κ.test (with_cost (cost_of t.board κ (Jump on y)) κ)) refl (edge false f) (edge_plain on false κ.test (with_cost (cost_of t.board κ (Jump on y)) κ) refl) (edge_stretch on false κ.test (with_cost (cost_of t.board κ (Jump on y)) κ))
          where
            by_edge : (o : Option Known) → on_edge on false κ.test (with_cost (cost_of t.board κ (Jump on y)) κ) ≡ o → HoldsEdge o s m.written (spent + cost t.board s (Jump on y)) → SaysNoTest o → InStretch κ.stretch o → Covers t.board input Fine (suc n) m
            by_edge None is h plain stretch = absurd h
            by_edge (Some κ') is h plain stretch =
                falling_on on y κ' (on_edge on true κ.test (with_cost (cost_of t.board κ (Jump on y)) κ)) there
                (both e ∙ ap (λ o. Goes o (on_edge on true κ.test (with_cost (cost_of t.board κ (Jump on y)) κ)) (target_of (end_of (Jump on y)) y)) is)
                f stretch plain (fallen_to κ' s m.written (spent + cost t.board s (Jump on y)) (cost t.board s (Jump on y)) (Jump on y) h)

    -- ---- Any instruction

    pub step_covers : ((target : ℕ) → InstructionAt t a κ (call_to target) → Covers t.board input Fine (suc n) m) → (InstructionAt t a κ return_back → Covers t.board input Fine (suc n) m)
        → (i : Instr) → InstructionAt t a κ i → Covers t.board input Fine (suc n) m
    step_covers calling returning i there = by_kind (kind_of i) refl
      where
        by_kind : (y : Kind) → kind_of i ≡ y → Covers t.board input Fine (suc n) m
        by_kind Computes e = any_computing i there e
        by_kind (Branches on y) e = branching on y (subst (λ j. InstructionAt t a κ j) (branch_is i on y e) there)
        by_kind (Leaps target) e = leaping target (subst (λ j. InstructionAt t a κ j) (leap_is i target there.form e) there)
        by_kind (Calls target) e = calling target (subst (λ j. InstructionAt t a κ j) (call_is i target there.form e) there)
        by_kind Returns e = returning (subst (λ j. InstructionAt t a κ j) (return_is i there.form e) there)
