-- Calls and returns in certified code: every run goes on as the rules say.
use Rattle.std.proofs.Common.{◌≡◌, ℕ, suc, ◌+◌, ◌-◌, ◌%◌, ◌<◌, ◌≤◌, true, false, not, Option, Some, None, List, [], ◌∷◌, length, refl, sym, ap, ◌∙◌, subst, arith}
use Rattle.std.specs.Prelude.{if◌then◌else◌, ◌&&◌, ◌||◌, nat_le, nat_lt, is_some, is_none, pos, ◌+ℤ◌}
use Rattle.std.specs.Int.Signed.{◌≤ℤ◌}
use Rattle.std.proofs.lemmas.Bool.{and_parts}
use Rattle.certificate.specs.declared.cert.Slot.{Slot}
use Rattle.certificate.specs.Rows.{Function, Flat}
use Rattle.msp430_isa.specs.declared.instr.Instr.{Instr}
use Rattle.msp430_machine.specs.Cost.{cost}
use Rattle.msp430_machine.specs.State.{State}
use Rattle.cert_rules.specs.declared.Rule.TheVariants.{Call, Edge}
use Rattle.cert_rules.specs.Faults.{unless}
use Rattle.cert_rules.specs.Known.{Known, with_cost}
use Rattle.cert_rules.specs.Forms.{Calls, Returns}
use Rattle.cert_rules.specs.Places.{cost_of}
use Rattle.cert_rules.specs.Effects.{lost_by_call, called}
use Rattle.cert_rules.specs.Tables.{function_at, contains, is_split}
use Rattle.cert_rules.specs.Sheet.{Sheet, is_head}
use Rattle.cert_rules.specs.Overhead.{sleep_cost}
use Rattle.cert_rules.specs.Accesses.{sets_fault}
use Rattle.cert_rules.specs.Calls.{flat_of, call_fault, callee_fault, callee_writes_fault}
use Rattle.cert_rules.specs.Outcomes.{call_outcome, Enters, Leaves, falls_only}
use Rattle.cert_rules.specs.Going.{greatest_spent, spent_to, limit_of, limit_by, going_fault, falls_with}
use Rattle.cert_rules.specs.Sweep.{Swept}
use Rattle.cert_effects.specs.Written.{wrote}
use Rattle.cert_effects.specs.Knows.{value_of, Holds, Knows}
use Rattle.cert_effects.proofs.Knowing.{More, holds_paid, called_holds}
use Rattle.cert_effects.proofs.Rules.{none_parts, unless_passes}
use Rattle.cert_effects.proofs.Computing.{InputWords}
use Rattle.cert_effects.proofs.Computed.{wrote_more}
use Rattle.cert_effects.proofs.Stack.{Stacked}
use Rattle.cert_effects.proofs.Calling.{call_to, Entered, entered}
use Rattle.cert_effects.proofs.Returning.{return_back, Returned, returned}
use Rattle.cert_effects.proofs.Keeping.{callee_keeps}
use Rattle.cert_sound.specs.Moments.{Moment}
use Rattle.cert_sound.specs.Sound.{Safe}
use Rattle.cert_code.proofs.Edges.{lt_of, le_of, edge_fall, points_fall}
use Rattle.cert_sound.proofs.Covering.{executed, Covers}
use Rattle.cert_code.proofs.Sweeping.{InstructionAt, one_within, going_parts}
use Rattle.cert_sound.proofs.Running.{Around, Keeps, Placed, Stands, AtHead, AtStart, AtReturn, BackHead, BackFlat, Back, Sound, split_limit, keeps_on, more_then, spent_room, knows_plain}
use Rattle.cert_sound.proofs.Stepping.{Ready, ReadyHeads, BackTo, lands, comes, falls_on, goes}

-- the rules on a call, of a function that is there
pub record MayCall (t : Sheet) (a target : ℕ) (g : Function) : Type 0 where
  pub found : function_at t.functions target ≡ Some g
  pub writes : callee_writes_fault a t.here.flat g.flat ≡ None
  pub higher : g.height < t.here.height
  pub kinds : (is_split t.here || not (is_split g)) ≡ true

pub may_call : (t : Sheet) (a target : ℕ) → call_fault t a (Calls target) ≡ None → (g : Function) × MayCall t a target g
may_call t a target h = by_row (function_at t.functions target) refl (none_parts (callee_writes_fault a t.here.flat (flat_of (function_at t.functions target))) (callee_fault t a target (function_at t.functions target)) h)
  where
    by_row : (o : Option Function) → function_at t.functions target ≡ o → (callee_writes_fault a t.here.flat (flat_of (function_at t.functions target)) ≡ None) × (callee_fault t a target (function_at t.functions target) ≡ None)
        → (g : Function) × MayCall t a target g
    by_row None e p = absurd (let q : callee_fault t a target None ≡ None = subst (λ o. callee_fault t a target o ≡ None) e p.1 in let bad : true ≡ false = ap is_some q in cc)
    by_row (Some g) e p =
        let q : callee_fault t a target (Some g) ≡ None = subst (λ o. callee_fault t a target o ≡ None) e p.1 in
        let r = none_parts (unless (nat_lt g.height t.here.height) Call a (pos g.height) (pos t.here.height)) _ q in
        let u = none_parts (unless (is_split t.here || not (is_split g)) Call a (pos target) (pos 0)) None r.1 in (
          g,
          record {
            found = e;
            writes = subst (λ o. callee_writes_fault a t.here.flat (flat_of o) ≡ None) e p.0;
            higher = lt_of g.height t.here.height (unless_passes (nat_lt g.height t.here.height) _ _ _ _ r.0);
            kinds = unless_passes (is_split t.here || not (is_split g)) _ _ _ _ u.0;
          },
        )

none_is : (o : Option Flat) → is_none o ≡ true → o ≡ None
none_is None e = refl
none_is (Some f) e = absurd (let bad : false ≡ true = e in cc)

-- a function that calls a split one is split
calls_split : (own callee : Option Flat) → callee ≡ None → (is_none own || not (is_none callee)) ≡ true → own ≡ None
calls_split None callee e h = refl
calls_split (Some f) callee e h = absurd (let bad : false ≡ true = sym (ap (λ o. not (is_none o)) e) ∙ h in cc)

module _ (t : Sheet) (code : ℕ → ℕ) (input : List ℕ) (words : InputWords input) (c : Sound t code) where
  abbrev Fine : Moment → Type 0
  Fine m = Safe t.stretches t.board m

  -- what n events more may come to where a function begins that is called
  abbrev pub FlatCalls : ℕ → Type 0
  FlatCalls n = (target : ℕ) (g : Function) (f : Flat) (x : Around) (m : Moment) → function_at t.functions target ≡ Some g → g.flat ≡ Some f → length x.frames + g.height ≤ 65 → AtStart t.board t.stretches code f x target m
      → BackFlat t.board t.stretches code input f x n x.frames → Covers t.board input Fine n m

  abbrev pub SplitCalls : ℕ → Type 0
  SplitCalls n = (target : ℕ) (g : Function) (r stretch : ℕ) (frames : List ℕ) (m : Moment) → function_at t.functions target ≡ Some g → g.flat ≡ None → length (r ∷ frames) + g.height ≤ 65
      → AtHead t.board t.stretches code (r ∷ frames) target stretch m → BackHead t.board t.stretches code input false n (r ∷ frames) → Covers t.board input Fine n m

  module _ (n a : ℕ) (incoming : Option Known) (κ : Known) (x : Around) (spent : ℕ) (m : Moment) (ready : Ready t code input words c n) (heads : ReadyHeads t code input words c n) (back : BackTo t code input words c x n)
      (low : t.here.start ≤ a) (placed : Placed t x κ.stretch) (stand : Stands t code x a κ.stretch spent m) (k : Knows κ m.trail.state m.written spent) where
    abbrev s : State
    s = m.trail.state

    abbrev limit : ℕ
    limit = limit_of t κ.stretch

    -- ---- A call

    module _ (target : ℕ) (there : InstructionAt t a κ (call_to target)) (g : Function) (may : MayCall t a target g) where
      abbrev i : Instr
      i = call_to target

      abbrev u : Moment
      u = executed t.board input i m

      abbrev y : ℕ
      y = cost t.board s i

      abbrev paid : Known
      paid = with_cost (cost_of t.board κ i) κ

      abbrev after : ℕ
      after = a + 4

      few : length x.frames < 64
      few = omega (arith, placed.deep, may.higher, c.callees target g may.found)

      enters : Entered t.board input target s x.frames
      enters = entered t.board input target s x.frames few stand.stacked

      ret_is : (s.reg 0 + 4) % 65536 ≡ after
      ret_is = falls_on t code input words c n a incoming κ x spent m ready heads back low placed stand k i there

      stacked : Stacked u.trail.state (after ∷ x.frames)
      stacked = subst (λ r. Stacked u.trail.state (r ∷ x.frames)) ret_is enters.stacked

      small : (z : Slot) → value_of u.trail.state z < 65536
      small z = subst (λ v. v < 65536) (sym (enters.values z)) (k.all.words z)

      deeper : length (after ∷ x.frames) + g.height ≤ 65
      deeper = omega (arith, placed.deep, may.higher)

      rich : y ≤ s.charge → t.board.budget ≤ u.trail.state.charge + u.trail.stretch
      rich le = omega (arith, le, enters.charge, stand.rich)

      runs : spent + y ≤ limit → (y ≤ s.charge → Covers t.board input Fine n u) → Covers t.board input Fine (suc n) m
      runs room on = goes t code input words c n a incoming κ x spent m ready heads back low placed stand k i (comes t code input words c n a incoming κ x spent m ready heads back low placed stand k i there enters.allowed) (enters.reads m.written) room on

      -- of a flat function
      module _ (f : Flat) (flat : g.flat ≡ Some f) (calls : FlatCalls n) where
        abbrev κ' : Known
        κ' = called f paid

        outcome_is : call_outcome (flat_of (function_at t.functions target)) paid ≡ falls_only κ'
        outcome_is = ap (λ o. call_outcome (flat_of o) paid) may.found ∙ ap (λ o. call_outcome o paid) flat

        going : going_fault t κ.stretch a after (falls_only κ') ≡ None
        going = subst (λ o. going_fault t κ.stretch a after o ≡ None) outcome_is there.going

        over : spent_to t after κ' ≤ℤ pos limit
        over = one_within a limit (spent_to t after κ') [] (going_parts t κ.stretch a after (falls_only κ') going).over

        -- a state in which no word has changed
        would_hold : Holds κ' s m.written (spent + y + f.cost)
        would_hold = called_holds f κ s s m.written m.written spent (spent + y + f.cost) (cost_of t.board κ i) k.all (record { registers = λ r e. e; words = λ b e. e; flags = λ e. e }) (λ z e. refl) k.all.words (omega (arith, enters.costs κ))

        room : spent + y + f.cost ≤ limit
        room = omega (arith, spent_room κ' s m.written (spent + y + f.cost) (if is_head t after then sleep_cost t.board else 0) limit would_hold over)

        inner : Around
        inner = record { head = x.head; origin = x.origin + (spent + y); frames = after ∷ x.frames; entry = u.trail.state; before = u.written }

        -- behind the call
        comes_back : (v : Moment) → AtReturn t.board t.stretches code f inner after x.frames v → Covers t.board input Fine n v
        unfolding inner
        comes_back v h =
            let used : ℕ = v.trail.stretch - x.origin in
            let counted : v.trail.stretch ≡ x.origin + used = omega (arith, h.least) in
            let stays : (z : Slot) → lost_by_call f z ≡ false → value_of v.trail.state z ≡ value_of s z = λ z e. h.kept.values z e ∙ enters.values z in
            let more : More m.written v.written = more_then m.written (wrote s i m.written) v.written (wrote_more s i m.written) h.kept.more in
            lands t code input words c n a after (Some κ') κ' x used v ready heads back
            (subst (λ o. Swept t after (falls_with o) None) outcome_is there.rest)
            (omega (arith, low)) (edge_fall t a after κ' None 0 (going_parts t κ.stretch a after (falls_only κ') going).edge) (λ none no_head. refl) placed
            (record {
              awake = h.awake;
              pc = h.pc;
              has_code = h.has_code;
              no_cut = h.no_cut;
              rich = h.rich;
              counted = counted;
              resumes = h.resumes;
              stacked = h.stacked;
              kept = keeps_on t.here.flat x s v.trail.state m.written v.written stand.kept
                  (λ own e z l. callee_keeps own f a s v.trail.state (subst (λ o. callee_writes_fault a (Some own) o ≡ None) flat (subst (λ o. callee_writes_fault a o g.flat ≡ None) e may.writes)) stays z l) more;
            })
            (knows_plain κ' v.trail.state v.written used refl (called_holds f κ s v.trail.state m.written v.written spent used (cost_of t.board κ i) k.all more stays h.values (omega (arith, h.most, enters.costs κ, counted))))
            over (points_fall t a after κ' None 0 (going_parts t κ.stretch a after (falls_only κ') going).points)

        flat_covers : Covers t.board input Fine (suc n) m
        unfolding inner
        flat_covers = runs (omega (arith, room)) (λ le. calls target g f inner u may.found flat deeper
            (record {
              awake = enters.phase ∙ stand.awake;
              pc = enters.pc;
              has_code = enters.code ∙ stand.has_code;
              no_cut = stand.no_cut;
              rich = rich le;
              counted = omega (arith, stand.counted);
              room = omega (arith, room, placed.room);
              resumes = stand.resumes;
              stacked = stacked;
              kept = record { values = λ z e. refl; more = record { registers = λ r e. e; words = λ b e. e; flags = λ e. e } };
              values = small;
            })
            comes_back)

      -- of a split function
      module _ (split : g.flat ≡ None) (calls : SplitCalls n) where
        own_split : t.here.flat ≡ None
        own_split = calls_split t.here.flat g.flat split may.kinds

        enters_is : call_outcome (flat_of (function_at t.functions target)) paid ≡ Enters paid
        enters_is = ap (λ o. call_outcome (flat_of o) paid) may.found ∙ ap (λ o. call_outcome o paid) split

        entering : going_fault t κ.stretch a after (Enters paid) ≡ None
        entering = subst (λ o. going_fault t κ.stretch a after o ≡ None) enters_is there.going

        with_sleep : spent + y + sleep_cost t.board ≤ limit
        with_sleep =
            let most = one_within a limit (greatest_spent paid +ℤ pos (sleep_cost t.board)) [] (going_parts t κ.stretch a after (Enters paid) entering).over in
            let room = spent_room paid s m.written (spent + cost_of t.board κ i) (sleep_cost t.board) limit (holds_paid κ s m.written spent (cost_of t.board κ i) k.all) most in
            omega (arith, room, enters.costs κ)

        behind : (is_head t after && contains t.here after) ≡ true
        behind = unless_passes (is_head t after && contains t.here after) Edge a (pos after) (pos a) (going_parts t κ.stretch a after (Enters paid) entering).edge

        split_covers : Covers t.board input Fine (suc n) m
        split_covers =
            let place = and_parts (is_head t after) (contains t.here after) behind in
            let within = and_parts (nat_le t.here.start after) (nat_lt after t.here.end) place.1 in
            let own = placed.split own_split in
            runs (omega (arith, with_sleep)) (λ le. calls target g after κ.stretch x.frames u may.found split deeper
            (record {
              awake = enters.phase ∙ stand.awake;
              pc = enters.pc;
              has_code = enters.code ∙ stand.has_code;
              no_cut = stand.no_cut;
              rich = rich le;
              room = omega (arith, stand.counted, own.0, with_sleep, split_limit t κ.stretch own_split);
              resumes = stand.resumes ∙ ap (λ h. h + 18) own.1;
              stacked = stacked;
              values = small;
            })
            (λ stretch v h. heads after stretch x.frames v place.0 (le_of t.here.start after within.0) (lt_of after t.here.end within.1) placed.deep h
            (subst (λ o. Back t.board t.stretches code input o t.is_first x n) own_split back)))

    pub calling : FlatCalls n → SplitCalls n → (target : ℕ) → InstructionAt t a κ (call_to target) → Covers t.board input Fine (suc n) m
    calling flats splits target there =
        let row = may_call t a target (none_parts (sets_fault a κ (call_to target)) (call_fault t a (Calls target)) there.own).1 in
        by_kind row.0 row.1 row.0.flat refl
      where
        by_kind : (g : Function) → MayCall t a target g → (o : Option Flat) → g.flat ≡ o → Covers t.board input Fine (suc n) m
        by_kind g may (Some f) e = flat_covers target there g may f e flats
        by_kind g may None e = split_covers target there g may e splits

    -- ---- A return

    module _ (there : InstructionAt t a κ return_back) (r : ℕ) (frames : List ℕ) (stack : x.frames ≡ r ∷ frames) where
      abbrev v : Moment
      v = executed t.board input return_back m

      abbrev cost_back : ℕ
      cost_back = cost t.board s return_back

      abbrev paid_back : Known
      paid_back = with_cost (cost_of t.board κ return_back) κ

      comes_from : Returned t.board input s r frames
      comes_from = returned t.board input s r frames (omega (arith, placed.deep, c.tall, ap (λ l. length l) stack)) (subst (λ l. Stacked s l) stack stand.stacked)

      spent_then : spent + cost_back + (if is_split t.here then sleep_cost t.board else 0) ≤ limit
      spent_then =
          let most = one_within a limit (greatest_spent paid_back +ℤ pos (if is_split t.here then sleep_cost t.board else 0)) [] (going_parts t κ.stretch a (a + 2) (Leaves paid_back) there.going).over in
          let room = spent_room paid_back s m.written (spent + cost_of t.board κ return_back) (if is_split t.here then sleep_cost t.board else 0) limit (holds_paid κ s m.written spent (cost_of t.board κ return_back) k.all) most in
          omega (arith, room, comes_from.costs κ)

      returns : (cost_back ≤ s.charge → Covers t.board input Fine n v) → Covers t.board input Fine (suc n) m
      returns on =
          goes t code input words c n a incoming κ x spent m ready heads back low placed stand k return_back (comes t code input words c n a incoming κ x spent m ready heads back low placed stand k return_back there comes_from.allowed) (comes_from.reads m.written) (omega (arith, spent_then)) on

      small_back : (z : Slot) → value_of v.trail.state z < 65536
      small_back z = subst (λ n. n < 65536) (sym (comes_from.values z)) (k.all.words z)

      rich_back : cost_back ≤ s.charge → t.board.budget ≤ v.trail.state.charge + v.trail.stretch
      rich_back le = omega (arith, le, comes_from.charge, stand.rich)

      to_caller : (f : Flat) → t.here.flat ≡ Some f → BackFlat t.board t.stretches code input f x n (r ∷ frames) → Covers t.board input Fine (suc n) m
      to_caller f flat on = returns (λ le. on v (record {
        awake = comes_from.phase ∙ stand.awake;
        pc = comes_from.pc;
        has_code = comes_from.code ∙ stand.has_code;
        no_cut = stand.no_cut;
        rich = rich_back le;
        least = omega (arith, stand.counted);
        most = (let own : limit ≡ f.cost = ap (λ o. limit_by t κ.stretch o) flat in omega (arith, stand.counted, spent_then, own));
        resumes = stand.resumes;
        stacked = comes_from.stacked;
        kept = subst (λ o. Keeps o x v.trail.state v.written) flat
            (keeps_on t.here.flat x s v.trail.state m.written v.written stand.kept (λ own e z l. comes_from.values z) (wrote_more s return_back m.written));
        values = small_back;
      }))

      to_head : t.here.flat ≡ None → BackHead t.board t.stretches code input t.is_first n (r ∷ frames) → Covers t.board input Fine (suc n) m
      to_head split on =
          let own = placed.split split in
          let slept : spent + cost_back + sleep_cost t.board ≤ limit = subst (λ o. spent + cost_back + (if is_none o then sleep_cost t.board else 0) ≤ limit) split spent_then in
          returns (λ le. on κ.stretch v (record {
            awake = comes_from.phase ∙ stand.awake;
            pc = comes_from.pc;
            has_code = comes_from.code ∙ stand.has_code;
            no_cut = stand.no_cut;
            rich = rich_back le;
            room = omega (arith, stand.counted, own.0, slept, split_limit t κ.stretch split);
            resumes = stand.resumes ∙ ap (λ h. h + 18) own.1;
            stacked = comes_from.stacked;
            values = small_back;
          }))

    pub returning : InstructionAt t a κ return_back → Covers t.board input Fine (suc n) m
    returning there = by_kind t.here.flat refl back
      where
        not_first : t.is_first ≡ true → ⊥
        not_first e =
            let passes = unless_passes (not t.is_first) Call a (pos a) (pos 0) (none_parts (sets_fault a κ return_back) (call_fault t a Returns) there.own).1 in
            let bad : false ≡ true = sym (ap not e) ∙ passes in cc

        in_split : t.here.flat ≡ None → (l : List ℕ) → x.frames ≡ l → BackHead t.board t.stretches code input t.is_first n l → Covers t.board input Fine (suc n) m
        in_split split [] e on = absurd (not_first on)
        in_split split (r ∷ frames) e on = to_head there r frames e split on

        in_flat : (f : Flat) → t.here.flat ≡ Some f → (l : List ℕ) → x.frames ≡ l → BackFlat t.board t.stretches code input f x n l → Covers t.board input Fine (suc n) m
        in_flat f flat [] e on = absurd on
        in_flat f flat (r ∷ frames) e on = to_caller there r frames e f flat on

        by_kind : (o : Option Flat) → t.here.flat ≡ o → Back t.board t.stretches code input o t.is_first x n → Covers t.board input Fine (suc n) m
        by_kind None e on = in_split e x.frames refl on
        by_kind (Some f) e on = in_flat f e x.frames refl on
