-- The end of a turn of a loop inside of a template: its counter falls by one, and the loop goes on unless that is 0.
use Rattle.std.proofs.Common.{◌≡◌, ℕ, ◌+◌, ◌*◌, ◌-◌, ◌≤◌, Bool, true, false, Option, Some, None, List, [], ◌∷◌, refl, sym, ap, ◌∙◌, subst, arith}
use Rattle.std.specs.Prelude.{ℤ, pos, ◌+ℤ◌, ◌-ℤ◌, ◌≤ℤ◌, ◌&&◌, is_some, if◌then◌else◌}
use Rattle.std.specs.Int.Signed.{le_z}
use Rattle.std.proofs.lemmas.Int.{ints}
use Rattle.std.proofs.lemmas.Bool.Decides.{nat_tests}
use Rattle.certificate.specs.declared.cert.Slot.TheVariants.{Reg}
use Rattle.certificate.specs.declared.cert.Fact.{Fact}
use Rattle.certificate.specs.Rows.{Point}
use Rattle.msp430_isa.specs.declared.instr.Src.TheVariants.{Short}
use Rattle.msp430_isa.specs.declared.instr.TwoOp.TheVariants.{Sub as SUB}
use Rattle.msp430_isa.specs.declared.instr.Cond.TheVariants.{Jne as JNE}
use Rattle.msp430_isa.specs.declared.instr.Instr.{Instr}
use Rattle.msp430_isa.specs.declared.instr.Instr.TheVariants.{Jump}
use Rattle.msp430_machine.specs.Cost.{instruction_cost}
use Rattle.op_cost.specs.Templates.{by}
use Rattle.cert_rules.specs.Ranges.{Range, any_word, falls, lowered, known_even, with_even}
use Rattle.cert_rules.specs.Slots.{same_slot, is_held}
use Rattle.cert_rules.specs.Spending.{when_lowered, paying, added, taken_off, greatest_bound}
use Rattle.cert_rules.specs.Forms.{Computes, kind_of}
use Rattle.cert_rules.specs.Known.{Known, range_of, is_set, known_at, with_cost}
use Rattle.cert_rules.specs.Places.{Number, InReg}
use Rattle.cert_rules.specs.Accesses.{is_kept}
use Rattle.cert_rules.specs.Effects.{computed, without, with_written, test_of}
use Rattle.cert_rules.specs.Outcomes.{target_of}
use Rattle.cert_rules.specs.Sheet.{Sheet}
use Rattle.cert_rules.specs.Going.{limit_of}
use Rattle.cert_pieces.specs.Pieces.{Has, Narrower, Falls, Lands, Here, Affords, Ranged, Stands, StandsWith, AllTold, Tells, range_of_fact, puts, pays, narrows_to}
use Rattle.cert_pieces.proofs.Paying.{le_z_is}
use Rattle.cert_pieces.proofs.Stepping.{falls_on}
use Rattle.cert_pieces.proofs.Writing.{range_told, words_told, after_words}
use Rattle.cert_pieces.proofs.Straight.{RegisterIs, register_own, register_goes, fallen}
use Rattle.cert_pieces.proofs.Bare.{less_turns, spent_same, spent_leaves, into_point, onto_point, at_point, plain_stands, OfWords}
use Rattle.cert_pieces.proofs.Edges.{asked_within, is_zero_test, at_least_one, jumps_unless_zero}

-- with so many turns left or fewer, and one at least
abbrev pub turns_left : ℕ → Range
turns_left g = record { least = 1; greatest = g; even = false }

-- with one less
abbrev pub turns_after : ℕ → Range
turns_after g = record { least = 0; greatest = g - 1; even = false }

-- a turn is done: its cost is taken off the bound, since the counter is one less
abbrev pub counted : ℕ → ℕ → ℕ → ℕ → ℕ → Known → Known
counted r g f z c s = record (puts (Reg r) (turns_after g) c true (Some (is_zero_test r false)) s) { spent = record { base = pos (z + c) -ℤ pos f; terms = less_turns f r } }

-- the register that counts
pub record Counts (r : ℕ) : Type 0 where
  pub computes : kind_of (by SUB (Short 1) r) ≡ Computes
  pub scratch : is_kept r ≡ false
  pub same : same_slot (Reg r) (Reg r) ≡ true
  pub held : is_held (Reg r) ≡ true

falls_by_one : (r : Range) → 1 ≤ r.least → falls r 1 ≡ true
falls_by_one r h = grind (arith, nat_tests)

lowered_told : (g : ℕ) (r : Range) → Narrower r (turns_left g) → Narrower (lowered r 1) (turns_after g)
lowered_told g r n =
    let least = n.least in
    let most = n.greatest in
    subst (λ c. Narrower (if c then record { least = r.least - 1; greatest = r.greatest - 1; even = known_even r && false } else with_even (known_even r && false)) (turns_after g)) (sym (falls_by_one r least))
    (record { least = omega arith; greatest = omega (arith, most); even = λ e. absurd (let no : false ≡ true = e in cc) })

turn_taken : (z : ℤ) (f : ℕ) → z +ℤ pos 0 -ℤ pos (f * 1 + 0) ≡ z -ℤ pos f
turn_taken z f = omega (arith, ints)

lowers_spent : (r f z : ℕ) → same_slot (Reg r) (Reg r) ≡ true → when_lowered (Reg r) 1 (record { base = pos z; terms = less_turns f r }) ≡ record { base = pos z -ℤ pos f; terms = less_turns f r }
lowers_spent r f z same =
    ap (λ c. record { base = pos z +ℤ pos (added (λ x. 1) (if c then less_turns f r else [])) -ℤ pos (taken_off (λ x. 1) (if c then less_turns f r else [])); terms = less_turns f r }) same
    ∙ ap (λ b. record { base = b; terms = less_turns f r }) (turn_taken (pos z) f)

counted_has : (r g f z c : ℕ) (s κ : Known) → Counts r → s.spent ≡ record { base = pos z; terms = less_turns f r } → s.range (Reg r) ≡ Some (turns_left g) → Has s κ
    → Has (counted r g f z c s)
    (record (with_written SUB (Number 1) (Reg r) (with_cost c κ)) { flags = true; test = test_of SUB (Number 1) (InReg r) })
counted_has r g f z c s κ is spent range has =
    let within = asked_within s κ (Reg r) (turns_left g) range has in
    let paid = with_cost c κ in
    record {
      stretch = has.stretch;
      spent = ap (λ q. if q then when_lowered (Reg r) 1 paid.spent else without (Reg r) paid) (falls_by_one (range_of κ (Reg r)) within.least)
          ∙ ap (λ q. when_lowered (Reg r) 1 (paying c q)) (has.spent ∙ spent) ∙ lowers_spent r f (z + c) is.same;
      range = λ x. range_told (same_slot x (Reg r) && is_held (Reg r)) (s.range x) (κ.range x) (lowered (range_of κ (Reg r)) 1) (turns_after g) (lowered_told g (range_of κ (Reg r)) within) (has.range x);
      fresh = has.fresh;
      flags = λ e. refl;
      test = ap (λ q. if q then Some (is_zero_test r false) else None) is.held;
      words = λ x. words_told (same_slot x (Reg r) && is_held (Reg r)) (κ.range x) (lowered (range_of κ (Reg r)) 1) (after_words paid SUB (Number 1) (Reg r) has.words (omega arith)) (has.words x);
    }

-- SUB #1 of the counter
pub lowers_here : (t : Sheet) (a r g f z : ℕ) (s : Known) → Counts r → Stands t a (by SUB (Short 1) r) → s.spent ≡ record { base = pos z; terms = less_turns f r } → s.range (Reg r) ≡ Some (turns_left g)
    → Falls t (counted r g f z (instruction_cost t.board (by SUB (Short 1) r)) s) (a + 2) → Here t a s
lowers_here t a r g f z s is st spent range falls incoming κ e has =
    let set : is_set s r ≡ true = ap (λ o. is_some o) range in
    let asks : RegisterIs s SUB (Short 1) r = record { computes = is.computes; lost = is.scratch; reads = omega arith; has = (set, refl) } in
    falls_on t a (by SUB (Short 1) r) incoming (counted r g f z (instruction_cost t.board (by SUB (Short 1) r)) s) κ (computed t.board (by SUB (Short 1) r) κ) st e
    (register_own t a s κ SUB (Short 1) r asks has) (register_goes t (a + 2) s κ SUB (Short 1) r asks) has.stretch
    (counted_has r g f z (instruction_cost t.board (by SUB (Short 1) r)) s κ is spent range has) falls

-- ---- What pays for a state with a term

pays_term : (z l : ℤ) (more n : ℕ) → (z +ℤ pos more) ≤ℤ l → (z +ℤ pos 0 -ℤ pos (n + 0) +ℤ pos more) ≤ℤ l
pays_term z l more n h = omega (arith, ints, h)

pub affords_term : (t : Sheet) (more f r : ℕ) (s : Known) (z : ℤ) → s.spent ≡ record { base = z; terms = less_turns f r } → is_some (s.range (Reg r)) ≡ true
    → (z +ℤ pos more) ≤ℤ pos (limit_of t s.stretch) → Affords t more s
affords_term t more f r s z e k h = record {
  ranged = subst (λ spent. Ranged s spent.terms) (sym e) (k, tt);
  pays = ap (λ spent. le_z (greatest_bound (range_of s) spent +ℤ pos more) (pos (limit_of t s.stretch))) e
      ∙ le_z_is _ _ (pays_term z (pos (limit_of t s.stretch)) more (f * (range_of s (Reg r)).least) h);
}

-- ---- The whole end of a turn

-- a point in a loop, and one behind it
abbrev pub looped : ℕ → ℕ → ℕ → ℕ → ℕ → List Fact → Point
looped address st y f r facts = record { address = address; stretch = st; spent = record { base = pos y; terms = less_turns f r }; facts = facts; fresh = [] }

abbrev pub plainly : ℕ → ℕ → ℕ → List Fact → Point
plainly address st y facts = record { address = address; stretch = st; spent = record { base = pos y; terms = [] }; facts = facts; fresh = [] }

-- facts are told by the ranges alone
pub told_by : (s v : Known) → v.range ≡ s.range → (facts : List Fact) → AllTold s facts → AllTold v facts
told_by s v e [] h = tt
told_by s v e (f ∷ facts) h = (subst (λ q. Tells (Some (range_of_fact f)) (q f.of)) (sym e) h.0, told_by s v e facts h.1)

pub record EndsTurn (t : Sheet) (a al r g f z st : ℕ) (words : ℤ) (il ie : Instr) (xl yl xe ye : ℕ) (fl fe : List Fact) (s : Known) : Type 0 where
  pub counts : Counts r
  pub lowers : Stands t a (by SUB (Short 1) r)
  pub jump : StandsWith t (a + 2) (Jump JNE words) None
  pub target : target_of (a + 2 + 2) words ≡ al
  pub loop : StandsWith t al il (Some (looped xl st yl f r fl))
  pub behind : StandsWith t (a + 2 + 2) ie (Some (plainly xe st ye fe))
  pub stretch : s.stretch ≡ st
  pub spent : s.spent ≡ record { base = pos z; terms = less_turns f r }
  pub range : s.range (Reg r) ≡ Some (turns_left g)
  pub few : g ≤ 65535
  pub again : z + instruction_cost t.board (by SUB (Short 1) r) + instruction_cost t.board (Jump JNE words) ≤ yl + f
  pub most : yl ≤ ye
  pub limit : yl ≤ limit_of t st
  pub words_behind : OfWords fe
  pub told : AllTold (narrows_to (Reg r) (at_least_one (g - 1)) (counted r g f z 0 s)) fl
  pub told_behind : AllTold (narrows_to (Reg r) any_word (counted r g f z 0 s)) fe

again_z : (z c d y f : ℕ) → z + c + d ≤ y + f → (pos (z + c) -ℤ pos f +ℤ pos d) ≤ℤ pos y
again_z z c d y f h = omega (arith, ints, h)

jump_z : (z c d y f l : ℕ) → z + c + d ≤ y + f → y ≤ l → ((pos (z + c) -ℤ pos f) +ℤ pos 0) ≤ℤ pos l
jump_z z c d y f l h k = omega (arith, ints, h, k)

edge_z : (z c d y f l : ℕ) → z + c + d ≤ y + f → y ≤ l → ((pos (z + c) -ℤ pos f +ℤ pos d) +ℤ pos 0) ≤ℤ pos l
edge_z z c d y f l h k = omega (arith, ints, h, k)

behind_z : (z c d y f x : ℕ) → z + c + d ≤ y + f → y ≤ x → (pos (z + c) -ℤ pos f +ℤ pos d) ≤ℤ pos x
behind_z z c d y f x h k = omega (arith, ints, h, k)

pub some_hit : (c : Bool) (r : Range) (o : Option Range) → c ≡ true → is_some (if c then Some r else o) ≡ true
some_hit c r o e = ap (λ b. is_some (if b then Some r else o)) e

both_hold : (b c : Bool) → b ≡ true → c ≡ true → b && c ≡ true
both_hold true c e f = f
both_hold false c e f = e

pub turn_ends : (t : Sheet) (a al r g f z st : ℕ) (words : ℤ) (il ie : Instr) (xl yl xe ye : ℕ) (fl fe : List Fact) (s : Known) → EndsTurn t a al r g f z st words il ie xl yl xe ye fl fe s
    → Here t (a + 2 + 2) (known_at (plainly xe st ye fe)) → Here t a s
turn_ends t a al r g f z st words il ie xl yl xe ye fl fe s e here =
    let c = instruction_cost t.board (by SUB (Short 1) r) in
    let d = instruction_cost t.board (Jump JNE words) in
    let u = counted r g f z c s in
    let hit = both_hold _ _ e.counts.same e.counts.held in
    let fall = narrows_to (Reg r) any_word (pays d u) in
    let jump = narrows_to (Reg r) (at_least_one (g - 1)) (pays d u) in
    let limit : yl ≤ limit_of t s.stretch = subst (λ q. yl ≤ limit_of t q) (sym e.stretch) e.limit in
    lowers_here t a r g f z s e.counts e.lowers e.spent e.range
    (fallen t (a + 2) (Jump JNE words) 0 u (plain_stands t _ _ e.jump) (affords_term t 0 f r u (pos (z + c) -ℤ pos f) refl (some_hit _ (turns_after g) (s.range (Reg r)) hit) (jump_z z c d yl f (limit_of t s.stretch) e.again limit))
    (jumps_unless_zero t (a + 2) r (g - 1) false words u e.jump.stands refl refl (ap (λ b. if b then Some (turns_after g) else s.range (Reg r)) hit) (let few = e.few in omega (arith, few))
    (into_point t (a + 2 + 2) 0 ie (plainly xe st ye fe) fall e.behind
    (record { stretch = e.stretch; facts = told_by (narrows_to (Reg r) any_word (counted r g f z 0 s)) fall refl fe e.told_behind; fresh = refl; spent = λ κ has. spent_leaves fall κ (plainly xe st ye fe) _ _ f r refl refl (behind_z z c d yl f ye e.again e.most) has })
    (affords_term t 0 f r fall (pos (z + c) -ℤ pos f +ℤ pos d) refl (some_hit _ any_word (u.range (Reg r)) hit) (edge_z z c d yl f (limit_of t s.stretch) e.again limit)) e.words_behind here)
    (subst (λ b. Lands t jump b) (sym e.target)
    (onto_point t al 0 il (looped xl st yl f r fl) jump e.loop
    (record { stretch = e.stretch; facts = told_by (narrows_to (Reg r) (at_least_one (g - 1)) (counted r g f z 0 s)) jump refl fl e.told; fresh = refl; spent = λ κ has. spent_same jump κ (looped xl st yl f r fl) _ _ f r refl refl e.counts.same (again_z z c d yl f e.again) has })
    (affords_term t 0 f r jump (pos (z + c) -ℤ pos f +ℤ pos d) refl (some_hit _ (at_least_one (g - 1)) (u.range (Reg r)) hit) (edge_z z c d yl f (limit_of t s.stretch) e.again limit))))
    (at_point t (a + 2 + 2) ie (plainly xe st ye fe) e.behind e.words_behind here)))
