-- Straight code: instructions that only compute, from each state that has what is asked.
use Rattle.std.proofs.Common.{◌≡◌, ℕ, ◌+◌, ◌*◌, ◌%◌, Bool, true, false, not, Option, Some, None, List, [], ◌∷◌, refl, sym, ap, ◌∙◌, subst, arith}
use Rattle.std.specs.Prelude.{if◌then◌else◌, ℤ, ◌+ℤ◌, ◌&&◌, ◌||◌, pos, is_none, is_some, ◌==◌}
use Rattle.std.proofs.lemmas.Int.{ints}
use Rattle.std.specs.Int.Signed.{le_z}
use Rattle.std.proofs.lemmas.Bool.Decides.{nat_tests}
use Rattle.board_table.specs.declared.board.Board.{Board}
use Rattle.certificate.specs.declared.cert.Slot.{Slot}
use Rattle.certificate.specs.declared.cert.Slot.TheVariants.{Reg, Word}
use Rattle.certificate.specs.declared.cert.Term.{Term}
use Rattle.certificate.specs.Rows.{Flat}
use Rattle.msp430_isa.specs.declared.instr.Src.{Src}
use Rattle.msp430_isa.specs.declared.instr.Src.TheVariants.{Reg as FromReg, Index as FromIndex, Abs as FromAbs, At, AtPlus, Imm, Short}
use Rattle.msp430_isa.specs.declared.instr.Dst.TheVariants.{Reg as ToReg, Abs as ToAbs}
use Rattle.msp430_isa.specs.declared.instr.TwoOp.{TwoOp}
use Rattle.msp430_isa.specs.declared.instr.TwoOp.TheVariants.{Xor as XOR}
use Rattle.msp430_isa.specs.declared.instr.OneOp.{OneOp}
use Rattle.msp430_isa.specs.declared.instr.OneOp.TheVariants.{Rra as RRA, Sxt as SXT}
use Rattle.msp430_isa.specs.declared.instr.Instr.{Instr}
use Rattle.msp430_isa.specs.declared.instr.Instr.TheVariants.{Two, One}
use Rattle.msp430_isa.specs.Encoding.{length_of}
use Rattle.msp430_isa.specs.Profile.{is_move}
use Rattle.msp430_isa.specs.Results.{reads_destination, writes_destination}
use Rattle.msp430_machine.specs.Cost.{instruction_cost}
use Rattle.cert_rules.specs.declared.Rule.TheVariants.{Set, Place as OutOfPlace, Fresh, Writes, Keep}
use Rattle.cert_rules.specs.Faults.{unless, unless_none}
use Rattle.cert_rules.specs.Ranges.{Range, any_word}
use Rattle.cert_rules.specs.Slots.{same_slot, is_held, is_sram, first_in}
use Rattle.cert_rules.specs.Spending.{paying}
use Rattle.cert_rules.specs.Forms.{Computes, kind_of}
use Rattle.cert_rules.specs.Known.{Known, Test, is_set, with_cost, freshened, forgetting, hits}
use Rattle.cert_rules.specs.Places.{Number, InReg, InReach, one_address, may_read, may_be_destination, source_place, cost_of}
use Rattle.cert_rules.specs.Effects.{computed, range_after, with_written, with_result, leaves_flags, test_of}
use Rattle.cert_rules.specs.Sheet.{Sheet}
use Rattle.cert_rules.specs.Shapes.{turns_at_point}
use Rattle.cert_rules.specs.Accesses.{set_fault, source_register, flags_fault, needs_carry, reach_fault, word_of_reach, stale, unnamed, writes_fault, is_kept, keep_fault}
use Rattle.cert_rules.specs.Outcomes.{Ends, may_end, is_end, falls_only, outcome_of}
use Rattle.cert_rules.specs.Going.{point_implied, limit_of, spent_to}
use Rattle.cert_rules.specs.Steps.{own_fault_by}
use Rattle.cert_rules.specs.Sweep.{or_point}
use Rattle.cert_pieces.specs.Pieces.{Has, Falls, Here, Stands, Plain, Tells, anything, narrower, Narrower, Free, Keeps, IsLost, AllKept, leaves, Affords, Passes, Runs, done, next, behind, AllPlain, AllStand, puts, puts_word, compares, Named, ReadsFrom, ReadsRegister}
use Rattle.cert_pieces.proofs.Paying.{pays_for, affords_puts, affords_compares, affords_fresh}
use Rattle.cert_pieces.proofs.Stepping.{both, falls_on}
use Rattle.cert_pieces.proofs.Writing.{in_one, puts_has, word_has, after_words, IsWordPlace, any_range}

-- ---- One behind another

-- a plain instruction falls in where the sweep passes from each state
pub fallen : (t : Sheet) (a : ℕ) (i : Instr) (more : ℕ) (asked : Known) → Plain t a i → Affords t more asked → Here t a asked → Falls t asked a
fallen t a i more asked p affords here = record {
  inside = p.stands.inside;
  paid = λ k h. pays_for t a more asked k affords p.stands.head h;
  implied = λ from k h. ap (λ o. point_implied from k o) p.none;
  turns = ap (λ o. turns_at_point t a o) p.none;
  swept = λ k h. here (Some k) k (ap (λ q. or_point q (Some k)) p.none) h;
}

pub passes_here : (t : Sheet) (lost : Slot → Bool) (a : ℕ) (i : Instr) (c : ℕ) (s u : Known) → Passes t lost i c s u → Stands t a i
    → Falls t u (a + 2 * length_of i) → Here t a s
passes_here t lost a i c s u passes st falls incoming k e h =
    falls_on t a i incoming u k (computed t.board i k) st e (passes.own a k h) (passes.goes _ k h) (h.stretch ∙ sym passes.keeps.stretch) (passes.has k h) falls

pub passes_on : (t : Sheet) (lost : Slot → Bool) (a : ℕ) (i : Instr) (c more : ℕ) (s u : Known) → Passes t lost i c s u → Plain t a i → Affords t (c + more) s
    → Falls t u (a + 2 * length_of i) → Falls t s a
passes_on t lost a i c more s u passes p affords falls = fallen t a i (c + more) s p affords (passes_here t lost a i c s u passes p.stands falls)

together : (c w more : ℕ) → c + w + more ≡ c + (w + more)
together c w more = omega arith

pub runs : (t : Sheet) (lost : Slot → Bool) (a more : ℕ) (s v : Known) (is : List Instr) (w : ℕ) → Runs t lost s is w v → AllPlain t a is → Affords t (w + more) s
    → Falls t v (behind a is) → Falls t s a
runs t lost a more _ _ _ _ (done s) p affords falls = falls
runs t lost a more _ _ _ _ (next s u v i is c w passes rest) p affords falls =
    let all : Affords t (c + (w + more)) s = subst (λ n. Affords t n s) (together c w more) affords in
    passes_on t lost a i c (w + more) s u passes p.0 all (runs t lost (a + 2 * length_of i) more u v is w rest p.1 (passes.affords (w + more) all) falls)

pub runs_here : (t : Sheet) (lost : Slot → Bool) (a more : ℕ) (s v : Known) (i : Instr) (is : List Instr) (w : ℕ) → Runs t lost s (i ∷ is) w v → AllStand t a (i ∷ is) → Affords t (w + more) s
    → Falls t v (behind a (i ∷ is)) → Here t a s
runs_here t lost a more _ _ _ _ _ (next s u v i is c w passes rest) p affords falls =
    let all : Affords t (c + (w + more)) s = subst (λ n. Affords t n s) (together c w more) affords in
    passes_here t lost a i c s u passes p.0 (runs t lost (a + 2 * length_of i) more u v is w rest p.1 (passes.affords (w + more) all) falls)

-- ---- What a source is asked for

pub told_set : (o p : Option Range) → Tells o p → is_some o ≡ true → is_some p ≡ true
told_set None p h e = absurd (let no : false ≡ true = e in cc)
told_set (Some r) p (narrower q i n) e = refl

pub known_set : (r : ℕ) (s κ : Known) → Has s κ → is_set s r ≡ true → is_set κ r ≡ true
known_set r s κ has e = told_set (s.range (Reg r)) (κ.range (Reg r)) (has.range (Reg r)) e

not_stale : (sram asked known : Bool) → (asked ≡ true → known ≡ true) → sram && not asked ≡ false → sram && not known ≡ false
not_stale false asked known h e = refl
not_stale true true known h e = ap (λ c. not c) (h refl)
not_stale true false known h e = absurd (let no : true ≡ false = e in cc)

pub known_fresh : (x : ℕ) (s κ : Known) → Has s κ → stale s x ≡ false → stale κ x ≡ false
known_fresh x s κ has h = not_stale (is_sram x) (s.fresh x) (κ.fresh x) (has.fresh x) h

pub is_set_fault : (a r : ℕ) (κ : Known) → is_set κ r ≡ true → set_fault a κ (Some r) ≡ None
is_set_fault a r κ h = ap (λ c. unless c Set a (pos r) (pos 0)) h

source_set : (a : ℕ) (s κ : Known) (src : Src) → Has s κ → ReadsFrom s src → set_fault a κ (source_register src) ≡ None
source_set a s κ (FromReg r) has h = is_set_fault a r κ (known_set r s κ has h)
source_set a s κ (FromAbs x) has h = refl
source_set a s κ (Imm v) has h = refl
source_set a s κ (Short v) has h = refl
source_set a s κ (FromIndex r x) has h = absurd h
source_set a s κ (At r) has h = absurd h
source_set a s κ (AtPlus r) has h = absurd h

source_reached : (a : ℕ) (s κ : Known) (src : Src) → ReadsFrom s src → reach_fault a may_read (source_place κ src) ≡ None
source_reached a s κ (FromReg r) h = refl
source_reached a s κ (FromAbs x) h = ap (λ c. unless c OutOfPlace a (pos x) (pos x)) h.1
source_reached a s κ (Imm v) h = refl
source_reached a s κ (Short v) h = refl
source_reached a s κ (FromIndex r x) h = absurd h
source_reached a s κ (At r) h = absurd h
source_reached a s κ (AtPlus r) h = absurd h

pub is_fresh : (a x : ℕ) (κ : Known) → x % 2 ≡ 0 → stale κ x ≡ false → unless_none (first_in (stale κ) x x) Fresh a ≡ None
is_fresh a x κ even h = ap (λ o. unless_none o Fresh a) (in_one (stale κ) x even ∙ ap (λ c. if c then Some x else None) h)

source_fresh : (a : ℕ) (s κ : Known) (src : Src) → Has s κ → ReadsFrom s src → unless_none (word_of_reach (stale κ) (source_place κ src)) Fresh a ≡ None
source_fresh a s κ (FromReg r) has h = refl
source_fresh a s κ (FromAbs x) has h = is_fresh a x κ h.0 (known_fresh x s κ has h.2)
source_fresh a s κ (Imm v) has h = refl
source_fresh a s κ (Short v) has h = refl
source_fresh a s κ (FromIndex r x) has h = absurd h
source_fresh a s κ (At r) has h = absurd h
source_fresh a s κ (AtPlus r) has h = absurd h

pub source_word : (s κ : Known) (src : Src) → ReadsFrom s src → IsWordPlace (source_place κ src)
source_word s κ (FromReg r) h = tt
source_word s κ (FromAbs x) h = tt
source_word s κ (Imm v) h = h
source_word s κ (Short v) h = h
source_word s κ (FromIndex r x) h = absurd h
source_word s κ (At r) h = absurd h
source_word s κ (AtPlus r) h = absurd h

pub register_cost : (b : Board) (s κ : Known) (op : TwoOp) (src : Src) (r : ℕ) → ReadsFrom s src → cost_of b κ (Two op false src (ToReg r)) ≡ instruction_cost b (Two op false src (ToReg r))
register_cost b s κ op (FromReg q) r h = refl
register_cost b s κ op (FromAbs x) r h = refl
register_cost b s κ op (Imm v) r h = refl
register_cost b s κ op (Short v) r h = refl
register_cost b s κ op (FromIndex q x) r h = absurd h
register_cost b s κ op (At q) r h = absurd h
register_cost b s κ op (AtPlus q) r h = absurd h

pub word_cost : (b : Board) (s κ : Known) (op : TwoOp) (src : Src) (d : ℕ) → ReadsFrom s src → cost_of b κ (Two op false src (ToAbs d)) ≡ instruction_cost b (Two op false src (ToAbs d))
word_cost b s κ op (FromReg q) d h = refl
word_cost b s κ op (FromAbs x) d h = refl
word_cost b s κ op (Imm v) d h = refl
word_cost b s κ op (Short v) d h = refl
word_cost b s κ op (FromIndex q x) d h = absurd h
word_cost b s κ op (At q) d h = absurd h
word_cost b s κ op (AtPlus q) d h = absurd h

-- ---- What stays

missed : (hit held : Bool) (r : Range) (o : Option Range) → hit ≡ false → (if hit && held then Some r else o) ≡ o
missed hit held r o e = ap (λ b. if b && held then Some r else o) e

puts_keeps : (lost : Slot → Bool) (w : Slot) (r : Range) (c : ℕ) (flags : Bool) (test : Option Test) (s : Known) → IsLost lost w → Keeps lost c s (puts w r c flags test s)
puts_keeps lost w r c flags test s hit = record {
  stretch = refl;
  spent = refl;
  range = λ x h. missed (same_slot x w) (is_held w) r (s.range x) (hit x h);
  fresh = λ a h. h;
}

or_right : (b c : Bool) → c ≡ true → b || c ≡ true
or_right true c h = refl
or_right false c h = h

puts_word_keeps : (lost : Slot → Bool) (d : ℕ) (r : Range) (c : ℕ) (flags : Bool) (test : Option Test) (s : Known) → IsLost lost (Word d) → Keeps lost c s (puts_word d r c flags test s)
puts_word_keeps lost d r c flags test s hit = record {
  stretch = refl;
  spent = refl;
  range = λ x h. missed (same_slot x (Word d)) (is_held (Word d)) r (s.range x) (hit x h);
  fresh = λ a h. or_right _ (s.fresh a) h;
}

-- no term is of a slot that is lost
pub all_free : (lost : Slot → Bool) (w : Slot) (terms : List Term) → IsLost lost w → AllKept lost terms → Free w terms
all_free lost w [] hit kept = tt
all_free lost w (t ∷ terms) hit kept = (hit t.of kept.0, all_free lost w terms hit kept.1)

pays_both : (z : ℤ) (c w : ℕ) → z +ℤ pos c +ℤ pos w ≡ z +ℤ pos (c + w)
pays_both z c w = omega (arith, ints)

pays_none : (z : ℤ) → z ≡ z +ℤ pos 0
pays_none z = omega (arith, ints)

keeps_nothing : (lost : Slot → Bool) (s : Known) → Keeps lost 0 s s
keeps_nothing lost s = record {
  stretch = refl;
  spent = ap (λ b. record { base = b; terms = s.spent.terms }) (pays_none s.spent.base);
  range = λ x h. refl;
  fresh = λ a h. h;
}

keeps_both : (lost : Slot → Bool) (c w : ℕ) (s u v : Known) → Keeps lost c s u → Keeps lost w u v → Keeps lost (c + w) s v
keeps_both lost c w s u v k l = record {
  stretch = l.stretch ∙ k.stretch;
  spent = l.spent ∙ ap (λ n. paying w n) k.spent ∙ ap (λ b. record { base = b; terms = s.spent.terms }) (pays_both s.spent.base c w);
  range = λ x h. l.range x h ∙ k.range x h;
  fresh = λ a h. l.fresh a (k.fresh a h);
}

pub runs_keep : (t : Sheet) (lost : Slot → Bool) (s v : Known) (is : List Instr) (w : ℕ) → Runs t lost s is w v → Keeps lost w s v
runs_keep t lost _ _ _ _ (done s) = keeps_nothing lost s
runs_keep t lost _ _ _ _ (next s u v i is c w passes rest) = keeps_both lost c w s u v passes.keeps (runs_keep t lost u v is w rest)

rest_told : (c : Bool) (o p q : Option Range) → (c ≡ false → p ≡ o) → Tells p q → Tells (if c then None else o) q
rest_told true o p q h told = anything q
rest_told false o p q h told = subst (λ x. Tells x q) (h refl) told

no_flags : (b : Bool) → false ≡ true → b ≡ true
no_flags b h = absurd (let no : false ≡ true = h in cc)

-- who has what code leaves has all that is kept
pub has_kept : (lost : Slot → Bool) (w : ℕ) (s v κ : Known) → Keeps lost w s v → v.test ≡ None → Has v κ → Has (leaves lost w s) κ
has_kept lost w s v κ k test has = record {
  stretch = has.stretch ∙ k.stretch;
  spent = has.spent ∙ k.spent;
  range = λ x. rest_told (lost x) (s.range x) (v.range x) (κ.range x) (k.range x) (has.range x);
  fresh = λ a h. has.fresh a (k.fresh a h);
  flags = λ h. no_flags κ.flags h;
  test = has.test ∙ test;
  words = has.words;
}

-- Who knows less falls in where who knows more does.
pub weaken : (t : Sheet) (a : ℕ) (u v : Known) → u.stretch ≡ v.stretch → ((κ : Known) → Has u κ → Has v κ) → Falls t v a → Falls t u a
weaken t a u v same has falls = record {
  inside = falls.inside;
  paid = λ κ h. subst (λ n. le_z (spent_to t a κ) (pos (limit_of t n)) ≡ true) (sym same) (falls.paid κ (has κ h));
  implied = λ from κ h. falls.implied from κ (has κ h);
  turns = falls.turns;
  swept = λ κ h. falls.swept κ (has κ h);
}

-- instructions one behind another, and what they leave
pub runs_leave : (t : Sheet) (lost : Slot → Bool) (a more : ℕ) (s v : Known) (is : List Instr) (w : ℕ) → Runs t lost s is w v → v.test ≡ None → AllPlain t a is → Affords t (w + more) s
    → Falls t (leaves lost w s) (behind a is) → Falls t s a
runs_leave t lost a more s v is w r test p affords falls =
    let k = runs_keep t lost s v is w r in
    runs t lost a more s v is w r p affords (weaken t (behind a is) v (leaves lost w s) k.stretch (λ κ h. has_kept lost w s v κ k test h) falls)

-- ---- A register as destination

destination_set : (a r : ℕ) (move : Bool) (s κ : Known) → Has s κ → (move || is_set s r) ≡ true → set_fault a κ (if move then None else Some r) ≡ None
destination_set a r true s κ has h = refl
destination_set a r false s κ has h = is_set_fault a r κ (known_set r s κ has h)

or_flags : (n p q : Bool) → (p ≡ true → q ≡ true) → (n || p) ≡ true → (n || q) ≡ true
or_flags true p q h e = refl
or_flags false p q h e = h e

carried : (a : ℕ) (needed : Bool) (s κ : Known) → Has s κ → (not needed || s.flags) ≡ true → flags_fault a κ needed ≡ None
carried a needed s κ has h = ap (λ c. unless c Set a (pos 2) (pos 0)) (or_flags (not needed) s.flags κ.flags has.flags h)

neither : (c : Bool) (a : ℕ) → unless_none (if c then None else None) Fresh a ≡ None
neither true a = refl
neither false a = refl

pub no_writes : (a r : ℕ) (writes : Bool) (flat : Option Flat) → writes_fault a flat writes (InReg r) ≡ None
no_writes a r writes None = refl
no_writes a r true (Some f) = refl
no_writes a r false (Some f) = refl

pub keeps : (a r : ℕ) (writes : Bool) (flat : Option Flat) → is_kept r ≡ false → keep_fault a flat writes (InReg r) ≡ None
keeps a r writes None h = refl
keeps a r false (Some f) h = refl
keeps a r true (Some f) h = ap (λ c. unless (not c) Keep a (pos r) (pos 0)) h

-- what an instruction with a register as destination is asked for
pub record RegisterIs (s : Known) (op : TwoOp) (src : Src) (r : ℕ) : Type 0 where
  pub computes : kind_of (Two op false src (ToReg r)) ≡ Computes
  pub lost : is_kept r ≡ false
  pub reads : ReadsFrom s src
  pub has : ReadsRegister s op r

pub register_own : (t : Sheet) (a : ℕ) (s κ : Known) (op : TwoOp) (src : Src) (r : ℕ) → RegisterIs s op src r → Has s κ
    → own_fault_by t a κ (Two op false src (ToReg r)) (kind_of (Two op false src (ToReg r))) ≡ None
register_own t a s κ op src r is has =
    ap (λ k. own_fault_by t a κ (Two op false src (ToReg r)) k) is.computes
    ∙ both _ _ (both _ _ (source_set a s κ src has is.reads) (both _ _ (destination_set a r (is_move op) s κ has is.has.0) (both _ _ (carried a (needs_carry op) s κ has is.has.1) refl)))
    (both _ _ (both _ _ (source_reached a s κ src is.reads) refl)
    (both _ _ (both _ _ (source_fresh a s κ src has is.reads) (neither (reads_destination op) a))
    (both _ _ (no_writes a r (writes_destination op) t.here.flat) (both _ _ (keeps a r (writes_destination op) t.here.flat is.lost) refl))))

pub never_ends : (writes : Bool) (r : ℕ) (κ : Known) → may_end writes (InReg r) κ ≡ falls_only κ
never_ends true r κ = refl
never_ends false r κ = refl

pub register_goes : (t : Sheet) (to : ℕ) (s κ : Known) (op : TwoOp) (src : Src) (r : ℕ) → RegisterIs s op src r
    → outcome_of t to κ (Two op false src (ToReg r)) (kind_of (Two op false src (ToReg r))) ≡ falls_only (computed t.board (Two op false src (ToReg r)) κ)
register_goes t to s κ op src r is =
    ap (λ k. outcome_of t to κ (Two op false src (ToReg r)) k) is.computes ∙ never_ends (writes_destination op) r (computed t.board (Two op false src (ToReg r)) κ)

register_has : (b : Board) (c : ℕ) (s κ : Known) (op : TwoOp) (src : Src) (r : ℕ) (told : Range) (test : Option Test)
    → cost_of b κ (Two op false src (ToReg r)) ≡ c → writes_destination op ≡ true → ReadsFrom s src → test_of op (source_place κ src) (InReg r) ≡ test
    → Narrower (range_after (with_cost c κ) op (source_place κ src) (Reg r)) told → Free (Reg r) s.spent.terms → Has s κ
    → Has (puts (Reg r) told c (leaves_flags op || s.flags) test s) (computed b (Two op false src (ToReg r)) κ)
register_has b c s κ op src r told test cost writes reads tests n free has =
    subst (λ m. Has (puts (Reg r) told c (leaves_flags op || s.flags) test s)
    (record (if writes_destination op then with_result op (source_place κ src) (InReg r) (with_cost m κ) else with_cost m κ) { flags = leaves_flags op || κ.flags; test = test_of op (source_place κ src) (InReg r) })) (sym cost)
    (subst (λ w. Has (puts (Reg r) told c (leaves_flags op || s.flags) test s)
    (record (if w then with_result op (source_place κ src) (InReg r) (with_cost c κ) else with_cost c κ) { flags = leaves_flags op || κ.flags; test = test_of op (source_place κ src) (InReg r) })) (sym writes)
    (puts_has (Reg r) c op (source_place κ src) told (leaves_flags op) test _ s κ tests n
    (after_words (with_cost c κ) op (source_place κ src) (Reg r) has.words (source_word s κ src reads)) free has))

-- An instruction writes a register.
pub register_passes : (t : Sheet) (lost : Slot → Bool) (s : Known) (op : TwoOp) (src : Src) (r : ℕ) (told : Range) (test : Option Test) → RegisterIs s op src r
    → writes_destination op ≡ true → ((κ : Known) → test_of op (source_place κ src) (InReg r) ≡ test) → Free (Reg r) s.spent.terms → IsLost lost (Reg r)
    → ((κ : Known) → Has s κ → Narrower (range_after (with_cost (instruction_cost t.board (Two op false src (ToReg r))) κ) op (source_place κ src) (Reg r)) told)
    → Passes t lost (Two op false src (ToReg r)) (instruction_cost t.board (Two op false src (ToReg r))) s
    (puts (Reg r) told (instruction_cost t.board (Two op false src (ToReg r))) (leaves_flags op || s.flags) test s)
register_passes t lost s op src r told test is writes tests free hit n = record {
  own = λ a κ has. register_own t a s κ op src r is has;
  goes = λ to κ has. register_goes t to s κ op src r is;
  has = λ κ has. register_has t.board _ s κ op src r told test (register_cost t.board s κ op src r is.reads) writes is.reads (tests κ) (n κ has) free has;
  affords = affords_puts t (Reg r) told _ _ test s free;
  keeps = puts_keeps lost (Reg r) told _ _ test s hit;
}

-- the same, with nothing told of the value
pub any_passes : (t : Sheet) (lost : Slot → Bool) (s : Known) (op : TwoOp) (src : Src) (r : ℕ) (test : Option Test) → RegisterIs s op src r
    → writes_destination op ≡ true → ((κ : Known) → test_of op (source_place κ src) (InReg r) ≡ test) → Free (Reg r) s.spent.terms → IsLost lost (Reg r)
    → Passes t lost (Two op false src (ToReg r)) (instruction_cost t.board (Two op false src (ToReg r))) s
    (puts (Reg r) any_word (instruction_cost t.board (Two op false src (ToReg r))) (leaves_flags op || s.flags) test s)
any_passes t lost s op src r test is writes tests free hit =
    register_passes t lost s op src r any_word test is writes tests free hit (λ κ has. after_words (with_cost (instruction_cost t.board (Two op false src (ToReg r))) κ) op (source_place κ src) (Reg r) has.words (source_word s κ src is.reads))

-- ---- A comparison with a register

compares_has : (c : ℕ) (test test' : Option Test) (flags : Bool) (s κ : Known) → test' ≡ test → flags ≡ true → Has s κ
    → Has (compares c test s) (record (with_cost c κ) { flags = flags; test = test' })
compares_has c test test' flags s κ e f has = record {
  stretch = has.stretch;
  spent = ap (λ n. record { base = n.base +ℤ pos c; terms = n.terms }) has.spent;
  range = has.range;
  fresh = has.fresh;
  flags = λ h. f;
  test = e;
  words = has.words;
}

or_true : (c d : Bool) → c ≡ true → c || d ≡ true
or_true true d h = refl
or_true false d h = absurd (let no : false ≡ true = h in cc)

pub compare_passes : (t : Sheet) (lost : Slot → Bool) (s : Known) (op : TwoOp) (src : Src) (r : ℕ) (test : Option Test) → RegisterIs s op src r
    → writes_destination op ≡ false → leaves_flags op ≡ true → ((κ : Known) → test_of op (source_place κ src) (InReg r) ≡ test)
    → Passes t lost (Two op false src (ToReg r)) (instruction_cost t.board (Two op false src (ToReg r))) s
    (compares (instruction_cost t.board (Two op false src (ToReg r))) test s)
compare_passes t lost s op src r test is writes leaves tests =
    let c = instruction_cost t.board (Two op false src (ToReg r)) in
    record {
      own = λ a κ has. register_own t a s κ op src r is has;
      goes = λ to κ has. register_goes t to s κ op src r is;
      has = λ κ has.
          subst (λ m. Has (compares c test s) (record (if writes_destination op then with_result op (source_place κ src) (InReg r) (with_cost m κ) else with_cost m κ) { flags = leaves_flags op || κ.flags; test = test_of op (source_place κ src) (InReg r) })) (sym (register_cost t.board s κ op src r is.reads))
          (subst (λ w. Has (compares c test s) (record (if w then with_result op (source_place κ src) (InReg r) (with_cost c κ) else with_cost c κ) { flags = leaves_flags op || κ.flags; test = test_of op (source_place κ src) (InReg r) })) (sym writes)
          (compares_has c test _ _ s κ (tests κ) (or_true (leaves_flags op) κ.flags leaves) has));
      affords = affords_compares t c test s;
      keeps = record { stretch = refl; spent = refl; range = λ x h. refl; fresh = λ a h. h };
    }

-- ---- RRA and SXT

abbrev pub is_one : OneOp → Bool
is_one RRA = true
is_one SXT = true
is_one op = false

one_cost : (b : Board) (κ : Known) (op : OneOp) (r : ℕ) → is_one op ≡ true → cost_of b κ (One op false (FromReg r)) ≡ instruction_cost b (One op false (FromReg r))
one_cost b κ RRA r h = refl
one_cost b κ SXT r h = refl
one_cost b κ op r h = absurd (let no : false ≡ true = h in cc)

one_has : (c r : ℕ) (s κ : Known) → Free (Reg r) s.spent.terms → Has s κ
    → Has (puts (Reg r) any_word c true None s) (record (with_written XOR (Number 0) (Reg r) (with_cost c κ)) { flags = true; test = None })
one_has c r s κ free has = puts_has (Reg r) c XOR (Number 0) any_word true None None s κ refl any_range any_range free has

pub one_passes : (t : Sheet) (lost : Slot → Bool) (s : Known) (op : OneOp) (r : ℕ) → is_one op ≡ true → is_kept r ≡ false → is_set s r ≡ true → Free (Reg r) s.spent.terms → IsLost lost (Reg r)
    → Passes t lost (One op false (FromReg r)) (instruction_cost t.board (One op false (FromReg r))) s
    (puts (Reg r) any_word (instruction_cost t.board (One op false (FromReg r))) true None s)
one_passes t lost s op r one unkept set free hit = record {
  own = λ a κ has. both _ _ (is_set_fault a r κ (known_set r s κ has set)) (keeps a r true t.here.flat unkept);
  goes = λ to κ has. refl;
  has = λ κ has. subst (λ m. Has (puts (Reg r) any_word (instruction_cost t.board (One op false (FromReg r))) true None s)
      (record (with_written XOR (Number 0) (Reg r) (with_cost m κ)) { flags = true; test = None })) (sym (one_cost t.board κ op r one)) (one_has _ r s κ free has);
  affords = affords_puts t (Reg r) any_word _ true None s free;
  keeps = puts_keeps lost (Reg r) any_word _ true None s hit;
}

-- ---- A word as destination

-- what an instruction with a word as destination is asked for
pub record WordIs (t : Sheet) (s : Known) (op : TwoOp) (src : Src) (d : ℕ) : Type 0 where
  pub even : d % 2 ≡ 0
  pub may : may_be_destination op (one_address d) ≡ true
  pub named : Named t.here.flat d
  pub reads : ReadsFrom s src
  pub fresh : (reads_destination op && stale s d) ≡ false
  pub carries : (not (needs_carry op) || s.flags) ≡ true

may_write : (a d : ℕ) (writes : Bool) (flat : Option Flat) → d % 2 ≡ 0 → Named flat d → writes_fault a flat writes (InReach (one_address d)) ≡ None
may_write a d writes None even n = refl
may_write a d false (Some f) even n = refl
may_write a d true (Some f) even n = ap (λ o. unless_none o Writes a) (in_one (unnamed f.writes) d even ∙ ap (λ c. if c then Some d else None) n)

keeps_word : (a d : ℕ) (writes : Bool) (flat : Option Flat) → keep_fault a flat writes (InReach (one_address d)) ≡ None
keeps_word a d writes None = refl
keeps_word a d true (Some f) = refl
keeps_word a d false (Some f) = refl

destination_fresh : (a d : ℕ) (reads : Bool) (s κ : Known) → Has s κ → d % 2 ≡ 0 → (reads && stale s d) ≡ false
    → unless_none (if reads then word_of_reach (stale κ) (InReach (one_address d)) else None) Fresh a ≡ None
destination_fresh a d false s κ has even h = refl
destination_fresh a d true s κ has even h = is_fresh a d κ even (known_fresh d s κ has h)

pub word_own : (t : Sheet) (a : ℕ) (s κ : Known) (op : TwoOp) (src : Src) (d : ℕ) → WordIs t s op src d → Has s κ
    → own_fault_by t a κ (Two op false src (ToAbs d)) (kind_of (Two op false src (ToAbs d))) ≡ None
word_own t a s κ op src d is has =
    both _ _ (both _ _ (source_set a s κ src has is.reads) (both _ _ refl (both _ _ (carried a (needs_carry op) s κ has is.carries) refl)))
    (both _ _ (both _ _ (source_reached a s κ src is.reads) (ap (λ c. unless c OutOfPlace a (pos d) (pos d)) is.may))
    (both _ _ (both _ _ (source_fresh a s κ src has is.reads) (destination_fresh a d (reads_destination op) s κ has is.even is.fresh))
    (both _ _ (may_write a d (writes_destination op) t.here.flat is.even is.named) (both _ _ (keeps_word a d (writes_destination op) t.here.flat) refl))))

doesnt_end : (d : ℕ) (writes : Bool) (κ : Known) → d % 2 ≡ 0 → is_end d ≡ false → may_end writes (InReach (one_address d)) κ ≡ falls_only κ
doesnt_end d false κ even h = refl
doesnt_end d true κ even h =
    ap (λ o. if is_none o then Ends κ else falls_only κ) (in_one (λ a. not (is_end a)) d even ∙ ap (λ c. if not c then Some d else None) h)

-- an address is certain
pub certain : (d : ℕ) → (d == d) ≡ true
certain d = grind (arith, nat_tests)

pub word_computed : (b : Board) (c : ℕ) (s κ : Known) (op : TwoOp) (src : Src) (d : ℕ) (told : Range) (test : Option Test)
    → cost_of b κ (Two op false src (ToAbs d)) ≡ c → writes_destination op ≡ true → ReadsFrom s src → test_of op (source_place κ src) (InReach (one_address d)) ≡ test
    → Narrower (range_after (with_cost c κ) op (source_place κ src) (Word d)) told → Free (Word d) s.spent.terms → Has s κ
    → Has (puts_word d told c (leaves_flags op || s.flags) test s) (computed b (Two op false src (ToAbs d)) κ)
word_computed b c s κ op src d told test cost writes reads tests n free has =
    let want = puts_word d told c (leaves_flags op || s.flags) test s in
    let tested = test_of op (source_place κ src) (InReach (one_address d)) in
    let written = freshened d d (with_written op (source_place κ src) (Word d) (with_cost c κ)) in
    subst (λ m. Has want (record (if writes_destination op then with_result op (source_place κ src) (InReach (one_address d)) (with_cost m κ) else with_cost m κ) { flags = leaves_flags op || κ.flags; test = tested })) (sym cost)
    (subst (λ w. Has want (record (if w then with_result op (source_place κ src) (InReach (one_address d)) (with_cost c κ) else with_cost c κ) { flags = leaves_flags op || κ.flags; test = tested })) (sym writes)
    (subst (λ e. Has want (record (if e then written else forgetting (hits d d) (with_cost c κ)) { flags = leaves_flags op || κ.flags; test = tested })) (sym (certain d))
    (word_has d c op (source_place κ src) told (leaves_flags op) test _ s κ tests n
    (after_words (with_cost c κ) op (source_place κ src) (Word d) has.words (source_word s κ src reads)) free has)))

-- An instruction writes a word.
pub word_passes : (t : Sheet) (lost : Slot → Bool) (s : Known) (op : TwoOp) (src : Src) (d : ℕ) (test : Option Test) → WordIs t s op src d → is_end d ≡ false
    → writes_destination op ≡ true → ((κ : Known) → test_of op (source_place κ src) (InReach (one_address d)) ≡ test) → Free (Word d) s.spent.terms → IsLost lost (Word d)
    → Passes t lost (Two op false src (ToAbs d)) (instruction_cost t.board (Two op false src (ToAbs d))) s
    (puts_word d any_word (instruction_cost t.board (Two op false src (ToAbs d))) (leaves_flags op || s.flags) test s)
word_passes t lost s op src d test is goes_on writes tests free hit =
    let c = instruction_cost t.board (Two op false src (ToAbs d)) in
    record {
      own = λ a κ has. word_own t a s κ op src d is has;
      goes = λ to κ has. doesnt_end d (writes_destination op) (computed t.board (Two op false src (ToAbs d)) κ) is.even goes_on;
      has = λ κ has. word_computed t.board c s κ op src d any_word test (word_cost t.board s κ op src d is.reads) writes is.reads (tests κ)
          (after_words (with_cost c κ) op (source_place κ src) (Word d) has.words (source_word s κ src is.reads)) free has;
      affords = λ more a. affords_fresh t d more (puts (Word d) any_word c (leaves_flags op || s.flags) test s) (affords_puts t (Word d) any_word c _ test s free more a);
      keeps = puts_word_keeps lost d any_word c _ test s hit;
    }

-- a word is compared
pub word_compare_passes : (t : Sheet) (lost : Slot → Bool) (s : Known) (op : TwoOp) (src : Src) (d : ℕ) (test : Option Test) → WordIs t s op src d → is_end d ≡ false
    → writes_destination op ≡ false → leaves_flags op ≡ true → ((κ : Known) → test_of op (source_place κ src) (InReach (one_address d)) ≡ test)
    → Passes t lost (Two op false src (ToAbs d)) (instruction_cost t.board (Two op false src (ToAbs d))) s
    (compares (instruction_cost t.board (Two op false src (ToAbs d))) test s)
word_compare_passes t lost s op src d test is goes_on writes leaves tests =
    let c = instruction_cost t.board (Two op false src (ToAbs d)) in
    record {
      own = λ a κ has. word_own t a s κ op src d is has;
      goes = λ to κ has. doesnt_end d (writes_destination op) (computed t.board (Two op false src (ToAbs d)) κ) is.even goes_on;
      has = λ κ has.
          subst (λ m. Has (compares c test s) (record (if writes_destination op then with_result op (source_place κ src) (InReach (one_address d)) (with_cost m κ) else with_cost m κ) { flags = leaves_flags op || κ.flags; test = test_of op (source_place κ src) (InReach (one_address d)) })) (sym (word_cost t.board s κ op src d is.reads))
          (subst (λ w. Has (compares c test s) (record (if w then with_result op (source_place κ src) (InReach (one_address d)) (with_cost c κ) else with_cost c κ) { flags = leaves_flags op || κ.flags; test = test_of op (source_place κ src) (InReach (one_address d)) })) (sym writes)
          (compares_has c test _ _ s κ (tests κ) (or_true (leaves_flags op) κ.flags leaves) has));
      affords = affords_compares t c test s;
      keeps = record { stretch = refl; spent = refl; range = λ x h. refl; fresh = λ a h. h };
    }

-- ---- What pays for a list pays for what is behind it

no_more : (n : ℕ) → 0 + n ≡ n
no_more n = omega arith

pub runs_afford : (t : Sheet) (lost : Slot → Bool) (s v : Known) (is : List Instr) (w more : ℕ) → Runs t lost s is w v → Affords t (w + more) s → Affords t more v
runs_afford t lost _ _ _ _ more (done s) a = subst (λ n. Affords t n s) (no_more more) a
runs_afford t lost _ _ _ _ more (next s u v i is c w passes rest) a =
    runs_afford t lost u v is w more rest (passes.affords (w + more) (subst (λ n. Affords t n s) (together c w more) a))
