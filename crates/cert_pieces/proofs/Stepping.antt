-- One instruction of the sweep.
use Rattle.std.proofs.Common.{◌≡◌, ℕ, ◌+◌, ◌*◌, ◌<◌, Bool, true, false, not, Option, Some, None, [], ◌∷◌, refl, sym, ap, ◌∙◌, subst, arith}
use Rattle.std.specs.Prelude.{pos, nat_lt, int_lt, ℤ, is_some, is_none, if◌then◌else◌, ◌||◌, ◌++◌}
use Rattle.std.proofs.lemmas.Bool.Decides.{nat_tests}
use Rattle.std.specs.Option.{option_or}
use Rattle.std.specs.Int.{int_max}
use Rattle.std.specs.Int.Signed.{le_z}
use Rattle.msp430_isa.specs.declared.instr.Cond.{Cond}
use Rattle.msp430_isa.specs.declared.instr.Instr.{Instr}
use Rattle.msp430_isa.specs.declared.instr.Instr.TheVariants.{Jump}
use Rattle.msp430_isa.specs.Encoding.{length_of}
use Rattle.msp430_machine.specs.Cost.{instruction_cost}
use Rattle.cert_rules.specs.Faults.{Fault, unless, first_fault}
use Rattle.cert_rules.specs.declared.Rule.TheVariants.{Gap, Limit, Edge, Set}
use Rattle.cert_rules.specs.Known.{Known, with_cost}
use Rattle.cert_rules.specs.Forms.{kind_of}
use Rattle.cert_rules.specs.Tables.{point_at}
use Rattle.cert_rules.specs.Sheet.{Sheet}
use Rattle.cert_rules.specs.Standing.{AnInstruction, standing, bytes_of}
use Rattle.cert_rules.specs.Effects.{on_edge, is_always}
use Rattle.cert_rules.specs.Shapes.{gap_fault, turns_fault, turns_at, counter_of}
use Rattle.cert_rules.specs.Outcomes.{Outcome, Goes, Ends, falls_only, jumps_to, target_of, outcome_of}
use Rattle.cert_rules.specs.Going.{going_fault, edge_fault, edge_implied, over_fault, spent_by_edge, greatest_spent, limit_of, spent_to, point_implied, may_go_to, falls_with}
use Rattle.cert_rules.specs.Steps.{own_fault_by, step_outcome, standing_fault, known_fault, step_fault, step_leaves}
use Rattle.cert_rules.specs.Sweep.{Swept, step, known_here}
use Rattle.cert_pieces.specs.Pieces.{Has, Falls, Lands, Begins, Stands}

less_is : (n m : ℕ) → n < m → nat_lt n m ≡ true
less_is n m h = grind (arith, nat_tests)

pub both : (x y : Option Fault) → x ≡ None → y ≡ None → option_or x y ≡ None
both x y e f = ap (λ z. option_or z y) e ∙ f

edge_passes : (t : Sheet) (a n : ℕ) (κ : Known) → n < t.here.end → edge_fault t a n (falls_only κ) ≡ None
edge_passes t a n κ h = both _ _ (ap (λ c. unless c Edge a (pos n) (pos a)) (less_is n t.here.end h)) refl

-- all rules of an instruction that only falls on
pub falling_fault : (t : Sheet) (stretch a next : ℕ) (κ : Known) → next < t.here.end
    → le_z (spent_to t next κ) (pos (limit_of t stretch)) ≡ true → point_implied a κ (point_at t.points next) ≡ None
    → going_fault t stretch a next (falls_only κ) ≡ None
falling_fault t stretch a next κ inside paid implied =
    both _ _ (ap (λ c. unless c Limit a (spent_to t next κ) (pos (limit_of t stretch))) paid)
    (both _ _ (edge_passes t a next κ inside) (both _ _ (both _ _ implied refl) refl))

-- One instruction, whatever comes to it: the rules pass, and so does the sweep from the next one on.
pub steps : (t : Sheet) (a : ℕ) (i : Instr) (incoming : Option Known) (κ : Known) (o : Outcome) → Stands t a i
    → known_here t a incoming ≡ Some κ
    → own_fault_by t a κ i (kind_of i) ≡ None
    → outcome_of t (a + 2 * length_of i) κ i (kind_of i) ≡ o
    → turns_fault a (counter_of (AnInstruction i)) (turns_at t (a + 2 * length_of i)) ≡ None
    → going_fault t κ.stretch a (a + 2 * length_of i) o ≡ None
    → Swept t (a + 2 * length_of i) (falls_with o) None
    → Swept t a incoming None
steps t a i incoming κ o st here own goes turns going rest =
    let next = a + 2 * length_of i in
    let led : going_fault t κ.stretch a next (step_outcome t a κ (AnInstruction i)) ≡ None =
    subst (λ o. going_fault t κ.stretch a next o ≡ None) (sym goes) going in
    let known : standing_fault t a κ (AnInstruction i) ≡ None = both _ _ st.form (both _ _ own (both _ _ led refl)) in
    let gap : gap_fault t a (2 * length_of i) (Some κ) ≡ None = ap (λ c. unless (not c) Gap a (pos a) (pos 0)) st.within in
    let all : first_fault (gap_fault t a (bytes_of (AnInstruction i)) (Some κ) ∷ turns_fault a (counter_of (AnInstruction i)) (turns_at t (a + bytes_of (AnInstruction i))) ∷ known_fault t a (Some κ) (AnInstruction i) ∷ []) ≡ None =
    both _ _ gap (both _ _ turns (both _ _ known refl)) in
    let fine : step_fault t a (Some κ) ≡ None =
    subst (λ s. first_fault (gap_fault t a (bytes_of s) (Some κ) ∷ turns_fault a (counter_of s) (turns_at t (a + bytes_of s)) ∷ known_fault t a (Some κ) s ∷ []) ≡ None) (sym st.instr) all in
    let leaves : step_leaves t a (Some κ) ≡ falls_with o =
    ap (λ s. falls_with (step_outcome t a κ s)) st.instr ∙ ap (λ o. falls_with o) goes in
    step a incoming None st.inside st.head
    (ap (λ k. step_fault t a k) here ∙ fine)
    (subst (λ k. Swept t (a + bytes_of (standing t a)) k None) (sym (ap (λ k. step_leaves t a k) here ∙ leaves))
    (subst (λ s. Swept t (a + bytes_of s) (falls_with o) None) (sym st.instr) rest))

-- One instruction that falls on, from a state that it fits.
pub falls_on : (t : Sheet) (a : ℕ) (i : Instr) (incoming : Option Known) (asked κ after : Known) → Stands t a i → known_here t a incoming ≡ Some κ
    → own_fault_by t a κ i (kind_of i) ≡ None
    → outcome_of t (a + 2 * length_of i) κ i (kind_of i) ≡ falls_only after
    → κ.stretch ≡ asked.stretch
    → Has asked after → Falls t asked (a + 2 * length_of i)
    → Swept t a incoming None
falls_on t a i incoming asked κ after st here own goes same has falls =
    let next = a + 2 * length_of i in
    steps t a i incoming κ (falls_only after) st here own goes
    (ap (λ n. turns_fault a (counter_of (AnInstruction i)) n) falls.turns)
    (falling_fault t κ.stretch a next after falls.inside (subst (λ h. le_z (spent_to t next after) (pos (limit_of t h)) ≡ true) (sym same) (falls.paid after has)) (falls.implied a after has))
    (falls.swept after has)

-- all rules of an instruction that only jumps
jumping_fault : (t : Sheet) (a next target : ℕ) (asked κ : Known) → κ.stretch ≡ asked.stretch → Has asked κ → Lands t asked target
    → going_fault t κ.stretch a next (jumps_to κ target) ≡ None
jumping_fault t a next target asked κ same has lands =
    both _ _ (ap (λ c. unless c Limit a (spent_to t target κ) (pos (limit_of t κ.stretch))) (subst (λ h. le_z (spent_to t target κ) (pos (limit_of t h)) ≡ true) (sym same) (lands.paid κ has)))
    (both _ _ (both _ _ refl (ap (λ c. unless c Edge a (pos target) (pos a)) lands.goes))
    (both _ _ (lands.implied a κ has) refl))

-- One instruction that only jumps: what stands behind it begins anew.
pub leaps_on : (t : Sheet) (a : ℕ) (i : Instr) (target : ℕ) (incoming : Option Known) (asked κ after : Known) → Stands t a i → known_here t a incoming ≡ Some κ
    → own_fault_by t a κ i (kind_of i) ≡ None
    → outcome_of t (a + 2 * length_of i) κ i (kind_of i) ≡ jumps_to after target
    → κ.stretch ≡ after.stretch
    → Has asked after → Lands t asked target
    → turns_at t (a + 2 * length_of i) ≡ None
    → Begins t (a + 2 * length_of i)
    → Swept t a incoming None
leaps_on t a i target incoming asked κ after st here own goes same has lands turns begins =
    steps t a i incoming κ (jumps_to after target) st here own goes
    (ap (λ n. turns_fault a (counter_of (AnInstruction i)) n) turns)
    (subst (λ h. going_fault t h a (a + 2 * length_of i) (jumps_to after target) ≡ None) (sym same) (jumping_fault t a (a + 2 * length_of i) target asked after has.stretch has lands))
    begins

-- One instruction that ends the program: what stands behind it begins anew.
pub ends_on : (t : Sheet) (a : ℕ) (i : Instr) (incoming : Option Known) (κ after : Known) → Stands t a i → known_here t a incoming ≡ Some κ
    → own_fault_by t a κ i (kind_of i) ≡ None
    → outcome_of t (a + 2 * length_of i) κ i (kind_of i) ≡ Ends after
    → le_z (greatest_spent after) (pos (limit_of t κ.stretch)) ≡ true
    → turns_at t (a + 2 * length_of i) ≡ None
    → Begins t (a + 2 * length_of i)
    → Swept t a incoming None
ends_on t a i incoming κ after st here own goes paid turns begins =
    steps t a i incoming κ (Ends after) st here own goes
    (ap (λ n. turns_fault a (counter_of (AnInstruction i)) n) turns)
    (both _ _ (ap (λ c. unless c Limit a (greatest_spent after) (pos (limit_of t κ.stretch))) paid) (both _ _ refl (both _ _ refl refl)))
    begins

-- ---- A conditional jump

-- one of its edges, where it can be taken, keeps the rules
pub record EdgeFine (t : Sheet) (limit from target : ℕ) (κ : Known) : Type 0 where
  pub paid : le_z (spent_to t target κ) (pos limit) ≡ true
  pub implied : point_implied from κ (point_at t.points target) ≡ None

abbrev pub IfTaken : (Known → Type 0) → Option Known → Type 0
IfTaken p None = Unit {0}
IfTaken p (Some κ) = p κ

max_le : (x y l : ℤ) → le_z x l ≡ true → le_z y l ≡ true → le_z (int_max x y) l ≡ true
max_le x y l h k = elim (int_lt y x) as (λ c. le_z (if c then x else y) l ≡ true) [ true ↦ h | false ↦ k ]

edges_paid : (t : Sheet) (limit a next target : ℕ) (o p : Option Known) → IfTaken (EdgeFine t limit a next) o → IfTaken (EdgeFine t limit a target) p
    → over_fault a limit (spent_by_edge t next o ++ spent_by_edge t target p) ≡ None
edges_paid t limit a next target None None e f = refl
edges_paid t limit a next target (Some κ) None e f = ap (λ c. unless c Limit a (spent_to t next κ) (pos limit)) e.paid
edges_paid t limit a next target None (Some κ) e f = ap (λ c. unless c Limit a (spent_to t target κ) (pos limit)) f.paid
edges_paid t limit a next target (Some κ) (Some ρ) e f =
    ap (λ c. unless c Limit a (int_max (spent_to t next κ) (spent_to t target ρ)) (pos limit)) (max_le _ _ (pos limit) e.paid f.paid)

edge_fine : (t : Sheet) (limit a target : ℕ) (o : Option Known) → IfTaken (EdgeFine t limit a target) o → edge_implied t a target o ≡ None
edge_fine t limit a target None e = refl
edge_fine t limit a target (Some κ) e = e.implied

or_so : (b c : Bool) → c ≡ true → b || c ≡ true
or_so true c h = refl
or_so false c h = h

branching_fault : (t : Sheet) (limit stretch a next target : ℕ) (o p : Option Known) → limit ≡ limit_of t stretch → next < t.here.end → may_go_to t target ≡ true
    → IfTaken (EdgeFine t limit a next) o → IfTaken (EdgeFine t limit a target) p → going_fault t stretch a next (Goes o p target) ≡ None
branching_fault t limit stretch a next target o p same inside goes e f =
    both _ _ (ap (λ n. over_fault a n (spent_by_edge t next o ++ spent_by_edge t target p)) (sym same) ∙ edges_paid t limit a next target o p e f)
    (both _ _ (both _ _ (ap (λ c. unless c Edge a (pos next) (pos a)) (or_so (is_none o) _ (less_is next t.here.end inside)))
    (ap (λ c. unless c Edge a (pos target) (pos a)) (or_so (is_none p) _ goes)))
    (both _ _ (both _ _ (edge_fine t limit a next o e) (edge_fine t limit a target p f)) refl))

swept_behind : (t : Sheet) (next : ℕ) (s : Known) (o : Option Known) → IfTaken (λ κ. Has s κ) o → Falls t s next → Begins t next → Swept t next o None
swept_behind t next s None h falls begins = begins
swept_behind t next s (Some κ) h falls begins = falls.swept κ h

falling_edge : (t : Sheet) (limit a next : ℕ) (s : Known) (o : Option Known) → limit ≡ limit_of t s.stretch → IfTaken (λ κ. Has s κ) o → Falls t s next → IfTaken (EdgeFine t limit a next) o
falling_edge t limit a next s None same h falls = tt
falling_edge t limit a next s (Some κ) same h falls = record {
  paid = subst (λ n. le_z (spent_to t next κ) (pos n) ≡ true) (sym same) (falls.paid κ h);
  implied = falls.implied a κ h;
}

landing_edge : (t : Sheet) (limit a target : ℕ) (s : Known) (o : Option Known) → limit ≡ limit_of t s.stretch → IfTaken (λ κ. Has s κ) o → Lands t s target → IfTaken (EdgeFine t limit a target) o
landing_edge t limit a target s None same h lands = tt
landing_edge t limit a target s (Some κ) same h lands = record {
  paid = subst (λ n. le_z (spent_to t target κ) (pos n) ≡ true) (sym same) (lands.paid κ h);
  implied = lands.implied a κ h;
}

sure_edge : (t : Sheet) (next : ℕ) (s : Known) (o : Option Known) → is_some o ≡ true → IfTaken (λ κ. Has s κ) o → Falls t s next → Swept t next o None
sure_edge t next s None e h falls = absurd (let no : false ≡ true = e in cc)
sure_edge t next s (Some κ) e h falls = falls.swept κ h

-- the sweep behind a jump: its falling edge can be taken, or something begins there in any case
pub data Behind (t : Sheet) (next : ℕ) (o : Option Known) : Type 0 where
  Sure : is_some o ≡ true → Behind t next o
  Anew : Begins t next → Behind t next o

behind_swept : (t : Sheet) (next : ℕ) (s : Known) (o : Option Known) → Behind t next o → IfTaken (λ κ. Has s κ) o → Falls t s next → Swept t next o None
behind_swept t next s o (Sure e) h falls = sure_edge t next s o e h falls
behind_swept t next s o (Anew begins) h falls = swept_behind t next s o h falls begins

-- A conditional jump, whose edges have what is asked where they can be taken.
pub branches_on : (t : Sheet) (a : ℕ) (on : Cond) (words : ℤ) (incoming : Option Known) (κ fall jump : Known) (o p : Option Known) → Stands t a (Jump on words) → known_here t a incoming ≡ Some κ
    → is_always on ≡ false → κ.flags ≡ true
    → on_edge on false κ.test (with_cost (instruction_cost t.board (Jump on words)) κ) ≡ o → on_edge on true κ.test (with_cost (instruction_cost t.board (Jump on words)) κ) ≡ p
    → κ.stretch ≡ fall.stretch → κ.stretch ≡ jump.stretch
    → IfTaken (λ κ. Has fall κ) o → IfTaken (λ κ. Has jump κ) p
    → Falls t fall (a + 2) → Lands t jump (target_of (a + 2) words) → Behind t (a + 2) o
    → Swept t a incoming None
branches_on t a on words incoming κ fall jump o p st here always flags eo ep sf sj hf hj falls lands after =
    let c = instruction_cost t.board (Jump on words) in
    let target = target_of (a + 2) words in
    steps t a (Jump on words) incoming κ (Goes o p target) st here
    (both _ _ (ap (λ b. unless (not (not b) || κ.flags) Set a (pos 2) (pos 0)) always ∙ ap (λ b. unless b Set a (pos 2) (pos 0)) flags) refl)
    (ap (λ b. if b then jumps_to (with_cost c κ) target else Goes (on_edge on false κ.test (with_cost c κ)) (on_edge on true κ.test (with_cost c κ)) target) always
    ∙ ap (λ q. Goes q (on_edge on true κ.test (with_cost c κ)) target) eo ∙ ap (λ q. Goes o q target) ep)
    (ap (λ n. turns_fault a 0 n) falls.turns)
    (branching_fault t (limit_of t κ.stretch) κ.stretch a (a + 2) target o p refl falls.inside lands.goes
    (falling_edge t _ a (a + 2) fall o (ap (λ n. limit_of t n) sf) hf falls) (landing_edge t _ a target jump p (ap (λ n. limit_of t n) sj) hj lands))
    (behind_swept t (a + 2) fall o after hf falls)
