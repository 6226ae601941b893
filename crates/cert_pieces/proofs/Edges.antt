-- The two edges of conditional jumps, each to what is asked of it.
use Rattle.std.proofs.Common.{◌≡◌, ℕ, ◌+◌, ◌-◌, ◌≤◌, Bool, true, false, Option, Some, None, [], refl, sym, ap, ◌∙◌, subst, arith}
use Rattle.std.specs.Prelude.{ℤ, pos, ◌==◌, nat_le, nat_lt, max, min, if◌then◌else◌}
use Rattle.std.proofs.lemmas.Bool.Decides.{nat_tests}
use Rattle.certificate.specs.declared.cert.Slot.{Slot}
use Rattle.certificate.specs.declared.cert.Slot.TheVariants.{Reg}
use Rattle.msp430_isa.specs.declared.instr.Cond.{Cond}
use Rattle.msp430_isa.specs.declared.instr.Cond.TheVariants.{Jne as JNE, Jeq as JEQ, Jnc as JNC}
use Rattle.msp430_isa.specs.declared.instr.Instr.TheVariants.{Jump}
use Rattle.msp430_machine.specs.Cost.{instruction_cost}
use Rattle.cert_rules.specs.Ranges.{Range, any_word, below, from, equal, apart}
use Rattle.cert_rules.specs.Spending.{paying}
use Rattle.cert_rules.specs.Known.{Known, Test, range_of, with_cost, bare}
use Rattle.cert_rules.specs.Effects.{on_edge, is_always, To, with_narrowed}
use Rattle.cert_rules.specs.Outcomes.{target_of}
use Rattle.cert_rules.specs.Sheet.{Sheet}
use Rattle.cert_pieces.specs.Pieces.{Has, Tells, Narrower, Falls, Lands, Begins, Stands, Here, pays, narrows_to}
use Rattle.cert_pieces.proofs.Paying.{told}
use Rattle.cert_pieces.proofs.Stepping.{IfTaken, Sure, Anew, branches_on}
use Rattle.cert_pieces.proofs.Jumping.{paid_has, IfLeft, if_left, edge_has, from_left}
use Rattle.cert_pieces.proofs.Bare.{bare_has}

-- ---- A jump with what is asked on each edge; something begins behind it in any case

pub branches_to : (t : Sheet) (a : ℕ) (on : Cond) (words : ℤ) (s fall jump : Known) → Stands t a (Jump on words) → is_always on ≡ false → s.flags ≡ true
    → s.stretch ≡ fall.stretch → s.stretch ≡ jump.stretch
    → ((κ : Known) → Has s κ → IfTaken (λ ρ. Has fall ρ) (on_edge on false s.test (with_cost (instruction_cost t.board (Jump on words)) κ)))
    → ((κ : Known) → Has s κ → IfTaken (λ ρ. Has jump ρ) (on_edge on true s.test (with_cost (instruction_cost t.board (Jump on words)) κ)))
    → Falls t fall (a + 2) → Lands t jump (target_of (a + 2) words) → Begins t (a + 2) → Here t a s
branches_to t a on words s fall jump st always flags ef ej hf hj falls lands begins incoming κ e h =
    let c = instruction_cost t.board (Jump on words) in
    branches_on t a on words incoming κ fall jump (on_edge on false s.test (with_cost c κ)) (on_edge on true s.test (with_cost c κ)) st e always (h.flags flags)
    (ap (λ q. on_edge on false q (with_cost c κ)) h.test) (ap (λ q. on_edge on true q (with_cost c κ)) h.test)
    (h.stretch ∙ ef) (h.stretch ∙ ej) (hf κ h) (hj κ h) falls lands (Anew begins)

-- a jump that tells nothing of what was compared: both edges can be taken
pub jumps_freely : (t : Sheet) (a : ℕ) (on : Cond) (words : ℤ) (s : Known) → Stands t a (Jump on words) → is_always on ≡ false → s.flags ≡ true
    → ((taken : Bool) (κ : Known) → on_edge on taken s.test κ ≡ Some κ)
    → Falls t (pays (instruction_cost t.board (Jump on words)) s) (a + 2) → Lands t (pays (instruction_cost t.board (Jump on words)) s) (target_of (a + 2) words) → Here t a s
jumps_freely t a on words s st always flags free falls lands incoming κ e h =
    let c = instruction_cost t.board (Jump on words) in
    branches_on t a on words incoming κ (pays c s) (pays c s) (Some (with_cost c κ)) (Some (with_cost c κ)) st e always (h.flags flags)
    (ap (λ q. on_edge on false q (with_cost c κ)) h.test ∙ free false (with_cost c κ)) (ap (λ q. on_edge on true q (with_cost c κ)) h.test ∙ free true (with_cost c κ))
    h.stretch h.stretch (paid_has c s κ h) (paid_has c s κ h) falls lands (Sure refl)

-- ---- What an edge leaves

no_even : (b : Bool) → false ≡ true → b ≡ true
no_even b h = absurd (let no : false ≡ true = h in cc)

above_zero : (n : ℕ) → 1 ≤ (if n == 0 then n + 1 else n)
above_zero n = grind (arith, nat_tests)

still_within : (n g : ℕ) → n ≤ g → (if n == 0 then n - 1 else n) ≤ g
still_within n g h = grind (arith, nat_tests)

abbrev pub at_least_one : ℕ → Range
at_least_one g = record { least = 1; greatest = g; even = false }

-- a value that isn't 0
pub apart_left : (g : ℕ) (r : Range) → r.greatest ≤ g → g ≤ 65535 → IfLeft (at_least_one g) (apart 0 r)
apart_left g r h k =
    let left : Range = record r { least = if r.least == 0 then r.least + 1 else r.least; greatest = if r.greatest == 0 then r.greatest - 1 else r.greatest } in
    let most = still_within r.greatest g h in
    if_left (at_least_one g) (nat_le left.least left.greatest) left (record {
      inner = record { least = above_zero r.least; greatest = most; even = λ e. no_even r.even e };
      word = record { least = omega arith; greatest = omega (arith, most, k); even = λ e. no_even r.even e };
    })

pub apart_any : (r : Range) → Narrower r any_word → IfLeft any_word (apart 0 r)
apart_any r n =
    let left : Range = record r { least = if r.least == 0 then r.least + 1 else r.least; greatest = if r.greatest == 0 then r.greatest - 1 else r.greatest } in
    let fits : Narrower left any_word = record { least = omega arith; greatest = still_within r.greatest 65535 n.greatest; even = λ e. no_even r.even e } in
    if_left any_word (nat_le left.least left.greatest) left (record { inner = fits; word = fits })

min_least : (x y : ℕ) → x ≤ 65535 → min x y ≤ 65535
min_least x y h = omega (arith, h)

pub equal_any : (n : ℕ) (r : Range) → Narrower r any_word → IfLeft any_word (equal n r)
equal_any n r k =
    let left : Range = record r { least = max r.least n; greatest = min r.greatest n } in
    let fits : Narrower left any_word = record { least = omega arith; greatest = min_least r.greatest n k.greatest; even = λ e. no_even r.even e } in
    if_left any_word (nat_le left.least left.greatest) left (record { inner = fits; word = fits })

pub below_any : (n : ℕ) (r : Range) → Narrower r any_word → IfLeft any_word (below n r)
below_any n r k =
    let left : Range = record r { greatest = min r.greatest (n - 1) } in
    let fits : Narrower left any_word = record { least = omega arith; greatest = min_least r.greatest (n - 1) k.greatest; even = λ e. no_even r.even e } in
    if_left any_word (nat_lt r.least n) left (record { inner = fits; word = fits })

-- an edge after which nothing is asked but what has been spent
pub bare_edge : (w : Slot) (c st n : ℕ) (s κ : Known) (o : Option Range) → s.stretch ≡ st → paying c s.spent ≡ record { base = pos n; terms = [] } → IfLeft any_word o → Has s κ
    → IfTaken (λ ρ. Has (bare st n) ρ) (with_narrowed w (with_cost c κ) (To o))
bare_edge w c st n s κ None e spent left has = tt
bare_edge w c st n s κ (Some r) e spent left has = bare_has st n (narrows_to w any_word (pays c s)) _ e refl spent (edge_has w any_word c s κ (Some r) left has)

-- the same of a jump that tells nothing
pub bare_paid : (c st n : ℕ) (s κ : Known) → s.stretch ≡ st → paying c s.spent ≡ record { base = pos n; terms = [] } → Has s κ → Has (bare st n) (with_cost c κ)
bare_paid c st n s κ e spent has = bare_has st n (pays c s) (with_cost c κ) e refl spent (paid_has c s κ has)

-- the range of a slot that is asked for in one is in it
pub asked_within : (s κ : Known) (x : Slot) (r : Range) → s.range x ≡ Some r → Has s κ → Narrower (range_of κ x) r
asked_within s κ x r e has = told (Some r) (κ.range x) (subst (λ o. Tells o (κ.range x)) e (has.range x)) refl

-- ---- Jumps on whether a register is 0

abbrev pub is_zero_test : ℕ → Bool → Test
is_zero_test r ordered = record { of = Reg r; with = 0; ordered = ordered }

pub jumps_if_zero : (t : Sheet) (a r g : ℕ) (ordered : Bool) (words : ℤ) (s : Known) → Stands t a (Jump JEQ words) → s.flags ≡ true → s.test ≡ Some (is_zero_test r ordered)
    → s.range (Reg r) ≡ Some (record { least = 0; greatest = g; even = false }) → g ≤ 65535
    → Falls t (narrows_to (Reg r) (at_least_one g) (pays (instruction_cost t.board (Jump JEQ words)) s)) (a + 2)
    → Lands t (narrows_to (Reg r) any_word (pays (instruction_cost t.board (Jump JEQ words)) s)) (target_of (a + 2) words)
    → Begins t (a + 2) → Here t a s
jumps_if_zero t a r g ordered words s st flags test range few falls lands begins =
    let c = instruction_cost t.board (Jump JEQ words) in
    branches_to t a JEQ words s (narrows_to (Reg r) (at_least_one g) (pays c s)) (narrows_to (Reg r) any_word (pays c s)) st refl flags refl refl
    (λ κ h. subst (λ o. IfTaken (λ ρ. Has (narrows_to (Reg r) (at_least_one g) (pays c s)) ρ) (on_edge JEQ false o (with_cost c κ))) (sym test)
    (edge_has (Reg r) (at_least_one g) c s κ (apart 0 (range_of κ (Reg r))) (apart_left g (range_of κ (Reg r)) (asked_within s κ (Reg r) _ range h).greatest few) h))
    (λ κ h. subst (λ o. IfTaken (λ ρ. Has (narrows_to (Reg r) any_word (pays c s)) ρ) (on_edge JEQ true o (with_cost c κ))) (sym test)
    (edge_has (Reg r) any_word c s κ (equal 0 (range_of κ (Reg r))) (equal_any 0 (range_of κ (Reg r)) (h.words (Reg r))) h))
    falls lands begins

pub jumps_unless_zero : (t : Sheet) (a r g : ℕ) (ordered : Bool) (words : ℤ) (s : Known) → Stands t a (Jump JNE words) → s.flags ≡ true → s.test ≡ Some (is_zero_test r ordered)
    → s.range (Reg r) ≡ Some (record { least = 0; greatest = g; even = false }) → g ≤ 65535
    → Falls t (narrows_to (Reg r) any_word (pays (instruction_cost t.board (Jump JNE words)) s)) (a + 2)
    → Lands t (narrows_to (Reg r) (at_least_one g) (pays (instruction_cost t.board (Jump JNE words)) s)) (target_of (a + 2) words)
    → Begins t (a + 2) → Here t a s
jumps_unless_zero t a r g ordered words s st flags test range few falls lands begins =
    let c = instruction_cost t.board (Jump JNE words) in
    branches_to t a JNE words s (narrows_to (Reg r) any_word (pays c s)) (narrows_to (Reg r) (at_least_one g) (pays c s)) st refl flags refl refl
    (λ κ h. subst (λ o. IfTaken (λ ρ. Has (narrows_to (Reg r) any_word (pays c s)) ρ) (on_edge JNE false o (with_cost c κ))) (sym test)
    (edge_has (Reg r) any_word c s κ (equal 0 (range_of κ (Reg r))) (equal_any 0 (range_of κ (Reg r)) (h.words (Reg r))) h))
    (λ κ h. subst (λ o. IfTaken (λ ρ. Has (narrows_to (Reg r) (at_least_one g) (pays c s)) ρ) (on_edge JNE true o (with_cost c κ))) (sym test)
    (edge_has (Reg r) (at_least_one g) c s κ (apart 0 (range_of κ (Reg r))) (apart_left g (range_of κ (Reg r)) (asked_within s κ (Reg r) _ range h).greatest few) h))
    falls lands begins

-- ---- Tests of which nothing is kept

pub tests_value : (t : Sheet) (a st n r : ℕ) (words : ℤ) (s : Known) → Stands t a (Jump JNE words) → s.flags ≡ true → s.test ≡ Some (is_zero_test r true) → s.stretch ≡ st
    → paying (instruction_cost t.board (Jump JNE words)) s.spent ≡ record { base = pos n; terms = [] }
    → Falls t (bare st n) (a + 2) → Lands t (bare st n) (target_of (a + 2) words) → Begins t (a + 2) → Here t a s
tests_value t a st n r words s st' flags test same spent falls lands begins =
    let c = instruction_cost t.board (Jump JNE words) in
    branches_to t a JNE words s (bare st n) (bare st n) st' refl flags same same
    (λ κ h. subst (λ o. IfTaken (λ ρ. Has (bare st n) ρ) (on_edge JNE false o (with_cost c κ))) (sym test)
    (bare_edge (Reg r) c st n s κ (equal 0 (range_of κ (Reg r))) same spent (equal_any 0 (range_of κ (Reg r)) (h.words (Reg r))) h))
    (λ κ h. subst (λ o. IfTaken (λ ρ. Has (bare st n) ρ) (on_edge JNE true o (with_cost c κ))) (sym test)
    (bare_edge (Reg r) c st n s κ (apart 0 (range_of κ (Reg r))) same spent (apart_any (range_of κ (Reg r)) (h.words (Reg r))) h))
    falls lands begins

pub tests_below : (t : Sheet) (a st n m : ℕ) (w : Slot) (words : ℤ) (s : Known) → Stands t a (Jump JNC words) → s.flags ≡ true → s.test ≡ Some (record { of = w; with = m; ordered = true }) → s.stretch ≡ st
    → paying (instruction_cost t.board (Jump JNC words)) s.spent ≡ record { base = pos n; terms = [] }
    → Falls t (bare st n) (a + 2) → Lands t (bare st n) (target_of (a + 2) words) → Begins t (a + 2) → Here t a s
tests_below t a st n m w words s st' flags test same spent falls lands begins =
    let c = instruction_cost t.board (Jump JNC words) in
    branches_to t a JNC words s (bare st n) (bare st n) st' refl flags same same
    (λ κ h. subst (λ o. IfTaken (λ ρ. Has (bare st n) ρ) (on_edge JNC false o (with_cost c κ))) (sym test)
    (bare_edge w c st n s κ (from m (range_of κ w)) same spent (from_left m (range_of κ w) (h.words w)) h))
    (λ κ h. subst (λ o. IfTaken (λ ρ. Has (bare st n) ρ) (on_edge JNC true o (with_cost c κ))) (sym test)
    (bare_edge w c st n s κ (below m (range_of κ w)) same spent (below_any m (range_of κ w) (h.words w)) h))
    falls lands begins

-- a test for 0 whose register is asked for no value on either edge
pub jumps_unless_any : (t : Sheet) (a r : ℕ) (ordered : Bool) (words : ℤ) (s : Known) → Stands t a (Jump JNE words) → s.flags ≡ true → s.test ≡ Some (is_zero_test r ordered)
    → Falls t (narrows_to (Reg r) any_word (pays (instruction_cost t.board (Jump JNE words)) s)) (a + 2)
    → Lands t (narrows_to (Reg r) any_word (pays (instruction_cost t.board (Jump JNE words)) s)) (target_of (a + 2) words)
    → Begins t (a + 2) → Here t a s
jumps_unless_any t a r ordered words s st flags test falls lands begins =
    let c = instruction_cost t.board (Jump JNE words) in
    branches_to t a JNE words s (narrows_to (Reg r) any_word (pays c s)) (narrows_to (Reg r) any_word (pays c s)) st refl flags refl refl
    (λ κ h. subst (λ o. IfTaken (λ ρ. Has (narrows_to (Reg r) any_word (pays c s)) ρ) (on_edge JNE false o (with_cost c κ))) (sym test)
    (edge_has (Reg r) any_word c s κ (equal 0 (range_of κ (Reg r))) (equal_any 0 (range_of κ (Reg r)) (h.words (Reg r))) h))
    (λ κ h. subst (λ o. IfTaken (λ ρ. Has (narrows_to (Reg r) any_word (pays c s)) ρ) (on_edge JNE true o (with_cost c κ))) (sym test)
    (edge_has (Reg r) any_word c s κ (apart 0 (range_of κ (Reg r))) (apart_any (range_of κ (Reg r)) (h.words (Reg r))) h))
    falls lands begins
