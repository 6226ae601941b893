-- An image, a certificate and a board have one verdict.
use Rattle.std.proofs.Common.{◌≡◌, ℕ, ◌+◌, ◌<◌, ◌≤◌, Bool, true, false, List, [], ◌∷◌, Option, Some, None, refl, sym, ap, ◌∙◌, arith}
use Rattle.std.specs.Option.{option_or}
use Rattle.board_table.specs.declared.board.Board.{Board}
use Rattle.ti_txt.specs.Image.{Block}
use Rattle.certificate.specs.Rows.{Function, Certificate}
use Rattle.cert_rules.specs.Words.{head_bytes}
use Rattle.cert_rules.specs.Faults.{Fault, first_fault, first_of}
use Rattle.cert_rules.specs.Known.{Known}
use Rattle.cert_rules.specs.Tables.{tables_fault, point_fault}
use Rattle.cert_rules.specs.Sheet.{Sheet, is_head}
use Rattle.cert_rules.specs.Standing.{standing, bytes_of}
use Rattle.cert_rules.specs.Steps.{step_fault, step_leaves}
use Rattle.cert_rules.specs.Sweep.{Swept, end, head_fails, head, fails, step, head_step_fault, behind_head, known_here, entry, entry_fault, SweptFrom, AllSwept, done, fault, next, sheet, Verdict, Certified}

at_end : (t : Sheet) (a : ℕ) (incoming : Option Known) (w : Option Fault) → t.here.end ≤ a → Swept t a incoming w → None ≡ w
at_end t a incoming w high (end x i k) = refl
at_end t a incoming w high (head_fails x i f l h g) = absurd (omega (arith, l, high))
at_end t a incoming w high (head x i u l h g rest) = absurd (omega (arith, l, high))
at_end t a incoming w high (fails x i f l h g) = absurd (omega (arith, l, high))
at_end t a incoming w high (step x i u l h g rest) = absurd (omega (arith, l, high))

at_head_fault : (t : Sheet) (a : ℕ) (incoming : Option Known) (w : Option Fault) (f : Fault) → a < t.here.end → is_head t a ≡ true → head_step_fault t a ≡ Some f → Swept t a incoming w → Some f ≡ w
at_head_fault t a incoming w f low there_is is (end x i k) = absurd (omega (arith, low, k))
at_head_fault t a incoming w f low there_is is (head_fails x i e l h g) = sym is ∙ g
at_head_fault t a incoming w f low there_is is (head x i u l h g rest) = absurd (let bad : Some f ≡ None = sym is ∙ g in cc)
at_head_fault t a incoming w f low there_is is (fails x i e l h g) = absurd (let bad : true ≡ false = sym there_is ∙ h in cc)
at_head_fault t a incoming w f low there_is is (step x i u l h g rest) = absurd (let bad : true ≡ false = sym there_is ∙ h in cc)

behind_a_head : (t : Sheet) (a : ℕ) (incoming : Option Known) (w : Option Fault) → a < t.here.end → is_head t a ≡ true → head_step_fault t a ≡ None → Swept t a incoming w → Swept t (a + head_bytes) (Some (behind_head t a)) w
behind_a_head t a incoming w low there_is is (end x i k) = absurd (omega (arith, low, k))
behind_a_head t a incoming w low there_is is (head_fails x i f l h g) = absurd (let bad : Some f ≡ None = sym g ∙ is in cc)
behind_a_head t a incoming w low there_is is (head x i u l h g rest) = rest
behind_a_head t a incoming w low there_is is (fails x i e l h g) = absurd (let bad : true ≡ false = sym there_is ∙ h in cc)
behind_a_head t a incoming w low there_is is (step x i u l h g rest) = absurd (let bad : true ≡ false = sym there_is ∙ h in cc)

at_fault : (t : Sheet) (a : ℕ) (incoming : Option Known) (w : Option Fault) (f : Fault) → a < t.here.end → is_head t a ≡ false → step_fault t a (known_here t a incoming) ≡ Some f → Swept t a incoming w → Some f ≡ w
at_fault t a incoming w f low off is (end x i k) = absurd (omega (arith, low, k))
at_fault t a incoming w f low off is (head_fails x i e l h g) = absurd (let bad : true ≡ false = sym h ∙ off in cc)
at_fault t a incoming w f low off is (head x i u l h g rest) = absurd (let bad : true ≡ false = sym h ∙ off in cc)
at_fault t a incoming w f low off is (fails x i e l h g) = sym is ∙ g
at_fault t a incoming w f low off is (step x i u l h g rest) = absurd (let bad : Some f ≡ None = sym is ∙ g in cc)

behind_a_step : (t : Sheet) (a : ℕ) (incoming : Option Known) (w : Option Fault) → a < t.here.end → is_head t a ≡ false → step_fault t a (known_here t a incoming) ≡ None → Swept t a incoming w
    → Swept t (a + bytes_of (standing t a)) (step_leaves t a (known_here t a incoming)) w
behind_a_step t a incoming w low off is (end x i k) = absurd (omega (arith, low, k))
behind_a_step t a incoming w low off is (head_fails x i e l h g) = absurd (let bad : true ≡ false = sym h ∙ off in cc)
behind_a_step t a incoming w low off is (head x i u l h g rest) = absurd (let bad : true ≡ false = sym h ∙ off in cc)
behind_a_step t a incoming w low off is (fails x i f l h g) = absurd (let bad : Some f ≡ None = sym g ∙ is in cc)
behind_a_step t a incoming w low off is (step x i u l h g rest) = rest

one_sweep : (t : Sheet) (a : ℕ) (incoming : Option Known) (v w : Option Fault) → Swept t a incoming v → Swept t a incoming w → v ≡ w
one_sweep t a incoming v w (end x i k) y = at_end t a incoming w k y
one_sweep t a incoming v w (head_fails x i f l h g) y = at_head_fault t a incoming w f l h g y
one_sweep t a incoming v w (head x i u l h g rest) y = one_sweep t (a + head_bytes) (Some (behind_head t a)) v w rest (behind_a_head t a incoming w l h g y)
one_sweep t a incoming v w (fails x i f l h g) y = at_fault t a incoming w f l h g y
one_sweep t a incoming v w (step x i u l h g rest) y = one_sweep t (a + bytes_of (standing t a)) (step_leaves t a (known_here t a incoming)) v w rest (behind_a_step t a incoming w l h g y)

one_from : (t : Sheet) (v w : Option Fault) → SweptFrom t v → SweptFrom t w → v ≡ w
one_from t v w x y =
    x.is ∙ ap (λ r. option_or (entry_fault t (entry t.here t.here.flat)) r) (one_sweep t t.here.start (entry t.here t.here.flat) x.rest y.rest x.swept y.swept) ∙ sym y.is

none_left : (blocks : List Block) (c : Certificate) (b : Board) (first : Bool) (w : Option Fault) → AllSwept blocks c b first [] w → None ≡ w
none_left blocks c b first w (done x) = refl

at_function : (blocks : List Block) (c : Certificate) (b : Board) (first : Bool) (f : Function) (functions : List Function) (e : Fault) (w : Option Fault)
    → SweptFrom (sheet blocks c b first f) (Some e) → AllSwept blocks c b first (f ∷ functions) w → Some e ≡ w
at_function blocks c b first f functions e w own (fault x g gs d there) = one_from (sheet blocks c b first f) (Some e) (Some d) own there
at_function blocks c b first f functions e w own (next x g gs u there rest) = absurd (let bad : Some e ≡ None = one_from (sheet blocks c b first f) (Some e) None own there in cc)

behind_function : (blocks : List Block) (c : Certificate) (b : Board) (first : Bool) (f : Function) (functions : List Function) (w : Option Fault)
    → SweptFrom (sheet blocks c b first f) None → AllSwept blocks c b first (f ∷ functions) w → AllSwept blocks c b false functions w
behind_function blocks c b first f functions w own (fault x g gs d there) = absurd (let bad : Some d ≡ None = one_from (sheet blocks c b first f) (Some d) None there own in cc)
behind_function blocks c b first f functions w own (next x g gs u there rest) = rest

one_all : (blocks : List Block) (c : Certificate) (b : Board) (first : Bool) (functions : List Function) (v w : Option Fault) → AllSwept blocks c b first functions v → AllSwept blocks c b first functions w → v ≡ w
one_all blocks c b first functions v w (done x) y = none_left blocks c b first w y
one_all blocks c b first functions v w (fault x f fs e own) y = at_function blocks c b first f fs e w own y
one_all blocks c b first functions v w (next x f fs u own rest) y = one_all blocks c b false fs v w rest (behind_function blocks c b first f fs w own y)

pub one_verdict : (blocks : List Block) (c : Certificate) (b : Board) (v w : Option Fault) → Verdict blocks c b v → Verdict blocks c b w → v ≡ w
one_verdict blocks c b v w x y =
    x.is
    ∙ ap (λ s. first_fault (tables_fault blocks c.budget c.functions c.stretches b ∷ first_of (point_fault c.functions c.stretches) c.points ∷ s ∷ [])) (one_all blocks c b true c.functions x.sweep y.sweep x.swept y.swept)
    ∙ sym y.is

pub excludes : (blocks : List Block) (c : Certificate) (b : Board) (f : Fault) → Verdict blocks c b (Some f) → Certified blocks c b → ⊥
excludes blocks c b f x y = let bad : Some f ≡ None = one_verdict blocks c b (Some f) None x y in cc
