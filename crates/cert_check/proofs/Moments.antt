-- Each run of the machine is what some moment has run.
use Rattle.std.proofs.Common.{◌≡◌, ℕ, List, [], ◌∷◌, refl, sym, subst}
use Rattle.board_table.specs.declared.board.Board.{Board}
use Rattle.ti_txt.specs.Image.{Block}
use Rattle.certificate.specs.Rows.{Certificate}
use Rattle.power_core.specs.Runs.{Event, Go, Wake, Trail, Step, Run}
use Rattle.cert_sound.specs.Moments.{Moment, first, after_step, after_refill, MomentStep, MomentRun}
use Rattle.cert_check.specs.Checking.{RunsSafely, EveryRunIsSafe}

step_moment : (b : Board) (input : List ℕ) (m : Moment) (event : Event) (t : Trail) → Step b input m.trail event t → (n : Moment) × (n.trail ≡ t) × MomentStep b input m event n
step_moment b input m Go t h = (after_step b input m, sym h.1, (h.0, refl))
step_moment b input m (Wake amount keep) t h = (after_refill keep t.state m, sym h.1, (h.0, refl))

pub run_moment : (b : Board) (input : List ℕ) (m : Moment) (events : List Event) (t : Trail) → Run b input m.trail events t → (n : Moment) × (n.trail ≡ t) × MomentRun b input m events n
run_moment b input m [] t h = (m, sym h, refl)
run_moment b input m (event ∷ events) t h =
    let one = step_moment b input m event h.0 h.1 in
    let rest = run_moment b input one.0 events t (subst (λ x. Run b input x events t) (sym one.1) h.2) in
    (rest.0, rest.1, (one.0, one.2, rest.2))

pub every_run : (blocks : List Block) (c : Certificate) (b : Board) → RunsSafely blocks c b → EveryRunIsSafe blocks c b
every_run blocks c b safe input events t words generous run =
    let made = run_moment b input (first run.0) events t run.3 in
    (made.0, made.1, made.2, safe input run.0 events made.0 words run.1 run.2 generous made.2)
