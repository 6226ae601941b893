-- A run over rows that each reach the budget.
use Rattle.std.proofs.Common.{◌≤◌, ◌++◌, ℕ, List, [], ◌∷◌}
use Rattle.std.specs.Prelude.{map}
use Rattle.std.proofs.lemmas.List.Elements.{All-head, All-tail}
use Rattle.board_table.specs.declared.board.Board.{Board}
use Rattle.msp430_machine.specs.declared.answer.Refill.{Refill}
use Rattle.power_core.specs.declared.device.Event.{Event as Asked}
use Rattle.power_core.specs.declared.device.Event.TheVariants.{Go as AskGo, Wake as AskWake}
use Rattle.power_core.specs.Cores.{event_of}
use Rattle.power_core.specs.Runs.{Generous, Run, Trail}
use Rattle.supplied_run.specs.Rows.{Emulates, rows_in}
use Rattle.run_and_say.specs.RunAndSay.{Reach}

pub runs : (b : Board) (input : List ℕ) (limit : ℕ) (events : List Asked) (t u : Trail) → Emulates b input limit t events u → Run b input t (map event_of events) u
runs b input limit [] t u h = h
runs b input limit (event ∷ events) t u h = (h.1.0, h.1.1, runs b input limit events h.1.0 u h.1.3)

pub generous : (budget : ℕ) (events : List Asked) (left : List Refill) → Reach budget (rows_in events ++ left) → Generous budget (map event_of events)
generous budget [] left h = tt
generous budget (AskGo ∷ events) left h = generous budget events left h
generous budget (AskWake row ∷ events) left h =
    let P : Refill → Type 0 = λ r. budget ≤ r.amount in
    (All-head P row (rows_in events ++ left) h, generous budget events left (All-tail P row (rows_in events ++ left) h))
