-- Each clause of the public call, from what a run comes to that has begun.
use Rattle.std.proofs.Common.{◌≡◌, ◌<◌, List, length, Result, Ok, Err, sym, subst, refl, inl, inr, IfSome}
use Rattle.base_io.specs.Counts.{CountsFaults, Rose}
use Rattle.base_io.specs.Files.{Files}
use Rattle.base_io.specs.declared.sink.SinkFault.{SinkFault}
use Rattle.supply_trace.specs.Boxes.{all_rows}
use Rattle.supplied_run.specs.Shown.{AreLeft, FrontCounts, Shows}
use Rattle.supplied_run.specs.declared.end.End.{End}
use Rattle.supplied_run.specs.declared.end.End.TheVariants as end
use Rattle.job_files.specs.Answers.{Answer, IsDecided, Stop, came_of, done, machine_fault, power_fault, step_limit, stopped, supply_ended, supply_fault, trapped, write_fault}
use Rattle.job_files.specs.Output.{Sunk}
use Rattle.job_files.specs.Reads.{AreHad}
use Rattle.job_files.specs.Stores.{Seen}
use Rattle.job_files.specs.Text.{Text, output}
use Rattle.job_files.proofs.Telling.{fill, grew_not, map_told}
use Rattle.run_job.specs.Boxes.{Box, BoxRose, faults_of, loaded, rows_left}
use Rattle.run_job.specs.Ends.{IsOpened, answer_of_run}
use Rattle.run_job.specs.Run.{run_files, texts_in}
use Rattle.run_job.specs.Running.{IsRunOf, RunsTo}
use Rattle.run_job.proofs.Boxes.{front_rose, left_some, supplies_number}
use Rattle.commands.specs.Call.{HasRunAsked}
use Rattle.commands.specs.Causes.{HasCause}
use Rattle.commands.specs.Faults.{IsComplete, IsReadFaultOrFree, IsWriteFault, NoBoxRose, ReadFaultIs, SupplyFaultIs, TooLargeIs, WordsAre, WriteFaultIs}
use Rattle.commands.specs.Left.{LeavesTold}
use Rattle.commands.proofs.Asks.{run_asks_once}
use Rattle.commands.proofs.Clauses.{run_caused}
use Rattle.commands.proofs.OneCause.{decide_one}
use Rattle.commands.proofs.Told.{same_told}

module _ (words : List Text) (old new : Seen) (before left : List Box) (sunk now : Sunk) (a : Answer) (r : HasRunAsked words old new before left sunk now a) where
  opened : IsOpened r.job old new before r.has_run.held r.has_run.first
  opened = r.has_run.opened

  -- its answer is how it ended, or that the output failed
  by_told : (P : Answer → Type 0) → ((e : End) → r.has_run.is_shown.told ≡ Ok e → P (came_of e)) → (Rose sunk.faults now.faults → P (write_fault output)) → P a
  by_told P whole failed = subst P (sym r.has_run.is_shown.answer) (each r.has_run.is_shown.told refl r.has_run.is_shown.faults)
    where
      each : (t : Result End SinkFault) → r.has_run.is_shown.told ≡ t → CountsFaults t sunk.faults now.faults → P (answer_of_run t)
      each (Ok e) is h = whole e is
      each (Err f) is h = failed h.1

  -- where it was told to its end, the run ended so
  ended : (e : End) → r.has_run.is_shown.told ≡ Ok e → IsRunOf r.job.steps before r.has_run.held e
  ended e is =
      let shown = subst (λ (t : Result End SinkFault). Shows r.has_run.held.board r.has_run.held.input r.job.steps r.has_run.first
      (all_rows rows_left (loaded before r.has_run.held.rows)) (all_rows rows_left left) t sunk.told now.told) is r.has_run.is_shown.shown in
      record {
        first = r.has_run.first;
        is_first = r.has_run.opened.is_first;
        holds = r.has_run.opened.holds;
        is_loaded = r.has_run.opened.is_loaded;
        left = all_rows rows_left left;
        trail = shown.trail;
        reaches = shown.reaches;
        ends = shown.puts.0;
      }

  runs_to : (f : Files) (e : End) → r.has_run.is_shown.told ≡ Ok e → AreHad f (run_files r.job) (texts_in r.has_run.opened.texts) → RunsTo r.job f before e
  runs_to f e is had = record {
    texts = r.has_run.opened.texts;
    had = had;
    held = r.has_run.held;
    are_held = r.has_run.opened.are_held;
    is_run = ended e is;
  }

  end_caused : (f : Files) (e : End) → RunsTo r.job f before e → HasCause words f before (came_of e)
  end_caused f (end.Ended w) h = run_caused words f before r.job r.asks done (w, h)
  end_caused f (end.Trapped n) h = run_caused words f before r.job r.asks (stopped (trapped n)) h
  end_caused f end.PowerFault h = run_caused words f before r.job r.asks (stopped power_fault) h
  end_caused f end.SupplyEnded h = run_caused words f before r.job r.asks (stopped supply_ended) h
  end_caused f end.StepLimit h = run_caused words f before r.job r.asks (stopped step_limit) h
  end_caused f (end.MachineFault pc why) h = run_caused words f before r.job r.asks (stopped (machine_fault pc why)) h
  end_caused f end.SupplyFault h = run_caused words f before r.job r.asks (stopped supply_fault) h

  pub cause : IfSome old.files (λ f. HasCause words f before a)
  cause =
      by_told (λ x. IfSome old.files (λ f. HasCause words f before x))
      (λ e is. map_told old.files (λ f. AreHad f (run_files r.job) (texts_in r.has_run.opened.texts)) (λ f. HasCause words f before (came_of e))
      (λ f had. end_caused f e (runs_to f e is had)) r.has_run.opened.had)
      (λ rose. fill old.files (λ f. HasCause words f before (write_fault output)) (λ f other. absurd (other refl)))

  -- what holds of how a run ends, whichever it is
  by_end : (P : Answer → Type 0) → P done → ((s : Stop) → P (stopped s)) → (e : End) → P (came_of e)
  by_end P d s (end.Ended w) = d
  by_end P d s (end.Trapped n) = s (trapped n)
  by_end P d s end.PowerFault = s power_fault
  by_end P d s end.SupplyEnded = s supply_ended
  by_end P d s end.StepLimit = s step_limit
  by_end P d s (end.MachineFault pc why) = s (machine_fault pc why)
  by_end P d s end.SupplyFault = s supply_fault

  by_answer : (P : Answer → Type 0) → P done → ((s : Stop) → P (stopped s)) → (Rose sunk.faults now.faults → P (write_fault output)) → P a
  by_answer P d s w = by_told P (λ e is. by_end P d s e) w

  pub words_are : WordsAre words a
  words_are =
      by_answer (WordsAre words)
      (λ n. absurd (run_asks_once words r.job r.asks n))
      (λ s n. absurd (run_asks_once words r.job r.asks n))
      (λ rose n. inr refl)

  pub read_fault_is : ReadFaultIs words old.reads new.reads new.bad a
  read_fault_is = by_answer (ReadFaultIs words old.reads new.reads new.bad) tt (λ s. tt) (λ rose. tt)

  pub read_rose : old.reads < new.reads → IsReadFaultOrFree a
  read_rose less = absurd (grew_not old.reads new.reads r.has_run.opened.reads less)

  pub too_large_is : TooLargeIs words a
  too_large_is = by_answer (TooLargeIs words) tt (λ s. tt) (λ rose. tt)

  pub write_fault_is : WriteFaultIs words old.writes new.writes sunk.faults now.faults a
  write_fault_is = by_answer (WriteFaultIs words old.writes new.writes sunk.faults now.faults) tt (λ s. tt) (λ rose. inl (refl, rose))

  pub write_rose : old.writes < new.writes → IsWriteFault a
  write_rose less = absurd (grew_not old.writes new.writes r.has_run.opened.writes less)

  pub output_rose : sunk.faults < now.faults → a ≡ write_fault output
  output_rose less = failed r.has_run.is_shown.told r.has_run.is_shown.faults r.has_run.is_shown.answer
    where
      failed : (t : Result End SinkFault) → CountsFaults t sunk.faults now.faults → a ≡ answer_of_run t → a ≡ write_fault output
      failed (Ok e) h is = absurd (grew_not sunk.faults now.faults h less)
      failed (Err f) h is = is

  pub leaves : LeavesTold words a old.files new.files
  leaves =
      let same = r.has_run.opened.files in
      by_answer (λ x. LeavesTold words x old.files new.files)
      (same_told words done (λ x y e. inr (inl (r.job, r.asks), e)) old.files new.files same)
      (λ s. same_told words (stopped s) (λ x y e. e) old.files new.files same)
      (λ rose. same_told words (write_fault output) (λ x y e. inl e) old.files new.files same)

  pub failed_write : old.writes < new.writes → new.files ≡ old.files
  failed_write less = r.has_run.opened.files

  -- ---- Boxes

  pub box_rose : r.has_run.is_shown.told ≡ Ok end.SupplyFault → BoxRose (length r.job.supplies) before left
  box_rose is =
      front_rose (length r.job.supplies) before r.has_run.held.rows left (supplies_number r.job old new before r.has_run.held r.has_run.first opened)
      (left_some r.job.steps before r.has_run.held left (subst (λ (t : Result End SinkFault). Shows r.has_run.held.board r.has_run.held.input r.job.steps r.has_run.first
      (all_rows rows_left (loaded before r.has_run.held.rows)) (all_rows rows_left left) t sunk.told now.told) is r.has_run.is_shown.shown))
      (subst (λ (t : Result End SinkFault). AreLeft faults_of (FrontCounts t) (loaded before r.has_run.held.rows) left) is r.has_run.is_shown.boxes)

  end_supply : (e : End) → r.has_run.is_shown.told ≡ Ok e → SupplyFaultIs words before left (came_of e)
  end_supply end.SupplyFault is = (r.job, r.asks, box_rose is)
  end_supply (end.Ended w) is = tt
  end_supply (end.Trapped n) is = tt
  end_supply end.PowerFault is = tt
  end_supply end.SupplyEnded is = tt
  end_supply end.StepLimit is = tt
  end_supply (end.MachineFault pc why) is = tt

  pub supply_fault_is : SupplyFaultIs words before left a
  supply_fault_is = by_told (SupplyFaultIs words before left) end_supply (λ rose. tt)

  -- ---- Completeness

  end_decided : NoBoxRose words before left → (e : End) → r.has_run.is_shown.told ≡ Ok e → IsDecided (came_of e)
  end_decided sound end.SupplyFault is = sound r.job r.asks (box_rose is)
  end_decided sound (end.Ended w) is = tt
  end_decided sound (end.Trapped n) is = tt
  end_decided sound end.PowerFault is = tt
  end_decided sound end.SupplyEnded is = tt
  end_decided sound end.StepLimit is = tt
  end_decided sound (end.MachineFault pc why) is = tt

  pub complete : IfSome old.files (λ f. ¬ Rose old.reads new.reads → ¬ Rose old.writes new.writes → ¬ Rose sunk.faults now.faults → NoBoxRose words before left → IsComplete words f before a)
  complete =
      by_told (λ x. IfSome old.files (λ f. ¬ Rose old.reads new.reads → ¬ Rose old.writes new.writes → ¬ Rose sunk.faults now.faults → NoBoxRose words before left → IsComplete words f before x))
      (λ e is. map_told old.files (λ f. AreHad f (run_files r.job) (texts_in r.has_run.opened.texts))
      (λ f. ¬ Rose old.reads new.reads → ¬ Rose old.writes new.writes → ¬ Rose sunk.faults now.faults → NoBoxRose words before left → IsComplete words f before (came_of e))
      (λ f had still kept quiet sound b d k. inr (decide_one words f before (came_of e) b (end_decided sound e is) d (end_caused f e (runs_to f e is had)) k)) r.has_run.opened.had)
      (λ rose. fill old.files (λ f. ¬ Rose old.reads new.reads → ¬ Rose old.writes new.writes → ¬ Rose sunk.faults now.faults → NoBoxRose words before left → IsComplete words f before (write_fault output))
      (λ f still kept quiet. absurd (quiet rose)))
