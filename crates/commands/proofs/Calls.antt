-- Each clause of the public call, from what the call comes to: its line was put, or a run or a say has begun.
use Rattle.std.proofs.Common.{◌≡◌, ◌<◌, List, IfSome, inl, inr, subst}
use Rattle.base_io.specs.Counts.{Rose}
use Rattle.lowered_images.specs.Images.{AreLoweredHeld, AreLoweredImages, LoweredImagesAgree, LoweredImagesEndure}
use Rattle.commands.proofs.CallClauses as line
use Rattle.commands.proofs.RunClauses as runs
use Rattle.commands.proofs.SpokenClauses as says
use Rattle.job_files.specs.Answers.{Answer, done, write_fault}
use Rattle.job_files.specs.Output.{Sunk}
use Rattle.job_files.specs.Stores.{Seen}
use Rattle.job_files.specs.Text.{Text, output}
use Rattle.build_job.specs.Build.{Build}
use Rattle.run_job.specs.Boxes.{Box}
use Rattle.commands.specs.Call.{Called}
use Rattle.commands.specs.Causes.{HasCause}
use Rattle.commands.specs.Faults.{IsComplete, IsReadFaultOrFree, IsWriteFault, NoBoxRose, ReadFaultIs, SupplyFaultIs, TooLargeIs, WordsAre, WriteFaultIs}
use Rattle.commands.specs.Headline.{IsKeptTold}
use Rattle.commands.specs.Left.{LeavesTold}
use Rattle.commands.specs.Words.{AskBuild}
use Rattle.commands.proofs.Kept.{kept_told}

module _ (words : List Text) (old new : Seen) (before left : List Box) (sunk now : Sunk) (a : Answer) where
  pub cause : Called words old new before left sunk now a → IfSome old.files (λ f. HasCause words f before a)
  cause (inl r) = line.cause words old new before left sunk now a r
  cause (inr (inl r)) = runs.cause words old new before left sunk now a r
  cause (inr (inr r)) = says.cause words old new before left sunk now a r

  pub complete : Called words old new before left sunk now a → IfSome old.files (λ f. ¬ Rose old.reads new.reads → ¬ Rose old.writes new.writes → ¬ Rose sunk.faults now.faults → NoBoxRose words before left → IsComplete words f before a)
  complete (inl r) = line.complete words old new before left sunk now a r
  complete (inr (inl r)) = runs.complete words old new before left sunk now a r
  complete (inr (inr r)) = says.complete words old new before left sunk now a r

  pub words_are : Called words old new before left sunk now a → WordsAre words a
  words_are (inl r) = line.words_are words old new before left sunk now a r
  words_are (inr (inl r)) = runs.words_are words old new before left sunk now a r
  words_are (inr (inr r)) = says.words_are words old new before left sunk now a r

  pub read_fault_is : Called words old new before left sunk now a → ReadFaultIs words old.reads new.reads new.bad a
  read_fault_is (inl r) = line.read_fault_is words old new before left sunk now a r
  read_fault_is (inr (inl r)) = runs.read_fault_is words old new before left sunk now a r
  read_fault_is (inr (inr r)) = says.read_fault_is words old new before left sunk now a r

  pub read_rose : Called words old new before left sunk now a → old.reads < new.reads → IsReadFaultOrFree a
  read_rose (inl r) = line.read_rose words old new before left sunk now a r
  read_rose (inr (inl r)) = runs.read_rose words old new before left sunk now a r
  read_rose (inr (inr r)) = says.read_rose words old new before left sunk now a r

  pub too_large_is : Called words old new before left sunk now a → TooLargeIs words a
  too_large_is (inl r) = line.too_large_is words old new before left sunk now a r
  too_large_is (inr (inl r)) = runs.too_large_is words old new before left sunk now a r
  too_large_is (inr (inr r)) = says.too_large_is words old new before left sunk now a r

  pub write_fault_is : Called words old new before left sunk now a → WriteFaultIs words old.writes new.writes sunk.faults now.faults a
  write_fault_is (inl r) = line.write_fault_is words old new before left sunk now a r
  write_fault_is (inr (inl r)) = runs.write_fault_is words old new before left sunk now a r
  write_fault_is (inr (inr r)) = says.write_fault_is words old new before left sunk now a r

  pub write_rose : Called words old new before left sunk now a → old.writes < new.writes → IsWriteFault a
  write_rose (inl r) = line.write_rose words old new before left sunk now a r
  write_rose (inr (inl r)) = runs.write_rose words old new before left sunk now a r
  write_rose (inr (inr r)) = says.write_rose words old new before left sunk now a r

  pub supply_fault_is : Called words old new before left sunk now a → SupplyFaultIs words before left a
  supply_fault_is (inl r) = line.supply_fault_is words old new before left sunk now a r
  supply_fault_is (inr (inl r)) = runs.supply_fault_is words old new before left sunk now a r
  supply_fault_is (inr (inr r)) = says.supply_fault_is words old new before left sunk now a r

  pub output_rose : Called words old new before left sunk now a → sunk.faults < now.faults → a ≡ write_fault output
  output_rose (inl r) = line.output_rose words old new before left sunk now a r
  output_rose (inr (inl r)) = runs.output_rose words old new before left sunk now a r
  output_rose (inr (inr r)) = says.output_rose words old new before left sunk now a r

  pub leaves : Called words old new before left sunk now a → LeavesTold words a old.files new.files
  leaves (inl r) = line.leaves words old new before left sunk now a r
  leaves (inr (inl r)) = runs.leaves words old new before left sunk now a r
  leaves (inr (inr r)) = says.leaves words old new before left sunk now a r

  pub failed_write : Called words old new before left sunk now a → old.writes < new.writes → new.files ≡ old.files
  failed_write (inl r) = line.failed_write words old new before left sunk now a r
  failed_write (inr (inl r)) = runs.failed_write words old new before left sunk now a r
  failed_write (inr (inr r)) = says.failed_write words old new before left sunk now a r

  pub headline : LoweredImagesAgree → LoweredImagesEndure → AreLoweredImages → AreLoweredHeld → Called words old new before left sunk now a
      → (job : Build) → AskBuild words job → a ≡ done → IsKeptTold words old.files new.files
  headline agree endure images held call job asks is =
      kept_told agree endure images held words job asks old.files new.files (subst (λ (x : Answer). LeavesTold words x old.files new.files) is (leaves call))
