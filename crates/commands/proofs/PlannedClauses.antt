-- What a plan says of each clause of the public call.
use Rattle.std.proofs.Common.{◌≡◌, ◌<◌, ℕ, List, Option, inr}
use Rattle.base_io.specs.Files.{Files}
use Rattle.job_files.specs.Answers.{Answer, done, no_memory, not_built, usage, write_fault}
use Rattle.job_files.specs.Text.{Text}
use Rattle.job_files.proofs.Telling.{grew_not}
use Rattle.plan_job.specs.Ends.{CountsPlan}
use Rattle.plan_job.specs.Plan.{Plan, plan_files}
use Rattle.plan_job.specs.Planning.{PlanCauses, RefusesPlan}
use Rattle.run_job.specs.Boxes.{Box}
use Rattle.commands.specs.Causes.{HasCause}
use Rattle.commands.specs.Faults.{IsReadFaultOrFree, ReadFaultIs, SupplyFaultIs, TooLargeIs, WordsAre, WriteFaultIs}
use Rattle.commands.specs.Left.{LeavesTold}
use Rattle.commands.specs.Words.{AskPlan}
use Rattle.commands.proofs.Asks.{plan_asks_once}
use Rattle.commands.proofs.Reading.{AskReading, IsLine, reading_large, reading_leaves, reading_line, reading_read, reading_read_rose, reading_supply, reading_words, reading_write}
use Rattle.commands.proofs.Told.{same_told}

-- its cause is one of the call
module _ (words : List Text) (files : Files) (boxes : List Box) (job : Plan) (asks : AskPlan words job) where
  pub plan_caused : (a : Answer) → PlanCauses job files a → HasCause words files boxes a
  plan_caused usage h = absurd h
  plan_caused not_built h = absurd h
  plan_caused no_memory h = tt
  plan_caused (write_fault name) h = absurd h
  plan_caused a h = inr (inr (inr (inr (job, asks, h))))

module _ (words : List Text) (job : Plan) (e : AskPlan words job) where
  plan_asked : AskReading words (plan_files job)
  plan_asked = record { reads = λ w h. inr (inr (inr (inr (job, e, h)))); once = plan_asks_once words job e }

-- what a plan says of each count, of its words and of the files
module _ (words : List Text) (before now : ℕ) (bad : Text) (job : Plan) (e : AskPlan words job) where
  pub plan_words : (a : Answer) → CountsPlan job before now bad a → WordsAre words a
  plan_words done h = λ n. absurd (plan_asks_once words job e n)
  plan_words a h = reading_words words (plan_files job) (plan_asked words job e) (RefusesPlan job) before now bad a h

  pub plan_read : (a : Answer) → CountsPlan job before now bad a → ReadFaultIs words before now bad a
  plan_read done h = tt
  plan_read a h = reading_read words (plan_files job) (plan_asked words job e) (RefusesPlan job) before now bad a h

  pub plan_read_rose : (a : Answer) → CountsPlan job before now bad a → before < now → IsReadFaultOrFree a
  plan_read_rose done h less = absurd (grew_not before now h less)
  plan_read_rose a h less = reading_read_rose words (plan_files job) (plan_asked words job e) (RefusesPlan job) before now bad a h less

  pub plan_write : (a : Answer) → CountsPlan job before now bad a → (old new puts_before puts_now : ℕ) → WriteFaultIs words old new puts_before puts_now a
  plan_write done h old new puts_before puts_now = tt
  plan_write a h old new puts_before puts_now = reading_write words (plan_files job) (plan_asked words job e) (RefusesPlan job) before now bad a h old new puts_before puts_now

  pub plan_large : (a : Answer) → CountsPlan job before now bad a → TooLargeIs words a
  plan_large done h = tt
  plan_large a h = reading_large words (plan_files job) (plan_asked words job e) (RefusesPlan job) before now bad a h

  pub plan_supply : (boxes left : List Box) (a : Answer) → CountsPlan job before now bad a → SupplyFaultIs words boxes left a
  plan_supply boxes left done h = tt
  plan_supply boxes left a h = reading_supply words (plan_files job) (plan_asked words job e) (RefusesPlan job) before now bad boxes left a h

  pub plan_leaves : (o n : Option Files) → n ≡ o → (a : Answer) → CountsPlan job before now bad a → LeavesTold words a o n
  plan_leaves o n same done h = same_told words done (λ x y k. inr (inr (inr (inr (job, e))), k)) o n same
  plan_leaves o n same a h = reading_leaves words (plan_files job) (plan_asked words job e) (RefusesPlan job) before now bad o n same a h

  pub plan_line : (a : Answer) → CountsPlan job before now bad a → IsLine a
  plan_line done h = tt
  plan_line a h = reading_line words (plan_files job) (plan_asked words job e) (RefusesPlan job) before now bad a h
