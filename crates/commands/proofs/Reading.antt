-- What a job that didn't begin says of each clause of the public call: not all of its files were had, or what they hold was refused.
use Rattle.std.proofs.Common.{◌≡◌, ◌<◌, ◌⊎◌, ℕ, List, Option, None}
use Rattle.base_io.specs.Files.{Files}
use Rattle.job_parts.specs.Asked.{asked}
use Rattle.job_files.specs.Answers.{Answer, done, no_memory, not_built, read_fault, refused, stopped, too_large, usage, write_fault}
use Rattle.job_files.specs.Reads.{CountsReading, IsAmong, Wanted}
use Rattle.job_files.specs.Refusals.{Refusal}
use Rattle.job_files.specs.Text.{Text}
use Rattle.job_files.proofs.Telling.{grew_not}
use Rattle.run_job.specs.Boxes.{Box}
use Rattle.commands.specs.Faults.{IsReadFaultOrFree, IsToRead, ReadFaultIs, SupplyFaultIs, TooLargeIs, WordsAre, WriteFaultIs}
use Rattle.commands.specs.Left.{LeavesTold}
use Rattle.commands.specs.Words.{AskUnbuilt}
use Rattle.commands.proofs.Told.{same_told}

-- the words ask for a job that reads these files
pub record AskReading (words : List Text) (ws : List Wanted) : Type 0 where
  pub reads : (w : Wanted) → IsAmong ws w → IsToRead words w
  pub once : (asked words ≡ None) ⊎ AskUnbuilt words → ⊥

-- an answer that a run doesn't end with
abbrev pub IsLine : Answer → Type 0
IsLine (stopped stop) = ⊥
IsLine a = Unit {0}

module _ (words : List Text) (ws : List Wanted) (asks : AskReading words ws) (P : Refusal → Type 0) (before now : ℕ) (bad : Text) where
  pub reading_words : (a : Answer) → CountsReading ws P before now bad a → WordsAre words a
  reading_words usage h = absurd h
  reading_words not_built h = absurd h
  reading_words a h = λ n. absurd (asks.once n)

  pub reading_read : (a : Answer) → CountsReading ws P before now bad a → ReadFaultIs words before now bad a
  reading_read (read_fault name) h = (h.2, h.1, (h.0.0, asks.reads h.0.0 h.0.1, h.0.2))
  reading_read a h = tt

  pub reading_read_rose : (a : Answer) → CountsReading ws P before now bad a → before < now → IsReadFaultOrFree a
  reading_read_rose (read_fault name) h less = tt
  reading_read_rose no_memory h less = tt
  reading_read_rose (too_large name seen) h less = absurd (grew_not before now h.1 less)
  reading_read_rose (refused r) h less = absurd (grew_not before now h.1 less)
  reading_read_rose a h less = absurd h

  pub reading_write : (a : Answer) → CountsReading ws P before now bad a → (old new puts_before puts_now : ℕ) → WriteFaultIs words old new puts_before puts_now a
  reading_write (write_fault name) h old new puts_before puts_now = absurd h
  reading_write a h old new puts_before puts_now = tt

  pub reading_large : (a : Answer) → CountsReading ws P before now bad a → TooLargeIs words a
  reading_large (too_large name seen) h = (h.0.0, asks.reads h.0.0 h.0.1, h.0.2, h.0.3)
  reading_large a h = tt

  pub reading_supply : (boxes left : List Box) (a : Answer) → CountsReading ws P before now bad a → SupplyFaultIs words boxes left a
  reading_supply boxes left (stopped stop) h = absurd h
  reading_supply boxes left a h = tt

  pub reading_leaves : (o n : Option Files) → n ≡ o → (a : Answer) → CountsReading ws P before now bad a → LeavesTold words a o n
  reading_leaves o n e done h = absurd h
  reading_leaves o n e (write_fault name) h = absurd h
  reading_leaves o n e a h = same_told words a (λ x y k. k) o n e

  pub reading_line : (a : Answer) → CountsReading ws P before now bad a → IsLine a
  reading_line (stopped stop) h = absurd h
  reading_line a h = tt
