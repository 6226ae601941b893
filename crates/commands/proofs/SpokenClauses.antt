-- Each clause of the public call, from what a say comes to that has begun.
use Rattle.std.proofs.Common.{◌≡◌, ◌<◌, ◌⊎◌, ℕ, List, ap, sym, subst, refl, inl, inr, ⊎_elim, IfSome}
use Rattle.base_io.specs.Counts.{Rose}
use Rattle.base_io.specs.Files.{Files}
use Rattle.c_tree.specs.Meaning.{meaning}
use Rattle.c_tree.specs.declared.tree.Program.{Program}
use Rattle.plain_meaning.specs.Behaviour.{Outcome, Going, EndedWith, TrappedWith}
use Rattle.program_texts.specs.Shown.{end_of}
use Rattle.job_files.specs.Answers.{Answer, IsDecided, came_of, done, no_memory, not_built, read_fault, step_limit, stopped, supply_fault, too_large, trapped, usage, write_fault}
use Rattle.job_files.specs.Output.{Sunk}
use Rattle.job_files.specs.Stores.{Seen}
use Rattle.job_files.specs.Text.{Text, output}
use Rattle.job_files.proofs.Telling.{grew_not, map_told}
use Rattle.run_job.specs.Boxes.{Box}
use Rattle.say_job.specs.Ends.{IsSaid}
use Rattle.say_job.specs.Say.{Say}
use Rattle.say_job.specs.Saying.{Hold, SayCauses}
use Rattle.commands.specs.Call.{HasSaidAsked}
use Rattle.commands.specs.Causes.{HasCause}
use Rattle.commands.specs.Faults.{IsComplete, IsReadFaultOrFree, IsWriteFault, NoBoxRose, ReadFaultIs, SupplyFaultIs, TooLargeIs, WordsAre, WriteFaultIs}
use Rattle.commands.specs.Left.{LeavesTold}
use Rattle.commands.specs.Words.{AskSay}
use Rattle.commands.proofs.Asks.{say_asks_once}
use Rattle.commands.proofs.Clauses.{say_caused}
use Rattle.commands.proofs.OneCause.{decide_one}
use Rattle.commands.proofs.Told.{same_told}

-- what a program may come to
abbrev MayCome : Answer → Type 0
MayCome done = Unit {0}
MayCome (stopped (trapped n)) = Unit {0}
MayCome (stopped step_limit) = Unit {0}
MayCome a = ⊥

may_come : (o : Outcome) → MayCome (came_of (end_of o))
may_come Going = tt
may_come (EndedWith w) = tt
may_come (TrappedWith n) = tt

may_be : (o : Outcome) (a : Answer) → a ≡ came_of (end_of o) → MayCome a
may_be o a e = subst MayCome (sym e) (may_come o)

module _ (words : List Text) (old new : Seen) (before left : List Box) (sunk now : Sunk) where
  abbrev Speaking : Answer → Type 0
  Speaking a = HasSaidAsked words old new before left sunk now a

  abbrev SaidHere : (job : Say) → Program → List ℕ → Answer → Type 0
  SaidHere job p input a = IsSaid p input job.steps sunk.told now.told sunk.faults now.faults a

  stands_so : (job : Say) (f : Files) (p : Program) (input : List ℕ) → Hold job f p input → (o : Outcome) → (meaning p input job.steps).outcome ≡ o → SayCauses job f (came_of (end_of o))
  stands_so job f p input held Going is = (p, input, held, is)
  stands_so job f p input held (EndedWith w) is = (w, (p, input, held, is))
  stands_so job f p input held (TrappedWith n) is = (p, input, held, is)

  comes_so : (job : Say) (asks : AskSay words job) (f : Files) (p : Program) (input : List ℕ) → Hold job f p input → (a : Answer) → a ≡ came_of (end_of (meaning p input job.steps).outcome) → HasCause words f before a
  comes_so job asks f p input held a is =
      subst (HasCause words f before) (sym is) (say_caused words f before job asks _ (stands_so job f p input held (meaning p input job.steps).outcome refl))

  said_cause : (job : Say) (asks : AskSay words job) (f : Files) (p : Program) (input : List ℕ) → Hold job f p input → (a : Answer) → SaidHere job p input a → HasCause words f before a
  said_cause job asks f p input held (write_fault name) h = λ other. absurd (other h.0)
  said_cause job asks f p input held no_memory h = tt
  said_cause job asks f p input held a h = comes_so job asks f p input held a h.0

  said_words : (job : Say) (asks : AskSay words job) (p : Program) (input : List ℕ) (a : Answer) → SaidHere job p input a → WordsAre words a
  said_words job asks p input (write_fault name) h = λ n. absurd (say_asks_once words job asks n)
  said_words job asks p input no_memory h = λ n. absurd (say_asks_once words job asks n)
  said_words job asks p input usage h = absurd (may_be (meaning p input job.steps).outcome usage h.0)
  said_words job asks p input not_built h = absurd (may_be (meaning p input job.steps).outcome not_built h.0)
  said_words job asks p input a h = λ n. absurd (say_asks_once words job asks n)

  said_read : (job : Say) (p : Program) (input : List ℕ) (a : Answer) → SaidHere job p input a → ReadFaultIs words old.reads new.reads new.bad a
  said_read job p input (read_fault name) h = absurd (may_be (meaning p input job.steps).outcome (read_fault name) h.0)
  said_read job p input a h = tt

  said_large : (job : Say) (p : Program) (input : List ℕ) (a : Answer) → SaidHere job p input a → TooLargeIs words a
  said_large job p input (too_large name seen) h = absurd (may_be (meaning p input job.steps).outcome (too_large name seen) h.0)
  said_large job p input a h = tt

  said_write : (job : Say) (p : Program) (input : List ℕ) (a : Answer) → SaidHere job p input a → WriteFaultIs words old.writes new.writes sunk.faults now.faults a
  said_write job p input (write_fault name) h = inl (h.0, h.1)
  said_write job p input a h = tt

  said_supply : (job : Say) (p : Program) (input : List ℕ) (a : Answer) → SaidHere job p input a → SupplyFaultIs words before left a
  said_supply job p input (stopped supply_fault) h = absurd (may_be (meaning p input job.steps).outcome (stopped supply_fault) h.0)
  said_supply job p input a h = tt

  said_output : (job : Say) (p : Program) (input : List ℕ) (a : Answer) → SaidHere job p input a → sunk.faults < now.faults → a ≡ write_fault output
  said_output job p input (write_fault name) h less = ap write_fault h.0
  said_output job p input no_memory h less = absurd (grew_not sunk.faults now.faults h.1 less)
  said_output job p input a h less = absurd (grew_not sunk.faults now.faults h.2 less)

  said_leaves : (job : Say) → AskSay words job → (p : Program) (input : List ℕ) (a : Answer) → SaidHere job p input a → new.files ≡ old.files → LeavesTold words a old.files new.files
  said_leaves job asks p input done h same = same_told words done (λ x y k. inr (inr (inl (job, asks)), k)) old.files new.files same
  said_leaves job asks p input (write_fault name) h same = same_told words (write_fault name) (λ x y k. inl k) old.files new.files same
  said_leaves job asks p input a h same = same_told words a (λ x y k. k) old.files new.files same

  -- an answer that words and files decide, unless a fault is counted
  said_decided : (job : Say) (p : Program) (input : List ℕ) (a : Answer) → SaidHere job p input a → ¬ Rose sunk.faults now.faults → (a ≡ no_memory) ⊎ IsDecided a
  said_decided job p input (write_fault name) h quiet = absurd (quiet h.1)
  said_decided job p input no_memory h quiet = inl refl
  said_decided job p input (read_fault name) h quiet = absurd (may_be (meaning p input job.steps).outcome (read_fault name) h.0)
  said_decided job p input (stopped supply_fault) h quiet = absurd (may_be (meaning p input job.steps).outcome (stopped supply_fault) h.0)
  said_decided job p input a h quiet = inr tt

  module _ (a : Answer) (r : Speaking a) where
    pub cause : IfSome old.files (λ f. HasCause words f before a)
    cause =
        map_told old.files (λ f. Hold r.job f r.has_said.program r.has_said.words) (λ f. HasCause words f before a)
        (λ f held. said_cause r.job r.asks f r.has_said.program r.has_said.words held a r.has_said.said) r.has_said.held

    pub words_are : WordsAre words a
    words_are = said_words r.job r.asks r.has_said.program r.has_said.words a r.has_said.said

    pub read_fault_is : ReadFaultIs words old.reads new.reads new.bad a
    read_fault_is = said_read r.job r.has_said.program r.has_said.words a r.has_said.said

    pub read_rose : old.reads < new.reads → IsReadFaultOrFree a
    read_rose less = absurd (grew_not old.reads new.reads r.has_said.reads less)

    pub too_large_is : TooLargeIs words a
    too_large_is = said_large r.job r.has_said.program r.has_said.words a r.has_said.said

    pub write_fault_is : WriteFaultIs words old.writes new.writes sunk.faults now.faults a
    write_fault_is = said_write r.job r.has_said.program r.has_said.words a r.has_said.said

    pub write_rose : old.writes < new.writes → IsWriteFault a
    write_rose less = absurd (grew_not old.writes new.writes r.has_said.writes less)

    pub output_rose : sunk.faults < now.faults → a ≡ write_fault output
    output_rose less = said_output r.job r.has_said.program r.has_said.words a r.has_said.said less

    pub leaves : LeavesTold words a old.files new.files
    leaves = said_leaves r.job r.asks r.has_said.program r.has_said.words a r.has_said.said r.has_said.files

    pub failed_write : old.writes < new.writes → new.files ≡ old.files
    failed_write less = r.has_said.files

    pub supply_fault_is : SupplyFaultIs words before left a
    supply_fault_is = said_supply r.job r.has_said.program r.has_said.words a r.has_said.said

    pub complete : IfSome old.files (λ f. ¬ Rose old.reads new.reads → ¬ Rose old.writes new.writes → ¬ Rose sunk.faults now.faults → NoBoxRose words before left → IsComplete words f before a)
    complete =
        map_told old.files (λ f. HasCause words f before a)
        (λ f. ¬ Rose old.reads new.reads → ¬ Rose old.writes new.writes → ¬ Rose sunk.faults now.faults → NoBoxRose words before left → IsComplete words f before a)
        (λ f h still kept quiet sound b d k.
        ⊎_elim (λ free. inl free) (λ decided. inr (decide_one words f before a b decided d h k)) (said_decided r.job r.has_said.program r.has_said.words a r.has_said.said quiet))
        cause
