-- Each clause of the public call, from what a job comes to that puts its text at once.
use Rattle.std.proofs.Common.{◌≡◌, ◌<◌, ◌⊎◌, List, sym, subst, ◌∙◌, refl, inl, inr, ⊎_elim, IfSome}
use Rattle.base_io.specs.Counts.{Rose}
use Rattle.base_io.specs.Files.{Files}
use Rattle.job_files.specs.Answers.{Answer, IsDecided, no_memory, read_fault, stopped, write_fault}
use Rattle.job_files.specs.Output.{IsFailedPut, IsNotPut, IsWholePut, Sunk}
use Rattle.job_files.specs.Stores.{Seen}
use Rattle.job_files.specs.Text.{Text, output}
use Rattle.job_files.proofs.Telling.{fill, grew_not, map_told}
use Rattle.run_job.specs.Boxes.{Box}
use Rattle.commands.specs.Call.{IsToldAtOnce}
use Rattle.commands.specs.Causes.{HasCause}
use Rattle.commands.specs.Faults.{IsComplete, IsReadFaultOrFree, IsWriteFault, NoBoxRose, ReadFaultIs, SupplyFaultIs, TooLargeIs, WordsAre, WriteFaultIs}
use Rattle.commands.specs.Left.{LeavesTold}
use Rattle.commands.proofs.Clauses.{came_cause, came_failed, came_large, came_leaves, came_leaves_failed, came_line, came_read, came_read_rose, came_supply, came_words, came_write, came_write_rose, came_wrote}
use Rattle.commands.proofs.OneCause.{decide_one}
use Rattle.commands.proofs.Reading.{IsLine}

module _ (words : List Text) (old new : Seen) (before left : List Box) (sunk now : Sunk) (a : Answer) (r : IsToldAtOnce words old new before left sunk now a) where
  -- the line was put, the output failed, or there was no memory for its name
  by_puts : (P : Type 0) → (IsWholePut r.came r.line sunk now a → P) → (IsFailedPut r.line sunk now a → P) → (IsNotPut sunk now a → r.came ≡ no_memory → P) → P
  by_puts P f g h = ⊎_elim (λ puts. ⊎_elim f g puts) (λ n. h n.0 n.1) r.puts

  pub cause : IfSome old.files (λ f. HasCause words f before a)
  cause =
      let P : Answer → Type 0 = λ x. IfSome old.files (λ f. HasCause words f before x) in
      by_puts (P a)
      (λ w. subst P (sym w.answer) (came_cause words old new before left r.came r.line r.comes))
      (λ w. subst P (sym w.answer) (fill old.files (λ f. HasCause words f before (write_fault output)) (λ f other. absurd (other refl))))
      (λ w e. subst P (sym w.answer) (fill old.files (λ f. HasCause words f before no_memory) (λ f. tt)))

  pub words_are : WordsAre words a
  words_are =
      by_puts (WordsAre words a)
      (λ w. subst (WordsAre words) (sym w.answer) (came_words words old new before left r.came r.line r.comes))
      (λ w. subst (WordsAre words) (sym w.answer) (λ n. inr refl))
      (λ w e. subst (WordsAre words) (sym w.answer) (λ n. inl refl))

  pub read_fault_is : ReadFaultIs words old.reads new.reads new.bad a
  read_fault_is =
      let P : Answer → Type 0 = ReadFaultIs words old.reads new.reads new.bad in
      by_puts (P a)
      (λ w. subst P (sym w.answer) (came_read words old new before left r.came r.line r.comes))
      (λ w. subst P (sym w.answer) tt)
      (λ w e. subst P (sym w.answer) tt)

  pub read_rose : old.reads < new.reads → IsReadFaultOrFree a
  read_rose less =
      by_puts (IsReadFaultOrFree a)
      (λ w. subst IsReadFaultOrFree (sym w.answer) (came_read_rose words old new before left r.came r.line r.comes less))
      (λ w. subst IsReadFaultOrFree (sym w.answer) refl)
      (λ w e. subst IsReadFaultOrFree (sym w.answer) tt)

  pub too_large_is : TooLargeIs words a
  too_large_is =
      by_puts (TooLargeIs words a)
      (λ w. subst (TooLargeIs words) (sym w.answer) (came_large words old new before left r.came r.line r.comes))
      (λ w. subst (TooLargeIs words) (sym w.answer) tt)
      (λ w e. subst (TooLargeIs words) (sym w.answer) tt)

  pub write_fault_is : WriteFaultIs words old.writes new.writes sunk.faults now.faults a
  write_fault_is =
      let P : Answer → Type 0 = WriteFaultIs words old.writes new.writes sunk.faults now.faults in
      by_puts (P a)
      (λ w. subst P (sym w.answer) (came_write words old new before left r.came r.line r.comes sunk.faults now.faults))
      (λ w. subst P (sym w.answer) (inl (refl, w.rose)))
      (λ w e. subst P (sym w.answer) tt)

  pub write_rose : old.writes < new.writes → IsWriteFault a
  write_rose less =
      by_puts (IsWriteFault a)
      (λ w. subst IsWriteFault (sym w.answer) (came_write_rose words old new before left r.came r.line r.comes less))
      (λ w. subst IsWriteFault (sym w.answer) tt)
      (λ w e. absurd (subst IsWriteFault e (came_write_rose words old new before left r.came r.line r.comes less)))

  pub supply_fault_is : SupplyFaultIs words before left a
  supply_fault_is =
      let P : Answer → Type 0 = SupplyFaultIs words before left in
      by_puts (P a)
      (λ w. subst P (sym w.answer) (came_supply words old new before left r.came r.line r.comes))
      (λ w. subst P (sym w.answer) tt)
      (λ w e. subst P (sym w.answer) tt)

  pub output_rose : sunk.faults < now.faults → a ≡ write_fault output
  output_rose less =
      by_puts (a ≡ write_fault output)
      (λ w. absurd (grew_not sunk.faults now.faults w.faults less))
      (λ w. w.answer)
      (λ w e. absurd (grew_not sunk.faults now.faults w.faults less))

  pub leaves : LeavesTold words a old.files new.files
  leaves =
      let P : Answer → Type 0 = λ x. LeavesTold words x old.files new.files in
      by_puts (P a)
      (λ w. subst P (sym w.answer) (came_leaves words old new before left r.came r.line r.comes))
      (λ w. subst P (sym w.answer) (came_leaves_failed words old new before left r.came r.line r.comes))
      (λ w e. subst P (e ∙ sym w.answer) (came_leaves words old new before left r.came r.line r.comes))

  pub failed_write : old.writes < new.writes → new.files ≡ old.files
  failed_write less = came_failed words old new before left r.came r.line r.comes less

  -- ---- Completeness

  free_or_decided : (x : Answer) → r.came ≡ x → ReadFaultIs words old.reads new.reads new.bad x → ¬ Rose old.reads new.reads → ¬ Rose old.writes new.writes
      → (x ≡ no_memory) ⊎ IsDecided x
  free_or_decided (read_fault name) is read still kept = absurd (still read.0)
  free_or_decided (write_fault name) is read still kept = absurd (kept (came_wrote words old new before left r.came r.line r.comes name is))
  free_or_decided no_memory is read still kept = inl refl
  free_or_decided (stopped stop) is read still kept = absurd (subst IsLine is (came_line words old new before left r.came r.line r.comes))
  free_or_decided x is read still kept = inr tt

  came_complete : ¬ Rose old.reads new.reads → ¬ Rose old.writes new.writes → a ≡ r.came → (f : Files) → HasCause words f before r.came → IsComplete words f before a
  came_complete still kept e f h b d k =
      ⊎_elim
      (λ free. inl (e ∙ free))
      (λ decided. inr (e ∙ decide_one words f before r.came b decided d h k))
      (free_or_decided r.came refl (came_read words old new before left r.came r.line r.comes) still kept)

  pub complete : IfSome old.files (λ f. ¬ Rose old.reads new.reads → ¬ Rose old.writes new.writes → ¬ Rose sunk.faults now.faults → NoBoxRose words before left → IsComplete words f before a)
  complete =
      map_told old.files (λ f. HasCause words f before r.came) (λ f. ¬ Rose old.reads new.reads → ¬ Rose old.writes new.writes → ¬ Rose sunk.faults now.faults → NoBoxRose words before left → IsComplete words f before a)
      (λ f h still kept quiet sound.
      by_puts (IsComplete words f before a)
      (λ w. came_complete still kept w.answer f h)
      (λ w. absurd (quiet w.rose))
      (λ w e b d k. inl w.answer))
      (came_cause words old new before left r.came r.line r.comes)
