-- What is put of a say.
use Rattle.std.proofs.Common.{◌≡◌, ◌∙◌, ◌+◌, ◌≤◌, ◌++◌, ℕ, List, [], Option, Some, None, refl, sym, ap, subst, append_assoc, length, take, arith, length-append, inl, inr, ⊎_elim}
use Rattle.base_io.specs.Counts.{Rose}
use Rattle.c_tree.specs.Lines.{Took}
use Rattle.c_tree.specs.Meaning.{meaning}
use Rattle.c_tree.specs.declared.tree.Program.{Program}
use Rattle.program_texts.specs.Shown.{TookFront, end_of, shown, words_shown}
use Rattle.program_texts.proofs.Putting.{take_behind}
use Rattle.supplied_run.specs.declared.end.End.{End}
use Rattle.supplied_run.specs.declared.end.End.TheVariants as end
use Rattle.job_files.specs.Answers.{Answer, came_of, line_of, no_memory, write_fault}
use Rattle.job_files.specs.Output.{AllTold, FrontTold, Puts, Sunk}
use Rattle.job_files.specs.Text.{Text, output}
use Rattle.say_job.specs.Ends.{IsSaid}

module _ (p : Program) (words : List ℕ) (n : ℕ) (sunk now : Option Text) (before after : ℕ) where
  -- the whole was put
  came_to : (e : End) → e ≡ end_of (meaning p words n).outcome → Took sunk now (shown p words n) → after ≡ before → IsSaid p words n sunk now before after (came_of e)
  came_to (end.Ended w) is t f = (ap came_of is, t, f)
  came_to (end.Trapped k) is t f = (ap came_of is, t, f)
  came_to end.PowerFault is t f = (ap came_of is, t, f)
  came_to end.SupplyEnded is t f = (ap came_of is, t, f)
  came_to end.StepLimit is t f = (ap came_of is, t, f)
  came_to (end.MachineFault pc why) is t f = (ap came_of is, t, f)
  came_to end.SupplyFault is t f = (ap came_of is, t, f)

  pub whole_said : (e : End) (a : Answer) → e ≡ end_of (meaning p words n).outcome → Took sunk now (shown p words n) → after ≡ before → a ≡ came_of e → IsSaid p words n sunk now before after a
  whole_said e a is t f answer = subst (IsSaid p words n sunk now before after) (sym answer) (came_to e is t f)

  -- the output failed
  pub stopped_said : (a : Answer) → TookFront (shown p words n) sunk now → Rose before after → a ≡ write_fault output → IsSaid p words n sunk now before after a
  stopped_said a t rose answer = subst (IsSaid p words n sunk now before after) (sym answer) (refl, rose, inl t)

-- ---- Want of memory

took_more : (bytes line : Text) (sunk mid now : Option Text) → TookFront bytes sunk mid → AllTold line mid now → (k : ℕ) × (k ≤ length bytes) × Took sunk now (take k bytes ++ line)
took_more bytes line (Some s) (Some m) (Some t) (k, le, is) told = (k, le, told ∙ ap (λ x. x ++ line) is ∙ append_assoc s (take k bytes) line)
took_more bytes line (Some s) (Some m) None h told = absurd told
took_more bytes line (Some s) None now h told = absurd h
took_more bytes line None (Some m) now h told = absurd h
took_more bytes line None None (Some t) h told = absurd told
took_more bytes line None None None h told = (0, omega arith, tt)

took_front : (bytes line : Text) (sunk mid now : Option Text) → TookFront bytes sunk mid → FrontTold line mid now → (k : ℕ) × (k ≤ length bytes) × TookFront (take k bytes ++ line) sunk now
took_front bytes line (Some s) (Some m) (Some t) (k, le, is) (n, few, told) = (
  k,
  le,
  (
    length (take k bytes) + n,
    rw length-append (omega (arith, few)),
    told ∙ ap (λ x. x ++ take n line) is ∙ append_assoc s (take k bytes) (take n line) ∙ ap (λ x. s ++ x) (sym (take_behind (take k bytes) line n)),
  ),
)
took_front bytes line (Some s) (Some m) None h told = absurd told
took_front bytes line (Some s) None now h told = absurd h
took_front bytes line None (Some m) now h told = absurd h
took_front bytes line None None (Some t) h told = absurd told
took_front bytes line None None None h told = (0, omega arith, tt)

abbrev sunk_as : Option Text → ℕ → Sunk
sunk_as told faults = record { told = told; faults = faults }

pub cut_said : (p : Program) (words : List ℕ) (n : ℕ) (sunk mid now : Option Text) (before middle after : ℕ) (a : Answer) → TookFront (words_shown p words n) sunk mid → middle ≡ before
    → Puts no_memory (line_of [] no_memory) (sunk_as mid middle) (sunk_as now after) a → IsSaid p words n sunk now before after a
cut_said p words n sunk mid now before middle after a t still puts =
    ⊎_elim
    (λ w. subst (IsSaid p words n sunk now before after) (sym w.answer) (took_more (words_shown p words n) (line_of [] no_memory) sunk mid now t w.told, w.faults ∙ still))
    (λ w. subst (IsSaid p words n sunk now before after) (sym w.answer) (
      refl,
      subst (λ x. Rose x after) still w.rose,
      inr (took_front (words_shown p words n) (line_of [] no_memory) sunk mid now t w.told),
    ))
    puts
