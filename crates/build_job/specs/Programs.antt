-- Which texts of programs are built.
use Rattle.c_tree.specs.declared.tree.Program.{Program}
use Rattle.sound_programs.specs.SoundPrograms.{IsSound}
use Rattle.sound_programs.specs.Scoped.{IsScoped}
use Rattle.lowered_graphs.specs.GraphOf.{graph_of}
use Rattle.graph_code.specs.Order.{IsAlone}
use Rattle.program_texts.specs.Front.{IsTextOf}
use Rattle.job_files.specs.Refusals.{Refusal, form_not_built, program_refused}
use Rattle.job_files.specs.Text.{Text}
use Rattle.program_files.specs.Programs.{IsNoProgram}

-- The text is that of a program from whose `main` no other function is reached: its graph has `main` alone.
pub record IsLoneText (text : Text) (p : Program) : Type 0 where
  pub is_text : IsTextOf text p
  pub sound : IsSound p
  pub scoped : IsScoped p
  pub alone : IsAlone (graph_of p)

-- the text is that of a program whose `main` calls a function of the program
abbrev pub IsOtherText : Text → Type 0
IsOtherText text = (p : Program) × IsTextOf text p × (IsAlone (graph_of p) → ⊥)

-- why a text isn't that of a program whose `main` calls none
abbrev pub RefusesLone : Text → Refusal → Type 0
RefusesLone text (program_refused fault place) = IsNoProgram text fault place
RefusesLone text form_not_built = IsOtherText text
RefusesLone text r = ⊥
