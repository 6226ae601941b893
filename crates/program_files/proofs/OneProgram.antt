-- A text is that of one program, or has one first fault.
use Rattle.std.proofs.Common.{◌≡◌, ◌∙◌, sym, ap, refl, subst}
use Rattle.base_io.specs.declared.place.Place.{Place}
use Rattle.c_tree.specs.declared.tree.Program.{Program}
use Rattle.program_texts.specs.Front.{HasFault, IsFault, IsTextOf}
use Rattle.program_texts.specs.declared.fault.ProgramFault.{ProgramFault}
use Rattle.program_texts.specs.declared.fault.ProgramFault.TheVariants.{Refused, Memory}
use Rattle.program_texts.specs.declared.fault.ProgramRefusal.{ProgramRefusal as TextRefusal}
use Rattle.program_texts.specs.declared.fault.ProgramRefusal.TheVariants as text
use Rattle.program_texts.proofs.Readings.{one_reading}
use Rattle.job_files.specs.declared.refusal.ProgramRefusal.TheVariants as kind
use Rattle.job_files.specs.Answers.{Answer, IsRefusedFor}
use Rattle.job_files.specs.Refusals.{Refusal, form_not_built, program_refused}
use Rattle.job_files.specs.Text.{Text}
use Rattle.job_files.specs.declared.refusal.ProgramRefusal.{ProgramRefusal}
use Rattle.program_files.specs.Programs.{IsNoProgram, IsRefusalOf, RefusesProgram, fault_of}

abbrev name_of : TextRefusal → ProgramRefusal
name_of text.BadByte = kind.BadByte
name_of text.BadLiteral = kind.BadLiteral
name_of text.TooBig = kind.TooBig
name_of text.OpenComment = kind.OpenComment
name_of text.HashLine = kind.HashLine
name_of text.Unexpected = kind.Unexpected
name_of text.NotInProfile = kind.NotInProfile
name_of text.TooDeep = kind.TooDeep
name_of text.Unknown = kind.Unknown
name_of text.Redeclared = kind.Redeclared
name_of text.WrongArgs = kind.WrongArgs
name_of text.NotConst = kind.NotConst
name_of text.BadArray = kind.BadArray
name_of text.BadAssign = kind.BadAssign
name_of text.NoMain = kind.NoMain
name_of text.Recursion = kind.Recursion
name_of text.TooMany = kind.TooMany
name_of text.TooManyOps = kind.TooManyOps

named_back : (f : ProgramRefusal) → name_of (fault_of f) ≡ f
named_back kind.BadByte = refl
named_back kind.BadLiteral = refl
named_back kind.TooBig = refl
named_back kind.OpenComment = refl
named_back kind.HashLine = refl
named_back kind.Unexpected = refl
named_back kind.NotInProfile = refl
named_back kind.TooDeep = refl
named_back kind.Unknown = refl
named_back kind.Redeclared = refl
named_back kind.WrongArgs = refl
named_back kind.NotConst = refl
named_back kind.BadArray = refl
named_back kind.BadAssign = refl
named_back kind.NoMain = refl
named_back kind.Recursion = refl
named_back kind.TooMany = refl
named_back kind.TooManyOps = refl

abbrev refused_by : ProgramFault → Refusal
refused_by (Refused f at) = program_refused (name_of f) at
refused_by Memory = form_not_built

told : (f : TextRefusal) (at : Place) → Refused f at ≡ Memory → ⊥
told f at e = cc

module _ (text : Text) where
  pub no_program_same : (f g : ProgramRefusal) (m n : Place) → IsNoProgram text f m → IsNoProgram text g n → program_refused f m ≡ program_refused g n
  no_program_same f g m n h k =
      ap (λ x. program_refused x m) (sym (named_back f))
      ∙ ap refused_by ((one_reading text).fault (Refused (fault_of f) m) (Refused (fault_of g) n) (told (fault_of f) m) (told (fault_of g) n) h k)
      ∙ ap (λ x. program_refused x n) (named_back g)

  -- a text with a fault is that of no program
  pub program_or : (p : Program) (f : ProgramRefusal) (at : Place) → IsTextOf text p → IsNoProgram text f at → ⊥
  program_or p f at t h = (one_reading text).either p (Refused (fault_of f) at) (told (fault_of f) at) t h

  pub same_program : (p q : Program) → IsTextOf text p → IsTextOf text q → p ≡ q
  same_program p q h k = (one_reading text).program p q h k

  -- what is told of a fault refuses the text
  pub told_as : (f : ProgramFault) (a : Answer) → IsFault text f → IsRefusalOf f a → IsRefusedFor (RefusesProgram text) a
  told_as (Refused f at) a h (kind, named, is) =
      subst (IsRefusedFor (RefusesProgram text)) (sym is) (subst (λ (x : TextRefusal). HasFault text (Refused x at)) (sym named) h)
  told_as Memory a h is = subst (IsRefusedFor (RefusesProgram text)) (sym is) tt
