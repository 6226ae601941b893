-- Texts that are no programs.
use Rattle.std.specs.Prelude.{◌≡◌}
use Rattle.base_io.specs.declared.place.Place.{Place}
use Rattle.program_texts.specs.Front.{HasFault}
use Rattle.program_texts.specs.declared.fault.ProgramFault.{ProgramFault}
use Rattle.program_texts.specs.declared.fault.ProgramFault.TheVariants.{Refused, Memory}
use Rattle.program_texts.specs.declared.fault.ProgramRefusal.{ProgramRefusal as TextRefusal}
use Rattle.program_texts.specs.declared.fault.ProgramRefusal.TheVariants as text
use Rattle.job_files.specs.declared.refusal.ProgramRefusal.TheVariants as kind
use Rattle.job_files.specs.Answers.{Answer, no_memory, refused}
use Rattle.job_files.specs.Refusals.{Refusal, program_refused}
use Rattle.job_files.specs.Text.{Text}
use Rattle.job_files.specs.declared.refusal.ProgramRefusal.{ProgramRefusal}

-- the fault of a text by its name
abbrev pub fault_of : ProgramRefusal → TextRefusal
fault_of kind.BadByte = text.BadByte
fault_of kind.BadLiteral = text.BadLiteral
fault_of kind.TooBig = text.TooBig
fault_of kind.OpenComment = text.OpenComment
fault_of kind.HashLine = text.HashLine
fault_of kind.Unexpected = text.Unexpected
fault_of kind.NotInProfile = text.NotInProfile
fault_of kind.TooDeep = text.TooDeep
fault_of kind.Unknown = text.Unknown
fault_of kind.Redeclared = text.Redeclared
fault_of kind.WrongArgs = text.WrongArgs
fault_of kind.NotConst = text.NotConst
fault_of kind.BadArray = text.BadArray
fault_of kind.BadAssign = text.BadAssign
fault_of kind.NoMain = text.NoMain
fault_of kind.Recursion = text.Recursion
fault_of kind.TooMany = text.TooMany
fault_of kind.TooManyOps = text.TooManyOps

-- the text is no program: its first fault is of this name, and stands there
abbrev pub IsNoProgram : Text → ProgramRefusal → Place → Type 0
IsNoProgram program fault place = HasFault program (Refused (fault_of fault) place)

-- the text is refused as a program
abbrev pub RefusesProgram : Text → Refusal → Type 0
RefusesProgram program (program_refused fault place) = IsNoProgram program fault place
RefusesProgram program r = ⊥

-- the answer that tells a fault
abbrev pub IsRefusalOf : ProgramFault → Answer → Type 0
IsRefusalOf (Refused fault place) a = (kind : ProgramRefusal) × (fault_of kind ≡ fault) × (a ≡ refused (program_refused kind place))
IsRefusalOf Memory a = a ≡ no_memory
