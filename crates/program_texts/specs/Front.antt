-- Which program a text is, and why a text is none.
use Rattle.std.specs.Prelude.{◌≡◌, ◌≤◌, ℕ, List}
use Rattle.base_io.specs.declared.place.Place.{Place}
use Rattle.c_lex.specs.Cut.{Cut, Faulty}
use Rattle.c_lex.specs.declared.token.Token.{Token}
use Rattle.c_lex.specs.declared.token.LexFault.{LexFault}
use Rattle.c_lex.specs.declared.token.LexFault.TheVariants as lex
use Rattle.c_parse.specs.Faults.{IsCause, IsTreeOf}
use Rattle.c_parse.specs.Words.{words_of}
use Rattle.c_parse.specs.declared.fault.ParseFault.{ParseFault}
use Rattle.c_parse.specs.declared.fault.ParseFault.TheVariants as syntax
use Rattle.c_parse.specs.declared.raw.Raw.{Raw}
use Rattle.c_tree.specs.declared.tree.Program.{Program}
use Rattle.c_typing.specs.Programs.{Accepts, Refuses}
use Rattle.c_typing.specs.declared.type_fault.TypeFault.{TypeFault}
use Rattle.c_typing.specs.declared.type_fault.TypeFault.TheVariants as type
use Rattle.sound_programs.specs.SoundPrograms.{IsSound}
use Rattle.sound_programs.specs.Scoped.{IsScoped}
use Rattle.flow_graph.specs.declared.graph.Graph.{Graph}
use Rattle.lowered_graphs.specs.GraphOf.{graph_of, operations}
use Rattle.c_lower.specs.Lowering.{HasTooMany}
use Rattle.c_lower.specs.declared.programs.LowerFault.{LowerFault}
use Rattle.c_lower.specs.declared.programs.LowerFault.TheVariants as size
use Rattle.program_texts.specs.declared.fault.ProgramFault.{ProgramFault}
use Rattle.program_texts.specs.declared.fault.ProgramFault.TheVariants.{Refused, Memory}
use Rattle.program_texts.specs.declared.fault.ProgramRefusal.TheVariants as refusal

-- The text spells the tree: it is cut into tokens, and this is their tree.
pub record Spells (text : List ℕ) (raw : Raw) : Type 0 where
  pub tokens : List Token
  pub cut : Cut text tokens
  pub tree : IsTreeOf (words_of text tokens) raw

-- The text spells a tree, of which this is the typed program.
abbrev pub IsTypedText : List ℕ → Program → Type 0
IsTypedText text p = (raw : Raw) × Spells text raw × Accepts raw p

-- The text is that of the program: it spells a tree, of which this is the typed program, with no more operations than a graph may have.
pub record IsTextOf (text : List ℕ) (p : Program) : Type 0 where
  pub raw : Raw
  pub spells : Spells text raw
  pub typed : Accepts raw p
  pub few : operations p ≤ 4096

-- The graph is that of the program of this text, which is sound and in scope.
pub record IsGraphOfText (text : List ℕ) (g : Graph) : Type 0 where
  pub program : Program
  pub is_text : IsTextOf text program
  pub sound : IsSound program
  pub scoped : IsScoped program
  pub graph : g ≡ graph_of program

-- ---- Faults, each with its place

abbrev pub of_tokens : LexFault → ProgramFault
of_tokens (lex.BadByte at) = Refused refusal.BadByte at
of_tokens (lex.BadLiteral at) = Refused refusal.BadLiteral at
of_tokens (lex.TooBig at) = Refused refusal.TooBig at
of_tokens (lex.OpenComment at) = Refused refusal.OpenComment at
of_tokens (lex.HashLine at) = Refused refusal.HashLine at
of_tokens lex.Memory = Memory

abbrev pub of_tree : ParseFault → ProgramFault
of_tree (syntax.Unexpected at) = Refused refusal.Unexpected at
of_tree (syntax.NotInProfile at) = Refused refusal.NotInProfile at
of_tree (syntax.TooDeep at) = Refused refusal.TooDeep at
of_tree syntax.Memory = Memory

abbrev pub of_types : TypeFault → ProgramFault
of_types (type.Unknown at) = Refused refusal.Unknown at
of_types (type.Redeclared at) = Refused refusal.Redeclared at
of_types (type.WrongArgs at) = Refused refusal.WrongArgs at
of_types (type.NotConst at) = Refused refusal.NotConst at
of_types (type.BadArray at) = Refused refusal.BadArray at
of_types (type.BadAssign at) = Refused refusal.BadAssign at
of_types (type.NoMain at) = Refused refusal.NoMain at
of_types (type.Recursion at) = Refused refusal.Recursion at
of_types (type.TooMany at) = Refused refusal.TooMany at
of_types type.Memory = Memory

abbrev pub of_size : LowerFault → ProgramFault
of_size (size.TooManyOps count at) = Refused refusal.TooManyOps at
of_size size.Memory = Memory

-- The text has this fault, by the first of four steps that fails: it isn't cut into tokens, its tokens have no tree, its tree has no
-- typed program, or this has too many operations. Each step tells its own first fault.
pub data HasFault (text : List ℕ) (fault : ProgramFault) : Type 0 where
  of_text : (f : LexFault) → Faulty text f → fault ≡ of_tokens f → HasFault text fault
  of_words : (tokens : List Token) (f : ParseFault) → Cut text tokens → IsCause text tokens f → fault ≡ of_tree f → HasFault text fault
  of_raw : (raw : Raw) (f : TypeFault) → Spells text raw → Refuses raw f → fault ≡ of_types f → HasFault text fault
  of_graph : (raw : Raw) (p : Program) (count : ℕ) (at : Place) → Spells text raw → Accepts raw p → HasTooMany p count at → fault ≡ Refused refusal.TooManyOps at → HasFault text fault

-- what a fault that is answered says of the text; want of memory says nothing
abbrev pub IsFault : List ℕ → ProgramFault → Type 0
IsFault text (Refused fault place) = HasFault text (Refused fault place)
IsFault text Memory = Unit {0}
