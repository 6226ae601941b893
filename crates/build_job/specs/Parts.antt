-- What the parts of a build promise each other.
use Rattle.std.specs.Prelude.{◌≡◌, ℕ, List, [], Option}
use Rattle.base_io.specs.Files.{Files, WritesTold}
use Rattle.board_table.specs.declared.board.Board.{Board}
use Rattle.ti_txt.specs.Image.{Block}
use Rattle.ti_txt.specs.Spelling.{text_of}
use Rattle.c_tree.specs.declared.tree.Program.{Program}
use Rattle.flow_graph.specs.declared.graph.Graph.{Graph}
use Rattle.lowered_graphs.specs.GraphOf.{graph_of}
use Rattle.graph_code.specs.Homes.{data_bytes}
use Rattle.emit_each.specs.declared.fault.EmitFault.{EmitFault}
use Rattle.emit_each.specs.declared.fault.EmitFault.TheVariants as fault
use Rattle.job_files.specs.Answers.{Answer, done, line_of, no_memory, refused, write_fault}
use Rattle.job_files.specs.Refusals.{budget_too_small, code_too_large, data_too_large}
use Rattle.job_files.specs.Stores.{IsFailedWrite, Seen}
use Rattle.job_files.specs.Text.{Text}
use Rattle.build_job.specs.Build.{Build}
use Rattle.build_job.specs.Building.{AreFine, IsFine}
use Rattle.build_job.specs.Ends.{built_line, code_size}
use Rattle.build_job.specs.Programs.{IsLoneText}

-- the graph is that of the program of a text whose `main` calls no function of it
abbrev pub IsLoneGraph : Text → Graph → Type 0
IsLoneGraph text g = (p : Program) × IsLoneText text p × (g ≡ graph_of p)

-- the answer that tells a fault of the emitter
abbrev pub IsRefusedBy : EmitFault → Answer → Type 0
IsRefusedBy (fault.DataTooLarge what need room) a = a ≡ refused (data_too_large need room)
IsRefusedBy (fault.BudgetTooSmall op place need budget) a = a ≡ refused (budget_too_small op place need budget)
IsRefusedBy (fault.CodeTooLarge need room) a = a ≡ refused (code_too_large need room)
IsRefusedBy fault.Memory a = a ≡ no_memory

-- the text of an image of a graph, and the line that tells it
pub record IsSpelled (g : Graph) (image : List Block) (text line : Text) : Type 0 where
  pub spelled : text ≡ text_of image
  pub tells : line ≡ built_line (code_size image) (data_bytes g)

-- what is to be written for a program and a board, and the line that tells it
pub record IsReadyOf (wanted : Option ℕ) (text bytes : Text) (written line : Text) : Type 0 where
  pub program : Program
  pub board : Board
  pub image : List Block
  pub fine : IsFine wanted text bytes program board image
  pub spelled : IsSpelled (graph_of program) image written line

-- what is to be written for the files, and the line that tells it
pub record IsReady (job : Build) (files : Files) (written line : Text) : Type 0 where
  pub are : AreFine job files
  pub spelled : IsSpelled (graph_of are.program) are.image written line

-- ---- The write

pub record IsWrittenTo (name text : Text) (old new : Seen) : Type 0 where
  pub files : WritesTold name text old.files new.files
  pub writes : new.writes ≡ old.writes
  pub reads : new.reads ≡ old.reads

-- how a write of the image ends, with the line that tells it
abbrev pub IsWritten : Text → Text → Text → Seen → Seen → Answer → Text → Type 0
IsWritten name text built old new done line = IsWrittenTo name text old new × (line ≡ built)
IsWritten name text built old new (write_fault n) line = (n ≡ name) × IsFailedWrite old new × (line ≡ line_of [] (write_fault n))
IsWritten name text built old new a line = ⊥
