-- What is read of both files of a build comes to one answer.
use Rattle.std.proofs.Common.{◌≡◌, ℕ, Option, Result, Ok, Err, IfSome, MatchResult, IfOk, subst, sym}
use Rattle.std.specs.Prelude.{string_bytes}
use Rattle.base_io.specs.Files.{Files}
use Rattle.board_table.specs.declared.board.Board.{Board}
use Rattle.c_tree.specs.declared.tree.Program.{Program}
use Rattle.flow_graph.specs.declared.graph.Graph.{Graph}
use Rattle.lowered_graphs.specs.GraphOf.{graph_of}
use Rattle.graph_code.specs.Homes.{data_bytes}
use Rattle.graph_code.specs.Order.{IsAlone}
use Rattle.program_texts.specs.Front.{IsGraphOfText}
use Rattle.emit_each.specs.Emitting.{IsRefused}
use Rattle.emit_each.specs.declared.fault.EmitFault.{EmitFault}
use Rattle.emit_each.specs.declared.fault.EmitFault.TheVariants as fault
use Rattle.job_files.specs.Answers.{Answer, IsRefusedFor, answer_of, done, write_fault}
use Rattle.job_files.specs.Boards.{RefusesBoard}
use Rattle.job_files.specs.Reads.{AreHad, AreNotHad, CountsReading, CountsUnhad, ReadingCauses, two_texts}
use Rattle.job_files.specs.Refusals.{Refusal, board_refused, budget_too_small, code_too_large, data_too_large, form_not_built, program_refused}
use Rattle.job_files.specs.Text.{Text}
use Rattle.job_files.specs.declared.status.Status.{Status}
use Rattle.job_files.proofs.Refusing.{refused_causes, refused_counts, refused_on, unhad_causes, unhad_counts}
use Rattle.job_files.proofs.Telling.{map_told}
use Rattle.program_files.specs.Programs.{RefusesProgram}
use Rattle.build_job.specs.Build.{Build, build_files}
use Rattle.build_job.specs.Building.{AreGiven, BuildCauses, RefusesBuild, RefusesBuildFiles, RefusesBuildTexts}
use Rattle.build_job.specs.Ends.{built_line, code_size}
use Rattle.build_job.specs.Images.{RefusesGraph}
use Rattle.build_job.specs.Parts.{IsLoneGraph, IsReady, IsReadyOf, IsRefusedBy}
use Rattle.build_job.specs.Programs.{IsLoneText, IsOtherText, RefusesLone}
use Rattle.build_job.specs.declared.image_text.Ready.{Ready}

module _ (job : Build) where
  -- a build that writes nothing answers as every job does that reads its files
  reading_cause : (files : Files) (a : Answer) → ReadingCauses files (build_files job) (RefusesBuildFiles job files) a → BuildCauses job files a
  reading_cause files done h = absurd h
  reading_cause files (write_fault name) h = absurd h
  reading_cause files a h = h

  pub unhad_told : (o : Option Files) (a : Answer) → IfSome o (λ f. AreNotHad f (build_files job) a) → IfSome o (λ f. BuildCauses job f a)
  unhad_told o a h =
      map_told o (λ f. AreNotHad f (build_files job) a) (λ f. BuildCauses job f a) (λ f k. reading_cause f a (unhad_causes f (build_files job) (RefusesBuildFiles job f) a k)) h

  pub unhad_counted : (before now : ℕ) (bad : Text) (a : Answer) → CountsUnhad (build_files job) before now bad a → CountsReading (build_files job) (RefusesBuild job) before now bad a
  unhad_counted before now bad a h = unhad_counts (build_files job) (RefusesBuild job) before now bad a h

  -- what texts come to
  abbrev pub ComesOf : Text → Text → Result Ready Status → Type 0
  ComesOf text bytes r =
      MatchResult r (λ x. IsReadyOf job.budget text bytes x.text.items (string_bytes x.line)) (λ s. IsRefusedFor (RefusesBuildTexts job.budget text bytes) (answer_of s))

  joined : (files : Files) (text bytes : Text) → AreHad files (build_files job) (two_texts text bytes) → (r : Result Ready Status) → ComesOf text bytes r
      → MatchResult r (λ x. IsReady job files x.text.items (string_bytes x.line)) (λ s. BuildCauses job files (answer_of s))
  joined files text bytes read (Ok x) h = record {
    are = record {
      text = text;
      bytes = bytes;
      program = h.program;
      board = h.board;
      image = h.image;
      read = read;
      fine = h.fine;
    };
    spelled = h.spelled;
  }
  joined files text bytes read (Err s) h =
      reading_cause files (answer_of s)
      (refused_causes files (build_files job) (RefusesBuildFiles job files) (answer_of s)
      (refused_on (RefusesBuildTexts job.budget text bytes) (RefusesBuildFiles job files) (λ x k. (text, bytes, read, k)) (answer_of s) h))

  pub joined_told : (o : Option Files) (first second text bytes : Text) (r : Result Ready Status) → text ≡ first → bytes ≡ second
      → IfSome o (λ files. AreHad files (build_files job) (two_texts first second)) → ComesOf text bytes r
      → IfSome o (λ files. MatchResult r (λ x. IsReady job files x.text.items (string_bytes x.line)) (λ s. BuildCauses job files (answer_of s)))
  joined_told o first second text bytes r e f had h =
      map_told o (λ files. AreHad files (build_files job) (two_texts first second))
      (λ files. MatchResult r (λ x. IsReady job files x.text.items (string_bytes x.line)) (λ s. BuildCauses job files (answer_of s)))
      (λ files k. joined files text bytes
      (subst (λ x. AreHad files (build_files job) (two_texts x bytes)) (sym e) (subst (λ x. AreHad files (build_files job) (two_texts first x)) (sym f) k)) r h) had

  pub joined_counts : (text bytes : Text) (before now : ℕ) (bad : Text) (r : Result Ready Status) → now ≡ before → ComesOf text bytes r
      → MatchResult r (λ x. now ≡ before) (λ s. CountsReading (build_files job) (RefusesBuild job) before now bad (answer_of s))
  joined_counts text bytes before now bad (Ok x) same h = same
  joined_counts text bytes before now bad (Err s) same h =
      refused_counts (build_files job) (RefusesBuild job) before now bad same (answer_of s)
      (refused_on (RefusesBuildTexts job.budget text bytes) (RefusesBuild job) (λ x k. (text, bytes, k)) (answer_of s) h)

-- whatever is built has a line of its form
pub any_line : (wanted : Option ℕ) (text bytes : Text) (r : Result Ready Status) →
    MatchResult r (λ x. IsReadyOf wanted text bytes x.text.items (string_bytes x.line)) (λ s. IsRefusedFor (RefusesBuildTexts wanted text bytes) (answer_of s)) →
    IfOk r (λ x. (code : ℕ) × (bytes : ℕ) × (string_bytes x.line ≡ built_line code bytes))
any_line wanted text bytes (Ok x) h = (code_size h.image, data_bytes (graph_of h.program), h.spelled.tells)
any_line wanted text bytes (Err s) h = tt

-- ---- The texts

lone_refuses : (wanted : Option ℕ) (text bytes : Text) (r : Refusal) → RefusesLone text r → RefusesBuildTexts wanted text bytes r
lone_refuses wanted text bytes (program_refused fault place) h = h
lone_refuses wanted text bytes form_not_built h = h
lone_refuses wanted text bytes r h = absurd h

board_refuses : (wanted : Option ℕ) (text bytes : Text) (p : Program) → IsLoneText text p → (r : Refusal) → RefusesBoard bytes r → RefusesBuildTexts wanted text bytes r
board_refuses wanted text bytes p is (board_refused kind key) h = ((p, is), h)
board_refuses wanted text bytes p is r h = absurd h

graph_refuses : (wanted : Option ℕ) (text bytes : Text) (p : Program) (b : Board) → AreGiven wanted text bytes p b → (r : Refusal) → RefusesGraph b (graph_of p) r → RefusesBuildTexts wanted text bytes r
graph_refuses wanted text bytes p b given (data_too_large need room) h = (p, b, given, h)
graph_refuses wanted text bytes p b given (budget_too_small op place need budget) h = (p, b, given, h)
graph_refuses wanted text bytes p b given (code_too_large need room) h = (p, b, given, h)
graph_refuses wanted text bytes p b given r h = absurd h

program_refuses : (text : Text) (r : Refusal) → RefusesProgram text r → RefusesLone text r
program_refuses text (program_refused fault place) h = h
program_refuses text r h = absurd h

pub no_lone : (wanted : Option ℕ) (text bytes : Text) (a : Answer) → IsRefusedFor (RefusesLone text) a → IsRefusedFor (RefusesBuildTexts wanted text bytes) a
no_lone wanted text bytes a h = refused_on (RefusesLone text) (RefusesBuildTexts wanted text bytes) (lone_refuses wanted text bytes) a h

pub no_board : (wanted : Option ℕ) (text bytes : Text) (p : Program) → IsLoneText text p → (a : Answer) → IsRefusedFor (RefusesBoard bytes) a
    → IsRefusedFor (RefusesBuildTexts wanted text bytes) a
no_board wanted text bytes p is a h = refused_on (RefusesBoard bytes) (RefusesBuildTexts wanted text bytes) (board_refuses wanted text bytes p is) a h

pub no_image : (wanted : Option ℕ) (text bytes : Text) (p : Program) (b : Board) → AreGiven wanted text bytes p b → (a : Answer) → IsRefusedFor (RefusesGraph b (graph_of p)) a
    → IsRefusedFor (RefusesBuildTexts wanted text bytes) a
no_image wanted text bytes p b given a h = refused_on (RefusesGraph b (graph_of p)) (RefusesBuildTexts wanted text bytes) (graph_refuses wanted text bytes p b given) a h

pub no_program : (text : Text) (a : Answer) → IsRefusedFor (RefusesProgram text) a → IsRefusedFor (RefusesLone text) a
no_program text a h = refused_on (RefusesProgram text) (RefusesLone text) (program_refuses text) a h

-- ---- The graph

-- what the emitter is stopped by is told
pub not_emitted : (b : Board) (g : Graph) (f : EmitFault) (a : Answer) → IsRefused b g f → IsRefusedBy f a → IsRefusedFor (RefusesGraph b g) a
not_emitted b g (fault.DataTooLarge what need room) a h is = subst (IsRefusedFor (RefusesGraph b g)) (sym is) (h.0, h.2, h.3)
not_emitted b g (fault.BudgetTooSmall op place need budget) a h is = subst (IsRefusedFor (RefusesGraph b g)) (sym is) (h.0, (h.1.0, h.1.1, h.1.2, h.1.3, h.1.4), h.1.5)
not_emitted b g (fault.CodeTooLarge need room) a h is = subst (IsRefusedFor (RefusesGraph b g)) (sym is) h
not_emitted b g fault.Memory a h is = subst (IsRefusedFor (RefusesGraph b g)) (sym is) tt

-- a graph of one function is that of a program whose `main` calls none, and any other that of a program of another form
pub lone : (text : Text) (g : Graph) → IsGraphOfText text g → IsAlone g → IsLoneGraph text g
lone text g h alone = (h.program, record { is_text = h.is_text; sound = h.sound; scoped = h.scoped; alone = subst (λ (x : Graph). IsAlone x) h.graph alone }, h.graph)

pub other : (text : Text) (g : Graph) → IsGraphOfText text g → (IsAlone g → ⊥) → IsOtherText text
other text g h called = (h.program, h.is_text, λ alone. called (subst (λ (x : Graph). IsAlone x) (sym h.graph) alone))
