-- What is read of both files of a plan comes to one answer.
use Rattle.std.proofs.Common.{◌≡◌, ℕ, Option, Result, Ok, Err, IfSome, MatchResult, IfOk, subst, sym}
use Rattle.std.specs.Prelude.{String, string_bytes}
use Rattle.std.specs.declared.alloc.Global.{Global}
use Rattle.base_io.specs.Files.{Files}
use Rattle.board_table.specs.declared.board.Board.{Board}
use Rattle.flow_graph.specs.declared.graph.Graph.{Graph}
use Rattle.flow_graph.specs.Owned.{operations}
use Rattle.checkpoint_graph.specs.Placings.{IsFaultOf}
use Rattle.checkpoint_graph.specs.declared.placing.PlanFault.{PlanFault}
use Rattle.checkpoint_graph.specs.declared.placing.PlanFault.TheVariants.{BudgetTooSmall, Memory}
use Rattle.program_texts.specs.Front.{IsGraphOfText}
use Rattle.job_files.specs.Answers.{Answer, IsRefusedFor, answer_of, done}
use Rattle.job_files.specs.Boards.{RefusesBoard}
use Rattle.job_files.specs.Reads.{AreHad, AreNotHad, CountsReading, CountsUnhad, ReadingCauses, two_texts}
use Rattle.job_files.specs.Refusals.{Refusal, board_refused, budget_too_small, calls_too_deep, data_too_large, program_refused}
use Rattle.job_files.specs.Text.{Text}
use Rattle.job_files.specs.declared.status.Status.{Status}
use Rattle.job_files.proofs.Refusing.{refused_causes, refused_counts, refused_on, unhad_causes, unhad_counts}
use Rattle.job_files.proofs.Telling.{map_told}
use Rattle.program_files.specs.Programs.{RefusesProgram}
use Rattle.plan_job.specs.Ends.{IsPlanOfFiles, IsPlanOfTexts, IsSomeReport}
use Rattle.plan_job.specs.Graphs.{IsPlanned, RefusesGraph}
use Rattle.plan_job.specs.InCode.{answer_of_plan}
use Rattle.plan_job.specs.Plan.{Plan, plan_files}
use Rattle.plan_job.specs.Planning.{AreGiven, PlanCauses, RefusesPlan, RefusesPlanFiles, RefusesPlanTexts}
use Rattle.plan_job.specs.Room.{HasRoom, LacksRoom}

-- ---- The files

module _ (job : Plan) where
  -- a plan that isn't told answers as every job does that reads its files
  reading_cause : (files : Files) (a : Answer) → ReadingCauses files (plan_files job) (RefusesPlanFiles job files) a → PlanCauses job files a
  reading_cause files done h = absurd h
  reading_cause files a h = h

  pub unhad_told : (o : Option Files) (a : Answer) → IfSome o (λ f. AreNotHad f (plan_files job) a) → IfSome o (λ f. PlanCauses job f a)
  unhad_told o a h =
      map_told o (λ f. AreNotHad f (plan_files job) a) (λ f. PlanCauses job f a) (λ f k. reading_cause f a (unhad_causes f (plan_files job) (RefusesPlanFiles job f) a k)) h

  pub unhad_counted : (before now : ℕ) (bad : Text) (a : Answer) → CountsUnhad (plan_files job) before now bad a → CountsReading (plan_files job) (RefusesPlan job) before now bad a
  unhad_counted before now bad a h = unhad_counts (plan_files job) (RefusesPlan job) before now bad a h

  -- what texts come to
  abbrev pub ComesOf : Text → Text → Result (String Global) Status → Type 0
  ComesOf text bytes r =
      MatchResult r (λ x. IsPlanOfTexts job.budget text bytes (string_bytes x)) (λ s. IsRefusedFor (RefusesPlanTexts job.budget text bytes) (answer_of s))

  abbrev pub Joins : Files → Result (String Global) Status → Type 0
  Joins files r = MatchResult r (λ x. IsPlanOfFiles job files (string_bytes x)) (λ s. PlanCauses job files (answer_of s))

  joined : (files : Files) (text bytes : Text) → AreHad files (plan_files job) (two_texts text bytes) → (r : Result (String Global) Status) → ComesOf text bytes r → Joins files r
  joined files text bytes read (Ok x) h = record {
    may = record { text = text; bytes = bytes; graph = h.graph; board = h.board; read = read; given = h.given; fits = h.planned.fits };
    report = h.planned.report;
  }
  joined files text bytes read (Err s) h =
      reading_cause files (answer_of s)
      (refused_causes files (plan_files job) (RefusesPlanFiles job files) (answer_of s)
      (refused_on (RefusesPlanTexts job.budget text bytes) (RefusesPlanFiles job files) (λ x k. (text, bytes, read, k)) (answer_of s) h))

  pub joined_told : (o : Option Files) (first second text bytes : Text) (r : Result (String Global) Status) → text ≡ first → bytes ≡ second
      → IfSome o (λ files. AreHad files (plan_files job) (two_texts first second)) → ComesOf text bytes r → IfSome o (λ files. Joins files r)
  joined_told o first second text bytes r e f had h =
      map_told o (λ files. AreHad files (plan_files job) (two_texts first second)) (λ files. Joins files r)
      (λ files k. joined files text bytes
      (subst (λ x. AreHad files (plan_files job) (two_texts x bytes)) (sym e) (subst (λ x. AreHad files (plan_files job) (two_texts first x)) (sym f) k)) r h) had

  pub joined_counts : (text bytes : Text) (before now : ℕ) (bad : Text) (r : Result (String Global) Status) → now ≡ before → ComesOf text bytes r
      → MatchResult r (λ x. now ≡ before) (λ s. CountsReading (plan_files job) (RefusesPlan job) before now bad (answer_of s))
  joined_counts text bytes before now bad (Ok x) same h = same
  joined_counts text bytes before now bad (Err s) same h =
      refused_counts (plan_files job) (RefusesPlan job) before now bad same (answer_of s)
      (refused_on (RefusesPlanTexts job.budget text bytes) (RefusesPlan job) (λ x k. (text, bytes, k)) (answer_of s) h)

  -- whatever is told is a report
  pub any_report : (text bytes : Text) (r : Result (String Global) Status) → ComesOf text bytes r → IfOk r (λ x. IsSomeReport (string_bytes x))
  any_report text bytes (Ok x) h = (h.graph, h.board, h.planned.report)
  any_report text bytes (Err s) h = tt

-- ---- The texts

module _ (wanted : Option ℕ) (text bytes : Text) where
  program_refuses : (r : Refusal) → RefusesProgram text r → RefusesPlanTexts wanted text bytes r
  program_refuses (program_refused fault place) h = h
  program_refuses r h = absurd h

  board_refuses : (g : Graph) → IsGraphOfText text g → (r : Refusal) → RefusesBoard bytes r → RefusesPlanTexts wanted text bytes r
  board_refuses g is (board_refused kind key) h = ((g, is), h)
  board_refuses g is r h = absurd h

  graph_refuses : (g : Graph) (b : Board) → AreGiven wanted text bytes g b → (r : Refusal) → RefusesGraph b g r → RefusesPlanTexts wanted text bytes r
  graph_refuses g b given (data_too_large need room) h = (g, b, given, h)
  graph_refuses g b given (calls_too_deep need room) h = (g, b, given, h)
  graph_refuses g b given (budget_too_small op place need budget) h = (g, b, given, h)
  graph_refuses g b given r h = absurd h

  pub no_program : (a : Answer) → IsRefusedFor (RefusesProgram text) a → IsRefusedFor (RefusesPlanTexts wanted text bytes) a
  no_program a h = refused_on (RefusesProgram text) (RefusesPlanTexts wanted text bytes) program_refuses a h

  pub no_board : (g : Graph) → IsGraphOfText text g → (a : Answer) → IsRefusedFor (RefusesBoard bytes) a → IsRefusedFor (RefusesPlanTexts wanted text bytes) a
  no_board g is a h = refused_on (RefusesBoard bytes) (RefusesPlanTexts wanted text bytes) (board_refuses g is) a h

  pub no_graph : (g : Graph) (b : Board) → AreGiven wanted text bytes g b → (a : Answer) → IsRefusedFor (RefusesGraph b g) a → IsRefusedFor (RefusesPlanTexts wanted text bytes) a
  no_graph g b given a h = refused_on (RefusesGraph b g) (RefusesPlanTexts wanted text bytes) (graph_refuses g b given) a h

-- ---- The graph

module _ (b : Board) (g : Graph) where
  room_refuses : (r : Refusal) → LacksRoom g r → RefusesGraph b g r
  room_refuses (data_too_large need room) h = h
  room_refuses (calls_too_deep need room) h = h
  room_refuses r h = absurd h

  pub no_room : (a : Answer) → IsRefusedFor (LacksRoom g) a → IsRefusedFor (RefusesGraph b g) a
  no_room a h = refused_on (LacksRoom g) (RefusesGraph b g) room_refuses a h

  -- an operation that doesn't fit is told
  pub no_plan : HasRoom g → (f : PlanFault) (a : Answer) → IsFaultOf b (operations g) f → a ≡ answer_of_plan f → IsRefusedFor (RefusesGraph b g) a
  no_plan room (BudgetTooSmall op place need budget) a h is = subst (IsRefusedFor (RefusesGraph b g)) (sym is) (room, h)
  no_plan room Memory a h is = subst (IsRefusedFor (RefusesGraph b g)) (sym is) tt

-- ---- Both

module _ (wanted : Option ℕ) (text bytes : Text) (g : Graph) (b : Board) (given : AreGiven wanted text bytes g b) where
  pub planned_or_refused : (r : Result (String Global) Status) →
      MatchResult r (λ x. IsPlanned b g (string_bytes x)) (λ s. IsRefusedFor (RefusesGraph b g) (answer_of s)) →
      MatchResult r (λ x. IsPlanOfTexts wanted text bytes (string_bytes x)) (λ s. IsRefusedFor (RefusesPlanTexts wanted text bytes) (answer_of s))
  planned_or_refused (Ok x) h = record { graph = g; board = b; given = given; planned = h }
  planned_or_refused (Err s) h = no_graph wanted text bytes g b given (answer_of s) h
