-- Words ask for one job.
use Rattle.std.proofs.Common.{◌≡◌, ◌⊎◌, ℕ, List, Option, Some, None, ap, ap₂, sym, ◌∙◌, inl, inr, true≢false}
use Rattle.job_parts.specs.Asked.{Request, asked, build, check, plan, run, say}
use Rattle.job_files.specs.Text.{Text}
use Rattle.build_job.specs.Build.{Build}
use Rattle.check_job.specs.Check.{Check}
use Rattle.plan_job.specs.Plan.{Plan}
use Rattle.run_job.specs.Run.{Run}
use Rattle.say_job.specs.Say.{Say}
use Rattle.commands.specs.Words.{AskBuild, AskCheck, AskPlan, AskRun, AskSay, AskUnbuilt, is_built}

pub some_none : (o : Option Request) (r : Request) → o ≡ Some r → o ≡ None → ⊥
some_none o r e n = cc

pub same_request : (a b : Request) → (let s : Option Request = Some a in s ≡ Some b) → a ≡ b
same_request a b e = cc

abbrev say_request : Say → Option ℕ → Request
say_request job budget = record { task = say job.program job.input; budget = budget; steps = job.steps }

-- words that ask for a say are refused for nothing
pub say_asks_once : (words : List Text) (job : Say) → AskSay words job → (asked words ≡ None) ⊎ AskUnbuilt words → ⊥
say_asks_once words job e (inl none) = some_none (asked words) (say_request job e.budget) e.asks none
say_asks_once words job e (inr u) =
    true≢false (ap (λ (r : Request). is_built r.task) (same_request (say_request job e.budget) u.request (sym e.asks ∙ u.asks)) ∙ u.unbuilt)

-- and ask for no build and no run
pub build_or_say : (words : List Text) (job : Build) (other : Say) → AskBuild words job → AskSay words other → ⊥
build_or_say words job other e f =
    apart (ap (λ (r : Request). r.task) (same_request (record { task = build job.program job.board job.image job.certificate; budget = job.budget; steps = e.steps }) (say_request other f.budget) (sym e.asks ∙ f.asks)))
  where
    apart : build job.program job.board job.image job.certificate ≡ say other.program other.input → ⊥
    apart same = cc

pub run_or_say : (words : List Text) (job : Run) (other : Say) → AskRun words job → AskSay words other → ⊥
run_or_say words job other e f =
    apart (ap (λ (r : Request). r.task) (same_request (record { task = run job.image job.board job.input job.supplies; budget = job.budget; steps = job.steps }) (say_request other f.budget) (sym e.asks ∙ f.asks)))
  where
    apart : run job.image job.board job.input job.supplies ≡ say other.program other.input → ⊥
    apart same = cc

abbrev SayFiles : Type 0
SayFiles = Text × Text

abbrev say_from : SayFiles → ℕ → Say
say_from v steps = record { program = v.0; input = v.1; steps = steps }

same_say_files : (p i q j : Text) → say p i ≡ say q j → (let x : SayFiles = (p, i) in x ≡ (q, j))
same_say_files p i q j e = cc

-- words ask for one say
pub one_say : (words : List Text) (a b : Say) → AskSay words a → AskSay words b → a ≡ b
one_say words a b e f =
    let same = same_request (say_request a e.budget) (say_request b f.budget) (sym e.asks ∙ f.asks) in
    ap₂ say_from (same_say_files a.program a.input b.program b.input (ap (λ (r : Request). r.task) same)) (ap (λ (r : Request). r.steps) same)

-- ---- Builds and runs

abbrev build_request : Build → ℕ → Request
build_request job steps = record { task = build job.program job.board job.image job.certificate; budget = job.budget; steps = steps }

abbrev Four : Type 0
Four = Text × Text × Text × Text

abbrev build_from : Four → Option ℕ → Build
build_from v budget = record { program = v.0; board = v.1; image = v.2; certificate = v.3; budget = budget }

same_files : (p b i c q d j k : Text) → build p b i c ≡ build q d j k → (let x : Four = (p, b, i, c) in x ≡ (q, d, j, k))
same_files p b i c q d j k e = cc

-- words that ask for a build are refused for nothing
pub asks_once : (words : List Text) (job : Build) → AskBuild words job → (asked words ≡ None) ⊎ AskUnbuilt words → ⊥
asks_once words job e (inl none) = some_none (asked words) (build_request job e.steps) e.asks none
asks_once words job e (inr u) =
    true≢false (ap (λ (r : Request). is_built r.task) (same_request (build_request job e.steps) u.request (sym e.asks ∙ u.asks)) ∙ u.unbuilt)

abbrev run_request : Run → Request
run_request job = record { task = run job.image job.board job.input job.supplies; budget = job.budget; steps = job.steps }

-- the same of words that ask for a run
pub run_asks_once : (words : List Text) (job : Run) → AskRun words job → (asked words ≡ None) ⊎ AskUnbuilt words → ⊥
run_asks_once words job e (inl none) = some_none (asked words) (run_request job) e.asks none
run_asks_once words job e (inr u) =
    true≢false (ap (λ (r : Request). is_built r.task) (same_request (run_request job) u.request (sym e.asks ∙ u.asks)) ∙ u.unbuilt)

-- words that ask for a build ask for no run
pub build_or_run : (words : List Text) (job : Build) (other : Run) → AskBuild words job → AskRun words other → ⊥
build_or_run words job other e f =
    apart (ap (λ (r : Request). r.task) (same_request (build_request job e.steps) (run_request other) (sym e.asks ∙ f.asks)))
  where
    apart : build job.program job.board job.image job.certificate ≡ run other.image other.board other.input other.supplies → ⊥
    apart same = cc

abbrev RunFiles : Type 0
RunFiles = Text × Text × Text × List Text

abbrev run_from : RunFiles → Option ℕ → ℕ → Run
run_from v budget steps = record { image = v.0; board = v.1; input = v.2; supplies = v.3; budget = budget; steps = steps }

same_run_files : (i b n j c o : Text) (s t : List Text) → run i b n s ≡ run j c o t → (let x : RunFiles = (i, b, n, s) in x ≡ (j, c, o, t))
same_run_files i b n j c o s t e = cc

-- words ask for one run
pub one_run : (words : List Text) (a b : Run) → AskRun words a → AskRun words b → a ≡ b
one_run words a b e f =
    let same = same_request (run_request a) (run_request b) (sym e.asks ∙ f.asks) in
    let files = same_run_files a.image a.board a.input b.image b.board b.input a.supplies b.supplies (ap (λ (r : Request). r.task) same) in
    ap (λ (v : RunFiles). run_from v a.budget a.steps) files
    ∙ ap (λ (o : Option ℕ). run_from (b.image, b.board, b.input, b.supplies) o a.steps) (ap (λ (r : Request). r.budget) same)
    ∙ ap (λ (n : ℕ). run_from (b.image, b.board, b.input, b.supplies) b.budget n) (ap (λ (r : Request). r.steps) same)

-- words ask for one build
pub one_build : (words : List Text) (a b : Build) → AskBuild words a → AskBuild words b → a ≡ b
one_build words a b e f =
    let same = same_request (build_request a e.steps) (build_request b f.steps) (sym e.asks ∙ f.asks) in
    ap₂ build_from
    (same_files a.program a.board a.image a.certificate b.program b.board b.image b.certificate (ap (λ (r : Request). r.task) same))
    (ap (λ (r : Request). r.budget) same)

-- ---- Checks

abbrev check_request : Check → ℕ → Request
check_request job steps = record { task = check job.image job.certificate job.board; budget = job.budget; steps = steps }

-- words that ask for a check are refused for nothing
pub check_asks_once : (words : List Text) (job : Check) → AskCheck words job → (asked words ≡ None) ⊎ AskUnbuilt words → ⊥
check_asks_once words job e (inl none) = some_none (asked words) (check_request job e.steps) e.asks none
check_asks_once words job e (inr u) =
    true≢false (ap (λ (r : Request). is_built r.task) (same_request (check_request job e.steps) u.request (sym e.asks ∙ u.asks)) ∙ u.unbuilt)

-- and ask for no build, no run and no say
pub build_or_check : (words : List Text) (job : Build) (other : Check) → AskBuild words job → AskCheck words other → ⊥
build_or_check words job other e f =
    apart (ap (λ (r : Request). r.task) (same_request (build_request job e.steps) (check_request other f.steps) (sym e.asks ∙ f.asks)))
  where
    apart : build job.program job.board job.image job.certificate ≡ check other.image other.certificate other.board → ⊥
    apart same = cc

pub run_or_check : (words : List Text) (job : Run) (other : Check) → AskRun words job → AskCheck words other → ⊥
run_or_check words job other e f =
    apart (ap (λ (r : Request). r.task) (same_request (run_request job) (check_request other f.steps) (sym e.asks ∙ f.asks)))
  where
    apart : run job.image job.board job.input job.supplies ≡ check other.image other.certificate other.board → ⊥
    apart same = cc

pub say_or_check : (words : List Text) (job : Say) (other : Check) → AskSay words job → AskCheck words other → ⊥
say_or_check words job other e f =
    apart (ap (λ (r : Request). r.task) (same_request (say_request job e.budget) (check_request other f.steps) (sym e.asks ∙ f.asks)))
  where
    apart : say job.program job.input ≡ check other.image other.certificate other.board → ⊥
    apart same = cc

abbrev CheckFiles : Type 0
CheckFiles = Text × Text × Text

abbrev check_from : CheckFiles → Option ℕ → Check
check_from v budget = record { image = v.0; certificate = v.1; board = v.2; budget = budget }

same_check_files : (i c b j d e : Text) → check i c b ≡ check j d e → (let x : CheckFiles = (i, c, b) in x ≡ (j, d, e))
same_check_files i c b j d e same = cc

-- words ask for one check
pub one_check : (words : List Text) (a b : Check) → AskCheck words a → AskCheck words b → a ≡ b
one_check words a b e f =
    let same = same_request (check_request a e.steps) (check_request b f.steps) (sym e.asks ∙ f.asks) in
    ap₂ check_from
    (same_check_files a.image a.certificate a.board b.image b.certificate b.board (ap (λ (r : Request). r.task) same))
    (ap (λ (r : Request). r.budget) same)

-- ---- Plans

abbrev plan_request : Plan → ℕ → Request
plan_request job steps = record { task = plan job.program job.board; budget = job.budget; steps = steps }

-- words that ask for a plan are refused for nothing
pub plan_asks_once : (words : List Text) (job : Plan) → AskPlan words job → (asked words ≡ None) ⊎ AskUnbuilt words → ⊥
plan_asks_once words job e (inl none) = some_none (asked words) (plan_request job e.steps) e.asks none
plan_asks_once words job e (inr u) =
    true≢false (ap (λ (r : Request). is_built r.task) (same_request (plan_request job e.steps) u.request (sym e.asks ∙ u.asks)) ∙ u.unbuilt)

-- and ask for no build, no run, no say and no check
pub build_or_plan : (words : List Text) (job : Build) (other : Plan) → AskBuild words job → AskPlan words other → ⊥
build_or_plan words job other e f =
    apart (ap (λ (r : Request). r.task) (same_request (build_request job e.steps) (plan_request other f.steps) (sym e.asks ∙ f.asks)))
  where
    apart : build job.program job.board job.image job.certificate ≡ plan other.program other.board → ⊥
    apart same = cc

pub run_or_plan : (words : List Text) (job : Run) (other : Plan) → AskRun words job → AskPlan words other → ⊥
run_or_plan words job other e f =
    apart (ap (λ (r : Request). r.task) (same_request (run_request job) (plan_request other f.steps) (sym e.asks ∙ f.asks)))
  where
    apart : run job.image job.board job.input job.supplies ≡ plan other.program other.board → ⊥
    apart same = cc

pub say_or_plan : (words : List Text) (job : Say) (other : Plan) → AskSay words job → AskPlan words other → ⊥
say_or_plan words job other e f =
    apart (ap (λ (r : Request). r.task) (same_request (say_request job e.budget) (plan_request other f.steps) (sym e.asks ∙ f.asks)))
  where
    apart : say job.program job.input ≡ plan other.program other.board → ⊥
    apart same = cc

pub check_or_plan : (words : List Text) (job : Check) (other : Plan) → AskCheck words job → AskPlan words other → ⊥
check_or_plan words job other e f =
    apart (ap (λ (r : Request). r.task) (same_request (check_request job e.steps) (plan_request other f.steps) (sym e.asks ∙ f.asks)))
  where
    apart : check job.image job.certificate job.board ≡ plan other.program other.board → ⊥
    apart same = cc

abbrev PlanFiles : Type 0
PlanFiles = Text × Text

abbrev plan_from : PlanFiles → Option ℕ → Plan
plan_from v budget = record { program = v.0; board = v.1; budget = budget }

same_plan_files : (p b q d : Text) → plan p b ≡ plan q d → (let x : PlanFiles = (p, b) in x ≡ (q, d))
same_plan_files p b q d same = cc

-- words ask for one plan
pub one_plan : (words : List Text) (a b : Plan) → AskPlan words a → AskPlan words b → a ≡ b
one_plan words a b e f =
    let same = same_request (plan_request a e.steps) (plan_request b f.steps) (sym e.asks ∙ f.asks) in
    ap₂ plan_from (same_plan_files a.program a.board b.program b.board (ap (λ (r : Request). r.task) same)) (ap (λ (r : Request). r.budget) same)
