-- What the parts of a run come to before it begins, and the run that may then begin.
use Rattle.std.proofs.Common.{◌≡◌, ◌∙◌, ◌^◌, ◌<◌, ◌≤◌, ℕ, List, [], Option, IfSome, length, refl, sym, ap, subst, arith}
use Rattle.std.specs.Prelude.{Result}
use Rattle.base_io.specs.Counts.{CountsFaults}
use Rattle.base_io.specs.Files.{Files}
use Rattle.base_io.specs.declared.sink.SinkFault.{SinkFault}
use Rattle.board_table.specs.declared.board.Board.{Board}
use Rattle.msp430_machine.specs.State.{State}
use Rattle.msp430_machine.specs.Views.{state_of}
use Rattle.msp430_machine.specs.declared.answer.Refill.{Refill}
use Rattle.supply_trace.specs.Boxes.{all_rows}
use Rattle.supplied_run.specs.Shown.{AreLeft, FrontCounts, Shows}
use Rattle.supplied_run.specs.declared.end.End.{End}
use Rattle.job_files.specs.Answers.{Answer, IsRefusedFor, done, no_memory, stopped}
use Rattle.job_files.specs.Reads.{AreHad, AreNotHad, CountsUnhad, ReadingCauses}
use Rattle.job_files.specs.Stores.{Seen}
use Rattle.job_files.specs.Text.{Text}
use Rattle.job_files.proofs.Refusing.{refused_causes, refused_counts, refused_on, unhad_causes, unhad_counts}
use Rattle.job_files.proofs.Telling.{fill, map_told}
use Rattle.run_job.specs.Boxes.{Box, IsPartlyLoaded, LeavesBoxes, boxes_seen, loaded, rows_left}
use Rattle.run_job.specs.Ends.{HasRun, IsShown, RunRefuses, answer_of_run}
use Rattle.run_job.specs.Opening.{AreShort, IsOpenedRun, MayRun, joined}
use Rattle.run_job.specs.Run.{Run, RunTexts, run_files, texts_in}
use Rattle.run_job.specs.Running.{AreHeld, RefusesRun, RefusesRunFiles, RefusesRunTexts, RunCauses, RunHolds}
use Rattle.run_job.specs.declared.opened_run.OpenedRun.{OpenedRun}
use Rattle.run_job.proofs.Boxes.{rows_number, seen_left, seen_rows, spell_number}
use Rattle.run_job.proofs.Spelling.{all_few, joined_few}

-- ---- Causes before a run begins

-- a run that doesn't begin answers as every job does that reads its files
pub reading_cause : (job : Run) (f : Files) (boxes : List Box) (a : Answer) → ReadingCauses f (run_files job) (RefusesRunFiles job f) a → RunCauses job f boxes a
reading_cause job f boxes done h = absurd h
reading_cause job f boxes (stopped s) h = absurd h
reading_cause job f boxes a h = h

unhad_cause : (job : Run) (f : Files) (boxes : List Box) (a : Answer) → AreNotHad f (run_files job) a → RunCauses job f boxes a
unhad_cause job f boxes a h = reading_cause job f boxes a (unhad_causes f (run_files job) (RefusesRunFiles job f) a h)

refused_cause : (job : Run) (f : Files) (boxes : List Box) (t : RunTexts) (a : Answer) → IsRefusedFor (RefusesRunTexts job t) a → AreHad f (run_files job) (texts_in t) → RunCauses job f boxes a
refused_cause job f boxes t a r had =
    reading_cause job f boxes a
    (refused_causes f (run_files job) (RefusesRunFiles job f) a (refused_on (RefusesRunTexts job t) (RefusesRunFiles job f) (λ x h. (t, had, h)) a r))

pub keeps_boxes : (before : List Box) (a : Answer) → LeavesBoxes before before a
keeps_boxes before no_memory = record { rows = []; are = refl }
keeps_boxes before a = refl

-- ---- A run that doesn't begin

pub refuses_unhad : (job : Run) (old new : Seen) (boxes : List Box) (a : Answer) → new.files ≡ old.files → new.writes ≡ old.writes → old.reads ≤ new.reads
    → IfSome old.files (λ f. AreNotHad f (run_files job) a) → CountsUnhad (run_files job) old.reads new.reads new.bad a → RunRefuses job old new boxes boxes a
refuses_unhad job old new boxes a files writes later told counts = record {
  cause = map_told old.files (λ f. AreNotHad f (run_files job) a) (λ f. RunCauses job f boxes a) (λ f. unhad_cause job f boxes a) told;
  kept = record { files = files; writes = writes; reads = later };
  counts = unhad_counts (run_files job) (RefusesRun job) old.reads new.reads new.bad a counts;
  boxes = keeps_boxes boxes a;
}

pub refuses_text : (job : Run) (old new : Seen) (boxes : List Box) (t : RunTexts) (a : Answer) → new.files ≡ old.files → new.writes ≡ old.writes → new.reads ≡ old.reads
    → IfSome old.files (λ f. AreHad f (run_files job) (texts_in t)) → IsRefusedFor (RefusesRunTexts job t) a → RunRefuses job old new boxes boxes a
refuses_text job old new boxes t a files writes reads had why = record {
  cause = map_told old.files (λ f. AreHad f (run_files job) (texts_in t)) (λ f. RunCauses job f boxes a) (λ f. refused_cause job f boxes t a why) had;
  kept = record { files = files; writes = writes; reads = omega (arith, reads) };
  counts = refused_counts (run_files job) (RefusesRun job) old.reads new.reads new.bad reads a
      (refused_on (RefusesRunTexts job t) (RefusesRun job) (λ x h. (t, h)) a why);
  boxes = keeps_boxes boxes a;
}

pub refuses_memory : (job : Run) (old new : Seen) (before now : List Box) → new.files ≡ old.files → new.writes ≡ old.writes → new.reads ≡ old.reads
    → IsPartlyLoaded before now → RunRefuses job old new before now no_memory
refuses_memory job old new before now files writes reads are = record {
  cause = fill old.files (λ f. RunCauses job f before no_memory) (λ f. tt);
  kept = record { files = files; writes = writes; reads = omega (arith, reads) };
  counts = tt;
  boxes = are;
}

-- ---- A run that may begin

pub may_run : (job : Run) (old new : Seen) (before now : List Box) (t : RunTexts) (held : RunHolds) (run : OpenedRun) → new.files ≡ old.files → new.writes ≡ old.writes → new.reads ≡ old.reads
    → IfSome old.files (λ f. AreHad f (run_files job) (texts_in t)) → length t.supplies ≡ length job.supplies → AreShort t.supplies → AreHeld job.budget t held
    → IsOpenedRun job.steps held before now run → job.steps ≤ 1000000000 → length job.supplies ≤ 256 → MayRun job old new before now run
may_run job old new before now t held run files writes reads had number short are is steps few =
    let rows = spell_number t.supplies held.rows are.rows in
    let most = joined_few held.rows (all_few t.supplies held.rows short are.rows) in
    record {
      held = held;
      opened = record {
        texts = t;
        had = had;
        number = number;
        are_held = are;
        is_first = is.is_first;
        holds = is.holds;
        is_loaded = is.is_loaded;
        files = files;
        writes = writes;
        reads = reads;
      };
      is_opened_run = is;
      few_steps = steps;
      few_rows = omega (arith, rows, most, number, few);
    }

pub has_run_of : (job : Run) (old new : Seen) (before mid left : List Box) (run : OpenedRun) (sunk now : Option Text) (faults_before faults_now : ℕ) (a : Answer)
    → MayRun job old new before mid run
    → IsShown run.board run.input.items run.steps (state_of run.core.machine) mid left sunk now faults_before faults_now a
    → HasRun job old new before left sunk now faults_before faults_now a
has_run_of job old new before mid left run sunk now fb fn a m shown =
    let first = state_of run.core.machine in
    let s = m.is_opened_run in
    record {
      held = m.held;
      first = first;
      opened = m.opened;
      is_shown =
          subst (λ (x : Board). IsShown x m.held.input job.steps first (loaded before m.held.rows) left sunk now fb fn a) s.board
          (subst (λ (x : List ℕ). IsShown run.board x job.steps first (loaded before m.held.rows) left sunk now fb fn a) s.input
          (subst (λ (x : ℕ). IsShown run.board run.input.items x first (loaded before m.held.rows) left sunk now fb fn a) s.steps_are
          (subst (λ (x : List Box). IsShown run.board run.input.items run.steps first x left sunk now fb fn a) s.boxes shown)));
    }

module _ {B : Type 0} (rows : B → List Refill) (faults : B → ℕ) where
  -- what the boxes and the files hold can be counted
  pub rows_fit : (before mid : List B) (more : List (List Refill)) → boxes_seen rows faults mid ≡ loaded (boxes_seen rows faults before) more
      → length (joined more) < 2 ^ 32 → length (all_rows rows before) < 2 ^ 32 → length (all_rows rows mid) < 2 ^ 33
  rows_fit before mid more e few old =
      let n = rows_number (boxes_seen rows faults before) more in
      let here : length (all_rows rows mid) ≡ length (all_rows rows_left (loaded (boxes_seen rows faults before) more)) =
      ap length (sym (seen_rows rows faults mid)) ∙ ap (λ (b : List Box). length (all_rows rows_left b)) e in
      let there : length (all_rows rows_left (boxes_seen rows faults before)) ≡ length (all_rows rows before) = ap length (seen_rows rows faults before) in
      omega (arith, n, here, there, few, old)

  -- a run over the rows of boxes, as they are seen
  pub is_shown : (board : Board) (input : List ℕ) (limit : ℕ) (first : State) (before left : List B) (told : Result End SinkFault) (old new : Option Text) (faults_before faults_now : ℕ) (a : Answer)
      → Shows board input limit first (all_rows rows before) (all_rows rows left) told old new → AreLeft faults (FrontCounts told) before left
      → CountsFaults told faults_before faults_now → a ≡ answer_of_run told
      → IsShown board input limit first (boxes_seen rows faults before) (boxes_seen rows faults left) old new faults_before faults_now a
  is_shown board input limit first before left told old new fb fn a shows are counts answer = record {
    told = told;
    shown =
        subst (λ (l : List Refill). Shows board input limit first l (all_rows rows_left (boxes_seen rows faults left)) told old new) (sym (seen_rows rows faults before))
        (subst (λ (l : List Refill). Shows board input limit first (all_rows rows before) l told old new) (sym (seen_rows rows faults left)) shows);
    boxes = seen_left rows faults (FrontCounts told) before left are;
    faults = counts;
    answer = answer;
  }

  -- the same, where the boxes and the input were handed on
  pub shown_by : (board : Board) (limit : ℕ) (first : State) (before args left result : List B) (told : Result End SinkFault) (old new : Option Text) (faults_before faults_now : ℕ) (a : Answer)
      (words given : List ℕ) → before ≡ args → result ≡ left → words ≡ given
      → Shows board words limit first (all_rows rows before) (all_rows rows left) told old new → AreLeft faults (FrontCounts told) before left
      → CountsFaults told faults_before faults_now → a ≡ answer_of_run told
      → IsShown board given limit first (boxes_seen rows faults args) (boxes_seen rows faults result) old new faults_before faults_now a
  shown_by board limit first before args left result told old new fb fn a words given e f k shows are counts answer =
      let h = is_shown board words limit first before left told old new fb fn a shows are counts answer in
      subst (λ (x : List ℕ). IsShown board x limit first (boxes_seen rows faults args) (boxes_seen rows faults result) old new fb fn a) k
      (subst (λ (x : List B). IsShown board words limit first (boxes_seen rows faults x) (boxes_seen rows faults result) old new fb fn a) e
      (subst (λ (x : List B). IsShown board words limit first (boxes_seen rows faults before) (boxes_seen rows faults x) old new fb fn a) (sym f) h))
