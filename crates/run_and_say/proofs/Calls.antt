-- The files of the three calls hold one image, one board, one program and one input, so the run and the say are of one program.
use Rattle.std.proofs.Common.{◌≡◌, ◌<◌, ℕ, List, Option, Some, sym, subst, ap, ap₂, ◌∙◌, arith}
use Rattle.std.specs.Prelude.{All, IfOk, IfSome, map}
use Rattle.base_io.specs.Files.{Files}
use Rattle.board_table.specs.declared.board.Board.{Board}
use Rattle.c_tree.specs.Meaning.{meaning}
use Rattle.c_tree.specs.Laws.{AreSteady}
use Rattle.job_parts.specs.Input.{pieces_of, words_of}
use Rattle.msp430_machine.specs.First.{HoldsBlocks}
use Rattle.plain_meaning.specs.Behaviour.{Meaning}
use Rattle.power_core.specs.Cores.{event_of}
use Rattle.power_core.specs.Runs.{Event, Generous, Run as Runs, RunOf, Trail, start}
use Rattle.program_texts.specs.Front.{IsTextOf}
use Rattle.program_texts.specs.Laws.{HasOneReading}
use Rattle.ti_txt.specs.Grammar.{Holds}
use Rattle.ti_txt.specs.Spelling.{text_of}
use Rattle.job_files.specs.Boards.{IsBoardWith}
use Rattle.commands.specs.Headline.{IsKept}
use Rattle.job_files.specs.Reads.{AreHad}
use Rattle.run_job.specs.Run.{run_files, texts_in}
use Rattle.say_job.specs.Saying.{Hold}
use Rattle.job_files.specs.Text.{Text}
use Rattle.job_files.proofs.OneBoard.{one_board_with}
use Rattle.run_and_say.specs.RunAndSay.{AreFronts, EndsAlike, Reach, ShownAlike}
use Rattle.run_and_say.proofs.Cuts.{closed_are_cuts}
use Rattle.run_and_say.proofs.Ends.{Known, ends_alike}
use Rattle.run_and_say.proofs.Fronts.{fronts, same}
use Rattle.run_and_say.proofs.Rows.{generous, runs}
use Rattle.run_and_say.proofs.Spelt.{only_image}
use Rattle.run_and_say.proofs.Words.{are_words}

one_text : (x y : Text) (o p : Option Text) → o ≡ Some x → p ≡ Some y → o ≡ p → x ≡ y
one_text x y o p e f same = (let both : (let s : Option Text = Some x in s ≡ Some y) = sym e ∙ same ∙ f in cc)

-- ---- A run of the image, by its trail

module _ (steady : AreSteady) (words : List Text) (old new : Files) (kept : IsKept words old new) (input : List ℕ) (events : List Event) (t : Trail) where
  known : All (λ w. w < 65536) input → Generous kept.board.budget events → RunOf kept.image kept.board input events t
      → (n : ℕ) → (m : ℕ) × Known t (meaning kept.program input m) (meaning kept.program input n)
  known small enough run n =
      let back = kept.agrees.back input events t small enough run in
      let power = kept.agrees.power input events t small enough run in (
        back.steps,
        record {
          words = back.words;
          stops = back.stopped;
          same = same (meaning kept.program) (steady kept.program) input back.steps n;
          no_power_fault = λ at.
              (let one = kept.endures.power_trap_last input events t small run at in
              let cuts = closed_are_cuts kept.board input events (start run.0) t run.3 (omega arith) in
              let none = power.no_cut in
              omega (arith, one, cuts, none));
          no_fault = kept.endures.no_fault input events t small run;
        },
      )

-- ---- The calls

pub shown_alike : AreSteady → ((text : List ℕ) → HasOneReading text) → ShownAlike
shown_alike steady one_reading words old new kept run files was is before left sunk now m n a ran say others had has took takes i j b said at of_build here of_program one_input reach =
    let texts = ran.opened.texts in
    let all : AreHad files (run_files run) (texts_in texts) = subst (λ o. IfSome o (λ f. AreHad f (run_files run) (texts_in texts))) at ran.opened.had in
    let holds : Hold say others said.program said.words = subst (λ o. IfSome o (λ f. Hold say f said.program said.words)) here said.held in
    let image_text : texts.image ≡ text_of kept.image = one_text texts.image (text_of kept.image) (files run.image) (new kept.job.image) all.0.there kept.written.there of_build.image in
    let image : ran.held.image ≡ kept.image = only_image kept.held.0 kept.image ran.held.image kept.held.1 kept.held.2 kept.is_image (subst (λ x. Holds x ran.held.image) image_text ran.opened.are_held.image) in
    let board_text : texts.board ≡ kept.bytes = one_text texts.board kept.bytes (files run.board) (old kept.job.board) all.1.0.there kept.board_file of_build.board in
    let board : ran.held.board ≡ kept.board = one_board_with kept.job.budget kept.bytes ran.held.board kept.board (subst (λ x. IsBoardWith kept.job.budget x ran.held.board) board_text (subst (λ x. IsBoardWith x texts.board ran.held.board) of_build.budget ran.opened.are_held.board)) kept.is_board in
    let input_text : holds.input ≡ texts.input = one_text holds.input texts.input (others say.input) (files run.input) holds.had.1.0.there all.1.1.0.there one_input in
    let spelt : said.words ≡ ran.held.input = holds.are.spells.1 ∙ ap (λ x. words_of (pieces_of x)) input_text ∙ sym ran.opened.are_held.input.1 in
    let program_text : holds.program ≡ kept.text = one_text holds.program kept.text (others say.program) (old kept.job.program) holds.had.0.there kept.program_file of_program.program in
    let program : said.program ≡ kept.program = (one_reading kept.text).program said.program kept.program (subst (λ x. IsTextOf x said.program) program_text holds.are.is_text) kept.is_program in
    let meant : meaning kept.program ran.held.input say.steps ≡ meaning said.program said.words say.steps = ap₂ (λ p ws. meaning p ws say.steps) (sym program) (sym spelt) in
    let t = ran.is_shown.shown.trail in
    let reaches = ran.is_shown.shown.reaches in
    let events = map event_of reaches.events in
    let went : RunOf kept.image kept.board ran.held.input events t = (
      ran.first,
      ran.opened.is_first,
      subst (HoldsBlocks ran.first) image ran.opened.holds,
      subst (λ (x : Board). Runs x ran.held.input (start ran.first) events t) board (runs ran.held.board ran.held.input run.steps reaches.events (start ran.first) t reaches.run),
    ) in
    let enough : Generous kept.board.budget events = generous kept.board.budget reaches.events _ (subst (Reach kept.board.budget) reaches.taken reach) in
    let small = are_words texts.input ran.held.input ran.opened.are_held.input in
    let k = known steady words old new kept ran.held.input events t small enough went say.steps in
    let steps = k.0 in
    record {
      fronts = subst (AreFronts t.put) (ap (λ (x : Meaning). x.words) meant)
          (subst (λ ws. AreFronts ws (meaning kept.program ran.held.input say.steps).words) (sym k.1.words) (fronts (meaning kept.program) (steady kept.program) ran.held.input steps say.steps));
      ends = subst (λ (x : Meaning). IfOk ran.is_shown.told (EndsAlike t.put x)) meant
          (ends_alike run.steps _ t ran.is_shown.told sunk now (meaning kept.program ran.held.input steps) (meaning kept.program ran.held.input say.steps) k.1 ran.is_shown.shown.puts);
    }
