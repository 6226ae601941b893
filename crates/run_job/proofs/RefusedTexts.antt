-- Texts of a run that aren't in their grammars, in the order in which they are looked at.
use Rattle.std.proofs.Common.{◌≡◌, ℕ, List, Option, inl, inr, refl, subst}
use Rattle.board_table.specs.declared.board.Board.{Board}
use Rattle.job_parts.specs.Input.{SpellsInput}
use Rattle.ti_txt.specs.Grammar.{Holds}
use Rattle.ti_txt.specs.Image.{Block}
use Rattle.job_files.specs.Answers.{Answer, IsRefusedFor}
use Rattle.job_files.specs.Boards.{IsBoardWith, RefusesBoard}
use Rattle.job_files.specs.Images.{RefusesImage}
use Rattle.job_files.specs.Inputs.{IsBadInput, RefusesText}
use Rattle.job_files.specs.Refusals.{Refusal, board_refused, image_refused, text_refused}
use Rattle.job_files.specs.Text.{Text}
use Rattle.job_files.proofs.Refusing.{refused_on}
use Rattle.run_job.specs.Run.{Run, RunTexts}
use Rattle.run_job.specs.Running.{IsBadSupply, IsBoardText, RefusesRunTexts}

-- a board under a budget is a board
own_board : (budget : Option ℕ) (bytes : Text) (board : Board) → IsBoardWith budget bytes board → IsBoardText bytes
own_board budget bytes board h = (h.own, record { own = h.own; is_board = h.is_board; budget = refl; core = refl; access = refl })

refused_image : (job : Run) (t : RunTexts) (r : Refusal) → RefusesImage t.image r → RefusesRunTexts job t r
refused_image job t (image_refused k at) h = h
refused_image job t r h = absurd h

refused_board : (job : Run) (t : RunTexts) (image : List Block) → Holds t.image image → (r : Refusal) → RefusesBoard t.board r → RefusesRunTexts job t r
refused_board job t image is (board_refused k key) h = ((image, is), h)
refused_board job t image is r h = absurd h

module _ (job : Run) (t : RunTexts) (image : List Block) (is : Holds t.image image) (budget : Option ℕ) (board : Board) (under : IsBoardWith budget t.board board) where
  refused_input : (r : Refusal) → RefusesText (IsBadInput job.input t.input) r → RefusesRunTexts job t r
  refused_input (text_refused n at) h = ((image, is), own_board budget t.board board under, inl h)
  refused_input r h = absurd h

  refused_rows : (input : List ℕ) → SpellsInput t.input input → (r : Refusal) → RefusesText (IsBadSupply job.supplies t.supplies) r → RefusesRunTexts job t r
  refused_rows input spells (text_refused n at) h = ((image, is), own_board budget t.board board under, inr ((input, spells), h))
  refused_rows input spells r h = absurd h

-- ---- The same of texts that are these, unless there is no memory

pub image_refuses : (job : Run) (t : RunTexts) (image : Text) (a : Answer) → image ≡ t.image → IsRefusedFor (RefusesImage image) a → IsRefusedFor (RefusesRunTexts job t) a
image_refuses job t image a e h =
    refused_on (RefusesImage t.image) (RefusesRunTexts job t) (refused_image job t) a (subst (λ x. IsRefusedFor (RefusesImage x) a) e h)

pub board_refuses : (job : Run) (t : RunTexts) (image board : Text) (a : Answer) → image ≡ t.image → board ≡ t.board → (blocks : List Block) → Holds image blocks → IsRefusedFor (RefusesBoard board) a
    → IsRefusedFor (RefusesRunTexts job t) a
board_refuses job t image board a e f blocks is h =
    refused_on (RefusesBoard t.board) (RefusesRunTexts job t) (refused_board job t blocks (subst (λ x. Holds x blocks) e is)) a (subst (λ x. IsRefusedFor (RefusesBoard x) a) f h)

pub input_refuses : (job : Run) (t : RunTexts) (image board input : Text) (budget : Option ℕ) (a : Answer) → image ≡ t.image → board ≡ t.board → input ≡ t.input → (blocks : List Block) (own : Board) → Holds image blocks
    → IsBoardWith budget board own → IsRefusedFor (RefusesText (IsBadInput job.input input)) a → IsRefusedFor (RefusesRunTexts job t) a
input_refuses job t image board input budget a e f g blocks own is under h =
    refused_on (RefusesText (IsBadInput job.input t.input)) (RefusesRunTexts job t)
    (refused_input job t blocks (subst (λ x. Holds x blocks) e is) budget own (subst (λ x. IsBoardWith budget x own) f under)) a
    (subst (λ x. IsRefusedFor (RefusesText (IsBadInput job.input x)) a) g h)

pub rows_refuse : (job : Run) (t : RunTexts) (image board input : Text) (supplies : List Text) (budget : Option ℕ) (a : Answer) → image ≡ t.image → board ≡ t.board → input ≡ t.input → supplies ≡ t.supplies
    → (blocks : List Block) (own : Board) (words : List ℕ) → Holds image blocks → IsBoardWith budget board own → SpellsInput input words → IsRefusedFor (RefusesText (IsBadSupply job.supplies supplies)) a
    → IsRefusedFor (RefusesRunTexts job t) a
rows_refuse job t image board input supplies budget a e f g i blocks own words is under spells h =
    refused_on (RefusesText (IsBadSupply job.supplies t.supplies)) (RefusesRunTexts job t)
    (refused_rows job t blocks (subst (λ x. Holds x blocks) e is) budget own (subst (λ x. IsBoardWith budget x own) f under) words (subst (λ x. SpellsInput x words) g spells)) a
    (subst (λ x. IsRefusedFor (RefusesText (IsBadSupply job.supplies x)) a) i h)
