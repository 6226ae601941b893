-- A build that was done keeps the whole promise.
use Rattle.std.proofs.Common.{List, Option, Some, None, inl, inr, ⊎_elim}
use Rattle.base_io.specs.Files.{Files}
use Rattle.lowered_images.specs.Images.{AreLoweredHeld, AreLoweredImages, IsImageOf, LoweredImagesAgree, LoweredImagesEndure}
use Rattle.job_files.specs.Answers.{done}
use Rattle.job_files.specs.Text.{Text}
use Rattle.build_job.specs.Build.{Build}
use Rattle.build_job.specs.Building.{AreFine}
use Rattle.commands.specs.Headline.{IsKept, IsKeptTold}
use Rattle.commands.specs.Left.{AskedAndBuilt, AsksNoWrite, LeavesTold}
use Rattle.commands.specs.Words.{AskBuild}
use Rattle.commands.proofs.Asks.{build_or_check, build_or_plan, build_or_run, build_or_say}

module _ (agree : LoweredImagesAgree) (endure : LoweredImagesEndure) (images : AreLoweredImages) (held : AreLoweredHeld) (words : List Text) where
  -- the image that was built is the image of its program
  image_of : (job : Build) (files : Files) (h : AreFine job files) → IsImageOf h.board h.program h.image
  image_of job files h = record {
    sound = h.fine.given.program.sound;
    scoped = h.fine.given.program.scoped;
    few = h.fine.given.program.is_text.few;
    alone = h.fine.given.program.alone;
    emitted = h.fine.emitted;
  }

  kept : (old new : Files) → AskedAndBuilt words old new → IsKept words old new
  kept old new (job, e, b) =
      let is = image_of job old b.are in
      record {
        job = job;
        asks = e;
        text = b.are.text;
        program_file = b.are.read.0.there;
        program = b.are.program;
        is_program = b.are.fine.given.program.is_text;
        bytes = b.are.bytes;
        board_file = b.are.read.1.0.there;
        board = b.are.board;
        is_board = b.are.fine.given.board_file;
        image = b.are.image;
        is_image = images b.are.board b.are.program b.are.image is;
        held = held b.are.board b.are.program b.are.image is;
        written = b.written;
        agrees = agree b.are.board b.are.program b.are.image is;
        endures = endure b.are.board b.are.program b.are.image is;
      }

  pub kept_told : (job : Build) → AskBuild words job → (old new : Option Files) → LeavesTold words done old new → IsKeptTold words old new
  kept_told job asks None None h = tt
  kept_told job asks (Some old) None h = h
  kept_told job asks None (Some new) h = h
  kept_told job asks (Some old) (Some new) h = ⊎_elim (kept old new) (λ kept. absurd (no_build kept.0)) h
    where
      no_build : AsksNoWrite words → ⊥
      no_build (inl ran) = build_or_run words job ran.0 asks ran.1
      no_build (inr (inl said)) = build_or_say words job said.0 asks said.1
      no_build (inr (inr (inl checked))) = build_or_check words job checked.0 asks checked.1
      no_build (inr (inr (inr planned))) = build_or_plan words job planned.0 asks planned.1
