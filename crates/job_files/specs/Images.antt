-- Texts that are no images.
use Rattle.std.specs.Prelude.{ℕ}
use Rattle.ti_txt.specs.Grammar.{Faulty}
use Rattle.ti_txt.specs.declared.fault.TxtFault.TheVariants as txt
use Rattle.job_files.specs.declared.refusal.ImageRefusal.TheVariants as kind
use Rattle.job_files.specs.Refusals.{Refusal, image_refused}
use Rattle.job_files.specs.Text.{Text}
use Rattle.job_files.specs.declared.refusal.ImageRefusal.{ImageRefusal}

-- the text is no image, for this reason
abbrev pub IsNoImage : Text → ImageRefusal → ℕ → Type 0
IsNoImage text kind.BadByte at = Faulty text (txt.BadByte at)
IsNoImage text kind.Overlap at = Faulty text (txt.Overlap at)
IsNoImage text kind.PastEnd at = Faulty text (txt.PastEnd at)
IsNoImage text kind.Unmapped at = Faulty text (txt.Unmapped at)
IsNoImage text kind.NoEnd at = Faulty text (txt.NoEnd at)

-- the text is refused as an image
abbrev pub RefusesImage : Text → Refusal → Type 0
RefusesImage text (image_refused fault at) = IsNoImage text fault at
RefusesImage text r = ⊥
