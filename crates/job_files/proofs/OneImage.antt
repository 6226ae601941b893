-- A text holds one image, or has one fault.
use Rattle.std.proofs.Common.{◌≡◌, ◌∙◌, ℕ, List, sym, ap, refl}
use Rattle.ti_txt.specs.Grammar.{Faulty, Holds}
use Rattle.ti_txt.specs.Image.{Block}
use Rattle.ti_txt.specs.declared.fault.TxtFault.{TxtFault}
use Rattle.ti_txt.specs.declared.fault.TxtFault.TheVariants as txt
use Rattle.ti_txt.proofs.Loading.{holds_no_fault, one_fault}
use Rattle.job_files.specs.declared.refusal.ImageRefusal.TheVariants as kind
use Rattle.job_files.specs.Images.{IsNoImage}
use Rattle.job_files.specs.Refusals.{Refusal, form_not_built, image_refused}
use Rattle.job_files.specs.Text.{Text}
use Rattle.job_files.specs.declared.refusal.ImageRefusal.{ImageRefusal}

abbrev fault_named : ImageRefusal → ℕ → TxtFault
fault_named kind.BadByte at = txt.BadByte at
fault_named kind.Overlap at = txt.Overlap at
fault_named kind.PastEnd at = txt.PastEnd at
fault_named kind.Unmapped at = txt.Unmapped at
fault_named kind.NoEnd at = txt.NoEnd at

faulty_as : (text : Text) (k : ImageRefusal) (at : ℕ) → IsNoImage text k at → Faulty text (fault_named k at)
faulty_as text kind.BadByte at h = h
faulty_as text kind.Overlap at h = h
faulty_as text kind.PastEnd at h = h
faulty_as text kind.Unmapped at h = h
faulty_as text kind.NoEnd at h = h

abbrev refused_by : TxtFault → Refusal
refused_by (txt.BadByte at) = image_refused kind.BadByte at
refused_by (txt.Overlap at) = image_refused kind.Overlap at
refused_by (txt.PastEnd at) = image_refused kind.PastEnd at
refused_by (txt.Unmapped at) = image_refused kind.Unmapped at
refused_by (txt.NoEnd at) = image_refused kind.NoEnd at
refused_by txt.Memory = form_not_built

refusal_is : (k : ImageRefusal) (at : ℕ) → image_refused k at ≡ refused_by (fault_named k at)
refusal_is kind.BadByte at = refl
refusal_is kind.Overlap at = refl
refusal_is kind.PastEnd at = refl
refusal_is kind.Unmapped at = refl
refusal_is kind.NoEnd at = refl

pub image_same : (text : Text) (k l : ImageRefusal) (m n : ℕ) → IsNoImage text k m → IsNoImage text l n → image_refused k m ≡ image_refused l n
image_same text k l m n h g =
    refusal_is k m ∙ ap refused_by (one_fault text (fault_named k m) (fault_named l n) (faulty_as text k m h) (faulty_as text l n g)) ∙ sym (refusal_is l n)

pub image_or : (text : Text) (image : List Block) (k : ImageRefusal) (at : ℕ) → Holds text image → IsNoImage text k at → ⊥
image_or text image k at h g = holds_no_fault text image (fault_named k at) h (faulty_as text k at g)
