-- A line that goes on.
use Rattle.std.proofs.Common.{◌≡◌, ◌==◌, ◌++◌, ℕ, List, [], false, ap, sym}
use Rattle.std.specs.Prelude.{Option, None}
use Rattle.std.specs.List.{list_any}
use Rattle.certificate.specs.declared.state.Stage.{Stage}
use Rattle.certificate.specs.Line.{Line}
use Rattle.certificate.specs.Texts.{Lacks}
use Rattle.certificate.specs.Reading.{IsGoing, Progress, fed, going, progress_of, read_lines, read_text}
use Rattle.certificate.proofs.Feeds.{none_lacks}
use Rattle.certificate.proofs.Lists.{part_alone}
use Rattle.certificate.proofs.Marks.{lacks_append}

pub longer_lacks : (line piece : List ℕ) → Lacks 10 line → list_any (λ b. b == 10) piece ≡ false → Lacks 10 (line ++ piece)
longer_lacks line piece l e = lacks_append 10 line piece l (none_lacks 10 piece e)

-- without a line feed there are no rows
pub unfinished : (s : Stage) (at : ℕ) (line piece : List ℕ) → Lacks 10 line → list_any (λ b. b == 10) piece ≡ false → read_text s at (line ++ piece) ≡ ([], going s (line ++ piece) at)
unfinished s at line piece l e = ap (read_lines s at) (part_alone 10 (line ++ piece) (longer_lacks line piece l e))

pub goes_on : (p : Progress) (bad : Option ℕ) (s : Stage) (at : ℕ) (line piece long : List ℕ) (rows : List Line) → p ≡ progress_of bad s line at → bad ≡ None → Lacks 10 line → list_any (λ b. b == 10) piece ≡ false → long ≡ line ++ piece → rows ≡ []
    → (rows ≡ (fed p piece).0) × ((fed p piece).1 ≡ progress_of bad s long at) × IsGoing (progress_of bad s long at)
goes_on p bad s at line piece long rows v b l n e r =
    let u = unfinished s at line piece l n in
    rw v (rw b (rw e (rw r (sym (ap (λ t. t.0) u), ap (λ t. t.1) u, tt))))
