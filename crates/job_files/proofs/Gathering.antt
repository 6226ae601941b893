-- Files that are read one behind another.
use Rattle.std.proofs.Common.{◌≡◌, ◌∙◌, ◌++◌, ℕ, List, [], ◌∷◌, Option, Some, None, IfSome, sym, subst, inl, inr, refl, append_assoc, append-nil}
use Rattle.base_io.specs.Counts.{Rose}
use Rattle.base_io.specs.Files.{Files}
use Rattle.job_files.specs.Answers.{Answer, no_memory, read_fault, too_large}
use Rattle.job_files.specs.Reads.{AreHad, AreNotHad, CountsUnhad, CountsUnread, IsAmong, IsHad, IsReached, IsUnread, Wanted}
use Rattle.job_files.specs.Text.{Text}
use Rattle.job_files.proofs.Telling.{both_told, fill, map_told}

-- Of all the files that are wanted these texts were had, and the rest is still to be read.
pub record IsGathered (o : Option Files) (all rest : List Wanted) (texts : List Text) : Type 0 where
  pub had : (more : List Text) → IfSome o (λ f. AreHad f rest more → AreHad f all (texts ++ more))
  pub reached : (w : Wanted) → IfSome o (λ f. IsReached f rest w → IsReached f all w)
  pub among : (w : Wanted) → IsAmong rest w → IsAmong all w

pub gathered_none : (o : Option Files) (all : List Wanted) → IsGathered o all all []
gathered_none o all = record {
  had = λ more. fill o (λ f. AreHad f all more → AreHad f all more) (λ f h. h);
  reached = λ w. fill o (λ f. IsReached f all w → IsReached f all w) (λ f h. h);
  among = λ w h. h;
}

pub gathered_more : (o : Option Files) (all rest : List Wanted) (w : Wanted) (text : Text) (texts : List Text) → IsGathered o all (w ∷ rest) texts
    → IfSome o (λ f. IsHad f w.most w.name text) → IsGathered o all rest (texts ++ text ∷ [])
gathered_more o all rest w text texts g h = record {
  had = λ more. both_told o (λ f. AreHad f (w ∷ rest) (text ∷ more) → AreHad f all (texts ++ text ∷ more)) (λ f. IsHad f w.most w.name text)
      (λ f. AreHad f rest more → AreHad f all ((texts ++ text ∷ []) ++ more))
      (λ f step here others. subst (AreHad f all) (sym (append_assoc texts (text ∷ []) more)) (step (here, others))) (g.had (text ∷ more)) h;
  reached = λ v. both_told o (λ f. IsReached f (w ∷ rest) v → IsReached f all v) (λ f. IsHad f w.most w.name text) (λ f. IsReached f rest v → IsReached f all v)
      (λ f step here others. step (inr ((text, here), others))) (g.reached v) h;
  among = λ v others. g.among v (inr others);
}

-- the rest is had too
pub gathered_all : (o : Option Files) (all rest : List Wanted) (texts more : List Text) → IsGathered o all rest texts → IfSome o (λ f. AreHad f rest more) → IfSome o (λ f. AreHad f all (texts ++ more))
gathered_all o all rest texts more g h =
    both_told o (λ f. AreHad f rest more → AreHad f all (texts ++ more)) (λ f. AreHad f rest more) (λ f. AreHad f all (texts ++ more)) (λ f step here. step here) (g.had more) h

-- nothing is left to be read
pub gathered : (o : Option Files) (all : List Wanted) (texts : List Text) → IsGathered o all [] texts → IfSome o (λ f. AreHad f all texts)
gathered o all texts g =
    map_told o (λ f. AreHad f all (texts ++ [])) (λ f. AreHad f all texts) (λ f h. subst (AreHad f all) (append-nil texts) h)
    (gathered_all o all [] texts [] g (fill o (λ f. AreHad f [] []) (λ f. tt)))

-- ---- A file that isn't had

pub lost_here : (f : Files) (w : Wanted) (rest : List Wanted) (a : Answer) → IsUnread f w.most w.name a → AreNotHad f (w ∷ rest) a
lost_here f w rest (read_fault n) h = (w, inl refl, h)
lost_here f w rest (too_large n seen) h = (w, inl refl, h.0, h.1, h.2)
lost_here f w rest no_memory h = tt
lost_here f w rest a h = absurd h

pub lost_later : (f : Files) (all rest : List Wanted) → ((w : Wanted) → IsReached f rest w → IsReached f all w) → (a : Answer) → AreNotHad f rest a → AreNotHad f all a
lost_later f all rest on (read_fault n) h = (h.0, on h.0 h.1, h.2)
lost_later f all rest on (too_large n seen) h = (h.0, on h.0 h.1, h.2, h.3, h.4)
lost_later f all rest on no_memory h = tt
lost_later f all rest on a h = absurd h

reach_all : (o : Option Files) (all rest : List Wanted) (texts : List Text) → IsGathered o all rest texts → IfSome o (λ f. (w : Wanted) → IsReached f rest w → IsReached f all w)
reach_all None all rest texts g = tt
reach_all (Some f) all rest texts g = g.reached

pub lost_rest : (o : Option Files) (all rest : List Wanted) (texts : List Text) (a : Answer) → IsGathered o all rest texts → IfSome o (λ f. AreNotHad f rest a) → IfSome o (λ f. AreNotHad f all a)
lost_rest o all rest texts a g h =
    both_told o (λ f. (w : Wanted) → IsReached f rest w → IsReached f all w) (λ f. AreNotHad f rest a) (λ f. AreNotHad f all a) (λ f on here. lost_later f all rest on a here) (reach_all o all rest texts g) h

pub lost : (o : Option Files) (all rest : List Wanted) (w : Wanted) (texts : List Text) (a : Answer) → IsGathered o all (w ∷ rest) texts → IfSome o (λ f. IsUnread f w.most w.name a) → IfSome o (λ f. AreNotHad f all a)
lost o all rest w texts a g h =
    lost_rest o all (w ∷ rest) texts a g (map_told o (λ f. IsUnread f w.most w.name a) (λ f. AreNotHad f (w ∷ rest) a) (λ f. lost_here f w rest a) h)

-- ---- and its count

pub counts_here : (w : Wanted) (before now : ℕ) (bad : Text) (rest : List Wanted) (a : Answer) → CountsUnread w.most w.name before now bad a → CountsUnhad (w ∷ rest) before now bad a
counts_here w before now bad rest (read_fault n) h = ((w, inl refl, h.0), h.0 ∙ sym h.1, h.2)
counts_here w before now bad rest (too_large n seen) h = ((w, inl refl, h.0, h.1), h.2)
counts_here w before now bad rest no_memory h = tt
counts_here w before now bad rest a h = absurd h

pub counts_rest : (o : Option Files) (all rest : List Wanted) (texts : List Text) (start before now : ℕ) (bad : Text) (a : Answer) → before ≡ start → IsGathered o all rest texts
    → CountsUnhad rest before now bad a → CountsUnhad all start now bad a
counts_rest o all rest texts start before now bad (read_fault n) e g h = ((h.0.0, g.among h.0.0 h.0.1, h.0.2), h.1, subst (λ k. Rose k now) e h.2)
counts_rest o all rest texts start before now bad (too_large n seen) e g h = ((h.0.0, g.among h.0.0 h.0.1, h.0.2, h.0.3), h.1 ∙ e)
counts_rest o all rest texts start before now bad no_memory e g h = tt
counts_rest o all rest texts start before now bad a e g h = absurd h

pub counts_lost : (o : Option Files) (all rest : List Wanted) (w : Wanted) (texts : List Text) (start before now : ℕ) (bad : Text) (a : Answer) → before ≡ start → IsGathered o all (w ∷ rest) texts
    → CountsUnread w.most w.name before now bad a → CountsUnhad all start now bad a
counts_lost o all rest w texts start before now bad a e g h = counts_rest o all (w ∷ rest) texts start before now bad a e g (counts_here w before now bad rest a h)
