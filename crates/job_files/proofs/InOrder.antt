-- Files that are read in the order of a list, from the first on.
use Rattle.std.proofs.Common.{◌≡◌, ◌++◌, ℕ, List, [], ◌∷◌, Option, IfSome, subst}
use Rattle.base_io.specs.Files.{Files}
use Rattle.job_files.specs.Answers.{Answer}
use Rattle.job_files.specs.Reads.{AreHad, AreNotHad, CountsUnhad, CountsUnread, IsHad, IsUnread, Wanted}
use Rattle.job_files.specs.Text.{Text}
use Rattle.job_files.proofs.Gathering.{IsGathered, counts_lost, counts_rest, gathered_all, gathered_more, lost, lost_rest}

module _ (o : Option Files) (all : List Wanted) where
  pub after : (here : Option Files) (rest : List Wanted) (w : Wanted) (text : Text) (texts : List Text) → here ≡ o → IsGathered o all (w ∷ rest) texts → IfSome here (λ f. IsHad f w.most w.name text)
      → IsGathered o all rest (texts ++ text ∷ [])
  after here rest w text texts e g h = gathered_more o all rest w text texts g (subst (λ k. IfSome k (λ f. IsHad f w.most w.name text)) e h)

  pub not_had : (here : Option Files) (rest : List Wanted) (w : Wanted) (texts : List Text) (a : Answer) → here ≡ o → IsGathered o all (w ∷ rest) texts → IfSome here (λ f. IsUnread f w.most w.name a)
      → IfSome o (λ f. AreNotHad f all a)
  not_had here rest w texts a e g h = lost o all rest w texts a g (subst (λ k. IfSome k (λ f. IsUnread f w.most w.name a)) e h)

  pub not_counted : (rest : List Wanted) (w : Wanted) (texts : List Text) (start before now : ℕ) (bad : Text) (a : Answer) → before ≡ start → IsGathered o all (w ∷ rest) texts
      → CountsUnread w.most w.name before now bad a → CountsUnhad all start now bad a
  not_counted rest w texts start before now bad a e g h = counts_lost o all rest w texts start before now bad a e g h

  -- the same of what is read behind, all in one
  pub rest_not_had : (here : Option Files) (rest : List Wanted) (texts : List Text) (a : Answer) → here ≡ o → IsGathered o all rest texts → IfSome here (λ f. AreNotHad f rest a)
      → IfSome o (λ f. AreNotHad f all a)
  rest_not_had here rest texts a e g h = lost_rest o all rest texts a g (subst (λ k. IfSome k (λ f. AreNotHad f rest a)) e h)

  pub rest_not_counted : (rest : List Wanted) (texts : List Text) (start before now : ℕ) (bad : Text) (a : Answer) → before ≡ start → IsGathered o all rest texts
      → CountsUnhad rest before now bad a → CountsUnhad all start now bad a
  rest_not_counted rest texts start before now bad a e g h = counts_rest o all rest texts start before now bad a e g h

  pub all_had : (here : Option Files) (rest : List Wanted) (texts more : List Text) → here ≡ o → IsGathered o all rest texts → IfSome here (λ f. AreHad f rest more)
      → IfSome o (λ f. AreHad f all (texts ++ more))
  all_had here rest texts more e g h = gathered_all o all rest texts more g (subst (λ k. IfSome k (λ f. AreHad f rest more)) e h)
