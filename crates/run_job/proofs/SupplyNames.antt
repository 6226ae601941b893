-- Supplies that are read one behind another, by their names.
use Rattle.std.proofs.Common.{◌≡◌, ◌∙◌, ◌+◌, ◌-◌, ◌<◌, ◌≤◌, ◌++◌, ℕ, List, [], ◌∷◌, Option, IfSome, length, length-append, map, get_or, take, drop, sym, ap, subst, arith}
use Rattle.std.proofs.lemmas.List.{map-append}
use Rattle.std.proofs.Math.Seq.{take-length}
use Rattle.base_io.specs.Files.{Files}
use Rattle.job_files.specs.Answers.{Answer}
use Rattle.job_files.specs.Reads.{AreHad, AreNotHad, CountsUnhad, CountsUnread, IsHad, IsUnread, Wanted, most_input, wanted}
use Rattle.job_files.specs.Text.{Text}
use Rattle.job_files.proofs.Gathering.{IsGathered, counts_lost, gathered, gathered_more, lost}
use Rattle.run_job.specs.Opening.{AreShort, supplies_wanted}

-- ---- Short texts

pub short_more : (texts : List Text) (text : Text) → AreShort texts → length text ≤ most_input → AreShort (texts ++ text ∷ [])
short_more [] text h k = (k, tt)
short_more (t ∷ texts) text h k = (h.0, short_more texts text h.1 k)

-- ---- Names in a slice, whose first is taken

abbrev pub behind_first : {S : Type 0} → List S → List S
behind_first xs = take (length xs - 1) (drop 1 xs)

pub all_behind : {S : Type 0} (x : S) (xs : List S) → behind_first (x ∷ xs) ≡ xs
all_behind x xs = ap (λ n. take n xs) (let e : length (x ∷ xs) - 1 ≡ length xs = omega arith in e) ∙ take-length xs

pub number_behind : {S : Type 0} (xs : List S) → 1 ≤ length xs → length (behind_first xs) + 1 ≡ length xs
number_behind [] some = absurd (omega (arith, some))
number_behind (x ∷ xs) some = let e = ap length (all_behind x xs) in omega (arith, e)

module _ {S : Type 0} (now : S → Text) (o : Option Files) (all : List Wanted) where
  pub names_all : (xs : List S) (texts : List Text) → length xs < 1 → IsGathered o all (supplies_wanted (map now xs)) texts → IfSome o (λ f. AreHad f all texts)
  names_all [] texts none g = gathered o all texts g
  names_all (x ∷ xs) texts none g = absurd (omega (arith, none))

  pub names_lost : (here : Option Files) (xs : List S) (d : S) (texts : List Text) (a : Answer) → here ≡ o → 1 ≤ length xs → IsGathered o all (supplies_wanted (map now xs)) texts
      → IfSome here (λ f. IsUnread f most_input (now (get_or xs 0 d)) a) → IfSome o (λ f. AreNotHad f all a)
  names_lost here [] d texts a e some g h = absurd (omega (arith, some))
  names_lost here (x ∷ xs) d texts a e some g h =
      lost o all (supplies_wanted (map now xs)) (wanted most_input (now x)) texts a g (subst (λ k. IfSome k (λ f. IsUnread f most_input (now x) a)) e h)

  pub names_counts : (xs : List S) (d : S) (texts : List Text) (start before count : ℕ) (bad : Text) (a : Answer) → before ≡ start → 1 ≤ length xs
      → IsGathered o all (supplies_wanted (map now xs)) texts → CountsUnread most_input (now (get_or xs 0 d)) before count bad a → CountsUnhad all start count bad a
  names_counts [] d texts start before count bad a e some g h = absurd (omega (arith, some))
  names_counts (x ∷ xs) d texts start before count bad a e some g h =
      counts_lost o all (supplies_wanted (map now xs)) (wanted most_input (now x)) texts start before count bad a e g h

  pub names_more : {V : Type 0} (items : V → Text) (here : Option Files) (xs : List S) (d : S) (texts texts' : List V) (text : V) → here ≡ o → 1 ≤ length xs → texts' ≡ texts ++ text ∷ []
      → IsGathered o all (supplies_wanted (map now xs)) (map items texts) → IfSome here (λ f. IsHad f most_input (now (get_or xs 0 d)) (items text))
      → IsGathered o all (supplies_wanted (map now (behind_first xs))) (map items texts')
  names_more items here [] d texts texts' text e some is g h = absurd (omega (arith, some))
  names_more items here (x ∷ xs) d texts texts' text e some is g h =
      let one = gathered_more o all (supplies_wanted (map now xs)) (wanted most_input (now x)) (items text) (map items texts) g
      (subst (λ k. IfSome k (λ f. IsHad f most_input (now x) (items text))) e h) in
      let same : map items texts ++ items text ∷ [] ≡ map items texts' = sym (ap (map items) is ∙ map-append items texts (text ∷ [])) in
      subst (λ l. IsGathered o all (supplies_wanted (map now l)) (map items texts')) (sym (all_behind x xs))
      (subst (IsGathered o all (supplies_wanted (map now xs))) same one)

pub texts_short : {V : Type 0} (items : V → Text) (texts texts' : List V) (text : V) → texts' ≡ texts ++ text ∷ [] → AreShort (map items texts) → length (items text) ≤ most_input → AreShort (map items texts')
texts_short items texts texts' text is h k =
    subst AreShort (sym (ap (map items) is ∙ map-append items texts (text ∷ []))) (short_more (map items texts) (items text) h k)

pub one_more_number : {S V : Type 0} (xs : List S) (texts texts' : List V) (text : V) (n : ℕ) → texts' ≡ texts ++ text ∷ [] → 1 ≤ length xs → length texts + length xs ≡ n
    → length texts' + length (behind_first xs) ≡ n
one_more_number xs texts texts' text n is some h =
    let longer = ap length is in
    let both = length-append texts (text ∷ []) in
    let left = number_behind xs some in
    omega (arith, longer, both, left, h)
