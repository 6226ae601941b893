-- The files that a job reads, one behind another.
use Rattle.std.specs.Prelude.{◌≡◌, ◌<◌, ◌≤◌, ◌⊎◌, ◌+◌, ℕ, List, [], ◌∷◌, length, Some, IsSomeAnd, ⊤}
use Rattle.base_io.specs.Counts.{Rose}
use Rattle.base_io.specs.Files.{Files}
use Rattle.job_files.specs.Answers.{Answer, no_memory, read_fault, refused, too_large}
use Rattle.job_files.specs.Refusals.{Refusal}
use Rattle.job_files.specs.Text.{Text}

-- ---- The most bytes of a file

-- of the text of a program
abbrev pub most_program : ℕ
most_program = 65536

-- of a board file
abbrev pub most_board : ℕ
most_board = 65536

-- of the text of an image
abbrev pub most_image : ℕ
most_image = 262144

-- of a certificate
abbrev pub most_certificate : ℕ
most_certificate = 8388608

-- of an input, or of a supply
abbrev pub most_input : ℕ
most_input = 4194304

-- ---- Files

-- the file is there, and has at most so many bytes
pub record IsHad (files : Files) (most : ℕ) (name text : Text) : Type 0 where
  pub there : files name ≡ Some text
  pub short : length text ≤ most

-- a file that a job reads, with the bytes that it may have
pub record Wanted : Type 0 where
  pub name : Text
  pub most : ℕ

abbrev pub wanted : ℕ → Text → Wanted
wanted most name = record { name = name; most = most }

-- two files, in this order
abbrev pub two_wanted : ℕ → Text → ℕ → Text → List Wanted
two_wanted most name other_most other = wanted most name ∷ wanted other_most other ∷ []

abbrev pub two_texts : Text → Text → List Text
two_texts first second = first ∷ second ∷ []

-- the file is one of those that are wanted
abbrev pub IsAmong : List Wanted → Wanted → Type 0
IsAmong [] w = ⊥
IsAmong (first ∷ behind) w = (w ≡ first) ⊎ IsAmong behind w

-- the file is one of those that are wanted, and those before it are had
abbrev pub IsReached : Files → List Wanted → Wanted → Type 0
IsReached files [] w = ⊥
IsReached files (first ∷ behind) w = (w ≡ first) ⊎ (((text : Text) × IsHad files first.most first.name text) × IsReached files behind w)

-- all are had, and these are their texts
abbrev pub AreHad : Files → List Wanted → List Text → Type 0
AreHad files [] [] = ⊤
AreHad files (w ∷ behind) (text ∷ texts) = IsHad files w.most w.name text × AreHad files behind texts
AreHad files [] (text ∷ texts) = ⊥
AreHad files (w ∷ behind) [] = ⊥

-- ---- Files that aren't had

-- why a file of so many bytes at most isn't read, by what the store tells of it
abbrev pub IsUnread : Files → ℕ → Text → Answer → Type 0
IsUnread files most name (read_fault n) = n ≡ name
IsUnread files most name (too_large n seen) = (n ≡ name) × IsSomeAnd (files name) (λ text. most < length text) × (seen ≡ most + 1)
IsUnread files most name no_memory = ⊤
IsUnread files most name a = ⊥

-- and by its count
abbrev pub CountsUnread : ℕ → Text → ℕ → ℕ → Text → Answer → Type 0
CountsUnread most name before now bad (read_fault n) = (n ≡ name) × (bad ≡ name) × Rose before now
CountsUnread most name before now bad (too_large n seen) = (n ≡ name) × (seen ≡ most + 1) × (now ≡ before)
CountsUnread most name before now bad no_memory = ⊤
CountsUnread most name before now bad a = ⊥

-- a file is reached that has this name
abbrev pub IsReachedName : Files → List Wanted → Text → Type 0
IsReachedName files ws name = (w : Wanted) × IsReached files ws w × (name ≡ w.name)

-- a file of this name is reached that has more bytes than it may have, and one more than it may have was seen
abbrev pub IsTooLarge : Files → List Wanted → Text → ℕ → Type 0
IsTooLarge files ws name seen =
    (w : Wanted) × IsReached files ws w × (name ≡ w.name) × IsSomeAnd (files w.name) (λ text. w.most < length text) × (seen ≡ w.most + 1)

-- why not all of these files are had, by what the store tells of them
abbrev pub AreNotHad : Files → List Wanted → Answer → Type 0
AreNotHad files ws (read_fault name) = IsReachedName files ws name
AreNotHad files ws (too_large name seen) = IsTooLarge files ws name seen
AreNotHad files ws no_memory = ⊤
AreNotHad files ws a = ⊥

-- and by its count
abbrev pub CountsUnhad : List Wanted → ℕ → ℕ → Text → Answer → Type 0
CountsUnhad ws before now bad (read_fault name) = ((w : Wanted) × IsAmong ws w × (name ≡ w.name)) × (name ≡ bad) × Rose before now
CountsUnhad ws before now bad (too_large name seen) = ((w : Wanted) × IsAmong ws w × (name ≡ w.name) × (seen ≡ w.most + 1)) × (now ≡ before)
CountsUnhad ws before now bad no_memory = ⊤
CountsUnhad ws before now bad a = ⊥

-- ---- A job that doesn't begin

-- Why a job that reads these files answers before it begins: not all are had, or what they hold is refused for this.
abbrev pub ReadingCauses : Files → List Wanted → (Refusal → Type 0) → Answer → Type 0
ReadingCauses files ws P (refused r) = P r
ReadingCauses files ws P a = AreNotHad files ws a

-- And by the count of reads that failed. That some texts are refused so holds also of a store that doesn't tell its files.
abbrev pub CountsReading : List Wanted → (Refusal → Type 0) → ℕ → ℕ → Text → Answer → Type 0
CountsReading ws P before now bad (refused r) = P r × (now ≡ before)
CountsReading ws P before now bad a = CountsUnhad ws before now bad a
