-- Which texts spell certificates, and where another one has its first bad line.
use Rattle.std.specs.Prelude.{ℕ, ◌≡◌, ◌⊎◌, false, ◌==◌, List, [], ◌∷◌, ◌++◌, length}
use Rattle.certificate.specs.declared.fault.CertText.{CertText}
use Rattle.certificate.specs.declared.fault.CertText.TheVariants as fault
use Rattle.certificate.specs.Rows.{Certificate}
use Rattle.certificate.specs.Grammar.{IsCertificate}
use Rattle.certificate.specs.Spelling.{text_of}

-- The text is the certificate's.
pub record Holds (text : List ℕ) (c : Certificate) : Type 0 where
  pub is : IsCertificate c
  pub spelt : text ≡ text_of c

-- some certificate's text begins so
pub record Begins (front : List ℕ) : Type 0 where
  pub whole : Certificate
  pub more : List ℕ
  pub holds : Holds (front ++ more) whole

-- the mark stands nowhere in the text
abbrev pub Lacks : ℕ → List ℕ → Type 0
Lacks mark [] = Unit {0}
Lacks mark (b ∷ text) = ((b == mark) ≡ false) × Lacks mark text

-- nothing, or lines that each end in a line feed
abbrev pub AreWhole : List ℕ → Type 0
AreWhole [] = Unit {0}
AreWhole (b ∷ []) = b ≡ 10
AreWhole (b ∷ c ∷ text) = AreWhole (c ∷ text)

-- The first line with which no certificate goes on, or that has no line feed: the lines before it begin a certificate's
-- text, and with it they begin none; or it is what is left behind the last line feed, and the text is no certificate's.
pub record BadLineAt (text : List ℕ) (at : ℕ) : Type 0 where
  pub before : List ℕ
  pub line : List ℕ
  pub behind : List ℕ
  pub place : at ≡ length before
  pub starts : AreWhole before
  pub one_line : Lacks 10 line
  pub good : Begins before
  pub bad : ((text ≡ before ++ line) × ((c : Certificate) → Holds text c → ⊥)) ⊎ ((text ≡ before ++ (line ++ 10 ∷ behind)) × (Begins (before ++ (line ++ 10 ∷ [])) → ⊥))

-- why a text wasn't read; nothing is said of want of memory
abbrev pub IsFaultOf : List ℕ → CertText → Type 0
IsFaultOf text (fault.BadLine at) = BadLineAt text at
IsFaultOf text fault.Memory = Unit {0}
