-- Texts that are appended one behind another.
use Rattle.std.proofs.Common.{suc, get_or, ◌<◌, [], ◌∷◌, ◌≡◌, List, ◌++◌, ℕ, Ok, Err, ap, ◌∙◌, append_assoc}
use Rattle.std.specs.Prelude.{Result}
use Rattle.ti_txt.specs.Spelling.{Appends, Fit}

-- What was appended behind some text was appended.
pub grown : (done old mid new : List ℕ) → mid ≡ old ++ done → (more : List ℕ) × (new ≡ mid ++ more) → (more : List ℕ) × (new ≡ old ++ more)
grown done old mid new first second = (done ++ second.0, second.1 ∙ ap (λ m. m ++ second.0) first ∙ append_assoc old done second.0)

-- An Ok, and then another text.
pub appends_more : {U E : Type 0} (a b : List ℕ) (r : Result U E) (old mid new : List ℕ) → mid ≡ old ++ a → Appends b r mid new → Appends (a ++ b) r old new
appends_more a b (Ok u) old mid new first second = second ∙ ap (λ m. m ++ b) first ∙ append_assoc old a b
appends_more a b (Err e) old mid new first second = grown a old mid new first second

-- bytes that fit eight bits, each by its place
pub fit_all : (bytes : List ℕ) → ((i : ℕ) → get_or bytes i 0 < 256) → Fit bytes
fit_all [] h = tt
fit_all (b ∷ bytes) h = (h 0, fit_all bytes (λ i. h (suc i)))
