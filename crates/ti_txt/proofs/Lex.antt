-- The puts of a text, and where a reader stands behind it, whether or not a put is at fault.
use Rattle.std.proofs.Common.{◌≡◌, ℕ, ◌+◌, ◌-◌, List, [], ◌∷◌, ◌++◌, length, Option, Some, None, refl, sym, ap, ◌∙◌, append_assoc, arith}
use Rattle.ti_txt.specs.Grammar.{Put}
use Rattle.ti_txt.specs.Spots.{put_of, step_of}
use Rattle.ti_txt.specs.declared.spot.Spot.{Spot}
use Rattle.ti_txt.specs.declared.spot.Spot.TheVariants.{Before, Between, Origin, Half, Whole, Ended}

-- a reader stands at a spot, or has stopped at an offset
pub data Ending : Type 0 where
  stands : Spot → Ending
  stops : ℕ → Ending

pub record Lexed : Type 0 where
  pub puts : List Put
  pub ending : Ending

abbrev pub done : List Put → Lexed
done puts = record { puts = puts; ending = stands Ended }

abbrev pub put_at : ℕ → Spot → List Put
put_at at (Whole a v) = put_of (at - 1) a v ∷ []
put_at at Before = []
put_at at (Between next) = []
put_at at (Origin n a) = []
put_at at (Half next high) = []
put_at at Ended = []

abbrev pub prefix : List Put → Lexed → Lexed
prefix puts lexed = record { puts = puts ++ lexed.puts; ending = lexed.ending }

abbrev pub behind : ℕ → Option Spot → (Spot → Lexed) → Lexed
behind at None rest = record { puts = []; ending = stops at }
behind at (Some s) rest = prefix (put_at at s) (rest s)

abbrev pub lex : ℕ → Spot → List ℕ → Lexed
lex at spot [] = record { puts = []; ending = stands spot }
lex at spot (b ∷ text) = behind at (step_of spot b) (λ s. lex (at + 1) s text)

abbrev pub follow : List Put → Ending → (Spot → Lexed) → Lexed
follow puts (stands s) rest = prefix puts (rest s)
follow puts (stops n) rest = record { puts = puts; ending = stops n }

prefix_follow : (a b : List Put) (e : Ending) (rest : Spot → Lexed) → prefix a (follow b e rest) ≡ follow (a ++ b) e rest
prefix_follow a b (stands s) rest = ap (λ puts. let r : Lexed = record { puts = puts; ending = (rest s).ending } in r) (sym (append_assoc a b (rest s).puts))
prefix_follow a b (stops n) rest = refl

follow_same : (puts : List Put) (e : Ending) (f g : Spot → Lexed) → ((s : Spot) → f s ≡ g s) → follow puts e f ≡ follow puts e g
follow_same puts (stands s) f g same = ap (prefix puts) (same s)
follow_same puts (stops n) f g same = refl

joined : (at : ℕ) (o : Option Spot) (b : ℕ) (xs ys : List ℕ)
    → ((t : Spot) → lex (at + 1) t (xs ++ ys) ≡ follow (lex (at + 1) t xs).puts (lex (at + 1) t xs).ending (λ s. lex (at + 1 + length xs) s ys))
    → behind at o (λ s. lex (at + 1) s (xs ++ ys)) ≡ follow (behind at o (λ s. lex (at + 1) s xs)).puts (behind at o (λ s. lex (at + 1) s xs)).ending (λ s. lex (at + length (b ∷ xs)) s ys)
joined at None b xs ys ih = refl
joined at (Some t) b xs ys ih = let e : at + 1 + length xs ≡ at + length (b ∷ xs) = omega arith in
    ap (prefix (put_at at t)) (ih t)
    ∙ prefix_follow (put_at at t) (lex (at + 1) t xs).puts (lex (at + 1) t xs).ending (λ s. lex (at + 1 + length xs) s ys)
    ∙ follow_same (put_at at t ++ (lex (at + 1) t xs).puts) (lex (at + 1) t xs).ending _ _ (λ s. ap (λ n. lex n s ys) e)

-- The lexed text of two texts, one behind the other.
pub lex_append : (at : ℕ) (spot : Spot) (xs ys : List ℕ) → lex at spot (xs ++ ys) ≡ follow (lex at spot xs).puts (lex at spot xs).ending (λ s. lex (at + length xs) s ys)
lex_append at spot [] ys = let e : at ≡ at + 0 = omega arith in ap (λ n. lex n spot ys) e
lex_append at spot (b ∷ xs) ys = joined at (step_of spot b) b xs ys (λ t. lex_append (at + 1) t xs ys)
