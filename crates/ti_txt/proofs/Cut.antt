-- A text that is cut off before its `q` ends too early.
use Rattle.std.proofs.Common.{◌⊎◌, inl, inr, ⊎_elim, append-nil, ◌≡◌, ℕ, ◌+◌, List, [], ◌∷◌, ◌++◌, length, Option, Some, None, refl, sym, ap, ◌∙◌, true, false, Bool}
use Rattle.std.specs.Prelude.{if◌then◌else◌}
use Rattle.std.specs.Option.{option_or}
use Rattle.ti_txt.specs.Grammar.{EndsEarly, Holds, Put, fault_of, first_fault, given, is_white}
use Rattle.ti_txt.specs.Image.{Block}
use Rattle.ti_txt.specs.declared.fault.TxtFault.{TxtFault}
use Rattle.ti_txt.specs.declared.spot.Spot.{Spot}
use Rattle.ti_txt.specs.declared.spot.Spot.TheVariants.{Before, Between, Origin, Half, Whole, Ended}
use Rattle.ti_txt.proofs.Begins.{stopped}
use Rattle.ti_txt.proofs.Complete.{complete, none_some}
use Rattle.ti_txt.proofs.Lex.{Lexed, Ending, behind, done, follow, lex, lex_append, stands, stops}
use Rattle.ti_txt.proofs.Sound.{done_of, is_text}
use Rattle.ti_txt.proofs.Verdict.{ends_early}

front_on : (o r t : Option TxtFault) → option_or o r ≡ None → (r ≡ None → t ≡ None) → option_or o t ≡ None
front_on None r t e h = h e
front_on (Some f) r t e h = absurd (none_some f (sym e))

-- a front of good puts is good
front_good : (before xs ys : List Put) → first_fault before (xs ++ ys) ≡ None → first_fault before xs ≡ None
front_good before [] ys e = refl
front_good before (p ∷ xs) ys e = front_on (fault_of (given before) p) (first_fault (before ++ p ∷ []) (xs ++ ys)) (first_fault (before ++ p ∷ []) xs) e (front_good (before ++ p ∷ []) xs ys)

-- no `q` stands behind the end
no_second : (xs ys : List ℕ) (n : ℕ) → (lex n Ended (xs ++ 113 ∷ ys)).ending ≡ stands Ended → ⊥
no_second [] ys n e = stopped n e
no_second (x ∷ xs) ys n e = by (is_white x) (no_second xs ys (n + 1)) e where
  by : (t : Bool) → ((lex (n + 1) Ended (xs ++ 113 ∷ ys)).ending ≡ stands Ended → ⊥) → (behind n (if t then Some Ended else None) (λ s. lex (n + 1) s (xs ++ 113 ∷ ys))).ending ≡ stands Ended → ⊥
  by true ih e = ih e
  by false ih e = stopped n e

cut_by : (front rest : List ℕ) (puts mine : List Put) (e : Ending) (f : Spot → Lexed) → (lex 0 Before front).ending ≡ e → (lex 0 Before front).puts ≡ mine → first_fault [] puts ≡ None
    → ((f Ended).ending ≡ stands Ended → ⊥) → follow mine e f ≡ done puts → EndsEarly front (length front)
cut_by front rest puts mine (stops n) f e m good no_q all = absurd (stopped n (ap (λ (l : Lexed). l.ending) all))
cut_by front rest puts mine (stands s) f e m good no_q all =
    ends_early front s
    (λ ended. no_q (ap (λ t. (f t).ending) (sym ended) ∙ ap (λ (l : Lexed). l.ending) all)) e
    (ap (first_fault []) m ∙ front_good [] mine (f s).puts (ap (λ (l : Lexed). first_fault [] l.puts) all ∙ good))

-- A front of a text that doesn't reach its `q` ends too early.
pub cut_off : (front rest more : List ℕ) (blocks : List Block) → Holds (front ++ (rest ++ 113 ∷ more)) blocks → EndsEarly front (length front)
cut_off front rest more blocks h =
    let text : List ℕ = rest ++ 113 ∷ more in
    cut_by front text h.puts (lex 0 Before front).puts (lex 0 Before front).ending (λ s. lex (0 + length front) s text) refl refl h.good
    (no_second rest more (0 + length front)) (sym (lex_append 0 Before front text) ∙ complete 0 None (front ++ text) h.puts h.written)

-- nothing is put behind the end
ended_puts : (xs : List ℕ) (n : ℕ) → (lex n Ended xs).puts ≡ []
ended_puts [] n = refl
ended_puts (x ∷ xs) n = by (is_white x) (ended_puts xs (n + 1)) where
  by : (t : Bool) → (lex (n + 1) Ended xs).puts ≡ [] → (behind n (if t then Some Ended else None) (λ s. lex (n + 1) s xs)).puts ≡ []
  by true ih = ih
  by false ih = refl

pub ended_or : (s : Spot) → (s ≡ Ended) ⊎ (s ≡ Ended → ⊥)
ended_or Ended = inl refl
ended_or Before = inr (λ e. cc)
ended_or (Between next) = inr (λ e. cc)
ended_or (Origin k a) = inr (λ e. cc)
ended_or (Half next high) = inr (λ e. cc)
ended_or (Whole a v) = inr (λ e. cc)

front_by : (front more : List ℕ) (blocks : List Block) (h : Holds (front ++ more) blocks) (e : Ending) → (lex 0 Before front).ending ≡ e
    → follow (lex 0 Before front).puts e (λ s. lex (0 + length front) s more) ≡ done h.puts → Holds front blocks ⊎ EndsEarly front (length front)
front_by front more blocks h (stops n) e all = absurd (stopped n (ap (λ (l : Lexed). l.ending) all))
front_by front more blocks h (stands s) e all = ⊎_elim
    (λ end.
    let own : h.puts ≡ (lex 0 Before front).puts =
    sym (ap (λ (l : Lexed). l.puts) all) ∙ (ap (λ t. (lex 0 Before front).puts ++ (lex (0 + length front) t more).puts) end
    ∙ (ap (λ ps. (lex 0 Before front).puts ++ ps) (ended_puts more (0 + length front)) ∙ append-nil (lex 0 Before front).puts)) in
    let whole : lex 0 Before front ≡ done h.puts = done_of (lex 0 Before front) (e ∙ ap stands end) ∙ ap done (sym own) in
    inl (record { puts = h.puts; written = is_text 0 None front h.puts whole; good = h.good; image = h.image; bytes = h.bytes }))
    (λ going. inr (ends_early front s going e (front_good [] (lex 0 Before front).puts (lex (0 + length front) s more).puts (ap (λ (l : Lexed). first_fault [] l.puts) all ∙ h.good))))
    (ended_or s)

-- A front of a text is a text with its image, or ends too early.
pub front_of : (front more : List ℕ) (blocks : List Block) → Holds (front ++ more) blocks → Holds front blocks ⊎ EndsEarly front (length front)
front_of front more blocks h =
    front_by front more blocks h (lex 0 Before front).ending refl (sym (lex_append 0 Before front more) ∙ complete 0 None (front ++ more) h.puts h.written)
