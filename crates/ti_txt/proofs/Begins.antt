-- Which bytes begin a text, and which puts are whole in them.
use Rattle.std.proofs.Common.{◌≡◌, ℕ, zero, suc, ◌+◌, ◌-◌, ◌≤◌, List, [], ◌∷◌, ◌++◌, length, Option, Some, None, refl, sym, ap, ◌∙◌, arith, cond, true, false, Bool, append-nil}
use Rattle.std.specs.Prelude.{◌==◌, filter, nat_le}
use Rattle.std.proofs.lemmas.Bool.{le-leb, lt-leb, ne_eqb}
use Rattle.ti_txt.specs.Grammar.{Begins, Put}
use Rattle.ti_txt.specs.Spots.{step_of}
use Rattle.ti_txt.specs.declared.spot.Spot.{Spot}
use Rattle.ti_txt.specs.declared.spot.Spot.TheVariants.{Before, Between, Origin, Half, Whole, Ended}
use Rattle.ti_txt.proofs.Complete.{complete}
use Rattle.ti_txt.proofs.Lex.{Lexed, Ending, behind, done, follow, lex, lex_append, prefix, put_at, stands, stops}
use Rattle.ti_txt.proofs.Sound.{is_text}
use Rattle.ti_txt.proofs.Steps.{GapStep, by_white, by_sign, by_end, by_none, gap_step}

-- both digits of a put stand before n
abbrev pub is_whole : ℕ → Put → Bool
is_whole n p = nat_le (p.at + 2) n

-- From each spot some bytes lead to the end.
pub record Leads (at : ℕ) (s : Spot) : Type 0 where
  pub more : List ℕ
  pub end : (lex at s more).ending ≡ stands Ended

pub leads : (at : ℕ) (s : Spot) → Leads at s
leads at Before = record { more = 113 ∷ []; end = refl }
leads at (Between next) = record { more = 113 ∷ []; end = refl }
leads at (Origin zero a) = record { more = 48 ∷ 32 ∷ 113 ∷ []; end = refl }
leads at (Origin (suc n) a) = let e : (suc n == 0) ≡ false = ne_eqb (suc n) 0 (λ z. omega (arith, z)) in record { more = 32 ∷ 113 ∷ []; end = rw (e) refl }
leads at (Half next high) = record { more = 48 ∷ 32 ∷ 113 ∷ []; end = refl }
leads at (Whole a v) = record { more = 32 ∷ 113 ∷ []; end = refl }
leads at Ended = record { more = []; end = refl }

-- puts behind n are not whole before it
late_put : (n at : ℕ) (s : Spot) (rest : List Put) → n ≤ at → filter (is_whole n) rest ≡ [] → filter (is_whole n) (put_at at s ++ rest) ≡ []
late_put n at Before rest h e = e
late_put n at (Between next) rest h e = e
late_put n at (Origin m a) rest h e = e
late_put n at (Half next high) rest h e = e
late_put n at (Whole a v) rest h e = let f : nat_le (at - 1 + 2) n ≡ false = lt-leb (at - 1 + 2) n (omega (arith, h)) in rw (f) e
late_put n at Ended rest h e = e

pub late : (n at : ℕ) (s : Spot) (text : List ℕ) → n ≤ at → filter (is_whole n) (lex at s text).puts ≡ []
late n at s [] h = refl
late n at s (b ∷ text) h = by (step_of s b) (λ t. late n (at + 1) t text (omega (arith, h))) where
  by : (o : Option Spot) → ((t : Spot) → filter (is_whole n) (lex (at + 1) t text).puts ≡ []) → filter (is_whole n) (behind at o (λ t. lex (at + 1) t text)).puts ≡ []
  by None ih = refl
  by (Some t) ih = late_put n at t (lex (at + 1) t text).puts h (ih t)

early_put : (n at : ℕ) (s : Spot) (rest : List Put) → 1 ≤ at → at + 1 ≤ n → filter (is_whole n) rest ≡ rest → filter (is_whole n) (put_at at s ++ rest) ≡ put_at at s ++ rest
early_put n at Before rest l h e = e
early_put n at (Between next) rest l h e = e
early_put n at (Origin m a) rest l h e = e
early_put n at (Half next high) rest l h e = e
early_put n at (Whole a v) rest l h e = let f : nat_le (at - 1 + 2) n ≡ true = le-leb (at - 1 + 2) n (omega (arith, l, h)) in rw (f, e) refl
early_put n at Ended rest l h e = e

early : (n at : ℕ) (s : Spot) (text : List ℕ) → 1 ≤ at → at + length text ≤ n → filter (is_whole n) (lex at s text).puts ≡ (lex at s text).puts
early n at s [] l h = refl
early n at s (b ∷ text) l h = by (step_of s b) (λ t. early n (at + 1) t text (omega (arith, l)) (omega (arith, h))) where
  by : (o : Option Spot) → ((t : Spot) → filter (is_whole n) (lex (at + 1) t text).puts ≡ (lex (at + 1) t text).puts)
      → filter (is_whole n) (behind at o (λ t. lex (at + 1) t text)).puts ≡ (behind at o (λ t. lex (at + 1) t text)).puts
  by None ih = refl
  by (Some t) ih = early_put n at t (lex (at + 1) t text).puts l (omega (arith, h)) (ih t)

-- all puts of a text are whole in it
pub all_whole : (n : ℕ) (text : List ℕ) → length text ≤ n → filter (is_whole n) (lex 0 Before text).puts ≡ (lex 0 Before text).puts
all_whole n [] h = refl
all_whole n (b ∷ text) h = by (step_of Before b) (gap_step None b) where
  by : (o : Option Spot) → GapStep None b o → filter (is_whole n) (behind 0 o (λ t. lex 1 t text)).puts ≡ (behind 0 o (λ t. lex 1 t text)).puts
  by _ (by_white _ _ w) = early n 1 Before text (omega arith) (omega (arith, h))
  by _ (by_sign _ _ e) = early n 1 (Origin 0 0) text (omega arith) (omega (arith, h))
  by _ (by_end _ _ e) = early n 1 Ended text (omega arith) (omega (arith, h))
  by _ (by_none _ _) = refl

filter_by : (t : Bool) (x : Put) (zs xs ys : List Put) → zs ≡ xs ++ ys → cond t (x ∷ zs) zs ≡ cond t (x ∷ xs) xs ++ ys
filter_by true x zs xs ys ih = ap (λ ps. x ∷ ps) ih
filter_by false x zs xs ys ih = ih

filter_append : (f : Put → Bool) (xs ys : List Put) → filter f (xs ++ ys) ≡ filter f xs ++ filter f ys
filter_append f [] ys = refl
filter_append f (x ∷ xs) ys = filter_by (f x) x (filter f (xs ++ ys)) (filter f xs) (filter f ys) (filter_append f xs ys)

-- What is whole of a front's puts and of later ones.
front_whole : (n : ℕ) (xs ys : List Put) → filter (is_whole n) xs ≡ xs → filter (is_whole n) ys ≡ [] → filter (is_whole n) (xs ++ ys) ≡ xs
front_whole n xs ys h k = filter_append (is_whole n) xs ys ∙ (ap (λ zs. zs ++ filter (is_whole n) ys) h ∙ (ap (λ zs. xs ++ zs) k ∙ append-nil xs))

pub behind_front : (front more : List ℕ) (s : Spot) → (lex 0 Before front).ending ≡ stands s → lex 0 Before (front ++ more) ≡ prefix (lex 0 Before front).puts (lex (0 + length front) s more)
behind_front front more s e = lex_append 0 Before front more ∙ ap (λ ending. follow (lex 0 Before front).puts ending (λ t. lex (0 + length front) t more)) e

-- Bytes behind which a reader stands begin a text, and their puts are whole in it.
pub begins_from : (front : List ℕ) (s : Spot) → (lex 0 Before front).ending ≡ stands s → Begins front (lex 0 Before front).puts
begins_from front s e =
    let way = leads (0 + length front) s in
    let later : List Put = (lex (0 + length front) s way.more).puts in
    let all : lex 0 Before (front ++ way.more) ≡ done ((lex 0 Before front).puts ++ later) =
    behind_front front way.more s e ∙ ap (λ ending. let r : Lexed = record { puts = (lex 0 Before front).puts ++ later; ending = ending } in r) way.end in
    record {
      more = way.more;
      puts = (lex 0 Before front).puts ++ later;
      written = is_text 0 None (front ++ way.more) ((lex 0 Before front).puts ++ later) all;
      are_whole = sym (front_whole (length front) (lex 0 Before front).puts later (all_whole (length front) front (omega arith)) (late (length front) (0 + length front) s way.more (omega arith)));
    }

pub stopped : (n : ℕ) → stops n ≡ stands Ended → ⊥
stopped n e = cc

stood : (front : List ℕ) (whole puts mine : List Put) (e : Ending) (f : Spot → Lexed) → whole ≡ filter (is_whole (length front)) puts → filter (is_whole (length front)) mine ≡ mine
    → ((s : Spot) → filter (is_whole (length front)) (f s).puts ≡ []) → follow mine e f ≡ done puts → (s : Spot) × (e ≡ stands s) × (whole ≡ mine)
stood front whole puts mine (stands s) f are kept late all =
    (s, refl, are ∙ (ap (filter (is_whole (length front))) (sym (ap (λ (m : Lexed). m.puts) all)) ∙ front_whole (length front) mine (f s).puts kept (late s)))
stood front whole puts mine (stops n) f are kept late all = absurd (stopped n (ap (λ (m : Lexed). m.ending) all))

-- A reader stands behind bytes that begin a text, and has read what is whole in them.
pub stands_behind : (front : List ℕ) (whole : List Put) → Begins front whole → (s : Spot) × ((lex 0 Before front).ending ≡ stands s) × (whole ≡ (lex 0 Before front).puts)
stands_behind front whole b =
    stood front whole b.puts (lex 0 Before front).puts (lex 0 Before front).ending (λ s. lex (0 + length front) s b.more) b.are_whole
    (all_whole (length front) front (omega arith)) (λ s. late (length front) (0 + length front) s b.more (omega arith))
    (sym (lex_append 0 Before front b.more) ∙ complete 0 None (front ++ b.more) b.puts b.written)
