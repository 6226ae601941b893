-- Going over the pieces of a text.
use Rattle.std.proofs.Common.{◌≡◌, ◌≢◌, ℕ, ◌+◌, List, [], ◌∷◌, ◌++◌, drop, refl, sym, ap, ◌∙◌, subst}
use Rattle.c_lex.specs.Gaps.{past}
use Rattle.c_lex.specs.Cut.{start, behind, Stands, Passes, tokens_of, Cut, Faulty, fault_at}
use Rattle.c_lex.specs.declared.spot.Spot.{Spot}
use Rattle.c_lex.specs.declared.spot.Before.TheVariants.{TokenOnLine}
use Rattle.c_lex.specs.declared.piece.Cause.{Cause}
use Rattle.c_lex.specs.declared.piece.Cause.TheVariants.{BadByte}
use Rattle.c_lex.specs.declared.piece.Piece.{Piece}
use Rattle.c_lex.specs.declared.piece.Piece.TheVariants.{Skip, Take, Stop}
use Rattle.c_lex.specs.declared.token.Token.{Token}
use Rattle.c_lex.specs.declared.token.LexFault.{LexFault}
use Rattle.c_lex.proofs.Standing.{same_piece, end_stands}

-- how far a reader has come: the pieces behind it, and the tokens among them
pub record Reached (text : List ℕ) (tokens : List Token) (spot : Spot) (rest : List ℕ) : Type 0 where
  pub pieces : List Piece
  pub passes : Passes start text pieces spot rest
  pub are : tokens ≡ tokens_of start text pieces

-- where a piece that isn't a fault leads
abbrev pub IsNext : Spot → List ℕ → Piece → Spot → List ℕ → Type 0
IsNext spot rest (Skip n) spot2 rest2 = (spot2 ≡ behind spot (past spot.before rest) n rest) × (rest2 ≡ drop n rest)
IsNext spot rest (Take kind n) spot2 rest2 = (spot2 ≡ behind spot TokenOnLine n rest) × (rest2 ≡ drop n rest)
IsNext spot rest (Stop cause) spot2 rest2 = ⊥

-- the token that a piece gives, if it gives one
abbrev pub given : Spot → Piece → List Token
given spot (Skip n) = []
given spot (Take kind n) = record { kind = kind; start = spot.at; end = spot.at + n; place = spot.place } ∷ []
given spot (Stop cause) = []

passes-more : (at : Spot) (text : List ℕ) (pieces : List Piece) (spot : Spot) (rest : List ℕ) (p : Piece) (spot2 : Spot) (rest2 : List ℕ)
    → Passes at text pieces spot rest → Stands spot.before rest p → IsNext spot rest p spot2 rest2 → Passes at text (pieces ++ p ∷ []) spot2 rest2
passes-more at text [] spot rest (Skip n) spot2 rest2 was is next = let e = was.0 in let r = was.1 in rw (e, r) (is, (sym next.0, sym next.1))
passes-more at text [] spot rest (Take kind n) spot2 rest2 was is next = let e = was.0 in let r = was.1 in rw (e, r) (is, (sym next.0, sym next.1))
passes-more at text [] spot rest (Stop cause) spot2 rest2 was is next = next
passes-more at text (Skip n ∷ pieces) spot rest p spot2 rest2 was is next = (was.0, passes-more (behind at (past at.before text) n text) (drop n text) pieces spot rest p spot2 rest2 was.1 is next)
passes-more at text (Take kind n ∷ pieces) spot rest p spot2 rest2 was is next = (was.0, passes-more (behind at TokenOnLine n text) (drop n text) pieces spot rest p spot2 rest2 was.1 is next)
passes-more at text (Stop cause ∷ pieces) spot rest p spot2 rest2 was is next = was

tokens-more : (at : Spot) (text : List ℕ) (pieces : List Piece) (spot : Spot) (rest : List ℕ) (p : Piece)
    → Passes at text pieces spot rest → tokens_of at text (pieces ++ p ∷ []) ≡ tokens_of at text pieces ++ given spot p
tokens-more at text [] spot rest (Skip n) was = refl
tokens-more at text [] spot rest (Take kind n) was = rw was.0 refl
tokens-more at text [] spot rest (Stop cause) was = refl
tokens-more at text (Skip n ∷ pieces) spot rest p was = tokens-more (behind at (past at.before text) n text) (drop n text) pieces spot rest p was.1
tokens-more at text (Take kind n ∷ pieces) spot rest p was = ap (λ ts. record { kind = kind; start = at.at; end = at.at + n; place = at.place } ∷ ts) (tokens-more (behind at TokenOnLine n text) (drop n text) pieces spot rest p was.1)
tokens-more at text (Stop cause ∷ pieces) spot rest p was = absurd was

-- A reader goes on over a piece.
pub reach : (text : List ℕ) (tokens : List Token) (spot : Spot) (rest : List ℕ) (p : Piece) (spot2 : Spot) (rest2 : List ℕ) (more : List Token)
    → Reached text tokens spot rest → Stands spot.before rest p → IsNext spot rest p spot2 rest2 → more ≡ tokens ++ given spot p → Reached text more spot2 rest2
reach text tokens spot rest p spot2 rest2 more was is next gives = record {
  pieces = was.pieces ++ p ∷ [];
  passes = passes-more start text was.pieces spot rest p spot2 rest2 was.passes is next;
  are = gives ∙ ap (λ ts. ts ++ given spot p) was.are ∙ sym (tokens-more start text was.pieces spot rest p was.passes);
}

-- Nothing more is read here: the text is at its end, or a fault stands here.
pub record IsStuck (spot : Spot) (rest : List ℕ) : Type 0 where
  pub cause : Cause
  pub is : Stands spot.before rest (Stop cause)

stuck_at_end : (spot : Spot) → IsStuck spot []
stuck_at_end spot = record { cause = BadByte; is = end_stands spot.before }

-- Two ways over a text, each as far as it goes, are one.
pub record SameWay (ps qs : List Piece) (e f : Spot) (r s : List ℕ) : Type 0 where
  pub pieces : ps ≡ qs
  pub spot : e ≡ f
  pub rest : r ≡ s

stuck_first : (at e : Spot) (text r : List ℕ) (p : Piece) → at ≡ e → text ≡ r → IsStuck e r → Stands at.before text p → (c : Cause) × (p ≡ Stop c)
stuck_first at e text r p same rest stuck is =
    let P : Spot → Type 0 = λ x. Stands x.before text (Stop stuck.cause) in
    let Q : List ℕ → Type 0 = λ xs. Stands e.before xs (Stop stuck.cause) in
    (stuck.cause, same_piece at.before text p (Stop stuck.cause) is (subst P (sym same) (subst Q (sym rest) stuck.is)))

one_way : (at : Spot) (text : List ℕ) (ps qs : List Piece) (e f : Spot) (r s : List ℕ)
    → Passes at text ps e r → IsStuck e r → Passes at text qs f s → IsStuck f s → SameWay ps qs e f r s
one_way at text [] [] e f r s p sp q sq = record { pieces = refl; spot = sym p.0 ∙ q.0; rest = sym p.1 ∙ q.1 }
one_way at text [] (Skip n ∷ qs) e f r s p sp q sq = let bad : (c : Cause) × (Skip n ≡ Stop c) = stuck_first at e text r (Skip n) p.0 p.1 sp q.0 in let h = bad.1 in absurd (cc)
one_way at text [] (Take kind n ∷ qs) e f r s p sp q sq = let bad : (c : Cause) × (Take kind n ≡ Stop c) = stuck_first at e text r (Take kind n) p.0 p.1 sp q.0 in let h = bad.1 in absurd (cc)
one_way at text [] (Stop c ∷ qs) e f r s p sp q sq = absurd q
one_way at text (Stop c ∷ ps) qs e f r s p sp q sq = absurd p
one_way at text (Skip n ∷ ps) [] e f r s p sp q sq = let bad : (c : Cause) × (Skip n ≡ Stop c) = stuck_first at f text s (Skip n) q.0 q.1 sq p.0 in let h = bad.1 in absurd (cc)
one_way at text (Take kind n ∷ ps) [] e f r s p sp q sq = let bad : (c : Cause) × (Take kind n ≡ Stop c) = stuck_first at f text s (Take kind n) q.0 q.1 sq p.0 in let h = bad.1 in absurd (cc)
one_way at text (Skip n ∷ ps) (Take kind m ∷ qs) e f r s p sp q sq = let h : Skip n ≡ Take kind m = same_piece at.before text (Skip n) (Take kind m) p.0 q.0 in absurd (cc)
one_way at text (Take kind n ∷ ps) (Skip m ∷ qs) e f r s p sp q sq = let h : Take kind n ≡ Skip m = same_piece at.before text (Take kind n) (Skip m) p.0 q.0 in absurd (cc)
one_way at text (Skip n ∷ ps) (Stop c ∷ qs) e f r s p sp q sq = absurd q
one_way at text (Take kind n ∷ ps) (Stop c ∷ qs) e f r s p sp q sq = absurd q
one_way at text (Skip n ∷ ps) (Skip m ∷ qs) e f r s p sp q sq =
    let h : Skip m ≡ Skip n = same_piece at.before text (Skip m) (Skip n) q.0 p.0 in
    let same : m ≡ n = cc in
    let q' = let P : ℕ → Type 0 = λ k. Passes (behind at (past at.before text) k text) (drop k text) qs f s in subst P same q.1 in
    let more : SameWay ps qs e f r s = one_way (behind at (past at.before text) n text) (drop n text) ps qs e f r s p.1 sp q' sq in
    record { pieces = rw (more.pieces, same) refl; spot = more.spot; rest = more.rest }
one_way at text (Take k n ∷ ps) (Take l m ∷ qs) e f r s p sp q sq =
    let h : Take l m ≡ Take k n = same_piece at.before text (Take l m) (Take k n) q.0 p.0 in
    let same : m ≡ n = cc in
    let kinds : l ≡ k = cc in
    let q' = let P : ℕ → Type 0 = λ j. Passes (behind at TokenOnLine j text) (drop j text) qs f s in subst P same q.1 in
    let more : SameWay ps qs e f r s = one_way (behind at TokenOnLine n text) (drop n text) ps qs e f r s p.1 sp q' sq in
    record { pieces = rw (more.pieces, same, kinds) refl; spot = more.spot; rest = more.rest }

pub cut_reached : (text : List ℕ) (tokens : List Token) (spot : Spot) → Reached text tokens spot [] → Cut text tokens
cut_reached text tokens spot was = record { pieces = was.pieces; end = spot; whole = was.passes; are = was.are }

pub same_cut : (text : List ℕ) (tokens others : List Token) → Cut text tokens → Cut text others → tokens ≡ others
same_cut text tokens others cut other =
    let same : SameWay cut.pieces other.pieces cut.end other.end [] [] = one_way start text cut.pieces other.pieces cut.end other.end [] [] cut.whole (stuck_at_end cut.end) other.whole (stuck_at_end other.end) in
    cut.are ∙ ap (λ ps. tokens_of start text ps) same.pieces ∙ sym other.are

pub cut_or_fault : (text : List ℕ) (tokens : List Token) (fault : LexFault) → Cut text tokens → Faulty text fault → ⊥
cut_or_fault text tokens fault cut bad =
    let same : SameWay cut.pieces bad.pieces cut.end bad.spot [] bad.rest =
    one_way start text cut.pieces bad.pieces cut.end bad.spot [] bad.rest cut.whole (stuck_at_end cut.end) bad.before (record { cause = bad.cause; is = bad.stops }) in
    bad.more (sym same.rest)

pub same_fault : (text : List ℕ) (first second : LexFault) → Faulty text first → Faulty text second → first ≡ second
same_fault text first second one two =
    let same : SameWay one.pieces two.pieces one.spot two.spot one.rest two.rest =
    one_way start text one.pieces two.pieces one.spot two.spot one.rest two.rest one.before (record { cause = one.cause; is = one.stops }) two.before (record { cause = two.cause; is = two.stops }) in
    let P : Spot → Type 0 = λ x. Stands x.before one.rest (Stop two.cause) in
    let Q : List ℕ → Type 0 = λ xs. Stands two.spot.before xs (Stop two.cause) in
    let causes : Stop one.cause ≡ Stop two.cause =
    same_piece one.spot.before one.rest (Stop one.cause) (Stop two.cause) one.stops (subst P (sym same.spot) (subst Q (sym same.rest) two.stops)) in
    let cause : one.cause ≡ two.cause = cc in
    one.is ∙ rw (cause, same.spot) (sym two.is)

pub fault_reached : (text : List ℕ) (tokens : List Token) (spot : Spot) (rest : List ℕ) (cause : Cause) (fault : LexFault)
    → Reached text tokens spot rest → rest ≢ [] → Stands spot.before rest (Stop cause) → fault ≡ fault_at cause spot.place → Faulty text fault
fault_reached text tokens spot rest cause fault was more stops is =
    record { pieces = was.pieces; spot = spot; rest = rest; cause = cause; before = was.passes; more = more; stops = stops; is = is }
