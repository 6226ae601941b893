-- Every text is cut into tokens, or has a first fault.
use Rattle.std.proofs.Common.{◌≡◌, ◌≢◌, ℕ, zero, suc, ◌≤◌, ◌<◌, List, [], ◌∷◌, length, length-drop, drop, refl, subst, ◌⊎◌, inl, inr, arith}
use Rattle.c_lex.specs.Gaps.{past}
use Rattle.c_lex.specs.Scan.{Advances, scan}
use Rattle.c_lex.specs.Cut.{start, behind, Stands, Passes, tokens_of, Cut, Faulty, fault_at}
use Rattle.c_lex.specs.declared.spot.Spot.{Spot}
use Rattle.c_lex.specs.declared.spot.Before.TheVariants.{TokenOnLine}
use Rattle.c_lex.specs.declared.piece.Cause.{Cause}
use Rattle.c_lex.specs.declared.piece.Piece.{Piece}
use Rattle.c_lex.specs.declared.piece.Piece.TheVariants.{Skip, Take, Stop}
use Rattle.c_lex.specs.declared.token.Token.{Token}
use Rattle.c_lex.specs.declared.token.LexFault.{LexFault}
use Rattle.c_lex.proofs.Advancing.{advances}
use Rattle.c_lex.proofs.Standing.{scan_stands}

-- a fault stands here
record IsFault (spot : Spot) (rest : List ℕ) : Type 0 where
  cause : Cause
  more : rest ≢ []
  stops : Stands spot.before rest (Stop cause)

-- a way over a text to its end or to a fault
record Way (spot : Spot) (text : List ℕ) : Type 0 where
  pieces : List Piece
  end : Spot
  rest : List ℕ
  passes : Passes spot text pieces end rest
  last : (rest ≡ []) ⊎ IsFault end rest

some_more : (b : ℕ) (rest : List ℕ) → (b ∷ rest) ≢ []
some_more b rest same = absurd (cc)

way : (fuel : ℕ) (spot : Spot) (text : List ℕ) → length text ≤ fuel → Way spot text
way fuel spot [] room = record { pieces = []; end = spot; rest = []; passes = (refl, refl); last = inl refl }
way zero spot (b ∷ rest) room = absurd (omega arith)
way (suc fuel) spot (b ∷ rest) room =
    go (scan spot.before (b ∷ rest)) (scan_stands spot.before (b ∷ rest) (scan spot.before (b ∷ rest)) (some_more b rest) refl) (advances spot.before (b ∷ rest) (omega arith))
    (λ there n more. way fuel there (drop n (b ∷ rest)) (omega (arith, length-drop n (b ∷ rest))))
  where
    go : (p : Piece) → Stands spot.before (b ∷ rest) p → Advances p (length (b ∷ rest)) → ((there : Spot) (n : ℕ) → 0 < n → Way there (drop n (b ∷ rest))) → Way spot (b ∷ rest)
    go (Skip n) stands fits on =
        let next : Way (behind spot (past spot.before (b ∷ rest)) n (b ∷ rest)) (drop n (b ∷ rest)) = on (behind spot (past spot.before (b ∷ rest)) n (b ∷ rest)) n fits.0 in
        record { pieces = Skip n ∷ next.pieces; end = next.end; rest = next.rest; passes = (stands, next.passes); last = next.last }
    go (Take kind n) stands fits on =
        let next : Way (behind spot TokenOnLine n (b ∷ rest)) (drop n (b ∷ rest)) = on (behind spot TokenOnLine n (b ∷ rest)) n fits.0 in
        record { pieces = Take kind n ∷ next.pieces; end = next.end; rest = next.rest; passes = (stands, next.passes); last = next.last }
    go (Stop cause) stands fits on =
        record { pieces = []; end = spot; rest = b ∷ rest; passes = (refl, refl); last = inr (record { cause = cause; more = some_more b rest; stops = stands }) }

pub cut_or_faulty : (text : List ℕ) → ((tokens : List Token) × Cut text tokens) ⊎ ((fault : LexFault) × Faulty text fault)
cut_or_faulty text = ending (way (length text) start text (omega arith))
  where
    ending : Way start text → ((tokens : List Token) × Cut text tokens) ⊎ ((fault : LexFault) × Faulty text fault)
    ending w = elim w.last [
      | inl all ↦ let P : List ℕ → Type 0 = λ xs. Passes start text w.pieces w.end xs in
          inl (tokens_of start text w.pieces, record { pieces = w.pieces; end = w.end; whole = subst P all w.passes; are = refl })
      | inr bad ↦ inr (
        fault_at bad.cause w.end.place,
        record { pieces = w.pieces; spot = w.end; rest = w.rest; cause = bad.cause; before = w.passes; more = bad.more; stops = bad.stops; is = refl },
      )
    ]
