-- The words that an input text spells are words.
use Rattle.std.proofs.Common.{◌≡◌, ◌≤◌, ◌<◌, ℕ, Bool, true, false, List, [], ◌∷◌, Option, Some, None, sym, subst, refl, arith}
use Rattle.std.specs.Prelude.{All, ◌&&◌, if◌then◌else◌, nat_le, IfSome}
use Rattle.std.specs.List.{cons_option}
use Rattle.std.proofs.lemmas.Bool.Decides.{nat_tests}
use Rattle.std.proofs.lemmas.List.Elements.{All-cons, All-nil}
use Rattle.job_parts.specs.Input.{SpellsInput, pieces_of, word_in, words_of}
use Rattle.job_parts.specs.Words.{is_decimal}
use Rattle.std.specs.Str.Parse.{digits_value}

tested : (d low : Bool) (n : ℕ) → (c : Bool) → nat_le n 65535 ≡ c → IfSome (if d && (low && c) then Some n else None) (λ w. w < 65536)
tested true true n true e = (let most : n ≤ 65535 = grind (arith, nat_tests, e) in omega (arith, most))
tested true true n false e = tt
tested true false n c e = tt
tested false low n c e = tt

word_small : (piece : List ℕ) → IfSome (word_in piece) (λ w. w < 65536)
word_small piece = tested (is_decimal piece) (nat_le 0 (digits_value 10 piece)) (digits_value 10 piece) (nat_le (digits_value 10 piece) 65535) refl

joined : (o : Option ℕ) (ws : List ℕ) → IfSome o (λ w. w < 65536) → All (λ w. w < 65536) ws → All (λ w. w < 65536) (cons_option o ws)
joined None ws h g = g
joined (Some w) ws h g = All-cons (λ w. w < 65536) w ws h g

all_small : (pieces : List (List ℕ)) → All (λ w. w < 65536) (words_of pieces)
all_small [] = All-nil (λ w. w < 65536)
all_small (piece ∷ pieces) = joined (word_in piece) (words_of pieces) (word_small piece) (all_small pieces)

pub are_words : (text words : List ℕ) → SpellsInput text words → All (λ w. w < 65536) words
are_words text words h = subst (λ ws. All (λ w. w < 65536) ws) (sym h.1) (all_small (pieces_of text))
