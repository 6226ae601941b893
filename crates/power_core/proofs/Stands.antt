-- Words at their places in memory, and the instructions that they are.
use Rattle.std.proofs.Common.{◌≡◌, ℕ, ◌+◌, ◌*◌, ◌≤◌, true, List, [], ◌∷◌, ◌++◌, length, Some, None, refl, sym, ap, ◌∙◌, subst, arith, length-append}
use Rattle.msp430_isa.specs.declared.instr.Instr.{Instr}
use Rattle.msp430_isa.specs.declared.instr.Instr.TheVariants.{Two, One, Jump}
use Rattle.msp430_isa.specs.Fields.{source_words, destination_words}
use Rattle.msp430_isa.specs.Encoding.{two_word, one_word, words_of, length_of}
use Rattle.msp430_isa.specs.Profile.{in_profile}
use Rattle.msp430_isa.specs.Decoding.{behind, instruction_at}
use Rattle.msp430_isa.proofs.Lists.{Takes}
use Rattle.msp430_isa.proofs.Operands.{source_words_few, destination_words_few}
use Rattle.msp430_isa.proofs.Table.{Written}
use Rattle.msp430_isa.proofs.Spelling.{reads}
use Rattle.msp430_machine.specs.State.{State}
use Rattle.msp430_machine.specs.Access.{access_fault}
use Rattle.msp430_machine.specs.Steps.{Does, next}
use Rattle.power_core.proofs.Points.{fetched}

-- these words stand from the place on
abbrev pub WordsAt : (ℕ → ℕ) → ℕ → List ℕ → Type 0
WordsAt f k [] = Unit {0}
WordsAt f k (w ∷ words) = (f k ≡ w) × WordsAt f (k + 1) words

pub words_front : (f : ℕ → ℕ) (k : ℕ) (ws vs : List ℕ) → WordsAt f k (ws ++ vs) → WordsAt f k ws
words_front f k [] vs h = tt
words_front f k (w ∷ ws) vs h = (h.0, words_front f (k + 1) ws vs h.1)

pub words_back : (f : ℕ → ℕ) (k : ℕ) (ws vs : List ℕ) → WordsAt f k (ws ++ vs) → WordsAt f (k + length ws) vs
words_back f k [] vs h = let e : k ≡ k + 0 = omega arith in subst (λ n. WordsAt f n vs) e h
words_back f k (w ∷ ws) vs h =
    let e : k + 1 + length ws ≡ k + length (w ∷ ws) = omega arith in
    subst (λ n. WordsAt f n vs) e (words_back f (k + 1) ws vs h.1)

-- ---- From words to instructions

two_written : (f : ℕ → ℕ) (k w : ℕ) (xs ys : List ℕ) → length xs ≤ 1 → length ys ≤ 1 → WordsAt f k (w ∷ (xs ++ ys)) → (f k ≡ w) × Takes xs (f (k + 1)) × Takes ys (behind xs (f (k + 1)) (f (k + 2)))
two_written f k w [] [] few few' h = (h.0, refl, refl)
two_written f k w [] (y ∷ []) few few' h = (h.0, refl, ap (λ v. v ∷ []) (sym h.1.0))
two_written f k w (x ∷ []) [] few few' h = (h.0, ap (λ v. v ∷ []) (sym h.1.0), refl)
two_written f k w (x ∷ []) (y ∷ []) few few' h =
    let e : k + 1 + 1 ≡ k + 2 = omega arith in
    let second : f (k + 2) ≡ y = ap f (sym e) ∙ h.1.1.0 in
    (h.0, ap (λ v. v ∷ []) (sym h.1.0), ap (λ v. v ∷ []) (sym second))
two_written f k w xs (y ∷ z ∷ l) few few' h = absurd (omega (arith, few'))
two_written f k w (x ∷ y ∷ l) ys few few' h = absurd (omega (arith, few))

one_written : (f : ℕ → ℕ) (k w : ℕ) (xs : List ℕ) → length xs ≤ 1 → WordsAt f k (w ∷ xs) → (f k ≡ w) × Takes xs (f (k + 1))
one_written f k w [] few h = (h.0, refl)
one_written f k w (x ∷ []) few h = (h.0, ap (λ v. v ∷ []) (sym h.1.0))
one_written f k w (x ∷ y ∷ l) few h = absurd (omega (arith, few))

written : (f : ℕ → ℕ) (k : ℕ) (i : Instr) → WordsAt f k (words_of i) → Written i (f k) (f (k + 1)) (f (k + 2))
written f k (Two op byte src dst) h = two_written f k (two_word op byte src dst) (source_words src) (destination_words dst) (source_words_few src) (destination_words_few dst) h
written f k (One op byte src) h = one_written f k (one_word op byte src) (source_words src) (source_words_few src) h
written f k (Jump on words) h = h.0

pub stands : (f : ℕ → ℕ) (k : ℕ) (i : Instr) → in_profile i ≡ true → WordsAt f k (words_of i) → instruction_at (f k) (f (k + 1)) (f (k + 2)) ≡ Some i
stands f k i fits h = reads i (f k) (f (k + 1)) (f (k + 2)) fits (written f k i h)

pub words_length : (i : Instr) → length (words_of i) ≡ length_of i
words_length (Two op byte src dst) = omega (arith, length-append (source_words src) (destination_words dst))
words_length (One op byte src) = omega arith
words_length (Jump on words) = refl

has_length : (i : Instr) → 1 ≤ length_of i
has_length (Two op byte src dst) = omega arith
has_length (One op byte src) = omega arith
has_length (Jump on words) = omega arith

-- what comes next where an instruction's words stand
pub next_is : (code : ℕ → ℕ) (s : State) (k : ℕ) (i : Instr) → s.code ≡ code → s.reg 0 ≡ 0x8000 + 2 * k → k + length_of i ≤ 0x3FC0 → in_profile i ≡ true → WordsAt code k (words_of i) → access_fault s i ≡ None → next s ≡ Does i
next_is code s k i same pc room fits words allowed =
    fetched s k i pc (omega (arith, room, has_length i)) room (stands s.code k i fits (subst (λ f. WordsAt f k (words_of i)) (sym same) words)) allowed
