-- Words of the code and their bytes.
use Rattle.std.proofs.Common.{◌≡◌, ℕ, ◌+◌, ◌-◌, ◌*◌, ◌/◌, ◌%◌, ◌≤◌, true, false, List, [], ◌∷◌, sym, ap, ◌∙◌, subst, arith}
use Rattle.std.specs.Prelude.{◌==◌, if◌then◌else◌}
use Rattle.std.proofs.lemmas.Bool.Decides.{nat_tests}
use Rattle.msp430_machine.specs.declared.addresses.Region.TheVariants.{Code}
use Rattle.msp430_machine.specs.Addresses.{region}
use Rattle.msp430_machine.specs.State.{State}
use Rattle.msp430_machine.specs.Memory.{word_in, word_at, byte_at}
use Rattle.msp430_machine.specs.First.{HoldsBytes}
use Rattle.power_core.proofs.Stands.{WordsAt}
use Rattle.resumed_runs.specs.Bytes.{bytes_of}

code_at : (a : ℕ) → 0x8000 ≤ a → region a ≡ Code
code_at a low = grind (arith, nat_tests)

lower_byte : (s : State) (k : ℕ) → byte_at s (0x8000 + 2 * k) ≡ s.code k % 256
lower_byte s k =
    let even : ((0x8000 + 2 * k) % 2 == 0) ≡ true = (let e : (0x8000 + 2 * k) % 2 ≡ 0 = omega arith in grind (arith, nat_tests)) in
    let half : ((0x8000 + 2 * k) - 0x8000) / 2 ≡ k = omega arith in
    ap (λ c. if c then word_at s (0x8000 + 2 * k) % 256 else word_at s (0x8000 + 2 * k) / 256) even
    ∙ ap (λ r. word_in r s (0x8000 + 2 * k) % 256) (code_at (0x8000 + 2 * k) (omega arith))
    ∙ ap (λ h. s.code h % 256) half

upper_byte : (s : State) (k : ℕ) → byte_at s (0x8000 + 2 * k + 1) ≡ s.code k / 256
upper_byte s k =
    let odd : ((0x8000 + 2 * k + 1) % 2 == 0) ≡ false = (let e : (0x8000 + 2 * k + 1) % 2 ≡ 1 = omega arith in grind (arith, nat_tests)) in
    let half : ((0x8000 + 2 * k + 1) - 0x8000) / 2 ≡ k = omega arith in
    ap (λ c. if c then word_at s (0x8000 + 2 * k + 1) % 256 else word_at s (0x8000 + 2 * k + 1) / 256) odd
    ∙ ap (λ r. word_in r s (0x8000 + 2 * k + 1) / 256) (code_at (0x8000 + 2 * k + 1) (omega arith))
    ∙ ap (λ h. s.code h / 256) half

word_from_bytes : (s : State) (k v : ℕ) → byte_at s (0x8000 + 2 * k) ≡ v % 256 → byte_at s (0x8000 + 2 * k + 1) ≡ v / 256 → s.code k ≡ v
word_from_bytes s k v first second =
    let lower : s.code k % 256 ≡ v % 256 = sym (lower_byte s k) ∙ first in
    let upper : s.code k / 256 ≡ v / 256 = sym (upper_byte s k) ∙ second in
    omega (arith, lower, upper)

pub words_from_bytes : (s : State) (k : ℕ) (ws : List ℕ) → HoldsBytes s (0x8000 + 2 * k) (bytes_of ws) → WordsAt s.code k ws
words_from_bytes s k [] h = tt
words_from_bytes s k (w ∷ ws) h =
    let e : 0x8000 + 2 * k + 1 + 1 ≡ 0x8000 + 2 * (k + 1) = omega arith in
    (word_from_bytes s k w h.0 h.1.0, words_from_bytes s (k + 1) ws (subst (λ a. HoldsBytes s a (bytes_of ws)) e h.1.1))

pub bytes_from_words : (s : State) (k : ℕ) (ws : List ℕ) → WordsAt s.code k ws → HoldsBytes s (0x8000 + 2 * k) (bytes_of ws)
bytes_from_words s k [] h = tt
bytes_from_words s k (w ∷ ws) h =
    let e : 0x8000 + 2 * (k + 1) ≡ 0x8000 + 2 * k + 1 + 1 = omega arith in
    (lower_byte s k ∙ ap (λ v. v % 256) h.0, (upper_byte s k ∙ ap (λ v. v / 256) h.0, subst (λ a. HoldsBytes s a (bytes_of ws)) e (bytes_from_words s (k + 1) ws h.1)))
