use Rattle.std.proofs.Common.{◌≡◌, ◌<◌, ◌≤◌, Some, length, get_or, sym, ap, ◌∙◌, subst, arith}
use Rattle.msp430_isa.specs.Encoding.{length_of}
use Rattle.msp430_isa.specs.Spelled.{Spells}
use Rattle.msp430_isa.specs.Decoding.{instruction_at}
use Rattle.msp430_isa.proofs.Spelling.{spelt_is_read, read_is_spelt}
use Rattle.msp430_isa.proofs.decoding.decode.Goals as goal

pub returns-then-length-words-clause-spelt : goal.returns-then-length-words-clause-spelt
returns-then-length-words-clause-spelt c =
    let words = c.args.words.now in
    let i = c.in-Some.i in
    let read : instruction_at (get_or words 0 0) (get_or words 1 0) (get_or words 2 0) ≡ Some i = cc in
    let x : get_or words 1 0 < 65536 = omega arith in
    let y : get_or words 2 0 < 65536 = omega arith in
    let fits : length_of i ≤ length words = omega arith in
    subst (λ n. Spells words i n) (sym c.length_of-length.ensures.length) (read_is_spelt words i x y read fits)

pub returns-then-length-words-clause-every : goal.returns-then-length-words-clause-every
returns-then-length-words-clause-every c = λ i n s.
    let words = c.args.words.now in
    let read : instruction_at (get_or words 0 0) (get_or words 1 0) (get_or words 2 0) ≡ Some i = spelt_is_read words i n s in
    let counted : n ≡ length_of i = s.counted in
    let same : c.in-Some.i ≡ i = cc in
    let long : length_of c.in-Some.i ≡ length_of i = ap length_of same in
    cc

pub returns-else-length-words-clause-every : goal.returns-else-length-words-clause-every
returns-else-length-words-clause-every c = λ i n s.
    let words = c.args.words.now in
    let read : instruction_at (get_or words 0 0) (get_or words 1 0) (get_or words 2 0) ≡ Some i = spelt_is_read words i n s in
    let same : c.in-Some.i ≡ i = cc in
    let long : length_of c.in-Some.i ≡ length_of i = ap length_of same in
    absurd (omega arith)

pub returns-in_default-clause-every : goal.returns-in_default-clause-every
returns-in_default-clause-every c = λ i n s.
    let words = c.args.words.now in
    let read : instruction_at (get_or words 0 0) (get_or words 1 0) (get_or words 2 0) ≡ Some i = spelt_is_read words i n s in
    let found : c.instruction_at.result ≡ Some i = c.instruction_at.ensures ∙ ap (λ x. instruction_at (get_or words 0 0) x c.word_at-2.result) c.word_at.ensures ∙ ap (λ y. instruction_at (get_or words 0 0) (get_or words 1 0) y) c.word_at-2.ensures ∙ read in
    absurd (c.in_default.not-Some i found)
