use Rattle.std.proofs.Common.{length, ◌∙◌, ap}
use Rattle.board_weights.specs.Sums.{uses_sum}
use Rattle.board_weights.proofs.Adding.{sum_told}
use Rattle.board_weights.proofs.numbers.tally_cost.Goals as goal

pub returns : goal.returns
returns c = λ n w h.
    let b = c.args.b.now in
    let t = c.args.tally.now in
    let same = c.uses_cost.ensures ∙ (ap (λ xs. uses_sum b xs c.as_slice-2.result.now (length xs)) c.as_slice.ensures.value ∙ ap (λ ys. uses_sum b t.reads.items ys (length t.reads.items)) c.as_slice-2.ensures.value) in
    c.sum.ensures ∙ sum_told b n w t c.uses_cost.result same h
