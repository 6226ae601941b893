use Rattle.std.proofs.Common.{◌∙◌, ◌<◌, ◌+◌, ◌*◌, rules}
use Rattle.supply_trace.proofs.Reading.{too_much}
use Rattle.supply_trace.proofs.text.number_of.Goals as goal

pub returns-then-number-gt-MOST : goal.returns-then-number-gt-MOST
returns-then-number-gt-MOST c =
    let above : 1000000000 < c.loop-rest.number * 10 + c.in_ok-digit.field-0 = search rules in
    too_much c.loop-rest.number c.in_ok-digit.field-0 c.loop-rest.rest.now c.in-len1-up.len_at_least c.in_ok-digit.ensures above ∙ c.loop-rest.invariant.1
