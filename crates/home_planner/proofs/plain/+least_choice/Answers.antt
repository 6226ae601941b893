use Rattle.std.specs.Prelude.{◌-◌, length, get_or, take, drop}
use Rattle.std.proofs.Common.{ℕ, ◌≡◌, ◌≤◌, ◌+◌, min, subst, sym, arith}
use Rattle.home_planner.specs.declared.Gain.{Gain}
use Rattle.home_planner.specs.Choices.{IsLeastChoice}
use Rattle.home_planner.proofs.EverySet.{least_both_at, least_out_at}
use Rattle.home_planner.proofs.plain.+least_choice.Goals as goal

none : Gain
none = record { object = 0; words = 0; fram = 0; sram = 0 }

pub returns-then-words-room-clause-least : goal.returns-then-words-room-clause-least
unfolding none
returns-then-words-room-clause-least t c =
    let w = c.from-words.ensures in
    let fits : (get_or c.args.gains.now 0 none).words ≤ c.args.room = omega (arith, w) in
    let e : c.min.result ≡ min ((get_or c.args.gains.now 0 none).fram + c.least_choice.result) ((get_or c.args.gains.now 0 none).sram + c.least_choice-then-words-room.result) = c.min.ensures in
    subst (λ (n : ℕ). IsLeastChoice c.args.gains.now c.args.room n) (sym e)
    (least_both_at c.args.gains.now none c.args.room c.least_choice.result c.least_choice-then-words-room.result c.in-len1-up.len_at_least fits c.least_choice.ensures.least
    (subst (λ (n : ℕ). IsLeastChoice (take (length c.args.gains.now - 1) (drop 1 c.args.gains.now)) (c.args.room - n) c.least_choice-then-words-room.result) w c.least_choice-then-words-room.ensures.least))

pub returns-else-words-room-clause-least : goal.returns-else-words-room-clause-least
unfolding none
returns-else-words-room-clause-least t c =
    least_out_at c.args.gains.now none c.args.room c.least_choice.result c.in-len1-up.len_at_least (omega (arith, c.from-words.ensures)) c.least_choice.ensures.least
