use Rattle.std.proofs.Common.{◌≡◌, ◌<◌, [], ◌∙◌, sym, subst, arith, length, take, get_or}
use Rattle.std.proofs.lemmas.List.{take_more}
use Rattle.c_answers.specs.Rows.{Exact}
use Rattle.c_answers.proofs.Reached.{exact_none, exact_next}
use Rattle.c_answers.proofs.cycles.reached.Goals as goal

pub loop-call-init : goal.loop-call-init
loop-call-init c = subst (λ rows. Exact [] c.args.functions rows) (sym c.in_ok-rows.ensures) (exact_none c.args.functions)

pub loop-call-preserved : goal.loop-call-preserved
loop-call-preserved c =
    let within : c.loop-call.call-index < length c.args.calls.now = c.loop-call-test.true in
    exact_next c.args.calls.now c.args.functions c.loop-call.call-index _ c.loop-call.rows.items c.add_call.new.rows.items within c.requires c.loop-call.invariant c.in_ok-add_call.ensures.height c.in_ok-add_call.ensures.each
