use Rattle.std.proofs.Common.{◌≡◌, ◌∷◌, List, sym, subst, arith}
use Rattle.c_typing.specs.declared.call_site.CallSite.{CallSite}
use Rattle.c_typing.specs.Cycles.{AreAmong}
use Rattle.c_answers.proofs.Among.{among_more}
use Rattle.c_answers.proofs.answered.bound.Goals as goal

pub loop-call-preserved : goal.loop-call-preserved
loop-call-preserved c = λ m le others.
    let split : c.loop-call.rest.now ≡ c.in-Some.call.now ∷ c.in-Some.behind.now = grind arith in
    let among : AreAmong m (c.in-Some.call.now ∷ c.in-Some.behind.now) = among_more m c.in-Some.call.now c.in-Some.behind.now (omega (arith, le, c.in_ok-n.ensures.caller)) (omega (arith, le, c.in_ok-n.ensures.callee)) others in
    c.loop-call.invariant m (omega (arith, le, c.in_ok-n.ensures.own)) (subst (λ (l : List CallSite). AreAmong m l) (sym split) among)
