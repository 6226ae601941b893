use Rattle.std.proofs.Common.{◌≡◌, ◌∷◌, reverse, refl, sym}
use Rattle.c_parse.specs.Turning.{as_word}
use Rattle.c_parse.proofs.Stepping.{reach_here, refuse_end, refuse_here, same_leaf, turn_less, turn_on, steps_from}
use Rattle.c_parse.proofs.machine.Machine.step.Goals as goal

pub turns-init : goal.turns-init
turns-init c = record { reaches = reach_here _ _ _; same = refl; lies = c.args.self.now.waits.counted }

pub returns-in-Some-class_wanted : goal.returns-in-Some-class_wanted
returns-in-Some-class_wanted c =
    let popped : reverse c.turns.self.waits.stack.items ≡ c.in-Some.wait ∷ reverse c.pop.new.self.stack.items = c.in-Some.ensures in
    steps_from _ (as_word c.args.class c.args.leaf) c.in-Some-class_wanted.wanted _ _ _ c.in-Some.wait _ _ _ _ c.turns.invariant.reaches popped c.in-Some-class_wanted.ensures (same_leaf _ _ _ c.turns.invariant.same _ _ _ _ _ c.in_ok-read-in-Some-class_wanted.ensures)

pub returns-else-turned : goal.returns-else-turned
returns-else-turned c =
    let popped : reverse c.turns.self.waits.stack.items ≡ c.in-Some.wait ∷ reverse c.pop.new.self.stack.items = c.in-Some.ensures in
    refuse_here (as_word c.args.class c.args.leaf) _ _ _ c.in-Some.wait _ _ _ _ _ _ c.turns.invariant.reaches popped (sym c.in-None.ensures) c.in_ok-turned-in-None.ensures c.if-turned.false c.turns.invariant.lies

pub turns-smaller : goal.turns-smaller
turns-smaller c =
    let popped : reverse c.turns.self.waits.stack.items ≡ c.in-Some.wait ∷ reverse c.pop.new.self.stack.items = c.in-Some.ensures in
    turn_less (as_word c.args.class c.args.leaf) _ c.in-Some.wait _ _ _ _ _ popped c.in_ok-turned-in-None.ensures c.if-turned.true

pub turns-preserved : goal.turns-preserved
turns-preserved c =
    let popped : reverse c.turns.self.waits.stack.items ≡ c.in-Some.wait ∷ reverse c.pop.new.self.stack.items = c.in-Some.ensures in
    record { reaches = turn_on (as_word c.args.class c.args.leaf) _ _ _ c.in-Some.wait _ _ _ _ _ c.turns.invariant.reaches popped c.in_ok-turned-in-None.ensures c.if-turned.true; same = c.turns.invariant.same; lies = c.turn.new.self.waits.counted }

pub returns : goal.returns
returns c = refuse_end (as_word c.args.class c.args.leaf) _ _ _ _ _ c.turns.invariant.reaches c.in_default.ensures.0 c.turns.invariant.lies
