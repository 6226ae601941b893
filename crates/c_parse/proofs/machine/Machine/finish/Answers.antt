use Rattle.std.proofs.Common.{◌≡◌, ◌∷◌, reverse}
use Rattle.c_parse.specs.Machine.{stay}
use Rattle.c_parse.proofs.Stepping.{lacks_token, lacks_turn, ends_on, ends_less}
use Rattle.c_parse.proofs.machine.Machine.finish.Goals as goal

pub turns-init : goal.turns-init
turns-init c = stay _ _ _

pub returns-in-Some-class_wanted : goal.returns-in-Some-class_wanted
returns-in-Some-class_wanted c =
    let popped : reverse c.turns.self.waits.stack.items ≡ c.in-Some.wait ∷ reverse c.pop.new.self.stack.items = c.in-Some.ensures in
    lacks_token _ _ _ c.in-Some.wait _ _ _ c.turns.invariant popped c.in-Some-class_wanted.ensures

pub returns-else-turned : goal.returns-else-turned
returns-else-turned c =
    let popped : reverse c.turns.self.waits.stack.items ≡ c.in-Some.wait ∷ reverse c.pop.new.self.stack.items = c.in-Some.ensures in
    lacks_turn _ _ _ c.in-Some.wait _ _ _ _ _ c.turns.invariant popped c.in_ok-turned-in-None.ensures c.if-turned.false

pub turns-smaller : goal.turns-smaller
turns-smaller c =
    let popped : reverse c.turns.self.waits.stack.items ≡ c.in-Some.wait ∷ reverse c.pop.new.self.stack.items = c.in-Some.ensures in
    ends_less _ c.in-Some.wait _ _ _ _ _ popped c.in_ok-turned-in-None.ensures c.if-turned.true

pub turns-preserved : goal.turns-preserved
turns-preserved c =
    let popped : reverse c.turns.self.waits.stack.items ≡ c.in-Some.wait ∷ reverse c.pop.new.self.stack.items = c.in-Some.ensures in
    ends_on _ _ _ c.in-Some.wait _ _ _ _ _ c.turns.invariant popped c.in_ok-turned-in-None.ensures c.if-turned.true
