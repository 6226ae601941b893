use Rattle.power_core.proofs.Going.{go_goes_on, go_steps_on, wake_goes_on, wake_steps_on}
use Rattle.power_core.proofs.device.Core.apply.Goals as goal

pub returns-in-Go-clause-goes_on : goal.returns-in-Go-clause-goes_on
returns-in-Go-clause-goes_on c = rw c.in-Go.is (go_goes_on _ _ _ _ _ c.go.ensures.told c.go.ensures.state c.go.ensures.counts c.go.ensures.unchanged)

pub returns-in-Wake-clause-goes_on : goal.returns-in-Wake-clause-goes_on
returns-in-Wake-clause-goes_on c =
    rw c.in-Wake.is (wake_goes_on _ _ c.in-Wake.refill _ _ _ _ c.wake.ensures.told c.wake.ensures.wakes c.wake.ensures.counts c.wake.ensures.unchanged)

pub returns-in-Go-clause-steps_on : goal.returns-in-Go-clause-steps_on
returns-in-Go-clause-steps_on c = rw c.in-Go.is (go_steps_on _ _ _ _ _ c.go.ensures.told c.go.ensures.state c.go.ensures.counts)

pub returns-in-Wake-clause-steps_on : goal.returns-in-Wake-clause-steps_on
returns-in-Wake-clause-steps_on c =
    rw c.in-Wake.is (wake_steps_on _ _ c.in-Wake.refill _ _ _ _ c.wake.ensures.told c.wake.ensures.wakes c.wake.ensures.counts)
