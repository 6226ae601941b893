-- lists that are listed part after part
pub mod ListLemmas
-- how an item is laid, and parts one after another
pub mod LaidLemmas
-- operations, one after another
pub mod FlowLemmas
-- each operation is found by its number
pub mod NodeLemmas
-- one word of an object is written
pub mod ObjectLemmas
-- the operations of a part that fits
pub mod PartLemmas
-- where control goes
pub mod ClosedLemmas
-- where control falls on
pub mod FallLemmas
-- where a run may stand
pub mod StandLemmas
-- what comes of a run
pub mod ResultLemmas
