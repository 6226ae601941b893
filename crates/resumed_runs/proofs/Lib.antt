-- instructions of an awake machine, one behind another
pub mod Paths
-- where the pieces of a code stand, and the words and bytes of an image
pub mod Pieces
pub mod WordBytes
-- boot and a head, and boot behind a cut
pub mod Instructions
pub mod Dead
-- what there is to show of a code
pub mod Carrying
-- what holds at each moment of its runs
pub mod Moments
pub mod Resuming
-- and what that comes to
pub mod Agreeing
