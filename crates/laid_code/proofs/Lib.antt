-- how a run of the flow is tracked
pub mod Following
-- what a flow does, and that it follows itself
pub mod Behaves
-- where the words of objects stand, and the call stack
pub mod Homes
-- words at their homes, and what instructions lead to
pub mod Words
pub mod Leading
-- arrays, calls, and loops that count their turns
pub mod Copying
pub mod Calling
pub mod Rounds
-- templates that are proved backwards
pub mod Backwards
-- what there is to show of code laid out over positions
pub mod Laid
pub mod Lines
pub mod Homing
-- and what it comes to
pub mod LaidRuns
-- heads before chosen operations, and the image
pub mod ChosenHeads
pub mod ChosenImage
