-- what the contract of `schematic` rests on
pub mod Say
pub mod Saying
pub mod Ends
-- what the functions of the crate promise each other
pub mod InCode
pub mod Opening
