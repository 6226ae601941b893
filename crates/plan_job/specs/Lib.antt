-- what the contract of `schematic` rests on
pub mod Plan
pub mod Room
pub mod Graphs
pub mod Planning
pub mod Ends
-- what the functions of the crate promise each other
pub mod InCode
