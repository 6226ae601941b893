-- what the contract of `schematic` rests on
pub mod Run
pub mod Boxes
pub mod Running
pub mod Ends
-- what the functions of the crate promise each other
pub mod InCode
pub mod Opening
