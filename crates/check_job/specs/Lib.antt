-- what the contract of `schematic` rests on
pub mod Check
pub mod Checking
pub mod Ends
-- what the functions of the crate promise each other
pub mod InCode
