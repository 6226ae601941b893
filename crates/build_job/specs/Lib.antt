-- what the contract of `schematic` rests on
pub mod Build
pub mod Programs
pub mod Images
pub mod Building
pub mod Ends
-- what the functions of the crate promise each other
pub mod InCode
pub mod Parts
