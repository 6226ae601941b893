-- what the contract of `call_depth` rests on
pub mod Depth
-- what the functions of the crate promise each other
pub mod Levels
