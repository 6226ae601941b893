pub mod ConstantLevels
pub mod Ends
pub mod Operations
