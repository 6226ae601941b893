pub mod Syntax
pub mod Types
pub mod Readings
pub mod Putting
pub mod TreeRead
