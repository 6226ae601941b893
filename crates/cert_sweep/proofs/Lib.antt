pub mod Advancing
pub mod Chains
pub mod Halves
pub mod Rows
pub mod Total
