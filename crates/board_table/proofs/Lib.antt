pub mod Chain
pub mod Names
pub mod Order
pub mod LeastOfAll
pub mod Readings
pub mod SameBoard
pub mod Exact
