pub mod Chains
pub mod Costs
pub mod FirstWords
pub mod Same
pub mod Stores
