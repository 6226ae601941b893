pub mod Templates
pub mod Weights
