pub mod Plans
pub mod Weights
pub mod Legs
pub mod Tables
