pub mod Placed
pub mod Effects
pub mod Layer
pub mod GraphEffects
