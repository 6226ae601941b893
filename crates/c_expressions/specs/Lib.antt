pub mod Fronts
pub mod Operations
pub mod Operands
