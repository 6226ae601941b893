pub mod Shown
pub mod Steady
mod SteadyNodes
mod Chain
mod Operands
mod Store
