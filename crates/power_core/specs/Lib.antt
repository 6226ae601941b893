pub mod Runs
pub mod Agreement
pub mod Enduring
pub mod Cores
