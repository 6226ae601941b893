pub mod Values
pub mod Advancing
pub mod Standing
pub mod Passing
pub mod Placing
pub mod Ways
