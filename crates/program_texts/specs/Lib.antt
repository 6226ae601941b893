pub mod Front
pub mod Shown
pub mod Laws
