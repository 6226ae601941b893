pub mod One
pub mod Ready
pub mod All
pub mod Moments
