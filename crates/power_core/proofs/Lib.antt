pub mod Covers
pub mod Points
pub mod Stands
pub mod Examples
pub mod Spending
pub mod Going
