pub mod Shown
pub mod Amounts
pub mod Costs
pub mod Spots
pub mod Views
