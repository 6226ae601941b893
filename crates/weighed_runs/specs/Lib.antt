-- what a run through items costs
pub mod Spending
