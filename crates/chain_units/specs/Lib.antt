-- what is known from the layers below
pub mod Known
-- chains, by the rules of placing
pub mod Costs
pub mod Wanted
pub mod Marks
pub mod Chains
-- what a plan promises
pub mod Planned
-- what the code inside holds of a chain
pub mod Pieces
pub mod Sums
pub mod Placements
pub mod Parts
-- what is told of a plan beside it
pub mod Explained
-- which bodies have a plan
pub mod Fits
