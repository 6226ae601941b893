-- weights as they are told
pub mod ToldUses
pub mod ToldSums
pub mod ToldCosts
-- weights of a turn, and of single items
pub mod ItemSums
-- the objects that flat functions touch
pub mod TouchedLevels
-- lists
pub mod Listing
-- every operation fits, so every body does
pub mod Fitting
-- the chains of a function, and of those behind it
pub mod Following
-- those that are explained
pub mod ExplainedFunctions
-- what the code holds is what is known
pub mod KnownSame
