pub mod WeightLevels
pub mod Tallying
pub mod ToldUses
pub mod FlatNumbers
pub mod Heights
pub mod Keeping
