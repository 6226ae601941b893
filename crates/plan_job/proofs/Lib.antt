pub mod Reading
pub mod Ending
pub mod OneGraph
pub mod OnePlan
