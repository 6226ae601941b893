-- what a graph does against what a program does
pub mod Runs
pub mod Tracks
pub mod Keeps
pub mod Leaves
-- the statement of the theorem
pub mod Behaves
