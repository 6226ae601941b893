-- what is known of a graph on a board
pub mod Knowing
-- what a plan of a graph promises
pub mod Placings
