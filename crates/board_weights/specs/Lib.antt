-- what an operation weighs on a board
pub mod OnBoard
-- what a tally costs
pub mod Sums
