-- that a lowered graph obeys the rules of graphs
pub mod Obeying
