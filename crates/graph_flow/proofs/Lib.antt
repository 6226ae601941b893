-- the flow of a graph and the graph, operation by operation
pub mod Meeting
-- what the flow obeys
pub mod Obeying
