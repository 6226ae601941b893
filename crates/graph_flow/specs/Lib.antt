-- a graph as a flow
pub mod GraphFlow
