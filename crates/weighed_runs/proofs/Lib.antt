-- what weights cost
mod Costing
-- what an operation leaves of the objects
mod Effecting
-- what the rules say of parts of items
mod Parts
-- runs through items
mod Running
-- runs through the items of a graph
pub mod Laws
