-- objects, their addresses and their blocks
pub mod Objects
-- where code stands
pub mod Laying
-- templates at the addresses of objects are the graph's
pub mod Same
-- items without branches
pub mod Straight
-- what the image keeps
pub mod Keeping
