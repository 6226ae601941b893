-- what operations do with words
pub mod Operations
-- which operation is executed next
pub mod Nodes
-- what a graph does
pub mod Flow
-- what holds of every graph
pub mod Rules
-- the operations with their functions
pub mod Owned
-- where control goes, and where a run may stand
pub mod Closed
-- what comes of a run
pub mod Results
-- what the rules are enough for
pub mod Laws
-- what the functions that list them promise each other
pub mod Laying
