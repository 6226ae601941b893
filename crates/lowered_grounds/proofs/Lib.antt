-- each parameter and local belongs to one function
pub mod Introduced
-- parameters and locals are no objects of the file
pub mod InnerVariables
-- what stays as objects are numbered
pub mod NumberingKeeps
-- where the objects of a function stand
pub mod Stages
-- where the operations of a function stand
pub mod BodyPlaces
-- the functions that objects belong to
pub mod Owners
-- how objects begin
pub mod Beginnings
-- how functions and the program stand in the graph
pub mod FunctionGround
pub mod ProgramGround
-- graphs of one function
pub mod Alone
