-- what the functions of the lowering promise each other
pub mod Emitting
pub mod Emitted
-- an expression as its first operand and what comes behind it
pub mod Operands
-- what a statement or an expression holds
pub mod Holding
-- the variables that a statement declares
pub mod Naming
-- constant expressions
pub mod Counting
-- where the items of a list stand
pub mod Places
-- which functions are reached, by a table of calls
pub mod Calling
-- the words with which a global begins
pub mod Beginning
-- how the functions made so far go on
pub mod Adding
-- a switch, as a list of arms
pub mod Arms
-- what the call of the lowering answers
pub mod Lowering
