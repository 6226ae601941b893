-- parts that are given one after another
mod EmitLemmas
-- what is sought in statements
mod HoldLemmas
-- which functions are reached
mod CallLemmas
-- first operands
mod OperandLemmas
-- the variables that statements declare
mod NameLemmas
-- operators of constant expressions
mod ConstantLemmas
-- a compound assignment
mod UpdateLemmas
-- the words with which a global begins
mod BeginLemmas
-- the bodies of functions
mod BodyLemmas
-- where operations come from
mod PlaceLemmas
-- items one after another, and the groups of a switch
mod ItemLemmas
