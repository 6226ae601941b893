-- operations made one after another, numbered as they come
pub mod Making
-- which operation an operator is
pub mod Operators
-- what an expression is lowered to
pub mod Exprs
-- loops whose number of turns is known
pub mod Counted
-- what a statement is lowered to
pub mod Stmts
-- what a program is lowered to
pub mod GraphOf
