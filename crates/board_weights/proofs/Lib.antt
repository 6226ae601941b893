-- sums over objects
pub mod Uses
-- an operation's code, kind by kind
pub mod EachKind
-- its weight, added to a tally
pub mod Adding
