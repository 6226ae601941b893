-- what instructions cost at most
pub mod Costs
-- where instructions stand
pub mod Framing
-- lists that were appended to
pub mod Appending
-- what is computed of the template of each kind
pub mod EachKind
-- one operation at a time
pub mod Stepping
-- that the points inside templates keep the grammar
pub mod Inside
-- that the whole certificate keeps the grammar
pub mod Ruled
-- that certificates of alike code are the same
pub mod Alike
-- code that is timed, one instruction after another
pub mod Counting
-- that the rows make the certificate
pub mod Joining
