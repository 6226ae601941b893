-- where objects stand
pub mod Homes
-- before which operations a head stands
pub mod Heads
-- which operation follows which
pub mod Order
-- the code in pieces
pub mod Pieces
