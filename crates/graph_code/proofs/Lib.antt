-- where objects stand
pub mod HomeLemmas
-- which operation follows which
pub mod OrderLemmas
-- the code in pieces
pub mod Pieces
