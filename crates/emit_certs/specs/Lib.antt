-- where operations stand, and their rows, one at a time
pub mod Standing
-- what the parts of the crate promise each other
pub mod Timed
pub mod Framed
