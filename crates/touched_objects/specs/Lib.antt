-- which objects a function touches
pub mod Touched
-- a table of them
pub mod Tables
