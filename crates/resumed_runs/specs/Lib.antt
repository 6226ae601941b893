-- the code around a program's operations
pub mod Code
-- what it costs
pub mod Need
-- the bytes of code
pub mod Bytes
-- what a flow of operations is to its program
pub mod Carries
-- operations counted along a run
pub mod Counts
