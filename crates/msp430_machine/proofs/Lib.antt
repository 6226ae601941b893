pub mod Examples
pub mod Decoding
pub mod Loading
pub mod Held
pub mod Costs
pub mod Memories
pub mod Writes
