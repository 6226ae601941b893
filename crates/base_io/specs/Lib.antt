pub mod Changes
pub mod Counts
pub mod Digits
pub mod Doubles
pub mod Files
pub mod Pieces
pub mod Streams
