pub mod Bytes
pub mod Grammar
pub mod Image
pub mod Spelling
pub mod Spots
pub mod Sweep
