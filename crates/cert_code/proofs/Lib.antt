pub mod Fetching
pub mod Sweeping
pub mod InstructionKinds
pub mod Edges
pub mod Tables
pub mod Apart
pub mod Functions
pub mod Examples
