pub mod Covering
pub mod Running
pub mod Stepping
pub mod Calls
pub mod Heads
pub mod Waking
pub mod Copying
pub mod Soundness
