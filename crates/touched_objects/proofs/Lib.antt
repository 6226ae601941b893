-- paths of calls
pub mod Reaching
