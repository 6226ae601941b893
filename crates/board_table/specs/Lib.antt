pub mod Keys
pub mod Faults
pub mod Reading
pub mod Others
pub mod File
pub mod Steps
