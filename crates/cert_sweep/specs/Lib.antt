pub mod Rising
pub mod Views
pub mod Stepping
