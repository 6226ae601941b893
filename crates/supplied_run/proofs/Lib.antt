pub mod Phases
pub mod Reaching
pub mod Boxes
pub mod Turning
pub mod Telling
pub mod OneRun
