pub mod Reading
pub mod Writing
pub mod OneImage
pub mod OneBuild
