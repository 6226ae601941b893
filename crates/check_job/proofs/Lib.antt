pub mod RefusedTexts
pub mod Reading
pub mod Ending
pub mod OneCheck
