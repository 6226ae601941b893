pub mod SoundLevels
pub mod CallLevels
pub mod CountLevels
pub mod NameLevels
