-- sections and positions as the code holds them
pub mod Told
-- positions by the parts of a section
pub mod Listed
