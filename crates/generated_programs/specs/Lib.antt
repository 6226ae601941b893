-- the text of a generated program
pub mod Generated
