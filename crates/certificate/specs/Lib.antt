-- what a certificate says, which there are, and how they are spelt
pub mod Rows
pub mod Whole
pub mod Line
pub mod Grammar
pub mod Facts
pub mod Spelling
pub mod Texts
-- what the functions inside promise each other
pub mod Fields
pub mod Sums
pub mod Lines
pub mod Reading
pub mod Appending
