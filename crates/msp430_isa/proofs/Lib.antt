pub mod Passed
pub mod Fields
pub mod Lists
pub mod Operands
pub mod Opcodes
pub mod Table
pub mod Spelling
