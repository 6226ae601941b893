pub mod Supplies
pub mod Boxes
pub mod Rows
