-- the code of a position, by the addresses of objects in lists
pub mod Coded
