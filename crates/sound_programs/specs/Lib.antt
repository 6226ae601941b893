-- what may be taken for granted of the parts of a program: the types, the nodes, and the calls
pub mod Sound
pub mod Counted
pub mod Calls
-- and of a whole program
pub mod SoundPrograms
-- names, jumps and labels
pub mod Scoped
