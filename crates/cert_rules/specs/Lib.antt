-- what a certificate's rows say of one another and of the image
pub mod Words
pub mod Faults
pub mod Slots
pub mod Ranges
pub mod Spending
pub mod Known
pub mod Tables
-- what is known behind each instruction
pub mod Places
pub mod Forms
pub mod Effects
-- the rules of the code, in their order
pub mod Points
pub mod Sheet
pub mod Overhead
pub mod Standing
pub mod Shapes
pub mod Accesses
pub mod Calls
pub mod Outcomes
pub mod Going
pub mod Copies
pub mod Steps
pub mod Sweep
