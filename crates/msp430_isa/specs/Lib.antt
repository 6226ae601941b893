-- which words spell an instruction, and what holds of them
pub mod Fields
pub mod Encoding
pub mod Profile
pub mod Spelled
pub mod Laws
-- the instruction computed from three words, for a step of a device
pub mod Decoding
-- what an instruction makes of values and flags
pub mod Results
