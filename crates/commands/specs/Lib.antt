-- what the contract of `schematic` rests on
pub mod Words
pub mod Causes
pub mod Faults
pub mod Left
pub mod Call
pub mod Headline
pub mod Laws
-- what the functions of the crate promise each other
pub mod Beginnings
pub mod Refusing
