pub mod Substructure
pub mod Choosing
pub mod Growing
pub mod Walking
pub mod WholeTables
