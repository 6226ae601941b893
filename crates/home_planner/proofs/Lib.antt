pub mod Merging
pub mod Extending
pub mod Walking
pub mod Bridge
pub mod EverySet
pub mod Lowest
pub mod Numbered
