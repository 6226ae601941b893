pub mod Declarators
pub mod Grouped
pub mod Labels
pub mod Rules
