pub mod Among
pub mod Firsts
pub mod OneAnswer
pub mod Reached
