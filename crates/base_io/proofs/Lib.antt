pub mod CountLemmas
pub mod FileLemmas
pub mod HeldLemmas
pub mod PieceLemmas
pub mod StreamLemmas
