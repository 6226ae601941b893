-- how large lowered graphs are
pub mod Counts
