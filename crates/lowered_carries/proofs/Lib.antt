-- a graph that does what a program means carries it
pub mod Carrying
