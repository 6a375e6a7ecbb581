pub mod IntLists
pub mod SetLemmas
pub mod Loops
pub mod NameBytes
