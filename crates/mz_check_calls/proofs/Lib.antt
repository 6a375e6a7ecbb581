pub mod Disjunctions
pub mod Pairing
pub mod Choosing
pub mod Preceding
pub mod IntegerRows
