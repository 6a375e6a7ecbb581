pub mod Arrays
pub mod Senses
