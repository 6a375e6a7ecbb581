pub mod Senses
pub mod Windows
