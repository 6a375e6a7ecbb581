pub mod Senses
pub mod Views
