pub mod Senses
pub mod Machines
