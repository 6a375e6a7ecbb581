pub mod Entries
pub mod Table
pub mod Readings
pub mod Signatures
pub mod StepsFits
pub mod Views
