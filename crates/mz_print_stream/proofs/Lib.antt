pub mod Lines
pub mod Readings
pub mod Feeding
pub mod Outputs
pub mod Drains
pub mod Sources
pub mod Streams
pub mod Fits
