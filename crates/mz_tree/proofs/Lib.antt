pub mod Collected
pub mod DataLooks
pub mod Later
pub mod Looks
pub mod Maps
pub mod Anything
pub mod Staying
