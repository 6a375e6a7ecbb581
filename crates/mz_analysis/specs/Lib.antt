pub mod Analysis
pub mod Known
pub mod Promise
pub mod Par
pub mod Levels
pub mod PlacePromise
