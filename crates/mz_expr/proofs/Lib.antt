pub mod Descents
pub mod Loops
pub mod Prefixes
mod Climbs
