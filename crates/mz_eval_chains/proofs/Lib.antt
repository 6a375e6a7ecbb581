pub mod Innermosts
pub mod Heads
pub mod LastLinks
pub mod Layers
pub mod Runs
pub mod Seeing
