pub mod Found
pub mod Named
pub mod Limits
pub mod Ends
pub mod Reading
