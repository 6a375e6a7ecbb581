pub mod Examples
pub mod Requests
pub mod Commands
pub mod Found
pub mod Parsed
