pub mod Bytes
pub mod Page
