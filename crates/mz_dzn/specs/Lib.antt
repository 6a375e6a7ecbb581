pub mod DataFile
pub mod Steps
