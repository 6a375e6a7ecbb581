pub mod Entries
pub mod Grouping
pub mod Answering
pub mod Hiding
pub mod Returning
