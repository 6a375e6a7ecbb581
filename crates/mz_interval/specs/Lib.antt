pub mod Ends
pub mod Interval
pub mod Rows
