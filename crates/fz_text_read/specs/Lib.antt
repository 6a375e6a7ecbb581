pub mod Tokens
pub mod Lists
pub mod Tables
pub mod Arguments
pub mod Lines
pub mod Views
