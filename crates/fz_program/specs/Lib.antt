pub mod Names
pub mod Arguments
pub mod Values
pub mod Table
pub mod Flat
