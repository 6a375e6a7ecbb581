pub mod FoundNames
pub mod Equations
pub mod Answer
pub mod Naming
pub mod Tables
pub mod Single
