pub mod Absent
pub mod Cleared
pub mod Flattening
pub mod Laws
pub mod Declaring
pub mod Arrays
pub mod Fronts
