pub mod Items
pub mod Held
pub mod Seeing
pub mod Casts
pub mod Seals
