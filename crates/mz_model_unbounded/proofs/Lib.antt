pub mod Firsts
pub mod Items
pub mod Layers
pub mod Walking
