pub mod Marking
pub mod Keeping
pub mod Totaling
pub mod Seeding
pub mod Rooting
pub mod Parting
pub mod Aiming
pub mod Turning
