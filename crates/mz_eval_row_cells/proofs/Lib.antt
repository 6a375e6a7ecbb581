pub mod Knowing
pub mod Limited
pub mod Shown
pub mod Answered
pub mod Told
pub mod Sizes
pub mod Parted
