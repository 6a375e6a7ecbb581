pub mod Needs
pub mod States
pub mod Lists
pub mod NodeKinds
pub mod Unmet
pub mod Below
pub mod Roots
