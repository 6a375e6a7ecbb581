pub mod Places
pub mod Ends
pub mod Arrays
pub mod Caps
pub mod Outside
pub mod Parts
pub mod Told
