pub mod Turns
pub mod Raised
pub mod Outside
pub mod AllTexts
pub mod Numbered
pub mod Places
