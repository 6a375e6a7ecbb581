pub mod Answering
pub mod Found
pub mod Numbers
pub mod Taking
pub mod Texts
