pub mod Contexts
pub mod Known
pub mod Within
