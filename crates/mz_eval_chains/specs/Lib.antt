pub mod Innermosts
pub mod Links
