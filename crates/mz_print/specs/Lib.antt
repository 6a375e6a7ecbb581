pub mod Items
pub mod Names
pub mod Printers
pub mod Output
pub mod OutputExamples
pub mod Lines
pub mod Printable
