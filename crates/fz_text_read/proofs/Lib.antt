pub mod PartLoops
pub mod LineLoops
pub mod NameLoops
pub mod Mapped
pub mod SameItems
pub mod ReadingExamples
