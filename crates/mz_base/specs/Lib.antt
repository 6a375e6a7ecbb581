pub mod Counts
pub mod Faults
pub mod Keywords
pub mod Kind
pub mod Names
pub mod StepsKeywords
pub mod Words
