pub mod Folds
pub mod Growing
pub mod Intervals
pub mod Lists
pub mod Telling
pub mod Kept
pub mod Pushed
pub mod Placing
pub mod Tested
pub mod Put
mod TermExamples
mod BoundExamples
pub mod FreeTerms
pub mod Sets
pub mod Families
pub mod BoundsOfLists
pub mod ByKind
pub mod Terms
pub mod Accesses
