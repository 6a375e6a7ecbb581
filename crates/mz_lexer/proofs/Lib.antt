mod Examples
pub mod Comments
pub mod Contents
pub mod Cuts
pub mod Digits
pub mod Exact
pub mod Prefixes
pub mod Identifiers
pub mod LeftOuts
pub mod Lexing
pub mod Meanings
pub mod Pieces
pub mod Runs
pub mod Shapes
pub mod Spellings
pub mod Steps
pub mod Words
