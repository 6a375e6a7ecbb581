pub mod Solutions
pub mod UndoLemmas
pub mod LineLemmas
pub mod ReaderLemmas
pub mod CutLemmas
pub mod Soundness
pub mod Values
