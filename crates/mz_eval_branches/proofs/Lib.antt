pub mod ChoiceLaws
pub mod FoldLaws
pub mod LineLaws
pub mod NoValues
pub mod Settling
pub mod TruthLaws
pub mod TableLaws
