pub mod TestAnswers
pub mod Each
pub mod Labels
pub mod Tests
pub mod Sets
pub mod Places
pub mod RowExamples
