pub mod Lines
pub mod Sets
pub mod Views
pub mod Arguments
pub mod Numbers
pub mod Arrays
pub mod Values
pub mod Answers
pub mod Costs
pub mod Bounds
pub mod RowBounds
pub mod Laws
mod ValueExamples
mod BoundExamples
pub mod Monotone
