pub mod Cells
pub mod Domains
pub mod Coerced
pub mod Exact
pub mod Runs
pub mod Operations
pub mod Globals
pub mod Arrays
pub mod Contexts
pub mod Chains
pub mod Forms
pub mod Comprehensions
pub mod Lets
pub mod Calls
pub mod Evaluation
pub mod Kinds
pub mod Promises
pub mod Unbounded
pub mod Walk
pub mod Solutions
pub mod RowNumbers
pub mod Written
mod UndefinedExamples
mod ComprehensionExamples
mod BoundExamples
mod WorkExamples
mod ChoiceExamples
mod ArrayExamples
mod SetExamples
mod ModelExamples
mod GlobalExamples
