pub mod Lists
pub mod Reading
pub mod Order
pub mod Counting
pub mod Scheduling
pub mod Graphs
pub mod Givens
pub mod Table
pub mod Names
pub mod Laws
pub mod ExampleWords
mod OrderExamples
mod CountingExamples
mod SchedulingExamples
mod GraphExamples
