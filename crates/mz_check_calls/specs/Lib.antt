pub mod Views
pub mod Pairs
pub mod Rows
pub mod StepsLeftOut
pub mod StepsChains
pub mod StepsIntegers
