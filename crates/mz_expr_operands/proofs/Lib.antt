pub mod Arguments
pub mod ArgumentsOfCode
pub mod Operands
