pub mod Lefts
pub mod NumberLaws
pub mod Work
pub mod ContextLaws
pub mod Calls
pub mod BareLaws
pub mod NodeLaws
pub mod WorkLaws
