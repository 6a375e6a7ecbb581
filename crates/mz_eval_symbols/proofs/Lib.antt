pub mod Arrays
pub mod Undefined
pub mod CastLaws
pub mod ConstantLaws
pub mod Lists
pub mod LineLaws
pub mod NodeLaws
pub mod LackingLaws
