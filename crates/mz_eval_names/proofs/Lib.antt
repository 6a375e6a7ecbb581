pub mod GuardLaws
pub mod CellLaws
pub mod ConditionLaws
pub mod NameLaws
pub mod CountLaws
pub mod ChoiceLaws
pub mod ResultLaws
