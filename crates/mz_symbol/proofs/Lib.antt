pub mod RunLaws
pub mod ChoiceLaws
pub mod ReadingLaws
pub mod ConstantLaws
pub mod LineLaws
pub mod ConsLaws
