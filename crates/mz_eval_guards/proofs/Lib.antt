pub mod Joined
pub mod ThereLaws
pub mod LineLaws
pub mod LyingLaws
pub mod ArrayLaws
pub mod GuardingLaws
pub mod RowLaws
