pub mod AccessLaws
pub mod CellLaws
pub mod ChargeLaws
pub mod ElementLaws
pub mod LineLaws
pub mod PlaceLaws
pub mod NumberLaws
