pub mod EndLaws
pub mod NumberLaws
pub mod LineLaws
pub mod RowLaws
pub mod ToldLaws
pub mod ValueLaws
pub mod NeverLaws
