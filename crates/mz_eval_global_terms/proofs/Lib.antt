pub mod ArgumentLaws
pub mod CallLaws
pub mod CostLaws
pub mod ParLaws
