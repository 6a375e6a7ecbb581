pub mod RowValues
pub mod StepsNodes
pub mod Laws
pub mod OptionValues
pub mod StepsOptions
pub mod StepsSets
