pub mod StepsLists
pub mod StepsPowers
