pub mod Best
pub mod StepsResolution
