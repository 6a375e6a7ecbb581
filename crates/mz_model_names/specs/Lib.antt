pub mod Named
pub mod Formed
pub mod Closed
pub mod StepsVars
