pub mod Locals
pub mod StepsTaking
pub mod Wants
pub mod Steps
