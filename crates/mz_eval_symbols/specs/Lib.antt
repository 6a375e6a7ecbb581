pub mod Taken
pub mod Bases
pub mod Steps
pub mod StepsNodes
pub mod StepsLacking
