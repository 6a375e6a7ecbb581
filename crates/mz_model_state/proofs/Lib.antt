mod Places
mod Names
mod Models
mod Stopped
mod Walking
pub mod Variables
mod Instance
pub mod Tests
pub mod Roots
mod SampleHeld
mod Pushed
mod Sorts
mod Ends
mod VarsOver
mod PartNodes
mod Forms
mod NextNames
mod Progress
