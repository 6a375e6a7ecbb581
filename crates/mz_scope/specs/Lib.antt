pub mod Examples
pub mod Spaces
pub mod StepsSpaces
pub mod StepsTests
pub mod Tests
pub mod Named
pub mod Scope
pub mod StepsScope
