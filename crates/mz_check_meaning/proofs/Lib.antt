pub mod Giving
pub mod Rules
pub mod Leaves
pub mod Typed
pub mod SourceOrder
