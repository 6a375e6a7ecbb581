pub mod Next
pub mod DataSyntax
pub mod ModelSyntax
pub mod LeftOut
pub mod TokenParts
pub mod Promise
