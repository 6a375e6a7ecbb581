pub mod Options
pub mod Arithmetic
pub mod FoldBounds
pub mod SetMembers
pub mod SetBounds
pub mod CardBounds
pub mod Numbers
pub mod Sets
