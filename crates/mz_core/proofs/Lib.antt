pub mod Tests
pub mod OrderLaws
pub mod PathLaws
pub mod BaseJoins
pub mod JoinLaws
pub mod TypeLaws
pub mod TreeLaws
mod Examples
