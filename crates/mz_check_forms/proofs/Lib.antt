pub mod Shapes
pub mod Loops
pub mod Passing
pub mod JoinLaws
pub mod BranchLaws
