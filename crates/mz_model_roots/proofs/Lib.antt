mod EqualContents
mod EqualNodes
mod CellRoots
mod ArrayRoots
mod ShapedRoots
mod OperandLaws
pub mod ArrayCells
pub mod NextPlaces
mod PlaceCells
mod WholeItems
