pub mod ElementCells
pub mod StepsElements
pub mod StepsLines
