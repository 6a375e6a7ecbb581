pub mod Guards
pub mod There
pub mod Lying
pub mod StepsLines
pub mod StepsGuarding
