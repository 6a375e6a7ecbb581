pub mod Reading
pub mod Printing
pub mod Driving
pub mod StepsDrain
pub mod Promises
pub mod StepsStream
