pub mod StepsMeeting
pub mod StepsParts
pub mod StepsTaking
pub mod StepsPlacing
pub mod StepsProgram
