pub mod NodeRows
pub mod StepsRows
pub mod StepsNever
pub mod Ends
pub mod Numbers
