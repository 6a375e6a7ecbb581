pub mod Places
pub mod StepsPlaces
