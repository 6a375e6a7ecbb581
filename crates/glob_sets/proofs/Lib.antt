pub mod Apart
pub mod Together
pub mod Elements
pub mod AtPlaces
pub mod Belonging
pub mod Linking
