pub mod Parts
pub mod Contents
pub mod Instance
pub mod Solved
pub mod Laws
pub mod Sample
