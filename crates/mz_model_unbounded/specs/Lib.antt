pub mod Firsts
pub mod StepsLayers
