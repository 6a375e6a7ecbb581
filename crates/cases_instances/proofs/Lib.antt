mod Indexing
mod Standing
mod Named
mod Gathered
mod Collected
