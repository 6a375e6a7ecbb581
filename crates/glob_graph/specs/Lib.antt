pub mod Senses
pub mod Tables
pub mod Walks
pub mod Automata
