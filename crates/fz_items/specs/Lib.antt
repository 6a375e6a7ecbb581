pub mod Bytes
pub mod Contents
pub mod Forms
pub mod Gives
pub mod Items
pub mod Tables
pub mod Views
