pub mod Hulls
pub mod Limits
pub mod Products
pub mod Quotients
pub mod BitsRead
pub mod Remainders
