pub mod Operators
pub mod Arrays
pub mod Conditional
