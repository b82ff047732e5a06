pub mod Worlds
pub mod Rows
pub mod Once
