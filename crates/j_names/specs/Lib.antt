pub mod Calls
pub mod Dots
pub mod Indexed
pub mod Members
pub mod Names
pub mod Scopes
pub mod Walk
