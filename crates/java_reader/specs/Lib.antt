pub mod Kinds
pub mod Reading
pub mod Units
pub mod Calls
pub mod Walking
