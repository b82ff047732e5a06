pub mod Rows
pub mod Matching
pub mod PartsLeft
pub mod Onwards
pub mod Elements
pub mod Texts
pub mod Letters
pub mod Reading
