pub mod Edits
pub mod Holds
pub mod Fates
pub mod Steps
pub mod Runs
pub mod Came
pub mod Untouched
pub mod Touched
