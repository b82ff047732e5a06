pub mod Fields
pub mod ReaderSteps
pub mod Rows
pub mod Written
