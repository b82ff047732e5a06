pub mod NameSteps
pub mod ImportSteps
pub mod WrittenSteps
