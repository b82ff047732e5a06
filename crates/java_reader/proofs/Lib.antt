pub mod Rows
pub mod Closed
pub mod ReadTrees
pub mod UnitSteps
pub mod CallSteps
pub mod SkipSteps
