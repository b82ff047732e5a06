pub mod Leaves
pub mod Steps
pub mod ExpressionSteps
pub mod PartsAhead
pub mod GivenSteps
pub mod PrimarySteps
pub mod WrittenSteps
pub mod DeclaredSteps
