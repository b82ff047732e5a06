pub mod Declarations
pub mod Elements
pub mod Cases
