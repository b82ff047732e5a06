pub mod TypeNames
pub mod WrittenTypes
pub mod Declarations
