pub mod Loops
pub mod NameSteps
pub mod Classes
pub mod Erasures
pub mod SameLists
pub mod Enumerating
pub mod MemberTypes
