pub mod Steps
pub mod Gathering
pub mod FirstParts
pub mod NameWords
pub mod MemberSteps
pub mod TypeSteps
pub mod Added
