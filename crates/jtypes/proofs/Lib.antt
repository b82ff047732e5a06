pub mod Equality
pub mod Lists
pub mod Levels
pub mod Reached
pub mod Deciding
pub mod LeftOver
pub mod WalkQuestions
pub mod Worlds
