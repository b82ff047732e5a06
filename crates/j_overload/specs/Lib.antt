pub mod TestEach
pub mod Parameters
pub mod Rules
pub mod Choices
pub mod Picked
