pub mod Words
pub mod Finding
pub mod TypesWritten
pub mod Members
pub mod Files
pub mod Declarations
pub mod Assembling
pub mod Stubs
