pub mod History
pub mod Faults
pub mod Reader
pub mod Said
pub mod Writer
