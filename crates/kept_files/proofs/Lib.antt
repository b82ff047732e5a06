pub mod Readings
pub mod StateLaws
