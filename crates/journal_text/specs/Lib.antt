pub mod Changes
pub mod Numerals
pub mod Text
pub mod Sealing
pub mod Forms
pub mod Parts
pub mod Reading
pub mod Stops
