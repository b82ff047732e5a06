pub mod Kinds
pub mod Readings
pub mod States
pub mod FileEdits
pub mod Views
