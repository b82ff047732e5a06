pub mod Below
pub mod Gathering
pub mod Heads
pub mod Inside
pub mod Own
