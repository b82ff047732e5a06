pub mod Quoted
pub mod Texts
pub mod Spelled
pub mod Laws
pub mod Steps
