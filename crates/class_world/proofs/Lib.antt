pub mod Names
pub mod FirstNamed
pub mod OneMore
pub mod Worlds
pub mod Owned
pub mod MoreRows
pub mod Halves
