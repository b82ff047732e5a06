pub mod Committing
pub mod Images
pub mod Order
pub mod Reading
pub mod Repositories
