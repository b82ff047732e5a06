pub mod Tables
pub mod Trees
pub mod Sites
pub mod Followed
pub mod Parts
