pub mod Directly
