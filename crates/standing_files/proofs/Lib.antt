pub mod Applied
pub mod Chains
pub mod Found
pub mod Keys
pub mod Order
pub mod Over
pub mod Still
