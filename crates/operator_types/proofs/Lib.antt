pub mod ArrayTypes
pub mod Looking
pub mod StringTests
