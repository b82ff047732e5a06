pub mod Said
pub mod FurtherLines
pub mod BlockTexts
pub mod Written
pub mod PlainTexts
pub mod QuotedTexts
pub mod ReadBack
