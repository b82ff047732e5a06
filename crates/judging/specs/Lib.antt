pub mod Source
pub mod Judging
pub mod Alike
pub mod JudgingLaws
