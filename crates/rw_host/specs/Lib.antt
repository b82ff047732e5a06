pub mod Crash
pub mod CrashLaws
pub mod FileLaws
pub mod Files
pub mod Path
pub mod Room
pub mod Sink
