pub mod Survivors
pub mod Answered
