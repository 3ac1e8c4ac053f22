mod Reading
pub mod Writing
