pub mod Taking
pub mod Roads
pub mod Readers
mod Keeping
mod Sizing
mod Putting
mod Again
