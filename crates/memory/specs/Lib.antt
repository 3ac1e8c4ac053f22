pub mod Shadow
pub mod Ranges
