mod Tables
pub mod Looking
pub mod Flushing
