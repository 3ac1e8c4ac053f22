pub mod Turns
pub mod Budgeting
pub mod Cursors
pub mod Reading
pub mod Places
pub mod Reacting
