pub mod Budgets
pub mod Standing
pub mod Reading
pub mod Tables
pub mod Nodes
pub mod Responses
pub mod Effects
