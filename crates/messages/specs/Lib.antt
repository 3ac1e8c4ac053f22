pub mod Meaning
pub mod Headers
pub mod Kinds
pub mod PartyKinds
