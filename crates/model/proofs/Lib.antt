pub mod ItemSteps
pub mod ItemLists
pub mod Splices
pub mod RequestLaws
pub mod ReadsBack
pub mod WritesAgain
pub mod MessageReadsBack
pub mod MessageWritesAgain
pub mod OneRecord
mod Computing
mod Examples
mod Edges
mod Sampled
mod Progressing
pub mod Leading
pub mod Telling
pub mod Bounding
mod Refusing
pub mod Searching
pub mod Members
pub mod Keeping
pub mod Counting
pub mod core
pub mod bridge
