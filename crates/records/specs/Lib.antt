pub mod Meaning
pub mod Kinds
pub mod Cursor
pub mod Extents
pub mod ItemSets
