pub mod RefusalText
pub mod Refusals
pub mod Letters
pub mod Layout
pub mod Bytes
pub mod Reading
pub mod Kinds
pub mod Words
