pub mod Rules
pub mod Refusals
pub mod Checks
pub mod Orders
pub mod Plain
pub mod Instructions
pub mod Words
