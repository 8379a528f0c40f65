pub mod Checked
pub mod Same
