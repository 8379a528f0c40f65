pub mod Ranking
pub mod Run
pub mod Items
pub mod Theorems
