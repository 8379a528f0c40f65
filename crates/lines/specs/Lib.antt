pub mod Kind
pub mod Rank
pub mod Kinds
pub mod Queues
pub mod Ranks
