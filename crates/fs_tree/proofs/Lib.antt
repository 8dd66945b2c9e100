mod Answering
mod Below
mod Emptying
mod Forgetting
pub mod Noting
mod Pairs
mod Releasing
mod Renaming
pub mod Entries
pub mod Nodes
pub mod Weights
