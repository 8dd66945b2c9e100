pub mod Forgetting
pub mod Indexes
pub mod Texts
mod WithoutZeros
mod Pieces
mod Kept
mod Results
