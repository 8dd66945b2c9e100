pub mod Counts
pub mod Fills
pub mod First
pub mod HeldPages
pub mod Moves
pub mod Punch
pub mod Shown
mod Attributes
pub mod Finds
mod Index
mod Indexed
mod Listings
pub mod Places
mod Results
pub mod Weights
