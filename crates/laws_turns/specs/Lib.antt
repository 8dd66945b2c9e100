pub mod Listings
pub mod Turns
pub mod Extensions
pub mod Limits
