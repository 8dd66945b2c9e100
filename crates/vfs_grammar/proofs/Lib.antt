pub mod Dirents
pub mod Listings
pub mod Rooms
pub mod Blocks
pub mod Refusing
pub mod Turns
pub mod Keeping
