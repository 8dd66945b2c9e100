pub mod FirstNames
pub mod Rooms
pub mod Following
pub mod Pairs
pub mod Refusing
pub mod Blocks
pub mod Versions
