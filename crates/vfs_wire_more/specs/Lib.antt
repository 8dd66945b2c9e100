pub mod Devices
pub mod Extensions
pub mod Listings
pub mod Locks
pub mod Mappings
pub mod Notifications
pub mod Records
