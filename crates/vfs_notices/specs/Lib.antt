pub mod Backing
pub mod Init
pub mod Notices
pub mod Samples
