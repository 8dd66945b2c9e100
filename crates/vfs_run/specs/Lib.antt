pub mod Status
pub mod Lines
pub mod Session
pub mod Output
pub mod Samples
