pub mod Directories
pub mod Notes
pub mod Outcomes
pub mod Recorded
pub mod Scripts
