pub mod Tables
pub mod Makers
pub mod ReadOnly
pub mod Index
pub mod MemFile
pub mod MemFs
