pub mod History
pub mod Sessions
pub mod Calls
pub mod Serving
