pub mod Requests
pub mod Files
pub mod History
pub mod Trees
