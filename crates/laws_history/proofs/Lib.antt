pub mod Going
mod Ending
mod Counts
mod Sessions
pub mod Calling
pub mod GivingBack
pub mod Serving
