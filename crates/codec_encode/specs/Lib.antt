pub mod Kinds
pub mod Said
pub mod Offered
pub mod Listing
pub mod Answering
pub mod Told
pub mod Fitting
pub mod Uses
