pub mod PlainOutcomes
pub mod Noted
pub mod Playing
