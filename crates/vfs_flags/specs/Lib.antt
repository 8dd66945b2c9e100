pub mod FlagTables
pub mod Flags
pub mod Numbers
