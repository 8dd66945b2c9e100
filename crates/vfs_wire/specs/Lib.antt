pub mod Decoders
pub mod FieldLaws
pub mod Fields
pub mod Records
