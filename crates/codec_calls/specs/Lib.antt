pub mod Asked
pub mod Shapes
pub mod Values
