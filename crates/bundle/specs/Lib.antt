pub mod Bundle
pub mod Whole
pub mod Inner
