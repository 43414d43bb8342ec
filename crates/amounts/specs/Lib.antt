pub mod Rounding
pub mod Scaling
pub mod Line
pub mod Reading
pub mod Inner
