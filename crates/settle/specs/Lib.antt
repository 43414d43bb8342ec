pub mod Grid
pub mod Shown
pub mod Table
pub mod Step
pub mod Answer
pub mod Moves
pub mod Inner
