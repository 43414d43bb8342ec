pub mod Table
pub mod Step
pub mod Count
pub mod Ends
pub mod Inner
