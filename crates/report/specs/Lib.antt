pub mod Report
pub mod Bundle
pub mod Typed
pub mod Row
pub mod Inner
