pub mod Share
pub mod Inner
