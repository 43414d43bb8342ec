pub mod Records
pub mod Follow
pub mod Inner
