pub mod Answer
pub mod Bundle
pub mod Step
