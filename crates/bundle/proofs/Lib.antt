pub mod LawBundle
pub mod LawShutOut
