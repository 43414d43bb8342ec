pub mod LawFugitive
pub mod LawShutOut
