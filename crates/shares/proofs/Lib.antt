pub mod LawExcess
pub mod LawShare
