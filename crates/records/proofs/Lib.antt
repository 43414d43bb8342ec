pub mod LawField
pub mod LawContent
pub mod LawWhole
pub mod LawShutOut
