pub mod LawScaling
pub mod LawLine
pub mod LawPattern
pub mod LawReading
pub mod LawParts
pub mod Figures
pub mod LawShutOut
