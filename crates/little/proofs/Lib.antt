pub mod LawRead
pub mod LawPart
pub mod LawNumber
