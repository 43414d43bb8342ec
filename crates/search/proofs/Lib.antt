pub mod LawTest
pub mod LawFirst
pub mod LawCut
pub mod LawOrder
