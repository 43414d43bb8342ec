pub mod LawWhole
