pub mod LawStep
pub mod LawTable
pub mod LawAnswer
pub mod LawOnce
pub mod LawEnds
pub mod LawShutOut
pub mod Worked
